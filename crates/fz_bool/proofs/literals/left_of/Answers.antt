use Rattle.std.proofs.Common.{◌+◌, subst, sym, get_or}
use Rattle.std.specs.Prelude.{Option}
use Rattle.fz_strength.specs.declared.literal.Literal.{Literal}
use Rattle.fz_strength.specs.Clauses.{IsTrueIn}
use Rattle.fz_bool.proofs.Looks.{blank, at_place, some_at, LastSoFar, untrue_next, open_next, two_open, last_of, all_untrue}
use Rattle.fz_bool.proofs.literals.left_of.Goals.{in-False-default, in-Open-None}
use Rattle.fz_bool.proofs.literals.left_of.Goals as goal

pub returns-in-True-default : goal.returns-in-True-default
returns-in-True-default c =
    let ls = c.args.literals.now in
    let i = c.loop-literal.literal-index in some_at (IsTrueIn c.args.store.now.doms) ls i (get_or ls i blank) (at_place ls i c.loop-literal-test.true) c.in-True-default.ensures

pub returns-in-Open-Some : goal.returns-in-Open-Some
returns-in-Open-Some c =
    let ls = c.args.literals.now in
    let ds = c.args.store.now.doms in
    let i = c.loop-literal.literal-index in
    two_open ds ls i (get_or ls i blank) c.in-Open-Some.field-0-1 (at_place ls i c.loop-literal-test.true) c.in-Open-Some.ensures
    (subst (λ (o : Option Literal). LastSoFar o ds ls i) c.in-Open-Some.is-1 c.loop-literal.invariant)

pub returns-in-Some : goal.returns-in-Some
returns-in-Some c =
    let ls = c.args.literals.now in
    let ds = c.args.store.now.doms in
    let i = c.loop-literal.literal-index in
    last_of ds ls i c.in-Some.literal c.loop-literal-test.false (subst (λ (o : Option Literal). LastSoFar o ds ls i) c.in-Some.is c.loop-literal.invariant)

pub returns-in-None : goal.returns-in-None
returns-in-None c =
    let ls = c.args.literals.now in
    let ds = c.args.store.now.doms in
    let i = c.loop-literal.literal-index in all_untrue ds ls i c.loop-literal-test.false (subst (λ (o : Option Literal). LastSoFar o ds ls i) c.in-None.is c.loop-literal.invariant)

pub loop-literal-preserved : goal.loop-literal-preserved
loop-literal-preserved c =
    let ls = c.args.literals.now in
    let ds = c.args.store.now.doms in
    let i = c.loop-literal.literal-index in
    let here = at_place ls i c.loop-literal-test.true in
    let next : Option Literal → Type 0 = λ (o : Option Literal). LastSoFar o ds ls (i + 1) in
    elim c.match-state_of.branch [
      | in-False-default w ↦ subst next (sym w.last-is) (untrue_next c.loop-literal.last ds ls i (get_or ls i blank) here w.in-False-default.ensures c.loop-literal.invariant)
      | in-Open-None w ↦
          subst next (sym w.last-is)
          (open_next ds ls i (get_or ls i blank) here w.in-Open-None.ensures (subst (λ (o : Option Literal). LastSoFar o ds ls i) w.in-Open-None.is-1 c.loop-literal.invariant))
    ]
