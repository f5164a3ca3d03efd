use Rattle.std.proofs.Common.{◌+◌, subst, sym, get_or}
use Rattle.fz_strength.specs.Clauses.{IsTrueIn}
use Rattle.fz_bool.specs.declared.literals.State.{State}
use Rattle.fz_bool.proofs.Looks.{blank, at_place, some_at, StateSoFar, state_untrue, state_open, truth_of}
use Rattle.fz_bool.proofs.literals.truth_among.Goals.{in-False, in-Open}
use Rattle.fz_bool.proofs.literals.truth_among.Goals as goal

pub returns-in-True : goal.returns-in-True
returns-in-True c =
    let ls = c.args.literals.now in
    let i = c.loop-literal.literal-index in some_at (IsTrueIn c.args.store.now.doms) ls i (get_or ls i blank) (at_place ls i c.loop-literal-test.true) c.in-True.ensures

pub loop-literal-preserved : goal.loop-literal-preserved
loop-literal-preserved c =
    let ls = c.args.literals.now in
    let ds = c.args.store.now.doms in
    let i = c.loop-literal.literal-index in
    let here = at_place ls i c.loop-literal-test.true in
    let next : State → Type 0 = λ (s : State). StateSoFar s ds ls (i + 1) in
    elim c.match-state_of.branch [
      | in-False w ↦ subst next (sym w.state-is) (state_untrue c.loop-literal.state ds ls i (get_or ls i blank) here w.in-False.ensures c.loop-literal.invariant)
      | in-Open w ↦ subst next (sym w.state-is) (state_open c.loop-literal.state ds ls i (get_or ls i blank) here w.in-Open.ensures c.loop-literal.invariant)
    ]

pub returns : goal.returns
returns c = truth_of c.loop-literal.state c.args.store.now.doms c.args.literals.now c.loop-literal.literal-index c.loop-literal-test.false c.loop-literal.invariant
