use Rattle.std.proofs.Common.{◌≡◌, ◌+◌, sym, subst, get_or, length}
use Rattle.std.specs.Prelude.{pos, not, Bool, Option, Some}
use Rattle.fz_spec.specs.declared.term.Term.{Term}
use Rattle.fz_spec.specs.declared.term.Term.TheVariants.{Num}
use Rattle.fz_strength.specs.Clauses.{IsTrueIn, IsUntrueIn}
use Rattle.fz_bool.specs.Looks.{IsOpen}
use Rattle.fz_strength.specs.Domains.{IsTermOf}
use Rattle.fz_sets.proofs.Lists.{all_at}
use Rattle.fz_bool.proofs.Odd.{at_place, SeenSoFar, true_next, false_next, open_next_term, two_terms, all_seen, last_seen}
use Rattle.fz_bool.proofs.parity.seen_of.Goals.{in-True-default, in-False-default, in-Open-None}
use Rattle.fz_bool.proofs.parity.seen_of.Goals as goal

-- with the same open term, and the same sum
moved : (last next : Option Term) (odd flipped : Bool) (P : Option Term → Bool → Type 0) → next ≡ last → flipped ≡ odd → P last odd → P next flipped
moved last next odd flipped P p q h = subst (λ (o : Option Term). P o flipped) (sym p) (subst (λ (b : Bool). P last b) (sym q) h)

pub loop-term-preserved : goal.loop-term-preserved
loop-term-preserved c =
    let ts = c.args.terms.now in
    let ds = c.args.store.now.doms in
    let i = c.loop-term.term-index in
    let t = get_or ts i (Num (pos 0)) in
    let here = at_place ts i c.loop-term-test.true in
    let is = all_at (IsTermOf (length ds)) ts i t c.requires here in
    let last = c.loop-term.last in
    let odd = c.loop-term.odd in
    let next : Option Term → Bool → Type 0 = λ (o : Option Term) (b : Bool). SeenSoFar o b ds ts (i + 1) in
    elim c.match-state_of.branch [
      | in-True-default w ↦
          moved last c.match-state_of.last (not odd) c.match-state_of.odd next w.last-is w.odd-is
          (true_next last odd ds ts i t here is (subst (IsTrueIn ds) c.positive.ensures w.in-True-default.ensures) c.loop-term.invariant)
      | in-False-default w ↦ moved last c.match-state_of.last odd c.match-state_of.odd next w.last-is w.odd-is (false_next last odd ds ts i t here is (subst (IsUntrueIn ds) c.positive.ensures w.in-False-default.ensures) c.loop-term.invariant)
      | in-Open-None w ↦
          moved (Some t) c.match-state_of.last odd c.match-state_of.odd next w.last-is w.odd-is
          (open_next_term odd ds ts i t here (subst (IsOpen ds) c.positive.ensures w.in-Open-None.ensures) (subst (λ (o : Option Term). SeenSoFar o odd ds ts i) w.in-Open-None.is-1 c.loop-term.invariant))
    ]

pub returns-in-Open-Some : goal.returns-in-Open-Some
returns-in-Open-Some c =
    let ts = c.args.terms.now in
    let ds = c.args.store.now.doms in
    let i = c.loop-term.term-index in
    two_terms c.loop-term.odd ds ts i (get_or ts i (Num (pos 0))) c.in-Open-Some.field-0-1 (at_place ts i c.loop-term-test.true) (subst (IsOpen ds) c.positive.ensures c.in-Open-Some.ensures)
    (subst (λ (o : Option Term). SeenSoFar o c.loop-term.odd ds ts i) c.in-Open-Some.is-1 c.loop-term.invariant)

pub returns-in-Some : goal.returns-in-Some
returns-in-Some c =
    let ts = c.args.terms.now in
    let ds = c.args.store.now.doms in
    let i = c.loop-term.term-index in
    last_seen c.loop-term.odd ds ts i c.in-Some.term c.loop-term-test.false (subst (λ (o : Option Term). SeenSoFar o c.loop-term.odd ds ts i) c.in-Some.is c.loop-term.invariant)

pub returns-in-None : goal.returns-in-None
returns-in-None c =
    let ts = c.args.terms.now in
    let ds = c.args.store.now.doms in
    let i = c.loop-term.term-index in
    all_seen c.loop-term.odd ds ts i c.loop-term-test.false (subst (λ (o : Option Term). SeenSoFar o c.loop-term.odd ds ts i) c.in-None.is c.loop-term.invariant)
