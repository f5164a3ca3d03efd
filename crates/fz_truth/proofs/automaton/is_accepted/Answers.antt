use Rattle.std.proofs.Common.{ℤ, pos, rules, SFits, w32, to_z, of_z, sym, ◌∙◌, subst, ◌+◌}
use Rattle.std.specs.Prelude.{◌↔◌}
use Rattle.std.proofs.Math.Facts.{to_z-of_z}
use Rattle.fz_spec.specs.declared.term.Term.TheVariants.{Num}
use Rattle.fz_spec.specs.Constraints.{term_values}
use Rattle.fz_spec.specs.Truth.{IsAccepted}
use Rattle.fz_truth.specs.Automata.{automaton_of}
use Rattle.fz_truth.proofs.ListLaws.{iff_through}
use Rattle.fz_truth.proofs.RunLaws.{RunsBehind, no_step, one_step, at_end}
use Rattle.fz_truth.proofs.automaton.is_accepted.Goals as goal

pub returns-in-None : goal.returns-in-None
returns-in-None c =
    let m = automaton_of c.args.automaton in
    let p = to_z w32 c.loop-term.state-bits in
    let fits : SFits w32 c.value_of.result = search rules in
    let same = subst (λ (s : ℤ). IsAccepted (m s) (term_values c.args.values.now c.args.terms.now) ↔ RunsBehind (m s) p c.args.values.now c.args.terms.now c.loop-term.term-index) (to_z-of_z c.ranges.start) c.loop-term.invariant in
    (λ t. cc, λ h. absurd (no_step (m c.args.start) p _ c.args.values.now c.args.terms.now c.loop-term.term-index (Num (pos 0)) c.loop-term-test.true (to_z-of_z fits ∙ c.value_of.ensures) c.in-None.ensures (same.0 h)))

pub loop-term-preserved : goal.loop-term-preserved
loop-term-preserved c =
    let m = automaton_of c.args.automaton (to_z w32 (of_z w32 c.args.start)) in
    let p = to_z w32 c.loop-term.state-bits in
    let fits : SFits w32 c.value_of.result = search rules in
    let state : SFits w32 c.in-Some.next = search rules in
    let step = c.in-Some.ensures in
    iff_through c.loop-term.invariant (subst (λ (q : ℤ). RunsBehind m p c.args.values.now c.args.terms.now c.loop-term.term-index ↔ RunsBehind m q c.args.values.now c.args.terms.now (c.loop-term.term-index + 1)) (sym (to_z-of_z state))
    (one_step m p _ c.in-Some.next c.args.values.now c.args.terms.now c.loop-term.term-index (Num (pos 0)) c.loop-term-test.true (to_z-of_z fits ∙ c.value_of.ensures) step.0 step.1))

pub returns : goal.returns
returns c =
    let m = automaton_of c.args.automaton in
    let p = to_z w32 c.loop-term.state-bits in
    let same = subst (λ (s : ℤ). IsAccepted (m s) (term_values c.args.values.now c.args.terms.now) ↔ RunsBehind (m s) p c.args.values.now c.args.terms.now c.loop-term.term-index) (to_z-of_z c.ranges.start) c.loop-term.invariant in
    let end = at_end (m c.args.start) p c.args.values.now c.args.terms.now c.loop-term.term-index c.loop-term-test.false in
    (λ t. same.1 (end.1 (c.accepts.ensures.0 t)), λ h. c.accepts.ensures.1 (end.0 (same.0 h)))
