use Rattle.std.proofs.Common.{rules, SFits, w32, ◌∙◌, subst}
use Rattle.std.specs.Prelude.{◌↔◌, IsTrue}
use Rattle.std.proofs.Math.Facts.{to_z-of_z}
use Rattle.fz_spec.specs.Constraints.{term_values}
use Rattle.fz_spec.specs.Truth as truth
use Rattle.fz_spec.specs.Truth.{IsAccepted}
use Rattle.fz_truth.proofs.automaton.is_regular.Goals as goal

pub returns : goal.returns
returns c =
    let first : SFits w32 c.value_of.result = search rules in
    let second : SFits w32 c.value_of-2.result = search rules in
    let third : SFits w32 c.value_of-start.result = search rules in
    let states = to_z-of_z first ∙ c.value_of.ensures in
    let symbols = to_z-of_z second ∙ c.value_of-2.ensures in
    let start = to_z-of_z third ∙ c.value_of-start.ensures in
    subst (λ (m : truth.Automaton). IsTrue c.is_accepted.result ↔ IsAccepted m (term_values c.args.values.now c.args.terms.now))
    (λ i. record { states = states i; symbols = symbols i; next = c.args.posted.next.now; start = start i; accepting = c.deref.ensures i }) c.is_accepted.ensures
