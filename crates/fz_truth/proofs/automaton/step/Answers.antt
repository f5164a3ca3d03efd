use Rattle.std.proofs.Common.{◌≡◌, ℤ, pos, rules, arith, SFits, w32, to_z, of_z, sym, refl, ◌∙◌, ◌+◌, ◌+ℤ◌, ◌-ℤ◌, ◌*ℤ◌, Some, None, get_or, ap}
use Rattle.std.proofs.lemmas.Option.{slice_get_past, slice_get-get_or}
use Rattle.std.proofs.lemmas.Int.{ints}
use Rattle.std.proofs.Math.Facts.{to_z-of_z}
use Rattle.fz_spec.specs.Truth.{next_place}
use Rattle.fz_truth.specs.Automata.{automaton_of}
use Rattle.fz_truth.proofs.RunLaws.{read_step}
use Rattle.fz_truth.proofs.automaton.step.Goals as goal

pub returns-then-place-automaton : goal.returns-then-place-automaton
returns-then-place-automaton c =
    let m = automaton_of c.args.automaton c.args.from in
    let from = to_z-of_z c.ranges.from in
    let symbol = to_z-of_z c.ranges.symbol in
    let few : SFits w32 c.args.automaton.symbols = search rules in
    let many : SFits w32 c.args.automaton.states = search rules in
    let symbols = to_z-of_z few in
    let states = to_z-of_z many in
    let is_state = c.if-not-is_among.ensures.0 refl in
    let is_symbol = c.if-not-is_among-2.ensures.0 refl in
    let place : next_place m c.args.from c.args.symbol ≡ pos (c.place_of_step-place.result + 1) = sym (λ i. ((from i -ℤ pos 1) *ℤ symbols i) +ℤ symbol i) ∙ c.place_of_step-place.ensures in
    let first = is_state.0 in let second = is_state.1 in let third = is_symbol.0 in let fourth = is_symbol.1 in
    read_step m c.args.from c.args.symbol c.place_of_step-place.result None (omega (arith, ints, from, first), omega (arith, ints, from, states, second)) (omega (arith, ints, symbol, third), omega (arith, ints, symbol, symbols, fourth)) place (slice_get_past c.args.automaton.next.now c.place_of_step-place.result c.if-place-automaton.true)

pub returns : goal.returns
returns c =
    let m = automaton_of c.args.automaton c.args.from in
    let from = to_z-of_z c.ranges.from in
    let symbol = to_z-of_z c.ranges.symbol in
    let few : SFits w32 c.args.automaton.symbols = search rules in
    let many : SFits w32 c.args.automaton.states = search rules in
    let symbols = to_z-of_z few in
    let states = to_z-of_z many in
    let is_state = c.if-not-is_among.ensures.0 refl in
    let is_symbol = c.if-not-is_among-2.ensures.0 refl in
    let place : next_place m c.args.from c.args.symbol ≡ pos (c.place_of_step-place.result + 1) = sym (λ i. ((from i -ℤ pos 1) *ℤ symbols i) +ℤ symbol i) ∙ c.place_of_step-place.ensures in
    let first = is_state.0 in let second = is_state.1 in let third = is_symbol.0 in let fourth = is_symbol.1 in
    let kept : to_z w32 (of_z w32 (get_or c.args.automaton.next.now c.place_of_step-place.result (pos 0))) ≡ get_or c.args.automaton.next.now c.place_of_step-place.result (pos 0) = search rules in
    read_step m c.args.from c.args.symbol c.place_of_step-place.result (Some _) (omega (arith, ints, from, first), omega (arith, ints, from, states, second)) (omega (arith, ints, symbol, third), omega (arith, ints, symbol, symbols, fourth)) place (slice_get-get_or c.args.automaton.next.now c.place_of_step-place.result (pos 0) c.if-place-automaton.false ∙ ap Some (sym kept))
