use Rattle.std.proofs.Common.{◌≡◌, ◌+◌, ◌*◌, ◌∙◌, inl, inr, sym, ap, arith, rules, pos}
use Rattle.std.proofs.Math.Facts.{to_z-of_z}
use Rattle.std.proofs.lemmas.Int.{ints}
use Rattle.std.proofs.lemmas.Option.{slice_get-get_or, slice_get_cases}
use Rattle.std.specs.Prelude.{ℤ, slice_get, Some, None}
use mir.Val.{SFits}
use mir.Syntax.{w32}
use Rattle.fz_spec.specs.Truth.{IsState, IsSymbol}
use Rattle.fz_regular.specs.Runs.{automaton_of, number}
use Rattle.fz_regular.proofs.Stepping.{leads_by, leads_nowhere}
use Rattle.fz_regular.proofs.steps.next_of.Goals as goal

pub returns-then-symbol-symbols : goal.returns-then-symbol-symbols
returns-then-symbol-symbols c =
    let none = c.if-symbol-symbols.true in
    λ r leads. let below = (rw (to_z-of_z c.ranges.symbols) at (c.count_to-symbols.ensures.count c.args.symbol)).0 leads.step.0 in omega (arith, none, below)

pub returns-in-Some : goal.returns-in-Some
returns-in-Some c =
    let m = automaton_of c.args.states c.args.symbols c.args.next.now in
    let symbol : IsSymbol m (number c.args.symbol) = (rw (to_z-of_z c.ranges.symbols) at (c.count_to-symbols.ensures.count c.args.symbol)).1 c.if-symbol-symbols.false in
    let exact : pos c.count_to-symbols.result ≡ m.symbols = rw (to_z-of_z c.ranges.symbols) at (c.count_to-symbols.ensures.exact) (let low = symbol.0 in let high = symbol.1 in omega (arith, ints, low, high)) in
    let place = c.args.state * c.count_to-symbols.result + c.args.symbol in
    let next = c.in-Some.next.now in
    let found = c.in-Some.ensures.lookup in
    let at : slice_get m.next place ≡ Some next = slice_get-get_or c.args.next.now place next found.3.0 ∙ ap (λ (n : ℤ). Some n) (sym found.1) in
    let fits : SFits w32 next = search rules in
    let state : IsState m (number c.args.state) = (omega (arith, ints), c.requires) in
    leads_by m c.args.state c.args.symbol c.count_to-symbols.result next c.state_of.result state symbol exact at (rw (to_z-of_z fits, to_z-of_z c.ranges.states) at c.state_of.ensures)

pub returns-in-None : goal.returns-in-None
returns-in-None c =
    let m = automaton_of c.args.states c.args.symbols c.args.next.now in
    let symbol : IsSymbol m (number c.args.symbol) = (rw (to_z-of_z c.ranges.symbols) at (c.count_to-symbols.ensures.count c.args.symbol)).1 c.if-symbol-symbols.false in
    let exact : pos c.count_to-symbols.result ≡ m.symbols = rw (to_z-of_z c.ranges.symbols) at (c.count_to-symbols.ensures.exact) (let low = symbol.0 in let high = symbol.1 in omega (arith, ints, low, high)) in
    let place = c.args.state * c.count_to-symbols.result + c.args.symbol in
    let past = c.in-None.ensures.lookup.3 in
    let none : slice_get m.next place ≡ None = elim (slice_get_cases c.args.next.now place).1 [
      | inl at ↦ let below = at.1 in absurd (omega (arith, below, past))
      | inr gone ↦ gone.1
    ] in
    leads_nowhere m c.args.state c.args.symbol c.count_to-symbols.result exact none
