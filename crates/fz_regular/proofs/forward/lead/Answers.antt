use Rattle.std.proofs.Common.{ℕ, inl, inr, arith}
use Rattle.fz_regular.specs.BitRows.{Has}
use Rattle.fz_regular.specs.Layers.{LeadsAt}
use Rattle.fz_regular.specs.Runs.{LeadsBy}
use Rattle.fz_regular.proofs.Gathering.{gathered_none, gathered_more, gathered_all}
use Rattle.fz_regular.proofs.Layers.{alike_self, alike_twice, row_alike}
use Rattle.fz_regular.proofs.forward.lead.Goals as goal

pub symbols-init : goal.symbols-init
symbols-init c =
    let layers = c.args.layers.now in
    let adds : ℕ → ℕ → ℕ → Type 0 = LeadsAt c.args.automaton.now c.args.after c.args.state in
    record { alike = alike_self layers; gathered = gathered_none (LeadsBy c.args.automaton.now c.args.values.now c.args.place c.args.state) adds (Has layers) }

pub add_next-requires-clause-after : goal.add_next-requires-clause-after
add_next-requires-clause-after c = row_alike c.args.layers.now c.symbols.layers c.args.after c.symbols.invariant.alike c.requires.after

pub overflow_add-from : goal.overflow_add-from
overflow_add-from c = let few = c.requires.values.1 in let inside = c.in-Some.ensures.has.0.0 in omega (arith, few, inside)

pub symbols-smaller : goal.symbols-smaller
symbols-smaller c = let least = c.in-Some.ensures.at_least in let inside = c.in-Some.ensures.has.0.0 in omega (arith, least, inside)

pub symbols-preserved : goal.symbols-preserved
symbols-preserved c =
    let layers = c.args.layers.now in
    let values = c.args.values.now in
    let place = c.args.place in
    let adds : ℕ → ℕ → ℕ → Type 0 = LeadsAt c.args.automaton.now c.args.after c.args.state in
    let new = c.add_next.new.layers in
    record {
      alike = alike_twice layers c.symbols.layers new c.symbols.invariant.alike (record { width = c.add_next.ensures.width; size = c.add_next.ensures.size });
      gathered = gathered_more (LeadsBy c.args.automaton.now values place c.args.state) adds (Has layers) (Has c.symbols.layers) (Has new) c.symbols.from c.in-Some.symbol
          c.in-Some.ensures c.add_next.ensures.states c.symbols.invariant.gathered;
    }

pub returns-clause-states : goal.returns-clause-states
returns-clause-states c =
    let layers = c.args.layers.now in
    let values = c.args.values.now in
    let adds : ℕ → ℕ → ℕ → Type 0 = LeadsAt c.args.automaton.now c.args.after c.args.state in
    let leads : ℕ → Type 0 = LeadsBy c.args.automaton.now values c.args.place c.args.state in
    let all = gathered_all leads adds (Has layers) (Has c.symbols.layers) c.symbols.from c.in_default.ensures c.symbols.invariant.gathered in
    λ i r. (
      (λ h. elim ((all i r).0 h) [ inl was ↦ inl was | inr w ↦ inr (w.0, w.1.0, w.2) ]),
      (λ h. (all i r).1 (elim h [ inl was ↦ inl was | inr w ↦ inr (w.0, (w.1, (r, w.2.1)), w.2) ])),
    )
