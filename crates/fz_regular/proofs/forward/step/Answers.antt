use Rattle.std.proofs.Common.{ℕ, inl, inr, arith}
use Rattle.fz_regular.specs.BitRows.{Has}
use Rattle.fz_regular.specs.Layers.{LedAt}
use Rattle.fz_regular.proofs.Gathering.{gathered_none, gathered_more, gathered_all}
use Rattle.fz_regular.proofs.Layers.{alike_self, alike_twice, row_alike, fits_alike, next_same, none_same, same_before}
use Rattle.fz_regular.proofs.forward.step.Goals as goal

pub states-init : goal.states-init
states-init c =
    let layers = c.args.layers.now in
    let adds : ℕ → ℕ → ℕ → Type 0 = LedAt c.args.automaton.now c.args.values.now c.args.place c.args.after in
    record { alike = alike_self layers; gathered = gathered_none (Has layers c.args.place) adds (Has layers) }

pub next-requires : goal.next-requires
next-requires c = row_alike c.args.layers.now c.states.layers c.args.place c.states.invariant.alike c.requires.before

pub lead-requires : goal.lead-requires
lead-requires c =
    let layers = c.args.layers.now in
    let place = c.args.place in
    let same = same_before layers c.states.layers place c.args.after c.states.from c.args.automaton.now c.args.values.now c.requires.differ c.states.invariant.gathered in
    record {
      after = row_alike layers c.states.layers c.args.after c.states.invariant.alike c.requires.after;
      values = c.requires.values;
      fits = fits_alike c.args.automaton.now layers c.states.layers c.states.invariant.alike c.requires.fits;
      state = c.requires.states c.in-Some.state ((same c.in-Some.state).0 c.in-Some.ensures.has);
    }

pub overflow_add-from : goal.overflow_add-from
overflow_add-from c =
    let row = row_alike c.args.layers.now c.states.layers c.args.place c.states.invariant.alike c.requires.before in
    let few = row.1 in
    let inside = c.in-Some.ensures.has.0 in
    omega (arith, few, inside)

pub states-smaller : goal.states-smaller
states-smaller c =
    let least = c.in-Some.ensures.at_least in
    let inside = c.in-Some.ensures.has.0 in
    let same = c.lead.ensures.width in
    omega (arith, least, inside, same)

pub states-preserved : goal.states-preserved
states-preserved c =
    let layers = c.args.layers.now in
    let place = c.args.place in
    let adds : ℕ → ℕ → ℕ → Type 0 = LedAt c.args.automaton.now c.args.values.now c.args.place c.args.after in
    let new = c.lead.new.layers in
    let state = c.in-Some.state in
    let same = same_before layers c.states.layers place c.args.after c.states.from c.args.automaton.now c.args.values.now c.requires.differ c.states.invariant.gathered in
    record {
      alike = alike_twice layers c.states.layers new c.states.invariant.alike (record { width = c.lead.ensures.width; size = c.lead.ensures.size });
      gathered = gathered_more (Has layers place) adds (Has layers) (Has c.states.layers) (Has new) c.states.from state
          (next_same layers c.states.layers place c.states.from state same c.in-Some.ensures)
          (λ i r. (
            (λ h. elim ((c.lead.ensures.states i r).0 h) [ inl was ↦ inl was | inr w ↦ inr (w.2.0, w.0, w.1, w.2.1) ]),
            (λ h. (c.lead.ensures.states i r).1 (elim h [ inl was ↦ inl was | inr w ↦ inr (w.1, w.2, (w.0, w.3)) ])),
          ))
          c.states.invariant.gathered;
    }

pub returns-clause-states : goal.returns-clause-states
returns-clause-states c =
    let layers = c.args.layers.now in
    let place = c.args.place in
    let adds : ℕ → ℕ → ℕ → Type 0 = LedAt c.args.automaton.now c.args.values.now c.args.place c.args.after in
    let same = same_before layers c.states.layers place c.args.after c.states.from c.args.automaton.now c.args.values.now c.requires.differ c.states.invariant.gathered in
    gathered_all (Has layers place) adds (Has layers) (Has c.states.layers) c.states.from (none_same layers c.states.layers place c.states.from same c.in_default.ensures) c.states.invariant.gathered
