use Rattle.std.proofs.Common.{inl, inr, arith}
use Rattle.fz_regular.specs.BitRows.{Has}
use Rattle.fz_regular.specs.Layers.{Leads, SupportsAt}
use Rattle.fz_regular.proofs.Gathering.{gathered_none, gathered_more, gathered_all, filtered_none, filtered_next, filtered_all}
use Rattle.fz_regular.proofs.Layers.{alike_self, alike_twice, row_alike, fits_alike, next_left, none_left, leads_same, leads_in_same}
use Rattle.fz_regular.proofs.backward.keep_ending.Goals as goal

pub states-init : goal.states-init
states-init c =
    let layers = c.args.layers.now in
    let supports = c.args.supports.now in
    let m = c.args.automaton.now in
    let values = c.args.values.now in
    let place = c.args.place in
    record {
      alike = alike_self layers;
      alike_supports = alike_self supports;
      filtered = filtered_none place (Leads m values layers place c.args.after) (Has layers);
      gathered = gathered_none (Has layers place) (SupportsAt m values layers place c.args.after) (Has supports);
    }

pub next-requires : goal.next-requires
next-requires c = row_alike c.args.layers.now c.states.layers c.args.place c.states.invariant.alike c.requires.before

pub keep_state-requires : goal.keep_state-requires
keep_state-requires c =
    let layers = c.args.layers.now in
    record {
      before = row_alike layers c.states.layers c.args.place c.states.invariant.alike c.requires.before;
      after = row_alike layers c.states.layers c.args.after c.states.invariant.alike c.requires.after;
      fits = fits_alike c.args.automaton.now layers c.states.layers c.states.invariant.alike c.requires.fits;
      state = c.requires.states c.in-Some.state ((c.states.invariant.filtered c.args.place c.in-Some.state).0 c.in-Some.ensures.has).0;
      values = c.requires.values;
      supports = row_alike c.args.supports.now c.states.supports c.args.place c.states.invariant.alike_supports c.requires.supports;
      width = (let same = c.states.invariant.alike_supports.width in let first = c.requires.width in omega (arith, same, first));
    }

pub overflow_add-from : goal.overflow_add-from
overflow_add-from c =
    let row = row_alike c.args.layers.now c.states.layers c.args.place c.states.invariant.alike c.requires.before in
    let few = row.1 in
    let inside = c.in-Some.ensures.has.0 in
    omega (arith, few, inside)

pub states-smaller : goal.states-smaller
states-smaller c =
    let least = c.in-Some.ensures.at_least in
    let inside = c.in-Some.ensures.has.0 in
    let same = c.keep_state.ensures.layers_width in
    omega (arith, least, inside, same)

pub states-preserved : goal.states-preserved
states-preserved c =
    let layers = c.args.layers.now in
    let supports = c.args.supports.now in
    let m = c.args.automaton.now in
    let values = c.args.values.now in
    let place = c.args.place in
    let after = c.args.after in
    let inv = c.states.invariant in
    let state = c.in-Some.state in
    let from = c.states.from in
    let leads = leads_same m values layers c.states.layers place after from state c.requires.differ inv.filtered in
    let leads_in = leads_in_same m values layers c.states.layers place after from state c.requires.differ inv.filtered in
    record {
      alike = alike_twice layers c.states.layers c.keep_state.new.layers inv.alike (record { width = c.keep_state.ensures.layers_width; size = c.keep_state.ensures.layers_size });
      alike_supports = alike_twice supports c.states.supports c.keep_state.new.supports inv.alike_supports (record { width = c.keep_state.ensures.width; size = c.keep_state.ensures.size });
      filtered = filtered_next place from state (Leads m values layers place after) (Has layers) (Has c.states.layers) (Has c.keep_state.new.layers)
          c.in-Some.ensures
          (λ i p. (
            (λ h. let w = (c.keep_state.ensures.states i p).0 h in (w.0, λ both. leads.0 (w.1 both))),
            (λ w. (c.keep_state.ensures.states i p).1 (w.0, λ both. leads.1 (w.1 both))),
          ))
          inv.filtered;
      gathered = gathered_more (Has layers place) (SupportsAt m values layers place after) (Has supports) (Has c.states.supports) (Has c.keep_state.new.supports) from state
          (next_left layers c.states.layers place from state (Leads m values layers place after) inv.filtered c.in-Some.ensures)
          (λ i k. (
            (λ h. elim ((c.keep_state.ensures.supports i k).0 h) [ inl was ↦ inl was | inr w ↦ inr (w.0, w.1, (leads_in k).0 w.2) ]),
            (λ h. (c.keep_state.ensures.supports i k).1 (elim h [ inl was ↦ inl was | inr w ↦ inr (w.0, w.1, (leads_in k).1 w.2) ])),
          ))
          inv.gathered;
    }

pub returns-clause-states : goal.returns-clause-states
returns-clause-states c =
    let layers = c.args.layers.now in
    let place = c.args.place in
    filtered_all place c.states.from (Leads c.args.automaton.now c.args.values.now layers place c.args.after) (Has layers) (Has c.states.layers) c.in_default.ensures c.states.invariant.filtered

pub returns-clause-supports : goal.returns-clause-supports
returns-clause-supports c =
    let layers = c.args.layers.now in
    let m = c.args.automaton.now in
    let values = c.args.values.now in
    let place = c.args.place in
    gathered_all (Has layers place) (SupportsAt m values layers place c.args.after) (Has c.args.supports.now) (Has c.states.supports) c.states.from
    (none_left layers c.states.layers place c.states.from (Leads m values layers place c.args.after) c.states.invariant.filtered c.in_default.ensures) c.states.invariant.gathered
