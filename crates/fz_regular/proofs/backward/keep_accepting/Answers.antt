use Rattle.std.proofs.Common.{arith}
use Rattle.fz_regular.specs.BitRows.{Has}
use Rattle.fz_regular.specs.Runs.{IsAccepting}
use Rattle.fz_regular.proofs.Gathering.{filtered_none, filtered_next, filtered_all}
use Rattle.fz_regular.proofs.Layers.{alike_self, alike_twice, row_alike, fits_alike}
use Rattle.fz_regular.proofs.backward.keep_accepting.Goals as goal

pub states-init : goal.states-init
states-init c =
    let layers = c.args.layers.now in
    record { alike = alike_self layers; filtered = filtered_none c.args.places (IsAccepting c.args.automaton.now) (Has layers) }

pub next-requires : goal.next-requires
next-requires c = row_alike c.args.layers.now c.states.layers c.args.places c.states.invariant.alike c.requires.row

pub accept-requires : goal.accept-requires
accept-requires c =
    let layers = c.args.layers.now in
    record {
      row = row_alike layers c.states.layers c.args.places c.states.invariant.alike c.requires.row;
      fits = fits_alike c.args.automaton.now layers c.states.layers c.states.invariant.alike c.requires.fits;
      state = c.requires.states c.in-Some.state ((c.states.invariant.filtered c.args.places c.in-Some.state).0 c.in-Some.ensures.has).0;
    }

pub overflow_add-from : goal.overflow_add-from
overflow_add-from c =
    let row = row_alike c.args.layers.now c.states.layers c.args.places c.states.invariant.alike c.requires.row in
    let few = row.1 in
    let inside = c.in-Some.ensures.has.0 in
    omega (arith, few, inside)

pub states-smaller : goal.states-smaller
states-smaller c =
    let least = c.in-Some.ensures.at_least in
    let inside = c.in-Some.ensures.has.0 in
    let same = c.accept.ensures.width in
    omega (arith, least, inside, same)

pub states-preserved : goal.states-preserved
states-preserved c =
    let layers = c.args.layers.now in
    let row = c.args.places in
    let new = c.accept.new.layers in
    let state = c.in-Some.state in
    record {
      alike = alike_twice layers c.states.layers new c.states.invariant.alike (record { width = c.accept.ensures.width; size = c.accept.ensures.size });
      filtered = filtered_next row c.states.from state (IsAccepting c.args.automaton.now) (Has layers) (Has c.states.layers) (Has new)
          c.in-Some.ensures c.accept.ensures.states c.states.invariant.filtered;
    }

pub returns-clause-states : goal.returns-clause-states
returns-clause-states c =
    let layers = c.args.layers.now in
    filtered_all c.args.places c.states.from (IsAccepting c.args.automaton.now) (Has layers) (Has c.states.layers) c.in_default.ensures c.states.invariant.filtered
