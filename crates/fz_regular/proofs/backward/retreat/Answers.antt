use Rattle.std.proofs.Common.{◌+◌, ◌-◌, ◌<◌, ◌≡◌, ℕ, subst, arith}
use Rattle.fz_regular.specs.BitRows.{Has}
use Rattle.fz_regular.specs.Layers.{AreEnding}
use Rattle.fz_regular.proofs.Layers.{alike_self, alike_twice, row_alike, fits_alike, reached_state, ending_more, supports_more, supports_none, supports_all, AreSupports}
use Rattle.fz_regular.proofs.backward.retreat.Goals as goal

pub loop-place-init : goal.loop-place-init
loop-place-init c = record {
  alike = alike_self c.args.layers.now;
  alike_supports = alike_self c.args.supports.now;
  ending = c.requires.states;
  supports = supports_none c.args.automaton.now c.args.values.now c.args.supports.now c.args.places c.requires.none;
}

pub keep_ending-requires : goal.keep_ending-requires
keep_ending-requires c =
    let m = c.args.automaton.now in
    let layers = c.args.layers.now in
    let inv = c.loop-place.invariant in
    let place = c.loop-place.place - 1 in
    let inside : place + 1 < c.args.places + 1 = omega arith in
    record {
      differ = λ e. omega (arith, e);
      before = row_alike layers c.loop-place.layers place inv.alike (c.requires.rows place (omega (arith, inside)));
      after = row_alike layers c.loop-place.layers (place + 1) inv.alike (c.requires.rows (place + 1) inside);
      fits = fits_alike m layers c.loop-place.layers inv.alike c.requires.fits;
      states = λ p has. reached_state m (Has c.args.values.now) place p ((inv.ending place p (omega (arith, inside))).0 has).reached;
      values = c.requires.values place (omega (arith, inside));
      supports = row_alike c.args.supports.now c.loop-place.supports place inv.alike_supports (c.requires.supports place (omega (arith, inside)));
      width = (let same = inv.alike_supports.width in let first = c.requires.width in omega (arith, same, first));
    }

pub loop-place-preserved : goal.loop-place-preserved
loop-place-preserved c =
    let m = c.args.automaton.now in
    let values = c.args.values.now in
    let places = c.args.places in
    let inv = c.loop-place.invariant in
    let place = c.loop-place.place - 1 in
    let inside : place < places = omega arith in
    let last : c.loop-place.place ≡ place + 1 = omega arith in
    let ending = subst (λ (from : ℕ). AreEnding m values places from c.loop-place.layers) last inv.ending in
    record {
      alike = alike_twice c.args.layers.now c.loop-place.layers c.keep_ending.new.layers inv.alike (record { width = c.keep_ending.ensures.layers_width; size = c.keep_ending.ensures.layers_size });
      alike_supports = alike_twice c.args.supports.now c.loop-place.supports c.keep_ending.new.supports inv.alike_supports (record { width = c.keep_ending.ensures.width; size = c.keep_ending.ensures.size });
      ending = ending_more m values c.loop-place.layers c.keep_ending.new.layers places place inside c.keep_ending.ensures.states ending;
      supports = supports_more m values c.loop-place.layers c.loop-place.supports c.keep_ending.new.supports places place inside c.keep_ending.ensures.supports ending
          (subst (λ (from : ℕ). AreSupports m values places from c.loop-place.supports) last inv.supports);
    }

pub returns-clause-supports : goal.returns-clause-supports
returns-clause-supports c =
    let m = c.args.automaton.now in
    let values = c.args.values.now in
    let places = c.args.places in
    let none : c.loop-place.place ≡ 0 = omega arith in
    supports_all m values c.loop-place.supports places (subst (λ (from : ℕ). AreSupports m values places from c.loop-place.supports) none c.loop-place.invariant.supports)
