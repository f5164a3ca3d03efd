use Rattle.std.proofs.Common.{◌≡◌, ◌∙◌, ◌<◌, ◌<ℤ◌, ◌+ℤ◌, ◌-ℤ◌, arith, of_z, pos, rules, to_z, w32, w64}
use Rattle.std.specs.Prelude.{◌↔◌, ℤ, List, nat_abs}
use Rattle.std.proofs.lemmas.Int.{ints}
use Rattle.std.proofs.Math.Facts.{to_z-of_z}
use mir.Val.{SFits}
use Rattle.fz_bits.specs.Windows.{IsBit}
use Rattle.fz_strength.specs.Domains.{Within, number_at}
use Rattle.fz_prop.proofs.Twice.{shrinks_twice}
use Rattle.fz_shift.specs.Points.{IsMade, IsSpared}
use Rattle.fz_shift.proofs.Leaving.{keeps_as, kept_more, kept_none, still_within, word_more}
use Rattle.fz_shift.proofs.far.keep_seconds.Goals.{After-seconds_of-made}
use Rattle.fz_shift.proofs.far.keep_seconds.Goals as goal

pub words-init : goal.words-init
words-init c =
    let p = c.args.plane in
    let across = c.args.across in
    let first = c.args.first in
    let M : ℤ → Type 0 = IsMade p (λ u. IsBit across.base across.bits u) (λ w. IsBit first.base first.bits w) in
    let s = c.args.store.now in
    let fits_min : SFits w32 c.min.result = search rules in
    let fits_max : SFits w32 c.max.result = search rules in
    let is_base : c.from-base.result ≡ c.min.result = c.from-base.ensures ∙ to_z-of_z fits_min in
    let is_high : c.from-high.result ≡ c.max.result = c.from-high.ensures ∙ to_z-of_z fits_max in
    let far_base : SFits w64 c.from-base.result = search rules in
    let far_high : SFits w64 c.from-high.result = search rules in
    let lower = rw c.dom.ensures.dom at c.min.ensures.lower_bound in
    let upper = rw c.dom-2.ensures.dom at c.max.ensures.upper_bound in
    let member = rw c.dom.ensures.dom at c.min.ensures.member in
    let order = upper c.min.result member in
    rw (to_z-of_z far_base, to_z-of_z far_high, is_base, is_high) (record {
      kept = kept_none p.second (λ x. x <ℤ c.min.result → M x) s (λ x is below. let least = lower x is in absurd (omega (arith, ints, least, below)));
      floor = c.min.ensures.limits.0;
      ceiling = omega (arith, ints, order);
      most = c.max.ensures.limits.1;
      high = upper;
    })

pub returns-in_err-keep_made-clause-shrinks : goal.returns-in_err-keep_made-clause-shrinks
returns-in_err-keep_made-clause-shrinks c = shrinks_twice c.args.store.now c.words.store c.keep_made.new.store c.words.invariant.kept.shrinks c.keep_made.ensures.shrinks

pub returns-then-not-branch-clause-shrinks : goal.returns-then-not-branch-clause-shrinks
returns-then-not-branch-clause-shrinks c = shrinks_twice c.args.store.now c.words.store c.keep_made.new.store c.words.invariant.kept.shrinks c.keep_made.ensures.shrinks

-- the numbers that are made
abbrev made : After-seconds_of-made → ℤ → Type 0
made c = IsMade c.args.plane (λ u. IsBit c.args.across.base c.args.across.bits u) (λ w. IsBit c.args.first.base c.args.first.bits w)

more : (c : After-seconds_of-made) (x : ℤ)
    → (x <ℤ (to_z w64 c.words.base-bits +ℤ pos 64) → made c x) ↔ ((x <ℤ to_z w64 c.words.base-bits → made c x) × IsSpared (to_z w64 c.words.base-bits) c.seconds_of-made.result x)
more c =
    let base : ℤ = to_z w64 c.words.base-bits in
    let floor = c.words.invariant.floor in
    let most = c.words.invariant.most in
    let test = c.words-test.true in
    let far_high : SFits w64 c.from-high.result = search rules in
    let same = to_z-of_z far_high in
    let fits : SFits w32 base = omega (arith, ints, floor, most, test, same) in
    word_more base c.seconds_of-made.result (made c) (rw (to_z-of_z fits) at c.seconds_of-made.ensures)

-- an assignment whose number is made is left, and its number spared
spared : (c : After-seconds_of-made) (a : List ℤ) → Within c.args.store.now.doms a → made c (number_at a c.args.plane.second)
    → Within c.words.store.doms a × IsSpared (to_z w64 c.words.base-bits) c.seconds_of-made.result (number_at a c.args.plane.second)
spared c a within is = (
  still_within c.args.plane.second (λ x. x <ℤ to_z w64 c.words.base-bits → made c x) c.args.store.now c.words.store a c.words.invariant.kept within (λ below. is),
  ((more c (number_at a c.args.plane.second)).0 (λ below. is)).1,
)

pub returns-in_err-keep_made-clause-stays : goal.returns-in_err-keep_made-clause-stays
returns-in_err-keep_made-clause-stays c = λ a within is.
    let h = spared (goal.at.returns-in_err-keep_made-clause-stays c).After-seconds_of-made a within is in
    c.keep_made.ensures.stays a h.0 h.1

pub returns-then-not-branch-clause-stays : goal.returns-then-not-branch-clause-stays
returns-then-not-branch-clause-stays c = λ a within is.
    let h = spared (goal.at.returns-then-not-branch-clause-stays c).After-seconds_of-made a within is in
    c.keep_made.ensures.stays a h.0 h.1

pub returns-then-not-branch-clause-some : goal.returns-then-not-branch-clause-some
returns-then-not-branch-clause-some c = λ a within is.
    let h = spared (goal.at.returns-then-not-branch-clause-some c).After-seconds_of-made a within is in
    rw c.if-not-branch.true at (c.in_ok-keep_made.ensures.some a h.0 h.1)

pub words-smaller : goal.words-smaller
words-smaller c =
    let base : ℤ = to_z w64 c.words.base-bits in
    let high : ℤ = to_z w64 (of_z w64 c.from-high.result) in
    let floor = c.words.invariant.floor in
    let ceiling = c.words.invariant.ceiling in
    let most = c.words.invariant.most in
    let test = c.words-test.true in
    let far_high : SFits w64 c.from-high.result = search rules in
    let same : high ≡ c.from-high.result = to_z-of_z far_high in
    let next : SFits w64 (base +ℤ pos 64) = omega (arith, ints, floor, ceiling, most) in
    let less : nat_abs ((high +ℤ pos 64) -ℤ to_z w64 (of_z w64 (base +ℤ pos 64))) < nat_abs ((high +ℤ pos 64) -ℤ base) = rw (to_z-of_z next) (omega (arith, ints, test, same, ceiling)) in
    less

pub words-preserved : goal.words-preserved
words-preserved c =
    let after = (goal.at.words-preserved c).After-seconds_of-made in
    let base : ℤ = to_z w64 c.words.base-bits in
    let high : ℤ = to_z w64 (of_z w64 c.from-high.result) in
    let floor = c.words.invariant.floor in
    let ceiling = c.words.invariant.ceiling in
    let most = c.words.invariant.most in
    let test = c.words-test.true in
    let far_high : SFits w64 c.from-high.result = search rules in
    let same : high ≡ c.from-high.result = to_z-of_z far_high in
    let next : SFits w64 (base +ℤ pos 64) = omega (arith, ints, floor, ceiling, most) in
    rw (to_z-of_z next) (record {
      kept = kept_more c.args.plane.second (λ x. x <ℤ base → made after x) (IsSpared base c.seconds_of-made.result) (λ x. x <ℤ (base +ℤ pos 64) → made after x) c.args.store.now c.words.store c.keep_made.new.store
          (λ x is. more after x) c.words.invariant.kept c.keep_made.ensures.shrinks
          (c.in_ok-keep_made.ensures.kept (search rules));
      floor = omega (arith, ints, floor);
      ceiling = omega (arith, ints, test, same);
      most = most;
      high = c.words.invariant.high;
    })

pub returns-clause-stays : goal.returns-clause-stays
returns-clause-stays c = λ a within is.
    let p = c.args.plane in
    let across = c.args.across in
    let first = c.args.first in
    let v = p.second in
    let P : ℤ → Type 0 = λ u. IsBit across.base across.bits u in
    let Q : ℤ → Type 0 = λ w. IsBit first.base first.bits w in
    let M : ℤ → Type 0 = IsMade p P Q in
    let s = c.args.store.now in
    let t = c.words.store in
    let base : ℤ = to_z w64 c.words.base-bits in
    still_within v (λ (y : ℤ). y <ℤ base → M y) s t a c.words.invariant.kept within (λ below. is)

pub returns-clause-kept : goal.returns-clause-kept
returns-clause-kept c = λ yes.
    let p = c.args.plane in
    let across = c.args.across in
    let first = c.args.first in
    let v = p.second in
    let P : ℤ → Type 0 = λ u. IsBit across.base across.bits u in
    let Q : ℤ → Type 0 = λ w. IsBit first.base first.bits w in
    let M : ℤ → Type 0 = IsMade p P Q in
    let s = c.args.store.now in
    let t = c.words.store in
    let base : ℤ = to_z w64 c.words.base-bits in
    let far_high : SFits w64 c.from-high.result = search rules in
    let same = to_z-of_z far_high in
    let test = c.words-test.false in
    keeps_as v (λ x. x <ℤ base → M x) M s.doms t.doms (λ x is. (
      (λ h. let top = c.words.invariant.high x is in h (omega (arith, ints, top, test, same))),
      (λ is_made below. is_made),
    )) c.words.invariant.kept.keeps
