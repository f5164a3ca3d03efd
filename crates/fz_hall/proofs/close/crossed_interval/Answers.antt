use Rattle.std.proofs.Common.{◌≡◌, ◌-◌, ◌+◌, ◌*◌, rules, pos, get_or, count_by, subst, sym, w64, arith}
use Rattle.std.specs.Prelude.{◌+ℤ◌, ◌≤ℤ◌}
use Rattle.std.proofs.lemmas.Int.{ints}
use Rattle.std.proofs.Math.Facts.{to_z-of_z}
use mir.Val.{SFits}
use Rattle.fz_hall.specs.declared.interval.Interval.{Interval}
use Rattle.fz_hall.specs.Counts.{IsExcess, IsSeenAt, ends_at}
use Rattle.fz_hall.proofs.Pairs.{all_ordered}
use Rattle.fz_hall.proofs.Reaching.{excess_moved, excess_next, place_within, seen_all, seen_next}
use Rattle.fz_hall.proofs.close.crossed_interval.Goals as goal

pub crossed_at-requires-clause-within : goal.crossed_at-requires-clause-within
crossed_at-requires-clause-within c =
    let test = c.loop-back-test.true in
    let place = (c.width_of-width.result - 1) - c.loop-back.back in
    subst (λ (s : Interval). (s.low +ℤ pos place) ≤ℤ s.high) (sym c.tally_of-tally.ensures.span)
    (place_within c.args.span.low c.args.span.high place c.width_of-width.result c.width_of-width.ensures (omega (arith, test)))

pub crossed_at-requires-clause-excess : goal.crossed_at-requires-clause-excess
crossed_at-requires-clause-excess c =
    let xs = c.args.terms.now in
    let ds = c.args.store.now.doms in
    let test = c.loop-back-test.true in
    let most = c.width_of-width.ensures.most in
    let width = c.width_of-width.result in
    let back = c.loop-back.back in
    let place = (width - 1) - back in
    let tally = c.tally_of-tally.result in
    let count : get_or tally.ends place 0 ≡ count_by (ends_at ds (c.args.span.low +ℤ pos place)) xs =
    subst (λ (s : Interval). get_or tally.ends place 0 ≡ count_by (ends_at ds (s.low +ℤ pos place)) xs) c.tally_of-tally.ensures.span (c.tally_of-tally.ensures.tally.ends.each place (omega (arith, test, most))) in
    let before_fits : SFits w64 c.loop-back.excess = search rules in
    let fits : SFits w64 c.more-excess.result = search rules in
    let alone : pos (get_or tally.ends place 0) ≤ℤ (c.more-excess.result +ℤ pos 1) = c.more-excess.ensures.alone in
    let both : (c.loop-back.excess +ℤ pos (get_or tally.ends place 0)) ≤ℤ (c.more-excess.result +ℤ pos 1) = search rules in
    let is : IsExcess xs ds (c.args.span.low +ℤ pos place) c.args.span.high c.more-excess.result =
    excess_next xs ds c.args.span.low c.args.span.high c.more-excess.result c.loop-back.excess width back (get_or tally.ends place 0) test count (rw c.loop-back.excess-is at c.loop-back.invariant.excess) alone both in
    rw (to_z-of_z fits) (subst (λ (s : Interval). IsExcess xs ds (s.low +ℤ pos place) s.high c.more-excess.result) (sym c.tally_of-tally.ensures.span) is)

pub loop-back-preserved : goal.loop-back-preserved
loop-back-preserved c =
    let xs = c.args.terms.now in
    let ds = c.args.store.now.doms in
    let test = c.loop-back-test.true in
    let most = c.width_of-width.ensures.most in
    let width = c.width_of-width.result in
    let back = c.loop-back.back in
    let place = (width - 1) - back in
    let tally = c.tally_of-tally.result in
    let count : get_or tally.ends place 0 ≡ count_by (ends_at ds (c.args.span.low +ℤ pos place)) xs =
    subst (λ (s : Interval). get_or tally.ends place 0 ≡ count_by (ends_at ds (s.low +ℤ pos place)) xs) c.tally_of-tally.ensures.span (c.tally_of-tally.ensures.tally.ends.each place (omega (arith, test, most))) in
    let before_fits : SFits w64 c.loop-back.excess = search rules in
    let fits : SFits w64 c.more-excess.result = search rules in
    let alone : pos (get_or tally.ends place 0) ≤ℤ (c.more-excess.result +ℤ pos 1) = c.more-excess.ensures.alone in
    let both : (c.loop-back.excess +ℤ pos (get_or tally.ends place 0)) ≤ℤ (c.more-excess.result +ℤ pos 1) = search rules in
    let is : IsExcess xs ds (c.args.span.low +ℤ pos place) c.args.span.high c.more-excess.result =
    excess_next xs ds c.args.span.low c.args.span.high c.more-excess.result c.loop-back.excess width back (get_or tally.ends place 0) test count (rw c.loop-back.excess-is at c.loop-back.invariant.excess) alone both in
    let here : IsSeenAt xs ds (c.args.span.low +ℤ pos place) = subst (λ (s : Interval). IsSeenAt xs ds (s.low +ℤ pos place)) c.tally_of-tally.ensures.span (c.crossed_at.ensures (search rules)) in
    let bound : c.more-excess.result ≤ℤ pos (255 * back + 255) = c.more-excess.ensures.bound (255 * back) (search rules) in
    record {
      excess = rw (to_z-of_z fits) (excess_moved xs ds c.args.span.low c.args.span.high c.more-excess.result width back test is);
      bound = rw (to_z-of_z fits) (omega (arith, ints, bound));
      seen = seen_next xs ds c.args.span.low width back test c.loop-back.invariant.seen here;
    }

pub returns : goal.returns
returns c = λ none.
    let test = c.loop-back-test.false in
    seen_all c.args.terms.now c.args.store.now.doms c.args.span.low c.args.span.high c.width_of-width.result c.width_of-width.ensures (all_ordered c.args.store.now.doms c.args.terms.now c.requires.terms c.doms.ensures.store.domains) c.requires.span
    (λ v below. c.loop-back.invariant.seen v (omega (arith, test)) below)
