use Rattle.std.proofs.Common.{◌≡◌, ◌+ℤ◌, ap, arith, length, pos, rules, w32}
use Rattle.std.proofs.Math.Facts.{to_z-of_z}
use mir.Val.{SFits}
use Rattle.fz_dom.specs.Changes.{IsFromTo}
use Rattle.fz_dom.proofs.Runs.{run_first}
use Rattle.fz_strength.specs.Domains.{number_at}
use Rattle.fz_prop.proofs.Twice.{shrinks_twice}
use Rattle.fz_shift.proofs.Leaving.{IsStill, kept_more, run_leaves, still_within}
use Rattle.fz_shift.proofs.far.exclude.Goals as goal

pub returns-in_err-remove_between-clause-shrinks : goal.returns-in_err-remove_between-clause-shrinks
returns-in_err-remove_between-clause-shrinks c = shrinks_twice c.args.store.now c.runs.store c.remove_between.new.store c.runs.invariant.kept.shrinks c.remove_between.ensures.shrinks

pub returns-then-not-branch-clause-shrinks : goal.returns-then-not-branch-clause-shrinks
returns-then-not-branch-clause-shrinks c = shrinks_twice c.args.store.now c.runs.store c.remove_between.new.store c.runs.invariant.kept.shrinks c.remove_between.ensures.shrinks

pub returns-in_err-remove_between-clause-stays : goal.returns-in_err-remove_between-clause-stays
returns-in_err-remove_between-clause-stays c = λ a within not.
    let base = c.args.base in
    let word = c.args.word in
    let left = c.runs.left in
    let next = c.bits_above-left.result in
    let first = c.first_run-first.result.0 in
    let last = c.first_run-first.result.1 in
    let low = c.number_of-low.result in
    let high = c.number_of-high.result in
    let fits_low : SFits w32 low = search rules in
    let fits_high : SFits w32 high = search rules in
    let is_low : low ≡ base +ℤ pos first = rw (to_z-of_z c.ranges.base) at c.number_of-low.ensures in
    let is_high : high ≡ base +ℤ pos last = rw (to_z-of_z c.ranges.base) at c.number_of-high.ensures in
    let run = c.first_run-first.ensures in
    let before = rw (to_z-of_z c.ranges.base) at c.runs.invariant.kept in
    let leaves = run_leaves base word left next first last low high is_low is_high run.last c.runs.invariant.among run.run run.none_before c.bits_above-left.ensures in
    let s = c.args.store.now in
    let t = c.runs.store in
    let u = c.remove_between.new.store in
    let x = number_at a c.args.variable in
    let still : IsStill base word next x = λ is. absurd (not is) in
    let within_t = still_within c.args.variable (IsStill base word left) s t a before within (λ is. absurd (not is)) in
    let outside = ((leaves x).0 still).1 in
    (rw (to_z-of_z fits_low, to_z-of_z fits_high) at c.remove_between.ensures.stays) a within_t outside

pub returns-then-not-branch-clause-stays : goal.returns-then-not-branch-clause-stays
returns-then-not-branch-clause-stays c = λ a within not.
    let base = c.args.base in
    let word = c.args.word in
    let left = c.runs.left in
    let next = c.bits_above-left.result in
    let first = c.first_run-first.result.0 in
    let last = c.first_run-first.result.1 in
    let low = c.number_of-low.result in
    let high = c.number_of-high.result in
    let fits_low : SFits w32 low = search rules in
    let fits_high : SFits w32 high = search rules in
    let is_low : low ≡ base +ℤ pos first = rw (to_z-of_z c.ranges.base) at c.number_of-low.ensures in
    let is_high : high ≡ base +ℤ pos last = rw (to_z-of_z c.ranges.base) at c.number_of-high.ensures in
    let run = c.first_run-first.ensures in
    let before = rw (to_z-of_z c.ranges.base) at c.runs.invariant.kept in
    let leaves = run_leaves base word left next first last low high is_low is_high run.last c.runs.invariant.among run.run run.none_before c.bits_above-left.ensures in
    let s = c.args.store.now in
    let t = c.runs.store in
    let u = c.remove_between.new.store in
    let x = number_at a c.args.variable in
    let still : IsStill base word next x = λ is. absurd (not is) in
    let within_t = still_within c.args.variable (IsStill base word left) s t a before within (λ is. absurd (not is)) in
    let outside = ((leaves x).0 still).1 in
    (rw (to_z-of_z fits_low, to_z-of_z fits_high) at c.remove_between.ensures.stays) a within_t outside

pub returns-then-not-branch-clause-some : goal.returns-then-not-branch-clause-some
returns-then-not-branch-clause-some c = λ a within not.
    let base = c.args.base in
    let word = c.args.word in
    let left = c.runs.left in
    let next = c.bits_above-left.result in
    let first = c.first_run-first.result.0 in
    let last = c.first_run-first.result.1 in
    let low = c.number_of-low.result in
    let high = c.number_of-high.result in
    let fits_low : SFits w32 low = search rules in
    let fits_high : SFits w32 high = search rules in
    let is_low : low ≡ base +ℤ pos first = rw (to_z-of_z c.ranges.base) at c.number_of-low.ensures in
    let is_high : high ≡ base +ℤ pos last = rw (to_z-of_z c.ranges.base) at c.number_of-high.ensures in
    let run = c.first_run-first.ensures in
    let before = rw (to_z-of_z c.ranges.base) at c.runs.invariant.kept in
    let leaves = run_leaves base word left next first last low high is_low is_high run.last c.runs.invariant.among run.run run.none_before c.bits_above-left.ensures in
    let s = c.args.store.now in
    let t = c.runs.store in
    let u = c.remove_between.new.store in
    let x = number_at a c.args.variable in
    let still : IsStill base word next x = λ is. absurd (not is) in
    let within_t = still_within c.args.variable (IsStill base word left) s t a before within (λ is. absurd (not is)) in
    let outside = ((leaves x).0 still).1 in
    rw c.if-not-branch.true at ((rw (to_z-of_z fits_low, to_z-of_z fits_high) at c.in_ok-remove_between.ensures.some) a within_t outside)

pub runs-smaller : goal.runs-smaller
runs-smaller c =
    let r = c.first_run-first in
    let e = ap length (run_first (pos 0) c.runs.left c.bits_above-left.result r.result.0 r.result.1 r.ensures.first r.ensures.last r.ensures.run r.ensures.none_before r.ensures.none_after c.bits_above-left.ensures) in
    omega (arith, e)

pub runs-preserved : goal.runs-preserved
runs-preserved c =
    let base = c.args.base in
    let word = c.args.word in
    let left = c.runs.left in
    let next = c.bits_above-left.result in
    let first = c.first_run-first.result.0 in
    let last = c.first_run-first.result.1 in
    let low = c.number_of-low.result in
    let high = c.number_of-high.result in
    let fits_low : SFits w32 low = search rules in
    let fits_high : SFits w32 high = search rules in
    let is_low : low ≡ base +ℤ pos first = rw (to_z-of_z c.ranges.base) at c.number_of-low.ensures in
    let is_high : high ≡ base +ℤ pos last = rw (to_z-of_z c.ranges.base) at c.number_of-high.ensures in
    let run = c.first_run-first.ensures in
    let before = rw (to_z-of_z c.ranges.base) at c.runs.invariant.kept in
    let leaves = run_leaves base word left next first last low high is_low is_high run.last c.runs.invariant.among run.run run.none_before c.bits_above-left.ensures in
    let s = c.args.store.now in
    let t = c.runs.store in
    let u = c.remove_between.new.store in
    record {
      kept = rw (to_z-of_z c.ranges.base) (kept_more c.args.variable (IsStill base word left) (λ x. IsFromTo low high x → ⊥) (IsStill base word next) s t u (λ x is. leaves x) before
          c.remove_between.ensures.shrinks ((rw (to_z-of_z fits_low, to_z-of_z fits_high) at c.in_ok-remove_between.ensures.kept) (search rules)));
      among = λ i small bit. c.runs.invariant.among i small ((c.bits_above-left.ensures i small).0 bit).0;
    }
