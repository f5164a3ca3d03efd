use Rattle.std.proofs.Common.{rules, pos, SFits, w32}
use Rattle.std.specs.Prelude.{ℤ}
use Rattle.std.proofs.lemmas.Result.{IfOk-weaker}
use Rattle.std.proofs.Math.Facts.{to_z-of_z}
use Rattle.fz_dom.specs.Changes.{IsFromTo}
use Rattle.fz_prop.specs.Stores.{IsTermChange}
use Rattle.fz_counts.proofs.Between.{term_change_as, wiped_term, same_between}
use Rattle.fz_counts.proofs.count.keep_between.Goals as goal

pub returns-in-Ok-clause-change : goal.returns-in-Ok-clause-change
returns-in-Ok-clause-change c =
    let r = c.args.store.now in
    let s = c.keep_range.new.store in
    let t = c.args.count in
    let from = pos c.args.tally.fewest in
    let to = pos c.args.tally.most in
    let low = c.in-Ok.fewest in
    let high = c.number_or.result in
    let low_fits : SFits w32 low = search rules in
    let high_fits : SFits w32 high = search rules in
    let top_fits : SFits w32 c.greatest_of-greatest.result = search rules in
    let within = rw (to_z-of_z top_fits) at c.number_or.ensures in
    IfOk-weaker c.keep_range.result (λ change. IsTermChange change t (λ (x : ℤ). IsFromTo low high x) r s) (λ change. IsTermChange change t (λ (x : ℤ). IsFromTo from to x) r s)
    (λ change h. term_change_as change t (λ (x : ℤ). IsFromTo low high x) (λ (x : ℤ). IsFromTo from to x) r s
    (λ x is. same_between low high from to x c.in-Ok.ensures.1 (within x (c.greatest_of-greatest.ensures.upper_bound x is))) h)
    (rw (to_z-of_z low_fits, to_z-of_z high_fits) at c.keep_range.ensures.change)

pub returns-in-Err-clause-change : goal.returns-in-Err-clause-change
returns-in-Err-clause-change c =
    let top_fits : SFits w32 c.greatest_of-greatest.result = search rules in
    wiped_term c.args.count (λ (x : ℤ). IsFromTo (pos c.args.tally.fewest) (pos c.args.tally.most) x) c.args.store.now
    (λ x is between.
    let from = between.0 in
    let top = c.greatest_of-greatest.ensures.upper_bound x is in
    c.in-Err.ensures (search rules))
