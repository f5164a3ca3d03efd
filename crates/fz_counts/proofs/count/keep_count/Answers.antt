use Rattle.std.proofs.Common.{◌≡◌, ◌∙◌, arith, pos, ap, refl, subst, sym}
use Rattle.std.specs.Prelude.{ℤ, List, ◌≤ℤ◌}
use Rattle.std.proofs.Math.Facts.{to_z-of_z}
use Rattle.fz_dom.specs.declared.change.Change.TheVariants.{Wiped}
use Rattle.fz_dom.specs.Changes.{IsFromTo}
use Rattle.fz_dom.specs.Shape.{least, greatest}
use Rattle.fz_strength.specs.Domains.{term_set}
use Rattle.fz_prop.specs.Answers.{IsCorrectOf}
use Rattle.fz_prop.proofs.Answering.{correct_twice}
use Rattle.fz_prop.proofs.Twice.{shrinks_twice}
use Rattle.fz_prop.proofs.TermChanges.{kept_term, narrower_term, same_store}
use Rattle.fz_prop.specs.Stores.{Stored}
use Rattle.fz_counts.specs.Counting.{IsCount}
use Rattle.fz_counts.proofs.Between.{between_correct, between_outcome, least_between}
use Rattle.fz_counts.proofs.Counting.{fewest_grows, most_falls, line_of}
use Rattle.fz_counts.proofs.Covering.{outcome_before, outcome_after}
use Rattle.fz_counts.proofs.count.keep_count.Goals as goal

pub returns-in-Wiped-clause-outcome : goal.returns-in-Wiped-clause-outcome
returns-in-Wiped-clause-outcome c =
    let tally = c.args.tally in
    let fits = to_z-of_z c.ranges.value in
    between_outcome Wiped c.args.value c.args.terms.now c.args.count tally.fewest tally.most c.args.store.now c.keep_between.new.store c.requires.terms c.requires.count c.doms.ensures.store.domains
    c.requires.fewest c.requires.most (rw c.in-Wiped.is at c.in_ok-change.ensures.change)

pub settle_rest-requires-clause-fewest : goal.settle_rest-requires-clause-fewest
settle_rest-requires-clause-fewest c =
    let is = c.requires.fewest in
    let grows =
    fewest_grows c.args.store.now.doms c.keep_between.new.store.doms c.args.value c.args.terms.now c.requires.terms c.doms.ensures.store.domains c.doms-2.ensures.store.domains c.keep_between.ensures.shrinks.narrower in
    rw (to_z-of_z c.ranges.value) (omega (arith, is, grows))

pub settle_rest-requires-clause-most : goal.settle_rest-requires-clause-most
settle_rest-requires-clause-most c =
    let is = c.requires.most in
    let falls = most_falls c.args.store.now.doms c.keep_between.new.store.doms c.args.value c.args.terms.now c.keep_between.ensures.shrinks.narrower in
    rw (to_z-of_z c.ranges.value) (omega (arith, is, falls))

pub returns-in_err-settled-clause-shrinks : goal.returns-in_err-settled-clause-shrinks
returns-in_err-settled-clause-shrinks c = shrinks_twice c.args.store.now c.keep_between.new.store c.settle_rest.new.store c.keep_between.ensures.shrinks c.settle_rest.ensures.shrinks

pub returns-in_err-settled-clause-correct : goal.returns-in_err-settled-clause-correct
returns-in_err-settled-clause-correct c =
    let T : List ℤ → Type 0 = IsCount c.args.terms.now c.args.value c.args.count in
    let r = c.args.store.now in
    let s = c.keep_between.new.store in
    let tally = c.args.tally in
    let fits = to_z-of_z c.ranges.value in
    let first : IsCorrectOf T r.doms s.doms =
    between_correct c.keep_between.result c.args.value c.args.terms.now c.args.count tally.fewest tally.most r s c.requires.terms c.doms.ensures.store.domains c.requires.fewest
    c.requires.most c.keep_between.ensures.err c.keep_between.ensures.change c.keep_between.ensures.shrinks in
    correct_twice T r.doms s.doms c.settle_rest.new.store.doms first (rw fits at c.settle_rest.ensures.correct)

pub returns-in-Same-clause-shrinks : goal.returns-in-Same-clause-shrinks
returns-in-Same-clause-shrinks c = shrinks_twice c.args.store.now c.keep_between.new.store c.settle_rest.new.store c.keep_between.ensures.shrinks c.settle_rest.ensures.shrinks

pub returns-in-Same-clause-correct : goal.returns-in-Same-clause-correct
returns-in-Same-clause-correct c =
    let T : List ℤ → Type 0 = IsCount c.args.terms.now c.args.value c.args.count in
    let r = c.args.store.now in
    let s = c.keep_between.new.store in
    let tally = c.args.tally in
    let fits = to_z-of_z c.ranges.value in
    let first : IsCorrectOf T r.doms s.doms =
    between_correct c.keep_between.result c.args.value c.args.terms.now c.args.count tally.fewest tally.most r s c.requires.terms c.doms.ensures.store.domains c.requires.fewest
    c.requires.most c.keep_between.ensures.err c.keep_between.ensures.change c.keep_between.ensures.shrinks in
    correct_twice T r.doms s.doms c.settle_rest.new.store.doms first (rw fits at c.settle_rest.ensures.correct)

pub returns-in-Same-clause-outcome : goal.returns-in-Same-clause-outcome
returns-in-Same-clause-outcome c =
    let T : List ℤ → Type 0 = IsCount c.args.terms.now c.args.value c.args.count in
    let r = c.args.store.now in
    let s = c.keep_between.new.store in
    let tally = c.args.tally in
    let fits = to_z-of_z c.ranges.value in
    outcome_before c.in_ok-change.change T r s c.settle_rest.new.store
    (between_outcome c.in_ok-change.change c.args.value c.args.terms.now c.args.count tally.fewest tally.most r s c.requires.terms c.requires.count c.doms.ensures.store.domains
    c.requires.fewest c.requires.most c.in_ok-change.ensures.change)
    (rw c.in-Same.is at c.in_ok-settled.ensures.outcome)

pub returns-in-Same-clause-line : goal.returns-in-Same-clause-line
returns-in-Same-clause-line c = λ same.
    let r = c.args.store.now in
    let s = c.keep_between.new.store in
    let t = c.settle_rest.new.store in
    let xs = c.args.terms.now in
    let count = c.args.count in
    let tally = c.args.tally in
    let fits = to_z-of_z c.ranges.value in
    let change = rw same at c.in_ok-change.ensures.change in
    let first : s ≡ r = same_store count _ r s change in
    let second : t ≡ s = rw c.in-Same.is at c.in_ok-settled.ensures.outcome in
    let still : t ≡ r = second ∙ first in
    let ends = least_between count tally.fewest tally.most r s c.requires.count c.doms.ensures.store.domains change in
    let low = subst (λ (u : Stored). pos tally.fewest ≤ℤ least (term_set u.doms count)) (sym still) ends.0 in
    let high = subst (λ (u : Stored). greatest (term_set u.doms count) ≤ℤ pos tally.most) (sym still) ends.1 in
    line_of r.doms t.doms c.args.value xs count tally.fewest tally.most (ap (λ (u : Stored). u.doms) still) c.requires.fewest c.requires.most low high
    (rw fits at (c.in_ok-settled.ensures.full c.in-Same.is)) (rw fits at (c.in_ok-settled.ensures.needed c.in-Same.is))

pub returns-in_default-2-clause-shrinks : goal.returns-in_default-2-clause-shrinks
returns-in_default-2-clause-shrinks c = shrinks_twice c.args.store.now c.keep_between.new.store c.settle_rest.new.store c.keep_between.ensures.shrinks c.settle_rest.ensures.shrinks

pub returns-in_default-2-clause-correct : goal.returns-in_default-2-clause-correct
returns-in_default-2-clause-correct c =
    let T : List ℤ → Type 0 = IsCount c.args.terms.now c.args.value c.args.count in
    let r = c.args.store.now in
    let s = c.keep_between.new.store in
    let tally = c.args.tally in
    let fits = to_z-of_z c.ranges.value in
    let first : IsCorrectOf T r.doms s.doms =
    between_correct c.keep_between.result c.args.value c.args.terms.now c.args.count tally.fewest tally.most r s c.requires.terms c.doms.ensures.store.domains c.requires.fewest
    c.requires.most c.keep_between.ensures.err c.keep_between.ensures.change c.keep_between.ensures.shrinks in
    correct_twice T r.doms s.doms c.settle_rest.new.store.doms first (rw fits at c.settle_rest.ensures.correct)

pub returns-in_default-2-clause-outcome : goal.returns-in_default-2-clause-outcome
returns-in_default-2-clause-outcome c =
    let T : List ℤ → Type 0 = IsCount c.args.terms.now c.args.value c.args.count in
    let r = c.args.store.now in
    let s = c.keep_between.new.store in
    let tally = c.args.tally in
    let fits = to_z-of_z c.ranges.value in
    let first : IsCorrectOf T r.doms s.doms =
    between_correct c.keep_between.result c.args.value c.args.terms.now c.args.count tally.fewest tally.most r s c.requires.terms c.doms.ensures.store.domains c.requires.fewest
    c.requires.most c.keep_between.ensures.err c.keep_between.ensures.change c.keep_between.ensures.shrinks in
    outcome_after c.in_ok-settled.settled T r s c.settle_rest.new.store c.keep_between.ensures.shrinks first c.in_default-2.not-Same (rw fits at c.in_ok-settled.ensures.outcome)

pub returns-in_default-2-clause-line : goal.returns-in_default-2-clause-line
returns-in_default-2-clause-line c = λ same. absurd (c.in_default-2.not-Same same)

pub returns-in-Wiped-clause-between : goal.returns-in-Wiped-clause-between
returns-in-Wiped-clause-between c = λ not. absurd (not refl)

pub returns-in-Same-clause-between : goal.returns-in-Same-clause-between
returns-in-Same-clause-between c = λ not x is.
    let P : ℤ → Type 0 = IsFromTo (pos c.args.tally.fewest) (pos c.args.tally.most) in
    let s = c.keep_between.new.store in
    (kept_term c.in_ok-change.change c.args.count P c.args.store.now s c.in_ok-change.ensures.change not x (narrower_term s.doms c.settle_rest.new.store.doms c.args.count c.settle_rest.ensures.shrinks.narrower x is)).1

pub returns-in_default-2-clause-between : goal.returns-in_default-2-clause-between
returns-in_default-2-clause-between c = λ not x is.
    let P : ℤ → Type 0 = IsFromTo (pos c.args.tally.fewest) (pos c.args.tally.most) in
    let s = c.keep_between.new.store in
    (kept_term c.in_ok-change.change c.args.count P c.args.store.now s c.in_ok-change.ensures.change c.in_default.not-Wiped x
    (narrower_term s.doms c.settle_rest.new.store.doms c.args.count c.settle_rest.ensures.shrinks.narrower x is)).1
