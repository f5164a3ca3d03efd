use Rattle.std.proofs.Common.{◌≡◌, ◌∙◌, arith, rules, pos, sym, SFits, w32}
use Rattle.std.proofs.lemmas.Result.{IfOk-weaker}
use Rattle.std.proofs.Math.Facts.{to_z-of_z}
use Rattle.fz_dom.specs.Shape.{least, greatest}
use Rattle.fz_strength.specs.Domains.{term_set}
use Rattle.fz_prop.specs.Outcomes.{IsOutcome}
use Rattle.fz_counts.specs.declared.places.Choice.TheVariants.{Without, With}
use Rattle.fz_counts.specs.Counting.{IsCount, AllGo}
use Rattle.fz_counts.proofs.Counting.{full_goes, needed_goes, decided_by}
use Rattle.fz_counts.proofs.Covering.{outcome_by, correct_by}
use Rattle.fz_counts.proofs.count.settle_rest.Goals as goal

pub returns-then-tally-clause-full : goal.returns-then-tally-clause-full
returns-then-tally-clause-full c = λ same top.
    let few = c.requires.fewest in
    let many = c.requires.most in
    let both = c.if-tally.true in
    decided_by c.args.store.now.doms c.args.value c.args.terms.now c.requires.terms c.doms.ensures.store.domains (omega (arith, few, many, both))

pub returns-then-tally-clause-needed : goal.returns-then-tally-clause-needed
returns-then-tally-clause-needed c = λ same bottom.
    let few = c.requires.fewest in
    let many = c.requires.most in
    let both = c.if-tally.true in
    decided_by c.args.store.now.doms c.args.value c.args.terms.now c.requires.terms c.doms.ensures.store.domains (omega (arith, few, many, both))

pub returns-then-is_number-clause-correct : goal.returns-then-is_number-clause-correct
returns-then-is_number-clause-correct c =
    let ds = c.args.store.now.doms in
    let value = c.args.value in
    let xs = c.args.terms.now in
    let count = c.args.count in
    let n = c.args.tally.fewest in
    let fits : SFits w32 c.greatest_of.result = search rules in
    let top : greatest (term_set ds count) ≡ pos n = sym c.greatest_of.ensures.greatest ∙ (rw (to_z-of_z fits) at (c.is_number.ensures.0 c.if-is_number.true)) in
    correct_by (AllGo Without value xs ds) (IsCount xs value count) ds c.settle.new.store.doms
    (λ a within is. full_goes ds a value xs count n c.requires.terms c.requires.count c.doms.ensures.store.domains top c.requires.fewest within is) (rw (to_z-of_z c.ranges.value) at c.settle.ensures.correct)

pub returns-then-is_number-clause-outcome : goal.returns-then-is_number-clause-outcome
returns-then-is_number-clause-outcome c =
    let r = c.args.store.now in
    let s = c.settle.new.store in
    let ds = r.doms in
    let value = c.args.value in
    let xs = c.args.terms.now in
    let count = c.args.count in
    let n = c.args.tally.fewest in
    let fits : SFits w32 c.greatest_of.result = search rules in
    let top : greatest (term_set ds count) ≡ pos n = sym c.greatest_of.ensures.greatest ∙ (rw (to_z-of_z fits) at (c.is_number.ensures.0 c.if-is_number.true)) in
    IfOk-weaker c.settle.result (λ change. IsOutcome change (AllGo Without value xs ds) r s) (λ change. IsOutcome change (IsCount xs value count) r s)
    (λ change h. outcome_by change (AllGo Without value xs ds) (IsCount xs value count) r s
    (λ a within is. full_goes ds a value xs count n c.requires.terms c.requires.count c.doms.ensures.store.domains top c.requires.fewest within is) h) (rw (to_z-of_z c.ranges.value) at c.settle.ensures.outcome)

pub returns-then-is_number-2-clause-correct : goal.returns-then-is_number-2-clause-correct
returns-then-is_number-2-clause-correct c =
    let ds = c.args.store.now.doms in
    let value = c.args.value in
    let xs = c.args.terms.now in
    let count = c.args.count in
    let n = c.args.tally.most in
    let fits : SFits w32 c.least_of.result = search rules in
    let bottom : least (term_set ds count) ≡ pos n = sym c.least_of.ensures.least ∙ (rw (to_z-of_z fits) at (c.is_number-2.ensures.0 c.if-is_number-2.true)) in
    correct_by (AllGo With value xs ds) (IsCount xs value count) ds c.settle-then-is_number-2.new.store.doms
    (λ a within is. needed_goes ds a value xs count n c.requires.terms c.requires.count c.doms.ensures.store.domains bottom c.requires.most within is)
    (rw (to_z-of_z c.ranges.value) at c.settle-then-is_number-2.ensures.correct)

pub returns-then-is_number-2-clause-outcome : goal.returns-then-is_number-2-clause-outcome
returns-then-is_number-2-clause-outcome c =
    let r = c.args.store.now in
    let s = c.settle-then-is_number-2.new.store in
    let ds = r.doms in
    let value = c.args.value in
    let xs = c.args.terms.now in
    let count = c.args.count in
    let n = c.args.tally.most in
    let fits : SFits w32 c.least_of.result = search rules in
    let bottom : least (term_set ds count) ≡ pos n = sym c.least_of.ensures.least ∙ (rw (to_z-of_z fits) at (c.is_number-2.ensures.0 c.if-is_number-2.true)) in
    IfOk-weaker c.settle-then-is_number-2.result (λ change. IsOutcome change (AllGo With value xs ds) r s) (λ change. IsOutcome change (IsCount xs value count) r s)
    (λ change h. outcome_by change (AllGo With value xs ds) (IsCount xs value count) r s
    (λ a within is. needed_goes ds a value xs count n c.requires.terms c.requires.count c.doms.ensures.store.domains bottom c.requires.most within is) h)
    (rw (to_z-of_z c.ranges.value) at c.settle-then-is_number-2.ensures.outcome)
