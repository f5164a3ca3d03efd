use Rattle.std.proofs.Common.{◌≡◌, ap, refl, sym, pos, rules, to_z, ◌∙◌}
use mir.Syntax.{w128}
use mir.Val.{SFits}
use Rattle.std.proofs.Math.Facts.{to_z-of_z}
use Rattle.std.proofs.lemmas.Result.{IfOk-weaker}
use Rattle.fz_prop.specs.Outcomes.{IsOutcome}
use Rattle.fz_counts.specs.declared.places.Choice.TheVariants.{Without, With}
use Rattle.fz_counts.specs.Counting.{AreCountsOf}
use Rattle.fz_counts.specs.Covers.{AllNear, AllSide}
use Rattle.fz_counts.proofs.Covering.{outcome_by, correct_by}
use Rattle.fz_counts.proofs.Wholes.{IsCovered, none_covered, near_covered, without_covered, with_covered}
use Rattle.fz_counts.proofs.whole.keep_whole.Goals as goal

pub returns-in_default-slack_of-clause-outcome : goal.returns-in_default-slack_of-clause-outcome
returns-in_default-slack_of-clause-outcome c =
    let xs = c.args.terms.now in
    let counts = c.args.counts.now in
    let ds = c.args.store.now.doms in
    let f = c.cover_tally-tally.result.fewest in
    let m = c.cover_tally-tally.result.most in
    let covered : IsCovered c.in-Some.cover c.args.values.now xs counts ds f m = record {
      terms = c.requires.terms;
      numbers = c.requires.counts;
      domains = c.doms.ensures.store.domains;
      cover = rw c.in-Some.is at c.requires.whole;
      fewest = c.cover_tally-tally.ensures.fewest;
      most = c.cover_tally-tally.ensures.most;
    } in
    none_covered c.in-Some.cover c.args.values.now xs counts ds f m covered
    (rw (c.ends_of-ends.ensures.lowest, c.ends_of-ends.ensures.highest) at (c.in_default-slack_of.ensures.none refl))

pub returns-in_err-change-clause-correct : goal.returns-in_err-change-clause-correct
returns-in_err-change-clause-correct c =
    let xs = c.args.terms.now in
    let values = c.args.values.now in
    let counts = c.args.counts.now in
    let ds = c.args.store.now.doms in
    let f = c.cover_tally-tally.result.fewest in
    let m = c.cover_tally-tally.result.most in
    let slack = c.in-Some-slack_of.slack in
    let covered : IsCovered c.in-Some.cover values xs counts ds f m = record {
      terms = c.requires.terms;
      numbers = c.requires.counts;
      domains = c.doms.ensures.store.domains;
      cover = rw c.in-Some.is at c.requires.whole;
      fewest = c.cover_tally-tally.ensures.fewest;
      most = c.cover_tally-tally.ensures.most;
    } in
    let above = rw c.ends_of-ends.ensures.lowest at c.in-Some-slack_of.ensures.above in
    let below = rw c.ends_of-ends.ensures.highest at c.in-Some-slack_of.ensures.below in
    correct_by (AllNear slack counts ds) (AreCountsOf xs values counts) ds c.keep_near.new.store.doms (near_covered c.in-Some.cover values xs counts ds f m slack covered above below) c.keep_near.ensures.correct

pub returns-in_default-2-clause-correct : goal.returns-in_default-2-clause-correct
returns-in_default-2-clause-correct c =
    let xs = c.args.terms.now in
    let values = c.args.values.now in
    let counts = c.args.counts.now in
    let ds = c.args.store.now.doms in
    let f = c.cover_tally-tally.result.fewest in
    let m = c.cover_tally-tally.result.most in
    let slack = c.in-Some-slack_of.slack in
    let covered : IsCovered c.in-Some.cover values xs counts ds f m = record {
      terms = c.requires.terms;
      numbers = c.requires.counts;
      domains = c.doms.ensures.store.domains;
      cover = rw c.in-Some.is at c.requires.whole;
      fewest = c.cover_tally-tally.ensures.fewest;
      most = c.cover_tally-tally.ensures.most;
    } in
    let above = rw c.ends_of-ends.ensures.lowest at c.in-Some-slack_of.ensures.above in
    let below = rw c.ends_of-ends.ensures.highest at c.in-Some-slack_of.ensures.below in
    correct_by (AllNear slack counts ds) (AreCountsOf xs values counts) ds c.keep_near.new.store.doms (near_covered c.in-Some.cover values xs counts ds f m slack covered above below) c.keep_near.ensures.correct

pub returns-in_default-2-clause-outcome : goal.returns-in_default-2-clause-outcome
returns-in_default-2-clause-outcome c =
    let xs = c.args.terms.now in
    let values = c.args.values.now in
    let counts = c.args.counts.now in
    let r = c.args.store.now in
    let ds = r.doms in
    let f = c.cover_tally-tally.result.fewest in
    let m = c.cover_tally-tally.result.most in
    let slack = c.in-Some-slack_of.slack in
    let covered : IsCovered c.in-Some.cover values xs counts ds f m = record {
      terms = c.requires.terms;
      numbers = c.requires.counts;
      domains = c.doms.ensures.store.domains;
      cover = rw c.in-Some.is at c.requires.whole;
      fewest = c.cover_tally-tally.ensures.fewest;
      most = c.cover_tally-tally.ensures.most;
    } in
    let above = rw c.ends_of-ends.ensures.lowest at c.in-Some-slack_of.ensures.above in
    let below = rw c.ends_of-ends.ensures.highest at c.in-Some-slack_of.ensures.below in
    outcome_by c.in_ok-change.change (AllNear slack counts ds) (AreCountsOf xs values counts) r c.keep_near.new.store (near_covered c.in-Some.cover values xs counts ds f m slack covered above below) c.in_ok-change.ensures.outcome

pub settle_mixed-requires-clause-terms : goal.settle_mixed-requires-clause-terms
settle_mixed-requires-clause-terms c =
    let same : c.keep_near.new.store ≡ c.args.store.now = rw c.in-Same.is at c.in_ok-change.ensures.outcome in
    rw same c.requires.terms

pub returns-then-slack-eq0-clause-correct : goal.returns-then-slack-eq0-clause-correct
returns-then-slack-eq0-clause-correct c =
    let xs = c.args.terms.now in
    let values = c.args.values.now in
    let counts = c.args.counts.now in
    let ds = c.args.store.now.doms in
    let cover = c.in-Some.cover in
    let f = c.cover_tally-tally.result.fewest in
    let m = c.cover_tally-tally.result.most in
    let slack = c.in-Some-slack_of.slack in
    let covered : IsCovered cover values xs counts ds f m = record {
      terms = c.requires.terms;
      numbers = c.requires.counts;
      domains = c.doms.ensures.store.domains;
      cover = rw c.in-Some.is at c.requires.whole;
      fewest = c.cover_tally-tally.ensures.fewest;
      most = c.cover_tally-tally.ensures.most;
    } in
    let fits : SFits w128 slack.below = search rules in
    let none : slack.below ≡ pos 0 = sym (to_z-of_z fits) ∙ ap (to_z w128) c.if-slack-eq0.true in
    let below = rw c.ends_of-ends.ensures.highest at c.in-Some-slack_of.ensures.below in
    let same : c.keep_near.new.store ≡ c.args.store.now = rw c.in-Same.is at c.in_ok-change.ensures.outcome in
    correct_by (AllSide Without cover xs ds) (AreCountsOf xs values counts) ds c.settle_mixed.new.store.doms (without_covered cover values xs counts ds f m slack.below covered below none)
    (rw same at c.settle_mixed.ensures.correct)

pub returns-then-slack-eq0-clause-outcome : goal.returns-then-slack-eq0-clause-outcome
returns-then-slack-eq0-clause-outcome c =
    let xs = c.args.terms.now in
    let values = c.args.values.now in
    let counts = c.args.counts.now in
    let r = c.args.store.now in
    let s = c.settle_mixed.new.store in
    let ds = r.doms in
    let cover = c.in-Some.cover in
    let f = c.cover_tally-tally.result.fewest in
    let m = c.cover_tally-tally.result.most in
    let slack = c.in-Some-slack_of.slack in
    let covered : IsCovered cover values xs counts ds f m = record {
      terms = c.requires.terms;
      numbers = c.requires.counts;
      domains = c.doms.ensures.store.domains;
      cover = rw c.in-Some.is at c.requires.whole;
      fewest = c.cover_tally-tally.ensures.fewest;
      most = c.cover_tally-tally.ensures.most;
    } in
    let fits : SFits w128 slack.below = search rules in
    let none : slack.below ≡ pos 0 = sym (to_z-of_z fits) ∙ ap (to_z w128) c.if-slack-eq0.true in
    let below = rw c.ends_of-ends.ensures.highest at c.in-Some-slack_of.ensures.below in
    let same : c.keep_near.new.store ≡ c.args.store.now = rw c.in-Same.is at c.in_ok-change.ensures.outcome in
    IfOk-weaker c.settle_mixed.result (λ change. IsOutcome change (AllSide Without cover xs ds) r s) (λ change. IsOutcome change (AreCountsOf xs values counts) r s)
    (λ change h. outcome_by change (AllSide Without cover xs ds) (AreCountsOf xs values counts) r s (without_covered cover values xs counts ds f m slack.below covered below none) h)
    (rw same at c.settle_mixed.ensures.outcome)

pub settle_mixed-requires-then-slack-eq0-2-clause-terms : goal.settle_mixed-requires-then-slack-eq0-2-clause-terms
settle_mixed-requires-then-slack-eq0-2-clause-terms c =
    let same : c.keep_near.new.store ≡ c.args.store.now = rw c.in-Same.is at c.in_ok-change.ensures.outcome in
    rw same c.requires.terms

pub returns-then-slack-eq0-2-clause-correct : goal.returns-then-slack-eq0-2-clause-correct
returns-then-slack-eq0-2-clause-correct c =
    let xs = c.args.terms.now in
    let values = c.args.values.now in
    let counts = c.args.counts.now in
    let ds = c.args.store.now.doms in
    let cover = c.in-Some.cover in
    let f = c.cover_tally-tally.result.fewest in
    let m = c.cover_tally-tally.result.most in
    let slack = c.in-Some-slack_of.slack in
    let covered : IsCovered cover values xs counts ds f m = record {
      terms = c.requires.terms;
      numbers = c.requires.counts;
      domains = c.doms.ensures.store.domains;
      cover = rw c.in-Some.is at c.requires.whole;
      fewest = c.cover_tally-tally.ensures.fewest;
      most = c.cover_tally-tally.ensures.most;
    } in
    let fits : SFits w128 slack.above = search rules in
    let none : slack.above ≡ pos 0 = sym (to_z-of_z fits) ∙ ap (to_z w128) c.if-slack-eq0-2.true in
    let above = rw c.ends_of-ends.ensures.lowest at c.in-Some-slack_of.ensures.above in
    let same : c.keep_near.new.store ≡ c.args.store.now = rw c.in-Same.is at c.in_ok-change.ensures.outcome in
    correct_by (AllSide With cover xs ds) (AreCountsOf xs values counts) ds c.settle_mixed-then-slack-eq0-2.new.store.doms (with_covered cover values xs counts ds f m slack.above covered above none)
    (rw same at c.settle_mixed-then-slack-eq0-2.ensures.correct)

pub returns-then-slack-eq0-2-clause-outcome : goal.returns-then-slack-eq0-2-clause-outcome
returns-then-slack-eq0-2-clause-outcome c =
    let xs = c.args.terms.now in
    let values = c.args.values.now in
    let counts = c.args.counts.now in
    let r = c.args.store.now in
    let s = c.settle_mixed-then-slack-eq0-2.new.store in
    let ds = r.doms in
    let cover = c.in-Some.cover in
    let f = c.cover_tally-tally.result.fewest in
    let m = c.cover_tally-tally.result.most in
    let slack = c.in-Some-slack_of.slack in
    let covered : IsCovered cover values xs counts ds f m = record {
      terms = c.requires.terms;
      numbers = c.requires.counts;
      domains = c.doms.ensures.store.domains;
      cover = rw c.in-Some.is at c.requires.whole;
      fewest = c.cover_tally-tally.ensures.fewest;
      most = c.cover_tally-tally.ensures.most;
    } in
    let fits : SFits w128 slack.above = search rules in
    let none : slack.above ≡ pos 0 = sym (to_z-of_z fits) ∙ ap (to_z w128) c.if-slack-eq0-2.true in
    let above = rw c.ends_of-ends.ensures.lowest at c.in-Some-slack_of.ensures.above in
    let same : c.keep_near.new.store ≡ c.args.store.now = rw c.in-Same.is at c.in_ok-change.ensures.outcome in
    IfOk-weaker c.settle_mixed-then-slack-eq0-2.result (λ change. IsOutcome change (AllSide With cover xs ds) r s) (λ change. IsOutcome change (AreCountsOf xs values counts) r s)
    (λ change h. outcome_by change (AllSide With cover xs ds) (AreCountsOf xs values counts) r s (with_covered cover values xs counts ds f m slack.above covered above none) h)
    (rw same at c.settle_mixed-then-slack-eq0-2.ensures.outcome)
