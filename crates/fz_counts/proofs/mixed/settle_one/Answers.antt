use Rattle.std.proofs.lemmas.Result.{IfOk-weaker}
use Rattle.fz_spec.specs.Constraints.{term_value}
use Rattle.fz_prop.specs.Outcomes.{IsOutcome}
use Rattle.fz_prop.specs.Stores.{IsTermChange}
use Rattle.fz_prop.proofs.Keeping.{change_correct, change_outcome}
use Rattle.fz_counts.specs.declared.places.Choice.TheVariants.{Without, With}
use Rattle.fz_counts.specs.Covers.{IsMixed, IsOf, Sides, Takes}
use Rattle.fz_counts.proofs.Covering.{outcome_by}
use Rattle.fz_counts.proofs.mixed.settle_one.Goals as goal

pub returns-in-Without-clause-outcome : goal.returns-in-Without-clause-outcome
returns-in-Without-clause-outcome c =
    let r = c.args.store.now in
    let s = c.remove_all.new.store in
    let t = c.args.term in
    let cover = c.args.cover in
    let mixed : IsMixed cover r.doms t = rw c.in-Mixed.is at c.standing_of.ensures in
    rw c.in-Without.is
    (IfOk-weaker c.remove_all.result (λ change. IsOutcome change (λ a. Takes Without cover (term_value a t)) r s) (λ change. IsOutcome change (λ a. Sides Without cover r.doms a t) r s)
    (λ change h. outcome_by change (λ a. Takes Without cover (term_value a t)) (λ a. Sides Without cover r.doms a t) r s (λ a within sides. sides mixed) h) c.remove_all.ensures.outcome)

pub returns-in-With-clause-correct : goal.returns-in-With-clause-correct
returns-in-With-clause-correct c =
    let r = c.args.store.now in
    let s = c.keep_window.new.store in
    let t = c.args.term in
    let cover = c.args.cover in
    let mixed : IsMixed cover r.doms t = rw c.in-Mixed.is at c.standing_of.ensures in
    rw c.in-With.is
    (change_correct c.keep_window.result t (IsOf cover.window) (λ a. Sides With cover r.doms a t) r s (λ a sides. sides mixed) c.keep_window.ensures.err c.keep_window.ensures.change c.keep_window.ensures.shrinks)

pub returns-in-With-clause-outcome : goal.returns-in-With-clause-outcome
returns-in-With-clause-outcome c =
    let r = c.args.store.now in
    let s = c.keep_window.new.store in
    let t = c.args.term in
    let cover = c.args.cover in
    let mixed : IsMixed cover r.doms t = rw c.in-Mixed.is at c.standing_of.ensures in
    rw c.in-With.is
    (IfOk-weaker c.keep_window.result (λ change. IsTermChange change t (IsOf cover.window) r s) (λ change. IsOutcome change (λ a. Sides With cover r.doms a t) r s)
    (λ change h. change_outcome change t (IsOf cover.window) (λ a. Sides With cover r.doms a t) r s c.requires.term (λ a sides. sides mixed) h) c.keep_window.ensures.change)
