use Rattle.std.proofs.Common.{◌≡◌}
use Rattle.std.proofs.Math.Facts.{to_z-of_z}
use Rattle.std.proofs.lemmas.Result.{IfOk-weaker}
use Rattle.fz_dom.specs.declared.change.Change.TheVariants.{Same}
use Rattle.fz_prop.specs.Outcomes.{IsOutcome}
use Rattle.fz_prop.specs.Stores.{IsTermChange}
use Rattle.fz_counts.specs.declared.places.Choice.TheVariants.{Without, With}
use Rattle.fz_counts.specs.Counting.{IsOpen, IsSettled, IsChosen, Goes}
use Rattle.fz_counts.proofs.Settling.{settled_by, chosen_correct, chosen_outcome}
use Rattle.fz_counts.proofs.places.settle_one.Goals as goal

pub returns-then-not-is_open-clause-settled : goal.returns-then-not-is_open-clause-settled
returns-then-not-is_open-clause-settled c = λ same. rw (to_z-of_z c.ranges.value) at (c.is_open.ensures.settled c.if-not-is_open.true)

pub returns-in-Without-clause-correct : goal.returns-in-Without-clause-correct
returns-in-Without-clause-correct c =
    let fits = to_z-of_z c.ranges.value in
    let opened : IsOpen c.args.value c.args.store.now.doms c.args.term = rw fits at (c.is_open.ensures.unsettled c.if-not-is_open.false) in
    rw c.in-Without.is (chosen_correct c.remove.result Without c.args.value c.args.term c.args.store.now c.remove.new.store opened c.remove.ensures.err (rw fits at c.remove.ensures.change) c.remove.ensures.shrinks)

pub returns-in-Without-clause-outcome : goal.returns-in-Without-clause-outcome
returns-in-Without-clause-outcome c =
    let fits = to_z-of_z c.ranges.value in
    let r = c.args.store.now in
    let t = c.remove.new.store in
    let opened : IsOpen c.args.value r.doms c.args.term = rw fits at (c.is_open.ensures.unsettled c.if-not-is_open.false) in
    rw c.in-Without.is
    (IfOk-weaker c.remove.result (λ change. IsTermChange change c.args.term (IsChosen Without c.args.value) r t) (λ change. IsOutcome change (λ a. Goes Without c.args.value r.doms a c.args.term) r t)
    (λ change h. chosen_outcome change Without c.args.value c.args.term r t c.requires opened h) (rw fits at c.remove.ensures.change))

pub returns-in-Without-clause-settled : goal.returns-in-Without-clause-settled
returns-in-Without-clause-settled c =
    let fits = to_z-of_z c.ranges.value in
    let r = c.args.store.now in
    let t = c.remove.new.store in
    let opened : IsOpen c.args.value r.doms c.args.term = rw fits at (c.is_open.ensures.unsettled c.if-not-is_open.false) in
    IfOk-weaker c.remove.result (λ change. IsTermChange change c.args.term (IsChosen Without c.args.value) r t) (λ change. change ≡ Same → IsSettled c.args.value t.doms c.args.term)
    (λ change h. settled_by change Without c.args.value c.args.term r t c.requires c.doms.ensures.store.domains opened h) (rw fits at c.remove.ensures.change)

pub returns-in-With-clause-correct : goal.returns-in-With-clause-correct
returns-in-With-clause-correct c =
    let fits = to_z-of_z c.ranges.value in
    let opened : IsOpen c.args.value c.args.store.now.doms c.args.term = rw fits at (c.is_open.ensures.unsettled c.if-not-is_open.false) in
    rw c.in-With.is (chosen_correct c.keep_only.result With c.args.value c.args.term c.args.store.now c.keep_only.new.store opened c.keep_only.ensures.err (rw fits at c.keep_only.ensures.change) c.keep_only.ensures.shrinks)

pub returns-in-With-clause-outcome : goal.returns-in-With-clause-outcome
returns-in-With-clause-outcome c =
    let fits = to_z-of_z c.ranges.value in
    let r = c.args.store.now in
    let t = c.keep_only.new.store in
    let opened : IsOpen c.args.value r.doms c.args.term = rw fits at (c.is_open.ensures.unsettled c.if-not-is_open.false) in
    rw c.in-With.is
    (IfOk-weaker c.keep_only.result (λ change. IsTermChange change c.args.term (IsChosen With c.args.value) r t) (λ change. IsOutcome change (λ a. Goes With c.args.value r.doms a c.args.term) r t)
    (λ change h. chosen_outcome change With c.args.value c.args.term r t c.requires opened h) (rw fits at c.keep_only.ensures.change))

pub returns-in-With-clause-settled : goal.returns-in-With-clause-settled
returns-in-With-clause-settled c =
    let fits = to_z-of_z c.ranges.value in
    let r = c.args.store.now in
    let t = c.keep_only.new.store in
    let opened : IsOpen c.args.value r.doms c.args.term = rw fits at (c.is_open.ensures.unsettled c.if-not-is_open.false) in
    IfOk-weaker c.keep_only.result (λ change. IsTermChange change c.args.term (IsChosen With c.args.value) r t) (λ change. change ≡ Same → IsSettled c.args.value t.doms c.args.term)
    (λ change h. settled_by change With c.args.value c.args.term r t c.requires c.doms.ensures.store.domains opened h) (rw fits at c.keep_only.ensures.change)
