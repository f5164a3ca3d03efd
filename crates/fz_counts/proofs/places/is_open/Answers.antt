use Rattle.std.proofs.Math.Facts.{to_z-of_z}
use Rattle.fz_counts.proofs.Counting.{is_open, surely_settled, never_settled}
use Rattle.fz_counts.proofs.places.is_open.Goals as goal

pub returns-then-may_be-clause-unsettled : goal.returns-then-may_be-clause-unsettled
returns-then-may_be-clause-unsettled c = λ other.
    let fits = to_z-of_z c.ranges.value in
    is_open c.may_be.result c.is_surely.result c.args.store.now.doms c.args.value c.args.term (rw fits at c.may_be.ensures) (rw fits at c.is_surely.ensures) c.if-may_be.true other

pub returns-then-may_be-clause-settled : goal.returns-then-may_be-clause-settled
returns-then-may_be-clause-settled c = λ other.
    surely_settled c.is_surely.result c.args.store.now.doms c.args.value c.args.term c.requires c.doms.ensures.store.domains (rw (to_z-of_z c.ranges.value) at c.is_surely.ensures) other

pub returns-else-may_be-clause-settled : goal.returns-else-may_be-clause-settled
returns-else-may_be-clause-settled c = λ gone. never_settled c.may_be.result c.args.store.now.doms c.args.value c.args.term (rw (to_z-of_z c.ranges.value) at c.may_be.ensures) gone
