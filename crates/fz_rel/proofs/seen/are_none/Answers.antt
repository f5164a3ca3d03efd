use Rattle.fz_strength.specs.Domains.{term_set}
use Rattle.fz_rel.proofs.Shown.{none_most, none_below}
use Rattle.fz_rel.proofs.seen.are_none.Goals as goal

pub returns-in-AtMost-clause-none : goal.returns-in-AtMost-clause-none
returns-in-AtMost-clause-none c = λ is.
    rw c.in-AtMost.is (none_most (term_set c.args.store.now.doms c.args.x) (term_set c.args.store.now.doms c.args.y) (c.are_all-in-AtMost.ensures.all is))

pub returns-in-Below-clause-none : goal.returns-in-Below-clause-none
returns-in-Below-clause-none c = λ is.
    rw c.in-Below.is (none_below (term_set c.args.store.now.doms c.args.x) (term_set c.args.store.now.doms c.args.y) (c.are_all-in-Below.ensures.all is))
