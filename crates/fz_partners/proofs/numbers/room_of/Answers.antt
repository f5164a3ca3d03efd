use Rattle.fz_prop.specs.Stores.{FitsTerm}
use Rattle.fz_prop.proofs.Grown.{term_limits}
use Rattle.fz_partners.proofs.numbers.room_of.Goals as goal

pub returns-in-None-clause-places : goal.returns-in-None-clause-places
returns-in-None-clause-places c = λ x member.
    let fits : FitsTerm c.args.term = rw (c.in-Var.is) tt in
    term_limits c.args.store.now.doms c.args.term x c.requires c.doms.ensures.store.domains fits member

pub returns-in-Some-clause-none : goal.returns-in-Some-clause-none
returns-in-Some-clause-none c = λ x bit. c.none.ensures.numbers x (rw (c.none.ensures.base) at bit)

pub returns-in-Num-clause-none : goal.returns-in-Num-clause-none
returns-in-Num-clause-none c = λ x bit. c.none-in-Num.ensures.numbers x (rw (c.none-in-Num.ensures.base) at bit)
