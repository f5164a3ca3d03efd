use Rattle.fz_dom.specs.declared.change.Change.TheVariants.{Same, Changed, Wiped}
use Rattle.fz_prop.specs.Stores.{IsChangeAt}
use Rattle.fz_space.specs.Alive.{Compares}
use Rattle.fz_space.proofs.Deciding.{decided_changed, decided_same, decided_wiped}
use Rattle.fz_space.proofs.commit.decide_there.Goals as goal

pub returns-in-Wiped-clause-decided : goal.returns-in-Wiped-clause-decided
returns-in-Wiped-clause-decided c =
    let d = c.args.decision in
    let change : IsChangeAt Wiped d.variable (Compares d.comparison d.value) c.args.store.now c.keep-change.new.store = rw c.in-Wiped.is at c.in_ok-change.ensures.change in
    decided_wiped d c.args.store.now c.keep-change.new.store c.requires change

pub returns-in-Same-clause-decided : goal.returns-in-Same-clause-decided
returns-in-Same-clause-decided c =
    let d = c.args.decision in
    let change : IsChangeAt Same d.variable (Compares d.comparison d.value) c.args.store.now c.keep-change.new.store = rw c.in-Same.is at c.in_ok-change.ensures.change in
    decided_same d c.args.store.now c.keep-change.new.store c.requires change

pub returns-in-Changed-clause-decided : goal.returns-in-Changed-clause-decided
returns-in-Changed-clause-decided c =
    let d = c.args.decision in
    let change : IsChangeAt Changed d.variable (Compares d.comparison d.value) c.args.store.now c.keep-change.new.store = rw c.in-Changed.is at c.in_ok-change.ensures.change in
    decided_changed d c.args.store.now c.keep-change.new.store c.requires c.keep-change.ensures.shrinks change
