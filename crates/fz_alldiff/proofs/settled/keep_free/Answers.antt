use Rattle.std.proofs.Common.{◌≡◌, ◌≢◌, pos, take, get_or, rules, to_z, of_z, w32}
use Rattle.std.proofs.lemmas.List.{take_more}
use Rattle.fz_prop.specs.Stores.{IsTermChange}
use Rattle.fz_alldiff.proofs.Settling.{keeping_none, keeping_more}
use Rattle.fz_alldiff.proofs.settled.keep_free.Goals as goal

pub loop-entry-init : goal.loop-entry-init
loop-entry-init c = keeping_none c.args.term c.args.store.now

pub loop-entry-preserved : goal.loop-entry-preserved
loop-entry-preserved c =
    let es = c.args.entries.now in
    let k = c.loop-entry.entry-index in
    let e = get_or es k (pos 0, 0) in
    let read : to_z w32 (of_z w32 e.0) ≡ e.0 = search rules in
    let change : IsTermChange c.in_ok-remove_from.field-0 c.args.term (λ x. x ≢ e.0) c.loop-entry.store c.remove_from.new.store = rw read at c.in_ok-remove_from.ensures.change in
    rw (take_more es k (pos 0, 0) c.loop-entry-test.true)
    (keeping_more c.in_ok-remove_from.field-0 c.args.term (take k es) e c.args.store.now c.loop-entry.store c.remove_from.new.store change c.in_default.not-Wiped c.in_ok-remove_from.ensures.shrinks c.loop-entry.invariant)
