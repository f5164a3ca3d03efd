use Rattle.fz_bits.specs.Windows.{IsBit}
use Rattle.fz_dom.specs.declared.change.Change.TheVariants.{Changed}
use Rattle.fz_prop.proofs.TermChanges.{within_kept, fixed_stays}
use Rattle.fz_alldiff.proofs.Filling.{kept_changed}
use Rattle.fz_alldiff.proofs.close.keep_one.Goals as goal

pub returns-in-Changed-clause-kept : goal.returns-in-Changed-clause-kept
returns-in-Changed-clause-kept c =
    kept_changed c.take_last.result c.args.term (λ n. IsBit c.args.free.now.base c.args.free.now.bits n) (λ n. IsBit c.args.free.now.base c.take_last.new.free.bits n)
    c.args.store.now c.keep_window.new.store (rw c.in-Changed.is at c.in_ok-keep_window.ensures.change) c.take_last.ensures.last

pub returns-in-Changed-clause-within : goal.returns-in-Changed-clause-within
returns-in-Changed-clause-within c = λ a within free.
    let before = c.args.free.now in
    let change = rw c.in-Changed.is at c.in_ok-keep_window.ensures.change in
    within_kept Changed c.args.term (λ n. IsBit before.base before.bits n) c.args.store.now c.keep_window.new.store a change c.in_ok-keep_window.ensures.shrinks within
    (free (λ fixed. fixed_stays c.args.term (λ n. IsBit before.base before.bits n) c.args.store.now c.keep_window.new.store fixed.0 fixed.1 change))
