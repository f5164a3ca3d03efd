use Rattle.std.proofs.Math.Facts.{to_z-of_z}
use Rattle.fz_cumulative.proofs.Narrowing.{narrowed_from}
use Rattle.fz_cumulative.proofs.narrow.raise.Goals as goal

pub returns-clause-answer : goal.returns-clause-answer
returns-clause-answer c = rw c.changed.ensures
    (narrowed_from c.in_ok-keep_from.field-0 c.args.term c.args.value c.args.store.now c.keep_from.new.store c.requires.inside c.doms.ensures.store.domains c.requires.moves
    (rw (to_z-of_z c.ranges.value) at c.in_ok-keep_from.ensures.change))
