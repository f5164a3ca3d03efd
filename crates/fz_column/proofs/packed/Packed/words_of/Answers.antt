use Rattle.fz_column.proofs.Slices.{part_length}
use Rattle.fz_column.proofs.packed.Packed.words_of.Goals as goal

pub returns-clause-size : goal.returns-clause-size
returns-clause-size c = rw c.deref.ensures.value (part_length c.args.self.now.words.items c.args.numbered.first c.args.self.now.width c.requires)
