use Rattle.std.proofs.Common.{◌≡◌, length}
use Rattle.fz_join.specs.Checking.{Knows}
use Rattle.fz_join.specs.Machine.{read_text}
use Rattle.fz_join.specs.Tallies.{IsAppended, reading_of}
use Rattle.fz_join.proofs.reader.Reader.read.Given as goal

-- what is left, read on, makes the whole piece
abbrev pub invariant-lines : goal.invariant-lines
invariant-lines l = (read_text l.model l.all (reading_of l.self) l.left ≡ read_text l.model l.all (reading_of l.fn.self) l.piece)
    × IsAppended l.fn.self.printed.bytes l.self.printed.bytes l.fn.text.items l.text.items
    × Knows l.model l.self

abbrev pub decreases-lines : goal.decreases-lines
decreases-lines l = length l.left
