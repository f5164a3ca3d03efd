use Rattle.fz_language.proofs.WithinProofs.{programs_fit}
use Rattle.fz_reader.proofs.reader.read_program.Goals as goal

pub check-requires : goal.check-requires
check-requires c = programs_fit _ _ _ c.requires.spelt.short c.requires.spelt.lexed c.requires.spelt.spelt
