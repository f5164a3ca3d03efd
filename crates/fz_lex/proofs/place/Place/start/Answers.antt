use Rattle.std.proofs.Common.{refl}
use Rattle.fz_lex.proofs.place.Place.start.Goals as goal

pub returns : goal.returns
returns c = record { line_is = refl; column_is = refl }
