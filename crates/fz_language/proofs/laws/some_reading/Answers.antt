use Rattle.fz_language.proofs.SomeReading as laws
use Rattle.fz_language.proofs.laws.some_reading.Goals as goal

pub returns : goal.returns
returns c = laws.some_reading
