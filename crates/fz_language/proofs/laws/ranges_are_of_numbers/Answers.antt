use Rattle.fz_language.proofs.SetProofs.{ranges_rise, ranges_hold}
use Rattle.fz_language.proofs.laws.ranges_are_of_numbers.Goals as goal

pub returns : goal.returns
returns c = λ xs. (ranges_rise xs, ranges_hold xs)
