use Rattle.fz_language.specs.Numerals.{float_places}
use Rattle.fz_syntax.specs.Trees.{number_of}
use Rattle.fz_syntax.proofs.Firsts.{found, none_more, none_found}
use Rattle.fz_syntax.proofs.floats.first_float_of_numbers.Goals as goal

pub returns-in-Some : goal.returns-in-Some
returns-in-Some c = found float_places number_of c.args.numbers.now c.loop-number.number-index _ c.in-Some.at c.loop-number-test.true c.in-Some.ensures c.loop-number.invariant

pub loop-number-preserved : goal.loop-number-preserved
loop-number-preserved c = none_more float_places number_of c.args.numbers.now c.loop-number.number-index _ c.loop-number-test.true c.in_default.ensures c.loop-number.invariant

pub returns : goal.returns
returns c = none_found float_places number_of c.args.numbers.now c.loop-number.number-index c.loop-number-test.false c.loop-number.invariant
