use Rattle.std.proofs.Math.Facts.{to_z-of_z}
use Rattle.fz_linear.proofs.relate.relate.Goals as goal

pub keep_equal-requires-clause-law : goal.keep_equal-requires-clause-law
keep_equal-requires-clause-law c = c.requires.law

pub keep_equal-requires-clause-inside : goal.keep_equal-requires-clause-inside
keep_equal-requires-clause-inside c = c.requires.inside

pub keep_apart-requires-clause-law : goal.keep_apart-requires-clause-law
keep_apart-requires-clause-law c = c.requires.law

pub keep_apart-requires-clause-inside : goal.keep_apart-requires-clause-inside
keep_apart-requires-clause-inside c = c.requires.inside

pub keep_apart-requires-clause-fits : goal.keep_apart-requires-clause-fits
keep_apart-requires-clause-fits c = c.requires.fits

pub keep_at_most-requires-clause-law : goal.keep_at_most-requires-clause-law
keep_at_most-requires-clause-law c = c.requires.law

pub keep_at_most-requires-clause-inside : goal.keep_at_most-requires-clause-inside
keep_at_most-requires-clause-inside c = c.requires.inside

pub returns-in-Equal-clause-shrinks : goal.returns-in-Equal-clause-shrinks
returns-in-Equal-clause-shrinks c = c.keep_equal.ensures.shrinks

pub returns-in-Equal-clause-correct : goal.returns-in-Equal-clause-correct
returns-in-Equal-clause-correct c = rw c.in-Equal.is (rw (to_z-of_z c.ranges.number) at c.keep_equal.ensures.correct)

pub returns-in-Equal-clause-answer : goal.returns-in-Equal-clause-answer
returns-in-Equal-clause-answer c = rw c.in-Equal.is (rw (to_z-of_z c.ranges.number) at c.keep_equal.ensures.answer)

pub returns-in-Equal-clause-still : goal.returns-in-Equal-clause-still
returns-in-Equal-clause-still c = c.keep_equal.ensures.still

pub returns-in-NotEqual-clause-shrinks : goal.returns-in-NotEqual-clause-shrinks
returns-in-NotEqual-clause-shrinks c = c.keep_apart.ensures.shrinks

pub returns-in-NotEqual-clause-correct : goal.returns-in-NotEqual-clause-correct
returns-in-NotEqual-clause-correct c = rw c.in-NotEqual.is (rw (to_z-of_z c.ranges.number) at c.keep_apart.ensures.correct)

pub returns-in-NotEqual-clause-answer : goal.returns-in-NotEqual-clause-answer
returns-in-NotEqual-clause-answer c = rw c.in-NotEqual.is (rw (to_z-of_z c.ranges.number) at c.keep_apart.ensures.answer)

pub returns-in-NotEqual-clause-still : goal.returns-in-NotEqual-clause-still
returns-in-NotEqual-clause-still c = c.keep_apart.ensures.still

pub returns-in_default-clause-shrinks : goal.returns-in_default-clause-shrinks
returns-in_default-clause-shrinks c = c.keep_at_most.ensures.shrinks

pub returns-in_default-clause-still : goal.returns-in_default-clause-still
returns-in_default-clause-still c = c.keep_at_most.ensures.still
