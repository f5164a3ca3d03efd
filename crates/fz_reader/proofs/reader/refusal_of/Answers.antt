use Rattle.fz_reader.proofs.reader.refusal_of.Goals as goal

pub returns-clause-line : goal.returns-clause-line
returns-clause-line c = c.place_of-place.ensures.line_is

pub returns-clause-column : goal.returns-clause-column
returns-clause-column c = c.place_of-place.ensures.column_is
