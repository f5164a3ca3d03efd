use Rattle.fz_ranges.proofs.ranges.or_nothing.Goals as goal

pub returns-then-is_some_empty : goal.returns-then-is_some_empty
returns-then-is_some_empty c = λ u w v is. absurd (c.is_some_empty.ensures.some c.if-is_some_empty.true u w v is)
