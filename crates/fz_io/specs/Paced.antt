-- What a sink with a clock has taken: what the other sink took.
use Rattle.fz_io.specs.declared.paced.PacedSink.{PacedSink}

-- the other sink
abbrev pub paced_inner : {C S : Type 0} → PacedSink C S → S
paced_inner s = s.inner
