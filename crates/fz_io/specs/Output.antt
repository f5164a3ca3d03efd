-- What a sink over a writer of std holds.
use Rattle.std.specs.Prelude.{ℕ, Option, List}
use Rattle.fz_io.specs.declared.output.OutSink.{OutSink}

-- the bytes that the writer holds, where it tells them
abbrev pub out_bytes : {W : Type 0} → (W → Option (List ℕ)) → OutSink W → Option (List ℕ)
out_bytes contents s = contents s.writer

-- how often a call of the sink failed
abbrev pub out_faults : {W : Type 0} → OutSink W → ℕ
out_faults s = s.faults
