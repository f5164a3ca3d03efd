-- What a sink with a buffer has taken: what the other sink took, and after it what is kept.
use Rattle.std.specs.Prelude.{ℕ, ◌+◌, Bool, Option, List}
use Rattle.fz_io.specs.Outside.{with_more}
use Rattle.fz_io.specs.declared.buffered.BufferedSink.{BufferedSink}

-- the other sink
abbrev pub buffered_inner : {S : Type 0} → BufferedSink S → S
buffered_inner s = s.inner

-- the bytes that are kept, not handed on yet
abbrev pub buffered_kept : {S : Type 0} → BufferedSink S → List ℕ
buffered_kept s = s.buffer

abbrev pub buffered_taken : {S : Type 0} → (S → Option (List ℕ)) → BufferedSink S → Option (List ℕ)
buffered_taken taken s = with_more (taken s.inner) s.buffer

-- how often a call failed: those that the other sink failed, and those that were refused since
abbrev pub buffered_faults : {S : Type 0} → (S → ℕ) → BufferedSink S → ℕ
buffered_faults faults s = faults s.inner + s.refused

-- whether a call of the other sink failed
abbrev pub has_failed : {S : Type 0} → BufferedSink S → Bool
has_failed s = s.has_failed
