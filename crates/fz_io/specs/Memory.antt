-- What a source and a sink in memory tell.
use Rattle.std.specs.Prelude.{ℕ, Bool, min, max, ◌≤◌, List, length, Option, Some}
use Rattle.std.proofs.Common.{arith}
use Rattle.fz_io.specs.declared.calls.Calls.{Calls}
use Rattle.fz_io.specs.declared.memory_source.MemSource.{MemSource}
use Rattle.fz_io.specs.declared.memory_sink.MemSink.{MemSink}
use Rattle.fz_io.specs.Texts.{text_of, bytes_left, is_chosen}

-- the text of each name, the first where two have it
abbrev pub source_texts : MemSource → List ℕ → Option (List ℕ)
source_texts s = text_of s.texts.all.items

-- the bytes left of the selected text
abbrev pub source_left : MemSource → Option (List ℕ)
source_left s = Some (bytes_left s.texts)

-- whether a text of this name is selected
abbrev pub source_selected : MemSource → List ℕ → Bool
source_selected s = is_chosen s.texts

-- how often `select` was called
abbrev pub source_selections : MemSource → ℕ
source_selections s = s.selections

-- how often a call of the source failed
abbrev pub source_faults : MemSource → ℕ
source_faults s = s.calls.faults

-- the calls that were made of the source, and those that fail
abbrev pub source_calls : MemSource → Calls
source_calls s = s.calls

-- the most bytes that a read gives
abbrev pub source_step : MemSource → ℕ
source_step s = max 1 s.step

-- the bytes that the sink took
abbrev pub sink_taken : MemSink → Option (List ℕ)
sink_taken s = Some s.bytes.items

-- how many of them are flushed
abbrev pub sink_flushed : MemSink → ℕ
sink_flushed s = min s.flushed (length s.bytes.items)

-- how often a call of the sink failed
abbrev pub sink_faults : MemSink → ℕ
sink_faults s = s.calls.faults

-- the calls that were made of the sink, and those that fail
abbrev pub sink_calls : MemSink → Calls
sink_calls s = s.calls

-- the most bytes that a write takes
abbrev pub sink_step : MemSink → ℕ
sink_step s = max 1 s.step

pub min-le : (a b : ℕ) → min a b ≤ b
min-le a b = omega arith
