-- Which calls of an object in memory fail. Calls are numbered from 1; the numbers end at the greatest that fits 64 bits.
use Rattle.std.specs.Prelude.{◌≡◌, ℕ, ◌+◌, ◌≤◌, Contains}
use Rattle.fz_io.specs.Outside.{one_more}
use Rattle.fz_io.specs.declared.calls.Calls.{Calls}

-- the number of the next call
abbrev pub next_call : Calls → ℕ
next_call c = one_more c.made

-- the next call is listed as one that fails
abbrev pub FailsNext : Calls → Type 0
FailsNext c = Contains c.fails.items (next_call c)

-- one more call was made, at most one more failed, and the same numbers are listed
pub record Counts (before after : Calls) : Type 0 where
  pub made : after.made ≡ next_call before
  pub fails : after.fails ≡ before.fails
  pub faults : after.faults ≤ before.faults + 1
