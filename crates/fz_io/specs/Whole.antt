-- What reading a whole text comes to.
use Rattle.std.specs.Prelude.{◌≡◌, ℕ, ◌+◌, ◌<◌, ◌≤◌, Option, None, Some, IfSome, IfNone, List, [], length, take}
use Rattle.fz_io.specs.declared.whole.Whole.{Whole}
use Rattle.fz_io.specs.declared.whole.Whole.TheVariants.{Bytes, TooLong, Failed}
use Rattle.fz_io.specs.Outside.{without}

-- the bytes are all that were left, no more than the limit, and none is left after
pub record AllRead (limit : ℕ) (got : List ℕ) (left after : Option (List ℕ)) : Type 0 where
  pub within : length got ≤ limit
  pub all : IfSome left (λ bytes. got ≡ bytes)
  pub none : IfSome left (λ bytes. after ≡ Some [])
  pub untold : IfNone left (after ≡ None)

-- more than the limit were left: the bytes are the first of them, one more than the limit, and the others are left
pub record FrontRead (limit : ℕ) (got : List ℕ) (left after : Option (List ℕ)) : Type 0 where
  pub one_more : length got ≡ limit + 1
  pub more : IfSome left (λ bytes. limit < length bytes)
  pub front : IfSome left (λ bytes. got ≡ take (limit + 1) bytes)
  pub rest : after ≡ without left (limit + 1)

-- of what was left the first bytes are gone, no more than one beyond the limit
abbrev pub LeavesRest : ℕ → Option (List ℕ) → Option (List ℕ) → Type 0
LeavesRest limit left after = (k : ℕ) × (k ≤ limit + 1) × (after ≡ without left k)

-- what each answer says of the bytes left before and after
abbrev pub IsWhole : ℕ → Option (List ℕ) → Option (List ℕ) → Whole → Type 0
IsWhole limit left after (Bytes got) = AllRead limit got.items left after
IsWhole limit left after (TooLong got) = FrontRead limit got.items left after
IsWhole limit left after Failed = LeavesRest limit left after

-- the answer is Failed exactly where the count of faults rose
abbrev pub HasReadCause : ℕ → ℕ → Whole → Type 0
HasReadCause before after (Bytes got) = after ≡ before
HasReadCause before after (TooLong got) = after ≡ before
HasReadCause before after Failed = before < after
