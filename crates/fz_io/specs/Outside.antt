-- What a source gives and what a sink takes.
use Rattle.std.specs.Prelude.{◌≡◌, ◌↔◌, ℕ, ◌+◌, ◌-◌, ◌^◌, ◌<◌, ◌≤◌, min, Option, Some, None, IfSome, Result, MatchResult, List, [], ◌++◌, length, take, drop, option_map, refl}
use Rattle.std.proofs.Common.{ap, append_assoc, append-nil, arith, length-append}

-- A call fails exactly where its object's count of faults rose in it.
abbrev pub HasCause : {T E : Type 0} → ℕ → ℕ → Result T E → Type 0
HasCause before after result = MatchResult result (λ _. after ≡ before) (λ _. before < after)

-- the count of one call more; it stands still at the greatest number that fits 64 bits
abbrev pub one_more : ℕ → ℕ
one_more n = min (n + 1) (2 ^ 64 - 1)

-- n bytes moved from the front of what was left into the front of the buffer; none exactly where none was left
pub record Moves (n : ℕ) (left : List ℕ) (buffer : List ℕ) (after : Option (List ℕ)) : Type 0 where
  pub within : n ≤ length left
  pub bytes : take n buffer ≡ take n left
  pub rest : after ≡ Some (drop n left)
  pub end : (n ≡ 0) ↔ (length left ≡ 0)

-- What a read of n bytes does. Where the bytes left aren't told, they stay untold.
abbrev pub Reads : ℕ → Option (List ℕ) → Option (List ℕ) → List ℕ → Type 0
Reads n None after buffer = after ≡ None
Reads n (Some left) after buffer = Moves n left buffer after

-- the bytes taken, with these after them
abbrev pub with_more : Option (List ℕ) → List ℕ → Option (List ℕ)
with_more taken more = option_map (λ t. t ++ more) taken

-- the bytes left, without the first k
abbrev pub without : Option (List ℕ) → ℕ → Option (List ℕ)
without left k = option_map (λ t. drop k t) left

-- no more bytes are flushed than were taken
abbrev pub FlushedWithin : Option (List ℕ) → ℕ → Type 0
FlushedWithin taken flushed = IfSome taken (λ t. flushed ≤ length t)

-- every byte that was taken is flushed
abbrev pub AllFlushed : Option (List ℕ) → ℕ → Type 0
AllFlushed taken flushed = IfSome taken (λ t. flushed ≡ length t)

-- two pieces one after the other are one piece
pub with_more-with_more : (taken : Option (List ℕ)) (a b : List ℕ) → with_more (with_more taken a) b ≡ with_more taken (a ++ b)
with_more-with_more None a b = refl
with_more-with_more (Some t) a b = ap Some (append_assoc t a b)

-- no bytes more
pub with_more-none : (taken : Option (List ℕ)) → with_more taken [] ≡ taken
with_more-none None = refl
with_more-none (Some t) = ap Some (append-nil t)

-- what is flushed is within what was taken, also with bytes after it
pub flushed_before : (taken : Option (List ℕ)) (n : ℕ) (more : List ℕ) → FlushedWithin taken n → FlushedWithin (with_more taken more) n
flushed_before None n more h = tt
flushed_before (Some t) n more h = omega (arith, length-append t more)
