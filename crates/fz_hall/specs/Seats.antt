-- Places that have a number of their own each.
use Rattle.std.specs.Prelude.{◌≡◌, true, ℕ, ℤ, pos, ◌≤ℤ◌, ◌<ℤ◌, List, [], ◌∷◌, count_by, slice_get, Some}
use Rattle.std.specs.List.{AllByRecursion}
use Rattle.fz_strength.specs.Differences.{interval_size, is_between}
use Rattle.fz_hall.specs.declared.interval.Interval.{Interval}
use Rattle.fz_hall.specs.declared.seats.Seat.{Seat}
use Rattle.fz_hall.specs.declared.tops.Top.{Top}
use Rattle.fz_hall.specs.Lefts.{is_within}

-- ---- what is to be shown

-- No more intervals lie within one than it has numbers; where as many do, no other has its least number in it.
pub record IsClearBelow (ls : List Interval) (low high : ℤ) : Type 0 where
  pub few : pos (count_by (is_within low high) ls) ≤ℤ interval_size low high
  pub clear : pos (count_by (is_within low high) ls) ≡ interval_size low high → AllByRecursion (λ l. is_between low high l.low ≡ true → is_within low high l ≡ true) ls

abbrev pub AreClearBelow : List Interval → Type 0
AreClearBelow ls = (low high : ℤ) → low ≤ℤ high → IsClearBelow ls low high

-- ---- by numbers of their own

abbrev pub left : Seat → Interval
left s = s.left

-- the number is left of the place
pub record IsOwn (s : Seat) : Type 0 where
  pub from : s.left.low ≤ℤ s.number
  pub to : s.number ≤ℤ s.left.high

-- so it is of each, and the numbers fall
abbrev pub AreSeated : List Seat → Type 0
AreSeated [] = Unit {0}
AreSeated (s ∷ ss) = IsOwn s × AllByRecursion (λ r. r.number <ℤ s.number) ss × AreSeated ss

-- as many are confined to an interval as it has numbers
abbrev pub IsFilled : List Seat → ℤ → ℤ → Type 0
IsFilled ss low high = pos (count_by (λ s. is_within low high s.left) ss) ≡ interval_size low high

-- a full interval with the number of a place reaches to this one
abbrev pub IsTop : List Seat → Seat → ℤ → Type 0
IsTop ss s top = (low high : ℤ) → low ≤ℤ high → IsFilled ss low high → is_between low high s.number ≡ true → top ≤ℤ high

abbrev pub AreTops : List Seat → List Top → Type 0
AreTops ss ts = (i : ℕ) (s : Seat) (t : Top) → slice_get ss i ≡ Some s → slice_get ts i ≡ Some t → IsTop ss s t.number

-- a place that has its least number in a full interval is confined to it
abbrev pub IsPassed : List Seat → Seat → Type 0
IsPassed ss s = (low high : ℤ) → low ≤ℤ high → IsFilled ss low high → is_between low high s.left.low ≡ true → is_within low high s.left ≡ true

abbrev pub ArePassed : List Seat → Type 0
ArePassed ss = AllByRecursion (IsPassed ss) ss

-- what is read where there is nothing
abbrev pub nothing : Interval
nothing = record { low = pos 0; high = pos 0 }

abbrev pub nobody : Seat
nobody = record { left = nothing; number = pos 0 }
