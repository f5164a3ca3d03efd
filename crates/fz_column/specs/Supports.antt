-- What stands in the columns of a table: numbers with rows that have them there.
use Rattle.std.specs.Prelude.{◌≡◌, ◌↔◌, ◌⊎◌, ℕ, ◌<◌, ◌≤◌, ◌+◌, ◌*◌, ◌/◌, ℤ, ◌≤ℤ◌, ◌<ℤ◌, List, length, slice_get, Some}
use Rattle.fz_sets.specs.Sets.{IsInSet}
use Rattle.fz_column.specs.declared.supports.Support.{Support}
use Rattle.fz_bits.specs.Members.{HasMember, IsOneOf, words_for}

-- a support is in a column
abbrev pub IsIn : Support → List Support → Type 0
IsIn s column = (k : ℕ) × (slice_get column k ≡ Some s)

-- a number has a row in a column
abbrev pub HasNumber : List Support → ℤ → ℕ → Type 0
HasNumber column n i = (s : Support) × IsIn s column × (s.number ≡ n) × IsOneOf s.rows i

-- each of its words is one of that many
abbrev pub AreSized : List Support → ℕ → Type 0
AreSized column size = (s : Support) → IsIn s column → s.rows.word < size

-- a row of the set has a number in a column
abbrev pub StandsIn : List Support → List ℕ → ℤ → Type 0
StandsIn column rows n = (i : ℕ) × HasNumber column n i × HasMember rows i

-- a row has a number in a column that is left
abbrev pub IsLeftIn : List Support → List (ℤ × ℤ) → ℕ → Type 0
IsLeftIn column d i = (n : ℤ) × HasNumber column n i × IsInSet d n

-- ---- columns that are made of numbers and rows

-- what is read of each doesn't fall along a list
abbrev pub IsRising : {X : Type 0} → (X → ℤ) → List X → Type 0
IsRising {X} number xs = (i j : ℕ) (x y : X) → i ≤ j → slice_get xs i ≡ Some x → slice_get xs j ≡ Some y → number x ≤ℤ number y

-- the numbers of a column don't fall
abbrev pub AreInOrder : List Support → Type 0
AreInOrder column = IsRising (λ s. s.number) column

-- a number and a row are in a list
abbrev pub IsPlaced : List (ℤ × ℕ) → ℤ → ℕ → Type 0
IsPlaced places n i = (k : ℕ) × (slice_get places k ≡ Some (n, i))

-- a column has a row more, at a number that is no lower than those before it
pub record IsAdded (old new : List Support) (number : ℤ) (row : ℕ) : Type 0 where
  pub order : AreInOrder new
  pub bound : (s : Support) → IsIn s new → s.number ≤ℤ number
  pub rows : (n : ℤ) (i : ℕ) → HasNumber new n i ↔ (HasNumber old n i ⊎ ((n ≡ number) × (i ≡ row)))
  pub words : (s : Support) → IsIn s new → ((t : Support) × IsIn t old × (s.rows.word ≡ t.rows.word)) ⊎ (s.rows.word ≡ row / 64)

-- ---- columns of a table

-- row i of a table, each of this width, has the number at a place
abbrev pub IsNumberAt : List ℤ → ℕ → ℕ → ℕ → ℤ → Type 0
IsNumberAt table width place i n = (i < length table / width) × (slice_get table (i * width + place) ≡ Some n)

-- The column at a place of the rows of a table: it has each row at the row's number there.
pub record IsColumnOf (table : List ℤ) (width place : ℕ) (column : List Support) : Type 0 where
  pub sized : AreSized column (words_for (length table / width))
  pub rows : (n : ℤ) (i : ℕ) → HasNumber column n i ↔ IsNumberAt table width place i n

-- the columns of a table, one for each place
pub record AreColumnsOf (table : List ℤ) (width : ℕ) (columns : List (List Support)) : Type 0 where
  pub size : length columns ≡ width
  pub each : (j : ℕ) (column : List Support) → slice_get columns j ≡ Some column → IsColumnOf table width j column

-- ---- places in a column

-- up to a place that comes next all have the number of the support at another
pub record IsNext (column : List Support) (place next : ℕ) : Type 0 where
  pub further : place < next
  pub inside : next ≤ length column
  pub same : (j : ℕ) (s t : Support) → slice_get column place ≡ Some s → slice_get column j ≡ Some t → place ≤ j → j < next → t.number ≡ s.number

-- for supports, as far as they are listed, a place that comes next
abbrev pub AreEnds : List Support → List ℕ → Type 0
AreEnds column ends = (k end : ℕ) → slice_get ends k ≡ Some end → IsNext column k end

-- from a place on, the first support whose number is at or above a value
pub record IsFirst (column : List Support) (place : ℕ) (value : ℤ) (first : ℕ) : Type 0 where
  pub from : place ≤ first
  pub to : first ≤ length column
  pub below : (k : ℕ) (s : Support) → place ≤ k → k < first → slice_get column k ≡ Some s → s.number <ℤ value
  pub above : (k : ℕ) (s : Support) → first ≤ k → slice_get column k ≡ Some s → value ≤ℤ s.number

-- from a place on, the end of the supports whose numbers are at or below a value
pub record IsEnd (column : List Support) (place : ℕ) (value : ℤ) (end : ℕ) : Type 0 where
  pub from : place ≤ end
  pub to : end ≤ length column
  pub within : (k : ℕ) (s : Support) → place ≤ k → k < end → slice_get column k ≡ Some s → s.number ≤ℤ value
  pub beyond : (k : ℕ) (s : Support) → end ≤ k → slice_get column k ≡ Some s → value <ℤ s.number

-- a support from a place up to another, not with it, has the row
abbrev pub HasOneBetween : List Support → ℕ → ℕ → ℕ → Type 0
HasOneBetween column p q i = (k : ℕ) × (s : Support) × (p ≤ k) × (k < q) × (slice_get column k ≡ Some s) × IsOneOf s.rows i

-- a row of the set has a number in a support from a place up to another
abbrev pub StandsBetween : List Support → List ℕ → ℕ → ℕ → ℤ → Type 0
StandsBetween column rows p q n = (k : ℕ) × (s : Support) × (p ≤ k) × (k < q) × (slice_get column k ≡ Some s) × (s.number ≡ n) × (i : ℕ) × HasMember rows i × IsOneOf s.rows i
