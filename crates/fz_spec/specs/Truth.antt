-- What constraints say of numbers (MiniZinc Handbook, "FlatZinc builtins"). Numbers are whole and have no bound, Booleans are 0 and 1.
use Rattle.std.specs.Prelude.{◌≡◌, ◌≢◌, ◌↔◌, ◌⊎◌, Bool, ℕ, ◌+◌, ◌*◌, ◌%◌, ◌<◌, ℤ, pos, nat_abs, ◌≤ℤ◌, ◌<ℤ◌, ◌+ℤ◌, ◌-ℤ◌, ◌*ℤ◌, int_div, int_le, int_lt, Some, List, [], ◌∷◌, length, slice_get, slice_range, count_by, cond}
use Rattle.std.specs.Ordering.{int_eq}
use Rattle.std.specs.List.{AllByRecursion}
use Rattle.fz_sets.specs.Sets.{IsInSet}
use Rattle.fz_spec.specs.declared.shape.Relation.{Relation}
use Rattle.fz_spec.specs.declared.shape.Relation.TheVariants.{Equal, NotEqual, AtMost, Below}
use Rattle.fz_spec.specs.declared.shape.Operation.{Operation}
use Rattle.fz_spec.specs.declared.shape.Operation.TheVariants.{Plus, Times, Quotient, Remainder, Abs, Min, Max}

abbrev pub SomeByRecursion : {X : Type 0} → (X → Type 0) → List X → Type 0
SomeByRecursion P [] = ⊥
SomeByRecursion P (x ∷ xs) = P x ⊎ SomeByRecursion P xs

abbrev pub IsOne : ℤ → Type 0
IsOne x = x ≡ pos 1

abbrev pub IsZero : ℤ → Type 0
IsZero x = x ≡ pos 0

-- r is 1 exactly where this holds
abbrev pub IsReified : Type 0 → ℤ → Type 0
IsReified P r = IsOne r ↔ P

-- two numbers are so related
abbrev pub Relates : Relation → ℤ → ℤ → Type 0
Relates Equal x y = x ≡ y
Relates NotEqual x y = x ≢ y
Relates AtMost x y = x ≤ℤ y
Relates Below x y = x <ℤ y

-- the sum of the products of the numbers, one by one
abbrev pub weighted_sum : List ℤ → List ℤ → ℤ
weighted_sum [] ys = pos 0
weighted_sum (x ∷ xs) [] = pos 0
weighted_sum (x ∷ xs) (y ∷ ys) = (x *ℤ y) +ℤ weighted_sum xs ys

-- among the numbers, and none is below it, or above it
abbrev pub IsLeastOf : ℤ → List ℤ → Type 0
IsLeastOf m xs = SomeByRecursion (λ x. x ≡ m) xs × AllByRecursion (λ x. m ≤ℤ x) xs

abbrev pub IsGreatestOf : ℤ → List ℤ → Type 0
IsGreatestOf m xs = SomeByRecursion (λ x. x ≡ m) xs × AllByRecursion (λ x. x ≤ℤ m) xs

-- the size of a number
abbrev pub size_of : ℤ → ℤ
size_of x = pos (nat_abs x)

-- what a quotient leaves that is truncated towards zero
abbrev pub remainder : ℤ → ℤ → ℤ
remainder x y = x -ℤ (int_div x y *ℤ y)

-- z is what the operation makes of these; of another count of numbers it makes none
abbrev pub IsResult : Operation → List ℤ → ℤ → Type 0
IsResult Plus (x ∷ y ∷ []) z = (x +ℤ y) ≡ z
IsResult Times (x ∷ y ∷ []) z = (x *ℤ y) ≡ z
IsResult Quotient (x ∷ y ∷ []) z = (y ≢ pos 0) × (int_div x y ≡ z)
IsResult Remainder (x ∷ y ∷ []) z = (y ≢ pos 0) × (remainder x y ≡ z)
IsResult Abs (x ∷ []) z = z ≡ size_of x
IsResult Min xs z = IsLeastOf z xs
IsResult Max xs z = IsGreatestOf z xs
IsResult operation xs z = ⊥

-- c stands in the list at the place k, from 1
abbrev pub IsElement : ℤ → List ℤ → ℤ → Type 0
IsElement k xs c = (i : ℕ) × (k ≡ pos (i + 1)) × (slice_get xs i ≡ Some c)

-- no two are equal
abbrev pub AreDifferent : List ℤ → Type 0
AreDifferent [] = Unit {0}
AreDifferent (x ∷ xs) = AllByRecursion (λ y. x ≢ y) xs × AreDifferent xs

abbrev pub is_one : ℤ → Bool
is_one x = int_eq x (pos 1)

-- an odd number of them are 1
abbrev pub IsOdd : List ℤ → Type 0
IsOdd xs = count_by is_one xs % 2 ≡ 1

-- one of the rows of a table that is cut into rows of this length
abbrev pub IsRowOf : List ℤ → List ℤ → Type 0
IsRowOf xs table = (0 < length xs) × ((i : ℕ) × (slice_range table (i * length xs) (i * length xs + length xs) ≡ xs))

-- a task: when it starts, how long it lasts, and how much it uses
pub record Task : Type 0 where
  pub start : ℤ
  pub duration : ℤ
  pub usage : ℤ

-- the tasks of three lists, one by one
abbrev pub tasks_of : List ℤ → List ℤ → List ℤ → List Task
tasks_of (s ∷ ss) (d ∷ ds) (u ∷ us) = record { start = s; duration = d; usage = u } ∷ tasks_of ss ds us
tasks_of starts durations usages = []

-- what a task uses at a time
abbrev pub usage_at : ℤ → Task → ℤ
usage_at time task = cond (int_le task.start time) (cond (int_lt time (task.start +ℤ task.duration)) task.usage (pos 0)) (pos 0)

-- what all tasks use at a time
abbrev pub load_at : ℤ → List Task → ℤ
load_at time [] = pos 0
load_at time (task ∷ tasks) = usage_at time task +ℤ load_at time tasks

abbrev pub IsTask : Task → Type 0
IsTask task = (pos 0 ≤ℤ task.duration) × (pos 0 ≤ℤ task.usage)

-- nothing is negative, and where a task that lasts starts the load is at most the bound
abbrev pub IsCumulative : List Task → ℤ → Type 0
IsCumulative tasks bound = (pos 0 ≤ℤ bound) × AllByRecursion IsTask tasks
    × AllByRecursion (λ (task : Task). pos 0 <ℤ task.duration → load_at task.start tasks ≤ℤ bound) tasks

-- An automaton: how many states and symbols it has, the next state for each state and symbol in order, where it starts, and where it
-- accepts. States and symbols count from 1.
pub record Automaton : Type 0 where
  pub states : ℤ
  pub symbols : ℤ
  pub next : List ℤ
  pub start : ℤ
  pub accepting : List (ℤ × ℤ)

abbrev pub IsState : Automaton → ℤ → Type 0
IsState automaton state = (pos 1 ≤ℤ state) × (state ≤ℤ automaton.states)

abbrev pub IsSymbol : Automaton → ℤ → Type 0
IsSymbol automaton symbol = (pos 1 ≤ℤ symbol) × (symbol ≤ℤ automaton.symbols)

-- where the next state stands, and that from a state a symbol goes to this one
abbrev pub next_place : Automaton → ℤ → ℤ → ℤ
next_place automaton from symbol = ((from -ℤ pos 1) *ℤ automaton.symbols) +ℤ symbol

abbrev pub IsStep : Automaton → ℤ → ℤ → ℤ → Type 0
IsStep automaton from symbol to = IsSymbol automaton symbol × IsElement (next_place automaton from symbol) automaton.next to

-- A run over numbers: a state before each of them and one behind the last, and each number is a step from one state to the next. It ends
-- where the automaton accepts.
abbrev pub IsRun : Automaton → List ℤ → List ℤ → Type 0
IsRun automaton (last ∷ []) [] = IsState automaton last × IsInSet automaton.accepting last
IsRun automaton (from ∷ to ∷ states) (x ∷ xs) = IsState automaton from × IsStep automaton from x to × IsRun automaton (to ∷ states) xs
IsRun automaton states xs = ⊥

-- there is a run from a state, and from the start
abbrev pub RunsFrom : Automaton → ℤ → List ℤ → Type 0
RunsFrom automaton from xs = (states : List ℤ) × IsRun automaton (from ∷ states) xs

abbrev pub IsAccepted : Automaton → List ℤ → Type 0
IsAccepted automaton xs = RunsFrom automaton automaton.start xs

-- how many of the numbers are this one
abbrev pub count_of : ℤ → List ℤ → ℕ
count_of value xs = count_by (λ x. int_eq x value) xs

-- as many counts as the cover has values, each the number of places that have the value
abbrev pub AreCounts : List ℤ → List ℤ → List ℤ → Type 0
AreCounts xs [] [] = Unit {0}
AreCounts xs (value ∷ cover) (count ∷ counts) = (count ≡ pos (count_of value xs)) × AreCounts xs cover counts
AreCounts xs cover counts = ⊥

-- at each number of the first list, as a place of the second, stands its own place
abbrev pub PointBack : List ℤ → List ℤ → Type 0
PointBack fs gs = (i : ℕ) (f : ℤ) → slice_get fs i ≡ Some f → IsElement f gs (pos (i + 1))

-- each list is the inverse of the other
pub record AreInverse (fs gs : List ℤ) : Type 0 where
  pub there : PointBack fs gs
  pub back : PointBack gs fs
