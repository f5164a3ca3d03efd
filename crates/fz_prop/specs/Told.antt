-- What propagators keep between runs, and what of it agrees with domains.
use Rattle.std.specs.Prelude.{◌≡◌, ◌≢◌, ℕ, zero, suc, ◌<◌, ◌≤◌, ◌+◌, ◌-◌, ◌%◌, ℤ, pos, ◌-ℤ◌, ◌*ℤ◌, ◌<ℤ◌, List, [], ◌∷◌, length, take, drop, count_by, slice_get, slice_index_or, Some}
use Rattle.fz_sets.specs.Sets.{IsInSet}
use Rattle.fz_spec.specs.declared.term.Term.{Term}
use Rattle.fz_spec.specs.Constraints.{term_values}
use Rattle.fz_spec.specs.Truth.{is_one}
use Rattle.fz_strength.specs.declared.literal.Literal.{Literal}
use Rattle.fz_spec.specs.declared.shape.Operation.{Operation}
use Rattle.fz_spec.specs.declared.shape.Operation.TheVariants.{Min, Max}
use Rattle.fz_strength.specs.Domains.{term_set, Within}
use Rattle.fz_strength.specs.Events.{IsOnly}
use Rattle.fz_strength.specs.Clauses.{IsUntrueIn}
use Rattle.fz_strength.specs.Sayings.{Saying, Sum, SumIf, Says, Equals, Odd, Differ}
use Rattle.fz_prop.specs.declared.kept.Kept.{Kept}

abbrev pub nothing : Kept
nothing = record { owner = 0; number = pos 0; front = 0; back = 0 }

-- the same, kept by another propagator
abbrev pub owned : ℕ → Kept → Kept
owned i kept = record { owner = i; number = kept.number; front = kept.front; back = kept.back }

-- That many terms at the front are fixed, and with their factors they add up to a number.
abbrev pub IsToldSum : List ℤ → List Term → ℕ → ℤ → List (List (ℤ × ℤ)) → Type 0
IsToldSum ks ts zero n ds = n ≡ pos 0
IsToldSum [] ts (suc front) n ds = ⊥
IsToldSum (k ∷ ks) [] (suc front) n ds = ⊥
IsToldSum (k ∷ ks) (t ∷ ts) (suc front) n ds = (x : ℤ) × IsOnly (term_set ds t) x × IsToldSum ks ts front (n -ℤ (k *ℤ x)) ds

-- That many items at the front of a list are done; and that many at its back.
abbrev pub AreDoneBelow : {T : Type 0} → (ℕ → T → Type 0) → List T → ℕ → Type 0
AreDoneBelow {T} IsDone items n = (i : ℕ) (item : T) → i < n → slice_get items i ≡ Some item → IsDone i item

abbrev pub AreDoneBehind : {T : Type 0} → (ℕ → T → Type 0) → List T → ℕ → Type 0
AreDoneBehind {T} IsDone items n = (i : ℕ) (item : T) → length items ≤ i + n → slice_get items i ≡ Some item → IsDone i item

pub record AreEndsDone {T : Type 0} (IsDone : ℕ → T → Type 0) (items : List T) (front back : ℕ) : Type 0 where
  pub before : AreDoneBelow IsDone items front
  pub behind : AreDoneBehind IsDone items back

-- Of that many literals at the front none may still get true; and of that many at the back.
abbrev pub AreUntrueBelow : List (List (ℤ × ℤ)) → List Literal → ℕ → Type 0
AreUntrueBelow ds ls n = AreDoneBelow (λ j l. IsUntrueIn ds l) ls n

abbrev pub AreUntrueBehind : List (List (ℤ × ℤ)) → List Literal → ℕ → Type 0
AreUntrueBehind ds ls n = AreDoneBehind (λ j l. IsUntrueIn ds l) ls n

abbrev pub AreEndsUntrue : List Literal → ℕ → ℕ → List (List (ℤ × ℤ)) → Type 0
AreEndsUntrue ls front back ds = AreEndsDone (λ j l. IsUntrueIn ds l) ls front back

-- No other of the terms has a number that the one at this place has.
abbrev pub IsAlone : List Term → List (List (ℤ × ℤ)) → ℕ → Term → Type 0
IsAlone ts ds i t = (j : ℕ) (u : Term) → j ≢ i → slice_get ts j ≡ Some u → (n : ℤ) → IsInSet (term_set ds t) n → IsInSet (term_set ds u) n → ⊥

-- Each number of a term is greater than each of the least of some, or less than each of the greatest: so it isn't that one.
abbrev pub IsBeaten : Operation → List (List (ℤ × ℤ)) → Term → Term → Type 0
IsBeaten Min ds z t = (m n : ℤ) → IsInSet (term_set ds z) m → IsInSet (term_set ds t) n → m <ℤ n
IsBeaten Max ds z t = (m n : ℤ) → IsInSet (term_set ds z) m → IsInSet (term_set ds t) n → n <ℤ m
IsBeaten operation ds z t = ⊥

-- How many of that many terms at the front and at the back are 1 is odd where the number is 1, else even, whatever else is still chosen.
pub record AreEndsOdd (ts : List Term) (front back : ℕ) (number : ℤ) (ds : List (List (ℤ × ℤ))) : Type 0 where
  pub inside : front + back ≤ length ts
  pub odd : (a : List ℤ) → Within ds a → pos ((count_by is_one (term_values a (take front ts)) + count_by is_one (term_values a (drop (length ts - back) ts))) % 2) ≡ number

-- What is kept for what is said agrees with domains: for a sum the fixed terms at its front and their sum; for a clause the literals at
-- both ends of which none may still get true; for different terms those at both ends whose numbers no other has; for the least or the
-- greatest those at both ends that aren't it; for a parity that of the terms at both ends; for all else whatever is kept.
abbrev pub IsTold : Saying → Kept → List (List (ℤ × ℤ)) → Type 0
IsTold (Sum relation ks ts c) kept ds = IsToldSum ks ts kept.front kept.number ds
IsTold (SumIf relation ks ts c r) kept ds = IsToldSum ks ts kept.front kept.number ds
IsTold (Says all clause) kept ds = AreEndsUntrue clause.literals kept.front kept.back ds
IsTold (Equals e) kept ds = AreEndsDone (λ i t. IsBeaten e.operation ds e.result t) e.operands kept.front kept.back
IsTold (Odd ts) kept ds = AreEndsOdd ts kept.front kept.back kept.number ds
IsTold (Differ ts) kept ds = AreEndsDone (IsAlone ts ds) ts kept.front kept.back
IsTold says kept ds = Unit {0}

-- What each cell keeps agrees, for what its owner says; a cell that isn't there keeps nothing.
abbrev pub AreTold : List Saying → List Kept → List (List (ℤ × ℤ)) → Type 0
AreTold sayings kept ds = (k : ℕ) (s : Saying) → slice_get sayings (slice_index_or kept k nothing).owner ≡ Some s → IsTold s (slice_index_or kept k nothing) ds

-- It has that many terms or literals that it serves to keep something.
abbrev pub IsLong : Saying → Type 0
IsLong (Sum relation ks ts c) = 4 < length ts
IsLong (SumIf relation ks ts c r) = 4 < length ts
IsLong (Says all clause) = 8 < length clause.literals
IsLong (Equals e) = 4 < length e.operands
IsLong (Odd ts) = 4 < length ts
IsLong (Differ ts) = 4 < length ts
IsLong says = ⊥
