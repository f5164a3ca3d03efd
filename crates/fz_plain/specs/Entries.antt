-- The variables of a sum with their factors, and its numbers.
use Rattle.std.specs.Prelude.{◌≡◌, ◌≤◌, ◌<◌, ◌+◌, ℕ, ℤ, pos, nat_abs, ◌+ℤ◌, ◌*ℤ◌, List, [], ◌∷◌, ◌++◌, length, sum_by}
use Rattle.std.specs.List.{AllByRecursion}
use Rattle.fz_spec.specs.declared.term.Term.{Term}
use Rattle.fz_spec.specs.declared.term.Term.TheVariants.{Num, Var}
use Rattle.fz_spec.specs.Constraints.{term_value, term_values}
use Rattle.fz_spec.specs.Instance.{Variable}
use Rattle.fz_spec.specs.Truth.{weighted_sum}
use Rattle.fz_strength.specs.Events.{variables_of}
use Rattle.fz_says.specs.Fits.{IsKnown}

-- a term with its factor, where it is a variable
abbrev pub entry : ℤ → Term → List (ℕ × ℤ)
entry k (Num n) = []
entry k (Var v) = (v, k) ∷ []

abbrev pub entries : List ℤ → List Term → List (ℕ × ℤ)
entries [] ts = []
entries (k ∷ ks) [] = []
entries (k ∷ ks) (Num n ∷ ts) = entries ks ts
entries (k ∷ ks) (Var v ∷ ts) = (v, k) ∷ entries ks ts

-- what these add to a sum, and its numbers
abbrev pub entry_sum : List ℤ → List (ℕ × ℤ) → ℤ
entry_sum a [] = pos 0
entry_sum a (e ∷ es) = (e.1 *ℤ term_value a (Var e.0)) +ℤ entry_sum a es

abbrev pub number_sum : List ℤ → List Term → ℤ
number_sum [] ts = pos 0
number_sum (k ∷ ks) [] = pos 0
number_sum (k ∷ ks) (Num n ∷ ts) = (k *ℤ n) +ℤ number_sum ks ts
number_sum (k ∷ ks) (Var v ∷ ts) = number_sum ks ts

-- how many are numbers
abbrev pub number_count : List Term → ℕ
number_count [] = 0
number_count (Num n ∷ ts) = 1 + number_count ts
number_count (Var v ∷ ts) = number_count ts

abbrev pub size_of : ℕ × ℤ → ℕ
size_of e = nat_abs e.1

-- the variables don't fall
abbrev pub AreInOrder : List (ℕ × ℤ) → Type 0
AreInOrder [] = Unit {0}
AreInOrder (e ∷ []) = Unit {0}
AreInOrder (e ∷ f ∷ es) = (e.0 ≤ f.0) × AreInOrder (f ∷ es)

-- each number is below the next
abbrev pub AreRising : List ℕ → Type 0
AreRising [] = Unit {0}
AreRising (x ∷ []) = Unit {0}
AreRising (x ∷ y ∷ xs) = (x < y) × AreRising (y ∷ xs)

abbrev pub IsEntryOf : List Variable → ℕ × ℤ → Type 0
IsEntryOf vs e = IsKnown vs (Var e.0)

-- factors and terms, one for each variable, in the order of these, whose sum is what entries add
pub record AreAddedUp (ks : List ℤ) (ts : List Term) (es : List (ℕ × ℤ)) : Type 0 where
  pub size : length ks ≡ length ts
  pub few : length ts ≤ length es
  pub same : (a : List ℤ) → weighted_sum ks (term_values a ts) ≡ entry_sum a es
  pub rising : AreRising (variables_of ts)
  pub known : (vs : List Variable) → AllByRecursion (IsEntryOf vs) es → AllByRecursion (IsKnown vs) ts

-- Adding up entries in order: the terms that are done, the last one so far, to which more may be added, and those that are left.
pub record IsAdding (ks : List ℤ) (ts : List Term) (last : ℕ × ℤ) (rest es : List (ℕ × ℤ)) : Type 0 where
  pub size : length ks ≡ length ts
  pub few : length ts + 1 + length rest ≤ length es
  pub same : (a : List ℤ) → (weighted_sum ks (term_values a ts) +ℤ entry_sum a (last ∷ rest)) ≡ entry_sum a es
  pub order : AreInOrder (last ∷ rest)
  pub rising : AreRising (variables_of ts ++ last.0 ∷ [])
  pub known : (vs : List Variable) → AllByRecursion (IsEntryOf vs) es → AllByRecursion (IsKnown vs) ts × AllByRecursion (IsEntryOf vs) (last ∷ rest)
  pub sizes : sum_by size_of (last ∷ rest) ≤ sum_by size_of es

-- to factors and terms the numbers of others were added
pub record AreNumbersAdded (ks : List ℤ) (ts : List Term) (ls : List ℤ) (us : List Term) (ms : List ℤ) (ws : List Term) : Type 0 where
  pub size : length ms ≡ length ws
  pub few : length ws ≤ length us + number_count ts
  pub same : (a : List ℤ) → weighted_sum ms (term_values a ws) ≡ (weighted_sum ls (term_values a us) +ℤ number_sum ks ts)
  pub variables : variables_of ws ≡ variables_of us
  pub known : (vs : List Variable) → AllByRecursion (IsKnown vs) ts → AllByRecursion (IsKnown vs) us → AllByRecursion (IsKnown vs) ws
