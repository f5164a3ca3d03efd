-- Which terms have more than one number left, and which numbers a term must not be.
use Rattle.std.specs.Prelude.{◌≡◌, ◌≢◌, ℕ, suc, ◌<◌, ℤ, ◌+ℤ◌, ◌*ℤ◌, List, length, take, drop}
use Rattle.fz_sets.specs.Sets.{IsWithinLimits}
use Rattle.fz_spec.specs.declared.term.Term.{Term}
use Rattle.fz_strength.specs.Sums.{least_sum, AllButOneFixed}
use Rattle.fz_strength.specs.Events.{AllFixed}
use Rattle.fz_linear.specs.declared.apart.Unfixed.{Unfixed}
use Rattle.fz_linear.specs.declared.apart.Unfixed.TheVariants as unfixed
use Rattle.fz_linear.specs.declared.apart.Excluded.{Excluded}
use Rattle.fz_linear.specs.declared.apart.Excluded.TheVariants as excluded

-- each term but the one at this place is fixed
abbrev pub AllOthersFixed : List (List (ℤ × ℤ)) → List Term → ℕ → Type 0
AllOthersFixed ds ts i = AllFixed ds (take i ts) × AllFixed ds (drop (suc i) ts)

-- the least sum of all terms but that one
abbrev pub others_sum : List (List (ℤ × ℤ)) → List ℤ → List Term → ℕ → ℤ
others_sum ds ks ts i = least_sum ds (take i ks) (take i ts) +ℤ least_sum ds (drop (suc i) ks) (drop (suc i) ts)

abbrev pub IsUnfixed : Unfixed → List (List (ℤ × ℤ)) → List Term → Type 0
IsUnfixed unfixed.None ds ts = AllFixed ds ts
IsUnfixed (unfixed.One i) ds ts = (i < length ts) × AllOthersFixed ds ts i
IsUnfixed unfixed.Several ds ts = AllButOneFixed ds ts → ⊥

-- no number within the limits times the factor is the product; this one alone; or each
abbrev pub IsExcluded : Excluded → ℤ → ℤ → Type 0
IsExcluded excluded.None k p = (x : ℤ) → IsWithinLimits x → (k *ℤ x) ≢ p
IsExcluded (excluded.One v) k p = ((k *ℤ v) ≡ p) × ((x : ℤ) → (k *ℤ x) ≡ p → x ≡ v)
IsExcluded excluded.Each k p = (x : ℤ) → (k *ℤ x) ≡ p
