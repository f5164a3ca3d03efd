-- Lists by their places.
use Rattle.std.proofs.Common.{◌≡◌, ◌⊎◌, inl, inr, ℕ, zero, suc, ◌<◌, List, [], ◌∷◌, refl, sym, subst, arith, length, get_or, get_or-set_same, get_or-set_other, Result, Ok, Err}
use Rattle.std.specs.Prelude.{◌↔◌, OnOk, OnErr, slice_index_or, slice_set}
use Rattle.fz_sets.proofs.Lists.{by_place}
use Rattle.fz_prop.specs.Stores.{IsListed}

-- a number that isn't 0 stands in the list
pub within_of : (xs : List ℕ) (i : ℕ) → (get_or xs i 0 ≡ 0 → ⊥) → i < length xs
within_of [] i h = absurd (h refl)
within_of (x ∷ xs) zero h = omega arith
within_of (x ∷ xs) (suc i) h = let under : i < length xs = within_of xs i h in omega (arith, under)

-- ---- one more in one of several lists

-- on success the list has one more, else it is as it was
abbrev pub IsAdded : {T E : Type 0} → Result T E → List ℕ → List ℕ → ℕ → Type 0
IsAdded r xs ys place = OnOk r ((i : ℕ) → IsListed ys i ↔ (IsListed xs i ⊎ (i ≡ place))) × OnErr r (ys ≡ xs)

grown : {T E : Type 0} (r : Result T E) (xs ys : List ℕ) (place : ℕ) → IsAdded r xs ys place → (i : ℕ) → IsListed xs i → IsListed ys i
grown (Ok x) xs ys place added i listed = (added.0 i).1 (inl listed)
grown (Err x) xs ys place added i listed = subst (λ (l : List ℕ). IsListed l i) (sym added.1) listed

no_more : {T E : Type 0} (r : Result T E) (xs ys : List ℕ) (place : ℕ) → IsAdded r xs ys place → (i : ℕ) → IsListed ys i → IsListed xs i ⊎ (i ≡ place)
no_more (Ok x) xs ys place added i listed = (added.0 i).0 listed
no_more (Err x) xs ys place added i listed = inl (subst (λ (l : List ℕ). IsListed l i) added.1 listed)

has_place : {T E : Type 0} (r : Result T E) (xs ys : List ℕ) (place : ℕ) → IsAdded r xs ys place → OnOk r (IsListed ys place)
has_place (Ok x) xs ys place added = (added.0 place).1 (inr refl)
has_place (Err x) xs ys place added = tt

-- what that does to the lists of all variables
pub record IsListing {T E : Type 0} (r : Result T E) (lists after : List (List ℕ)) (p place : ℕ) : Type 0 where
  pub extends : (v i : ℕ) → IsListed (slice_index_or lists v []) i → IsListed (slice_index_or after v []) i
  pub listed : OnOk r (IsListed (slice_index_or after p []) place)
  pub only : (v i : ℕ) → IsListed (slice_index_or after v []) i → IsListed (slice_index_or lists v []) i ⊎ ((v ≡ p) × (i ≡ place))

on_ok : {T E : Type 0} (r : Result T E) (P Q : Type 0) → (P → Q) → OnOk r P → OnOk r Q
on_ok (Ok x) P Q f h = f h
on_ok (Err x) P Q f h = tt

here_too : (v i place : ℕ) (L : Type 0) (p : ℕ) → v ≡ p → L ⊎ (i ≡ place) → L ⊎ ((v ≡ p) × (i ≡ place))
here_too v i place L p at (inl l) = inl l
here_too v i place L p at (inr e) = inr (at, e)

pub listing : {T E : Type 0} (r : Result T E) (lists : List (List ℕ)) (p place : ℕ) (xs ys : List ℕ) → p < length lists → xs ≡ slice_index_or lists p [] → IsAdded r xs ys place
    → IsListing r lists (slice_set lists p ys) p place
listing r lists p place xs ys within is added =
    let now : slice_index_or (slice_set lists p ys) p [] ≡ ys = get_or-set_same lists p ys [] within in
    record {
      extends = by_place (λ v. (i : ℕ) → IsListed (slice_index_or lists v []) i → IsListed (slice_index_or (slice_set lists p ys) v []) i) p
          (λ i listed. subst (λ (l : List ℕ). IsListed l i) (sym now) (grown r xs ys place added i (subst (λ (l : List ℕ). IsListed l i) (sym is) listed)))
          (λ v ne i listed. subst (λ (l : List ℕ). IsListed l i) (sym (get_or-set_other lists p v ys [] ne)) listed);
      listed = on_ok r (IsListed ys place) (IsListed (slice_index_or (slice_set lists p ys) p []) place) (λ h. subst (λ (l : List ℕ). IsListed l place) (sym now) h) (has_place r xs ys place added);
      only = by_place (λ v. (i : ℕ) → IsListed (slice_index_or (slice_set lists p ys) v []) i → IsListed (slice_index_or lists v []) i ⊎ ((v ≡ p) × (i ≡ place))) p
          (λ i listed. here_too p i place (IsListed (slice_index_or lists p []) i) p refl
          (subst (λ (l : List ℕ). IsListed l i ⊎ (i ≡ place)) is (no_more r xs ys place added i (subst (λ (l : List ℕ). IsListed l i) now listed))))
          (λ v ne i listed. inl (subst (λ (l : List ℕ). IsListed l i) (get_or-set_other lists p v ys [] ne) listed));
    }
