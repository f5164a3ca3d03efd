-- The variables of the output, as the code finds them.
use Rattle.std.proofs.Common.{◌≡◌, ◌∙◌, ℕ, ◌+◌, ◌<◌, ◌↔◌, ◌⊎◌, inl, inr, List, [], ◌∷◌, ◌++◌, Bool, true, false, ◌||◌, length, take, get_or, ap, sym, subst, refl, append-nil}
use Rattle.std.specs.Prelude.{IsTrue, if◌then◌else◌}
use Rattle.std.specs.List.{list_any, filter}
use Rattle.std.proofs.lemmas.List.Elements.{filter-append}
use Rattle.std.proofs.lemmas.List.Folds.{list_any_more}

-- ---- members

or_is : (a b : Bool) → IsTrue (a || b) ↔ (IsTrue a ⊎ IsTrue b)
or_is true b = (λ h. inl refl, λ h. refl)
or_is false b = (λ h. inr h, λ h. elim h [ inl bad ↦ absurd (cc bad) | inr is ↦ is ])

-- one more of a list
pub any_more : {X : Type 0} (p : X → Bool) (xs : List X) (i : ℕ) (d : X) → i < length xs → IsTrue (list_any p (take (i + 1) xs)) ↔ (IsTrue (list_any p (take i xs)) ⊎ IsTrue (p (get_or xs i d)))
any_more p xs i d lt = subst (λ b. IsTrue b ↔ (IsTrue (list_any p (take i xs)) ⊎ IsTrue (p (get_or xs i d)))) (sym (list_any_more p xs i d lt)) (or_is (list_any p (take i xs)) (p (get_or xs i d)))

-- what was there, or one of those so far, and then one more
pub more_of : (M A B C D : Type 0) → M ↔ (A ⊎ B) → D ↔ (M ⊎ C) → (N : Type 0) → N ↔ (B ⊎ C) → D ↔ (A ⊎ N)
more_of M A B C D before step N both = (
  λ d. elim (step.0 d) [ inl m ↦ elim (before.0 m) [ inl a ↦ inl a | inr b ↦ inr (both.1 (inl b)) ] | inr k ↦ inr (both.1 (inr k)) ],
  λ h. elim h [ inl a ↦ step.1 (inl (before.1 (inl a))) | inr n ↦ elim (both.0 n) [ inl b ↦ step.1 (inl (before.1 (inr b))) | inr k ↦ step.1 (inr k) ] ],
)

-- ---- lists

pub filter_yes : (f : ℕ → Bool) (xs : List ℕ) (x : ℕ) → IsTrue (f x) → filter f (xs ++ x ∷ []) ≡ filter f xs ++ x ∷ []
filter_yes f xs x is = filter-append f xs (x ∷ []) ∙ ap (λ (b : Bool). filter f xs ++ (if b then x ∷ [] else [])) is

pub filter_no : (f : ℕ → Bool) (xs : List ℕ) (x : ℕ) → f x ≡ false → filter f (xs ++ x ∷ []) ≡ filter f xs
filter_no f xs x is = filter-append f xs (x ∷ []) ∙ ap (λ (b : Bool). filter f xs ++ (if b then x ∷ [] else [])) is ∙ append-nil (filter f xs)

-- a test whose answer is known by another
pub not_so : (b t : Bool) → b ≡ false → IsTrue b ↔ IsTrue t → t ≡ false
not_so b true is same = absurd (cc (sym is ∙ same.1 refl))
not_so b false is same = refl
