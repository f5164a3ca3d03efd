-- Numbers from one on.
use Rattle.std.proofs.Common.{◌≡◌, ℕ, zero, suc, ◌+◌, ◌-◌, ◌≤◌, List, [], ◌∷◌, ◌++◌, ap, sym, subst, ◌∙◌, arith, append_assoc, append-nil}
use Rattle.std.specs.Prelude.{flat_map, sum_by}
use Rattle.std.specs.List.{range_with_len}
use Rattle.std.proofs.lemmas.List.Sums.{sum_by-append, sum_by-cons}
use Rattle.std.proofs.lemmas.Grind.{flat_map-append}

same_start : (a b : ℕ) → a ≡ b → a ∷ [] ≡ b ∷ []
same_start a b e = ap (λ (x : ℕ). x ∷ []) e

one_more : (a n : ℕ) → range_with_len a (suc n) ≡ range_with_len a n ++ (a + n) ∷ []
one_more a zero = same_start a (a + 0) (omega arith)
one_more a (suc n) = ap (λ (xs : List ℕ). a ∷ xs) (one_more (a + 1) n ∙ ap (λ (x : ℕ). range_with_len (a + 1) n ++ x ∷ []) (omega arith))

nothing_more : (m : ℕ) → m + 0 ≡ m
nothing_more m = omega arith

sum_more : (f : ℕ → ℕ) (a n i : ℕ) → i ≡ a + n → sum_by f (range_with_len a (suc n)) ≡ sum_by f (range_with_len a n) + f i
sum_more f a n i e =
    ap (sum_by f) (one_more a n) ∙ sum_by-append f (range_with_len a n) ((a + n) ∷ [])
    ∙ ap (λ (m : ℕ). sum_by f (range_with_len a n) + m) (sum_by-cons f (a + n) [] ∙ nothing_more (f (a + n)) ∙ ap f (sym e))

text_more : (f : ℕ → List ℕ) (a n i : ℕ) (old text : List ℕ) → i ≡ a + n → text ≡ old ++ flat_map f (range_with_len a n)
    → text ++ f i ≡ old ++ flat_map f (range_with_len a (suc n))
text_more f a n i old text at so_far = rw at (
    ap (λ (xs : List ℕ). xs ++ f (a + n)) so_far ∙ append_assoc old (flat_map f (range_with_len a n)) (f (a + n))
    ∙ ap (λ (xs : List ℕ). old ++ (flat_map f (range_with_len a n) ++ xs)) (sym (append-nil (f (a + n))))
    ∙ ap (λ (xs : List ℕ). old ++ xs) (sym (ap (flat_map f) (one_more a n) ∙ flat_map-append f (range_with_len a n) ((a + n) ∷ []))))

next_length : (a i : ℕ) → a ≤ i → i + 1 - a ≡ suc (i - a)
next_length a i from = omega (arith, from)

next_number : (a i : ℕ) → a ≤ i → i ≡ a + (i - a)
next_number a i from = omega (arith, from)

pub sum_next : (f : ℕ → ℕ) (a i : ℕ) → a ≤ i → sum_by f (range_with_len a (i + 1 - a)) ≡ sum_by f (range_with_len a (i - a)) + f i
sum_next f a i from = ap (λ (n : ℕ). sum_by f (range_with_len a n)) (next_length a i from) ∙ sum_more f a (i - a) i (next_number a i from)

pub text_next : (f : ℕ → List ℕ) (a i : ℕ) (old text : List ℕ) → a ≤ i → text ≡ old ++ flat_map f (range_with_len a (i - a)) → text ++ f i ≡ old ++ flat_map f (range_with_len a (i + 1 - a))
text_next f a i old text from so_far =
    subst (λ (n : ℕ). text ++ f i ≡ old ++ flat_map f (range_with_len a n)) (sym (next_length a i from)) (text_more f a (i - a) i old text (next_number a i from) so_far)
