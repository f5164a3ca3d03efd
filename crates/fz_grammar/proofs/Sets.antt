-- Lemmas on sets of kinds.
use Rattle.std.proofs.Common.{◌≡◌, ℕ, List, [], ◌∷◌, Bool, true, false, ◌||◌, ◌&&◌, ◌==◌, not, eqb-true, eq-eqb, true≢false, refl, sym, ap, subst}
use Rattle.fz_grammar.specs.Reading.{has}
use Rattle.fz_grammar.specs.Tables.{subset, apart}

pub and_left : (a b : Bool) → (a && b) ≡ true → a ≡ true
and_left true b h = refl
and_left false b h = h

pub and_right : (a b : Bool) → (a && b) ≡ true → b ≡ true
and_right true b h = h
and_right false true h = refl
and_right false false h = h

has_first : (a b : Bool) (k x : ℕ) (xs : List ℕ) (P : ℕ → Bool) → (x == k) ≡ a → has xs k ≡ b → (a || b) ≡ true → P x ≡ true → (b ≡ true → P k ≡ true) → P k ≡ true
has_first true b k x xs P e f h p q = subst (λ (y : ℕ). P y ≡ true) (eqb-true x k e) p
has_first false b k x xs P e f h p q = q h

pub in_subset : (xs ys : List ℕ) (k : ℕ) → subset xs ys ≡ true → has xs k ≡ true → has ys k ≡ true
in_subset [] ys k s h = absurd (true≢false (sym h))
in_subset (x ∷ xs) ys k s h =
    has_first (x == k) (has xs k) k x xs (has ys) refl refl h (and_left (has ys x) (subset xs ys) s) (λ g. in_subset xs ys k (and_right (has ys x) (subset xs ys) s) g)

not_true : (b : Bool) → not b ≡ true → b ≡ false
not_true true h = sym h
not_true false h = refl

-- what is in one of two sets that are apart isn't in the other
pub in_apart : (xs ys : List ℕ) (k : ℕ) → apart xs ys ≡ true → has xs k ≡ true → not (has ys k) ≡ true
in_apart [] ys k s h = absurd (true≢false (sym h))
in_apart (x ∷ xs) ys k s h =
    has_first (x == k) (has xs k) k x xs (λ z. not (has ys z)) refl refl h (and_left (not (has ys x)) (apart xs ys) s) (λ g. in_apart xs ys k (and_right (not (has ys x)) (apart xs ys) s) g)

pub out_apart : (xs ys : List ℕ) (k : ℕ) → apart xs ys ≡ true → has xs k ≡ true → has ys k ≡ false
out_apart xs ys k s h = not_true (has ys k) (in_apart xs ys k s h)

pub has_one : (k : ℕ) → has (k ∷ []) k ≡ true
has_one k = let e : (k == k) ≡ true = eq-eqb k k refl in ap (λ (b : Bool). b || false) e
