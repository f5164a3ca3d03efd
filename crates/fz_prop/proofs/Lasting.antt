-- What agrees with domains agrees with narrower ones, so nobody has to be told of a change.
use Rattle.std.proofs.Common.{◌≡◌, ℕ, zero, suc, ◌<◌, ◌≤◌, ◌⊎◌, List, [], ◌∷◌, length, arith, refl, sym, ap, ◌∙◌, subst, inl, inr}
use Rattle.std.specs.Prelude.{◌+◌, ◌-◌, ◌%◌, ℤ, pos, ◌-ℤ◌, ◌*ℤ◌, drop, count_by, slice_set, slice_get, slice_index_or, Some}
use Rattle.fz_sets.proofs.Lists.{some_is}
use Rattle.fz_spec.specs.declared.term.Term.{Term}
use Rattle.fz_spec.specs.Constraints.{term_values}
use Rattle.fz_spec.specs.Truth.{is_one}
use Rattle.fz_strength.specs.declared.literal.Literal.{Literal}
use Rattle.fz_strength.specs.Domains.{AreDomains, IsNarrower}
use Rattle.fz_strength.specs.Clauses.{IsUntrueIn}
use Rattle.fz_spec.specs.declared.shape.Operation.{Operation}
use Rattle.fz_spec.specs.declared.shape.Operation.TheVariants.{Min, Max}
use Rattle.fz_strength.specs.Sayings.{Saying, Sum, SumIf, Says, Equals, Odd, Differ}
use Rattle.fz_strength.proofs.Clauses.{only_still}
use Rattle.fz_strength.proofs.Terms.{term_narrower, within_before}
use Rattle.fz_prop.specs.declared.kept.Kept.{Kept}
use Rattle.fz_prop.specs.Told.{nothing, owned, IsToldSum, AreEndsDone, AreEndsUntrue, IsAlone, IsBeaten, AreEndsOdd, IsTold, AreTold}

pub sum_lasts : (ks : List ℤ) (ts : List Term) (front : ℕ) (n : ℤ) (ds es : List (List (ℤ × ℤ))) → AreDomains es → IsNarrower ds es → IsToldSum ks ts front n ds → IsToldSum ks ts front n es
sum_lasts ks ts zero n ds es domains narrower told = told
sum_lasts [] ts (suc front) n ds es domains narrower told = absurd told
sum_lasts (k ∷ ks) [] (suc front) n ds es domains narrower told = absurd told
sum_lasts (k ∷ ks) (t ∷ ts) (suc front) n ds es domains narrower told =
    (told.0, only_still t told.0 ds es domains narrower told.1, sum_lasts ks ts front (n -ℤ (k *ℤ told.0)) ds es domains narrower told.2)

untrue_lasts : (l : Literal) (ds es : List (List (ℤ × ℤ))) → AreDomains es → IsNarrower ds es → IsUntrueIn ds l → IsUntrueIn es l
untrue_lasts l ds es domains narrower untrue = (untrue.0, only_still l.term untrue.0 ds es domains narrower untrue.1, untrue.2)

-- what is done stays done
pub done_lasts : {T : Type 0} → (P Q : ℕ → T → Type 0) → (items : List T) → (front back : ℕ) → ((i : ℕ) (item : T) → P i item → Q i item) → AreEndsDone P items front back → AreEndsDone Q items front back
done_lasts P Q items front back stays told = record {
  before = λ i item below at. stays i item (told.before i item below at);
  behind = λ i item behind at. stays i item (told.behind i item behind at);
}

pub ends_last : (ls : List Literal) (front back : ℕ) (ds es : List (List (ℤ × ℤ))) → AreDomains es → IsNarrower ds es → AreEndsUntrue ls front back ds → AreEndsUntrue ls front back es
ends_last ls front back ds es domains narrower told = done_lasts (λ i l. IsUntrueIn ds l) (λ i l. IsUntrueIn es l) ls front back (λ i l. untrue_lasts l ds es domains narrower) told

pub alone_lasts : (ts : List Term) (ds es : List (List (ℤ × ℤ))) → IsNarrower ds es → (i : ℕ) (t : Term) → IsAlone ts ds i t → IsAlone ts es i t
alone_lasts ts ds es narrower i t alone = λ j u other at n here there. alone j u other at n (term_narrower t ds es narrower n here) (term_narrower u ds es narrower n there)

pub beaten_lasts : (operation : Operation) (z t : Term) (ds es : List (List (ℤ × ℤ))) → IsNarrower ds es → IsBeaten operation ds z t → IsBeaten operation es z t
beaten_lasts Min z t ds es narrower beaten = λ m n here there. beaten m n (term_narrower z ds es narrower m here) (term_narrower t ds es narrower n there)
beaten_lasts Max z t ds es narrower beaten = λ m n here there. beaten m n (term_narrower z ds es narrower m here) (term_narrower t ds es narrower n there)
beaten_lasts operation z t ds es narrower beaten = beaten

pub odd_lasts : (ts : List Term) (front back : ℕ) (number : ℤ) (ds es : List (List (ℤ × ℤ))) → IsNarrower ds es → AreEndsOdd ts front back number ds → AreEndsOdd ts front back number es
odd_lasts ts front back number ds es narrower told = record { inside = told.inside; odd = λ a within. told.odd a (within_before ds es a narrower within) }

pub told_lasts : (s : Saying) (kept : Kept) (ds es : List (List (ℤ × ℤ))) → AreDomains es → IsNarrower ds es → IsTold s kept ds → IsTold s kept es
told_lasts (Sum relation ks ts c) kept ds es domains narrower told = sum_lasts ks ts kept.front kept.number ds es domains narrower told
told_lasts (SumIf relation ks ts c r) kept ds es domains narrower told = sum_lasts ks ts kept.front kept.number ds es domains narrower told
told_lasts (Says all clause) kept ds es domains narrower told = ends_last clause.literals kept.front kept.back ds es domains narrower told
told_lasts (Equals e) kept ds es domains narrower told =
    done_lasts (λ i t. IsBeaten e.operation ds e.result t) (λ i t. IsBeaten e.operation es e.result t) e.operands kept.front kept.back (λ i t. beaten_lasts e.operation e.result t ds es narrower) told
told_lasts (Odd ts) kept ds es domains narrower told = odd_lasts ts kept.front kept.back kept.number ds es narrower told
told_lasts (Differ ts) kept ds es domains narrower told = done_lasts (IsAlone ts ds) (IsAlone ts es) ts kept.front kept.back (alone_lasts ts ds es narrower) told
told_lasts s kept ds es domains narrower told = tt

within_of : {T : Type 0} → (items : List T) → (i : ℕ) (item : T) → slice_get items i ≡ Some item → i < length items
within_of [] i item at = absurd (cc (at))
within_of (x ∷ xs) zero item at = omega arith
within_of (x ∷ xs) (suc i) item at = let inside = within_of xs i item at in omega (arith, inside)

no_ends : {T : Type 0} → (P : ℕ → T → Type 0) → (items : List T) → AreEndsDone P items 0 0
no_ends P items = record {
  before = λ i item below at. absurd (omega (arith, below));
  behind = λ i item behind at. let inside = within_of items i item at in absurd (omega (arith, behind, inside));
}

-- of no terms none is 1
drop_past : (n : ℕ) (ts : List Term) → length ts ≤ n → drop n ts ≡ []
drop_past zero [] past = refl
drop_past (suc n) [] past = refl
drop_past zero (t ∷ ts) past = absurd (omega (arith, past))
drop_past (suc n) (t ∷ ts) past = drop_past n ts (omega (arith, past))

drop_all : (ts : List Term) → drop (length ts - 0) ts ≡ []
drop_all ts = drop_past (length ts - 0) ts (omega arith)

none_odd : (ts : List Term) (ds : List (List (ℤ × ℤ))) → AreEndsOdd ts 0 0 (pos 0) ds
none_odd ts ds = record {
  inside = omega arith;
  odd = λ a within. ap (λ (us : List Term). pos ((0 + count_by is_one (term_values a us)) % 2)) (drop_all ts);
}

pub nothing_told : (s : Saying) (ds : List (List (ℤ × ℤ))) → IsTold s nothing ds
nothing_told (Sum relation ks ts c) ds = refl
nothing_told (SumIf relation ks ts c r) ds = refl
nothing_told (Says all clause) ds = no_ends (λ i l. IsUntrueIn ds l) clause.literals
nothing_told (Equals e) ds = no_ends (λ i t. IsBeaten e.operation ds e.result t) e.operands
nothing_told (Odd ts) ds = none_odd ts ds
nothing_told (Differ ts) ds = no_ends (IsAlone ts ds) ts
nothing_told s ds = tt

-- ---- cells

pub all_last : (sayings : List Saying) (kept : List Kept) (ds es : List (List (ℤ × ℤ))) → AreDomains es → IsNarrower ds es → AreTold sayings kept ds → AreTold sayings kept es
all_last sayings kept ds es domains narrower told = λ k s at. told_lasts s (slice_index_or kept k nothing) ds es domains narrower (told k s at)

-- whoever owns it, it agrees
told_owned : (s : Saying) (i : ℕ) (kept : Kept) (ds : List (List (ℤ × ℤ))) → IsTold s kept ds → IsTold s (owned i kept) ds
told_owned (Sum relation ks ts c) i kept ds told = told
told_owned (SumIf relation ks ts c r) i kept ds told = told
told_owned (Says all clause) i kept ds told = told
told_owned (Equals e) i kept ds told = told
told_owned (Odd ts) i kept ds told = told
told_owned (Differ ts) i kept ds told = told
told_owned s i kept ds told = tt

-- what a propagator finds in a cell, or nothing
pub own_told : (sayings : List Saying) (kept : List Kept) (ds : List (List (ℤ × ℤ))) (i slot : ℕ) (s : Saying) (own : Kept) → AreTold sayings kept ds → slice_get sayings i ≡ Some s
    → (own ≡ nothing) ⊎ ((own.owner ≡ i) × (own ≡ slice_index_or kept slot nothing)) → IsTold s own ds
own_told sayings kept ds i slot s own told at (inl none) = subst (λ (k : Kept). IsTold s k ds) (sym none) (nothing_told s ds)
own_told sayings kept ds i slot s own told at (inr both) =
    subst (λ (k : Kept). IsTold s k ds) (sym both.1)
    (told slot s (subst (λ (k : Kept). slice_get sayings k.owner ≡ Some s) both.1 (ap (slice_get sayings) both.0 ∙ at)))

-- where a propagator puts something into a cell that agrees
pub all_after : (sayings : List Saying) (kept after : List Kept) (ds es : List (List (ℤ × ℤ))) (i : ℕ) (s : Saying) (own : Kept) → AreDomains es → IsNarrower ds es → AreTold sayings kept ds
    → slice_get sayings i ≡ Some s → IsTold s own es
    → ((k : ℕ) → (slice_index_or after k nothing ≡ slice_index_or kept k nothing) ⊎ (slice_index_or after k nothing ≡ owned i own)) → AreTold sayings after es
all_after sayings kept after ds es i s own domains narrower told at here each = λ k t. elim (each k) [
  | inl same ↦ subst (λ (x : Kept). slice_get sayings x.owner ≡ Some t → IsTold t x es) (sym same) (λ is. told_lasts t (slice_index_or kept k nothing) ds es domains narrower (told k t is))
  | inr put ↦
      subst (λ (x : Kept). slice_get sayings x.owner ≡ Some t → IsTold t x es) (sym put)
      (λ is. subst (λ (b : Saying). IsTold b (owned i own) es) (some_is s t (sym at ∙ is)) (told_owned s i own es here))
]

-- where none keeps anything
pub none_told : (sayings : List Saying) (kept : List Kept) (ds : List (List (ℤ × ℤ))) → ((k : ℕ) → slice_index_or kept k nothing ≡ nothing) → AreTold sayings kept ds
none_told sayings kept ds none = λ k s at. subst (λ (x : Kept). IsTold s x ds) (sym (none k)) (nothing_told s ds)

-- a place of a list is set
pub set_at : (kept : List Kept) (place i : ℕ) (own : Kept)
    → (slice_index_or (slice_set kept place own) i nothing ≡ slice_index_or kept i nothing) ⊎ ((i ≡ place) × (slice_index_or (slice_set kept place own) i nothing ≡ own))
set_at [] place i own = inl refl
set_at (k ∷ ks) zero zero own = inr (refl, refl)
set_at (k ∷ ks) zero (suc i) own = inl refl
set_at (k ∷ ks) (suc place) zero own = inl refl
set_at (k ∷ ks) (suc place) (suc i) own = elim (set_at ks place i own) [ inl e ↦ inl e | inr both ↦ inr (ap suc both.0, both.1) ]
