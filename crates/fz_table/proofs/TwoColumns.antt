-- Tables of two columns: their rows are pairs of numbers.
use Rattle.std.proofs.Common.{◌≡◌, ◌<◌, ◌≤◌, ◌+◌, ◌*◌, ◌/◌, ℕ, zero, suc, List, [], ◌∷◌, Bool, true, false, refl, sym, subst, ◌∙◌, ap, arith, length, ◌⊎◌, pos}
use Rattle.std.specs.Prelude.{ℤ, ◌+ℤ◌, slice_get, slice_range, Some}
use Rattle.std.proofs.Math.Nat.{le-div_iff_mul-le}
use Rattle.fz_sets.specs.Sets.{IsInSet}
use Rattle.fz_spec.specs.declared.term.Term.{Term}
use Rattle.fz_spec.specs.Constraints.{term_value}
use Rattle.fz_spec.specs.Truth.{IsRowOf}
use Rattle.fz_strength.specs.Domains.{term_set, AreDomains, IsNarrower, IsTermOf}
use Rattle.fz_strength.specs.Events.{IsFixedIn}
use Rattle.fz_strength.specs.Tables.{IsLeftRow, AreSupported}
use Rattle.fz_prop.specs.Answers.{IsAnswerOf}
use Rattle.fz_prop.specs.Outcomes.{rested_by}
use Rattle.fz_bits.specs.Words.{AreOnes}
use Rattle.fz_bits.specs.Windows.{IsBit}
use Rattle.fz_table.specs.declared.keep_pairs.Left.{Left}
use Rattle.fz_prop.specs.declared.matching.Matches.{Matches}
use Rattle.fz_table.specs.declared.pairs.Pairs.{Pairs}
use Rattle.fz_table.specs.Lefts.{AreLeftOf}
use Rattle.fz_prop.specs.Matching.{IsPairOf, AreMatching}
use Rattle.fz_table.specs.Partners.{IsRowOfTwo, ArePartners, ArePairsOf, AreMatchedBy}
use Rattle.fz_table.specs.Rows.{IsRowAt}
use Rattle.fz_column.proofs.Slices.{part_get, part_inside, part_length}
use Rattle.fz_table.proofs.Coupling.{MatchLeft, always, for_good, some_number}

-- a list of two
pub two_of : {X : Type 0} (xs : List X) (x y : X) → length xs ≡ 2 → slice_get xs 0 ≡ Some x → slice_get xs 1 ≡ Some y → xs ≡ x ∷ y ∷ []
two_of [] x y size at_x at_y = absurd (omega (arith, size))
two_of (a ∷ []) x y size at_x at_y = absurd (omega (arith, size))
two_of (a ∷ b ∷ []) x y size at_x at_y = cc (at_x, at_y)
two_of (a ∷ b ∷ c ∷ xs) x y size at_x at_y = absurd (omega (arith, size))

pub pair_of_row : (table : List ℤ) (n m : ℤ) → IsRowOf (n ∷ m ∷ []) table → IsRowOfTwo table n m
pair_of_row table n m row =
    let i = row.1.0 in
    let is : slice_range table (i * 2) (i * 2 + 2) ≡ n ∷ m ∷ [] = row.1.1 in
    let size : length (slice_range table (i * 2) (i * 2 + 2)) ≡ 2 = ap (λ (xs : List ℤ). length xs) is in
    let inside : i * 2 + 2 ≤ length table = part_inside table (i * 2) 2 (omega arith) size in
    let whole : suc i * 2 ≤ length table = omega (arith, inside) in
    let below : i < length table / 2 = (le-div_iff_mul-le {k = 2} {x = suc i} {y = length table} (omega arith)).1 whole in
    let first : slice_get table (i * 2 + 0) ≡ Some n = sym (part_get table (i * 2) 2 0 (omega arith)) ∙ ap (λ (xs : List ℤ). slice_get xs 0) is in
    let second : slice_get table (i * 2 + 1) ≡ Some m = sym (part_get table (i * 2) 2 1 (omega arith)) ∙ ap (λ (xs : List ℤ). slice_get xs 1) is in
    (i, (below, first), (below, second))

pub row_of_pair : (table : List ℤ) (n m : ℤ) → IsRowOfTwo table n m → IsRowOf (n ∷ m ∷ []) table
row_of_pair table n m pair =
    let i = pair.0 in
    let below : suc i ≤ length table / 2 = pair.1.0 in
    let whole : suc i * 2 ≤ length table = (le-div_iff_mul-le {k = 2} {x = suc i} {y = length table} (omega arith)).0 below in
    let size = part_length table (i * 2) 2 (omega (arith, whole)) in (
      omega arith,
      (
        i,
        two_of (slice_range table (i * 2) (i * 2 + 2)) n m size
            (part_get table (i * 2) 2 0 (omega arith) ∙ pair.1.1) (part_get table (i * 2) 2 1 (omega arith) ∙ pair.2.1),
      ),
    )

in_two : (x y : Term) (ds : List (List (ℤ × ℤ))) (n m : ℤ) → IsInSet (term_set ds x) n → IsInSet (term_set ds y) m
    → (j : ℕ) (t : Term) (k : ℤ) → slice_get (x ∷ y ∷ []) j ≡ Some t → slice_get (n ∷ m ∷ []) j ≡ Some k → IsInSet (term_set ds t) k
in_two x y ds n m is_n is_m zero t k at_t at_k =
    let is_x : x ≡ t = cc (at_t) in
    let is_k : n ≡ k = cc (at_k) in
    subst (λ (u : Term). IsInSet (term_set ds u) k) is_x (subst (IsInSet (term_set ds x)) is_k is_n)
in_two x y ds n m is_n is_m (suc zero) t k at_t at_k =
    let is_y : y ≡ t = cc (at_t) in
    let is_k : m ≡ k = cc (at_k) in
    subst (λ (u : Term). IsInSet (term_set ds u) k) is_y (subst (IsInSet (term_set ds y)) is_k is_m)
in_two x y ds n m is_n is_m (suc (suc j)) t k at_t at_k = absurd (cc (at_t))

-- a pair of numbers that are left
left_pair : (x y : Term) (table : List ℤ) (ds : List (List (ℤ × ℤ))) (n m : ℤ) → IsRowOfTwo table n m → IsInSet (term_set ds x) n → IsInSet (term_set ds y) m
    → IsLeftRow (x ∷ y ∷ []) table ds (n ∷ m ∷ [])
left_pair x y table ds n m pair is_n is_m = record {
  is_row = row_of_pair table n m pair;
  within = record { size = refl; each = in_two x y ds n m is_n is_m };
}

supported_at : (x y : Term) (table : List ℤ) (ds : List (List (ℤ × ℤ))) → AreMatchedBy (IsRowOfTwo table) ds x y → (j : ℕ) (t : Term) (n : ℤ) → slice_get (x ∷ y ∷ []) j ≡ Some t
    → IsInSet (term_set ds t) n → (row : List ℤ) × IsLeftRow (x ∷ y ∷ []) table ds row × (slice_get row j ≡ Some n)
supported_at x y table ds line zero t n at is =
    let is_x : t ≡ x = cc (at) in
    let here : IsInSet (term_set ds x) n = subst (λ (u : Term). IsInSet (term_set ds u) n) is_x is in
    let p = line.firsts n here in
    (n ∷ p.0 ∷ [], left_pair x y table ds n p.0 p.1 here p.2, refl)
supported_at x y table ds line (suc zero) t n at is =
    let is_y : t ≡ y = cc (at) in
    let here : IsInSet (term_set ds y) n = subst (λ (u : Term). IsInSet (term_set ds u) n) is_y is in
    let p = line.seconds n here in
    (p.0 ∷ n ∷ [], left_pair x y table ds p.0 n p.1 p.2 here, refl)
supported_at x y table ds line (suc (suc j)) t n at is = absurd (cc (at))

line_of_two : (x y : Term) (table : List ℤ) (ds : List (List (ℤ × ℤ))) → ((n : ℤ) × IsInSet (term_set ds x) n) → AreMatchedBy (IsRowOfTwo table) ds x y → AreSupported (x ∷ y ∷ []) table ds
line_of_two x y table ds some line =
    let p = line.firsts some.0 some.1 in
    record {
      some = (some.0 ∷ p.0 ∷ [], left_pair x y table ds some.0 p.0 p.1 some.1 p.2);
      supported = supported_at x y table ds line;
    }

pub rested_answer : (fixed : Bool) (x y : Term) (table : List ℤ) (ds es : List (List (ℤ × ℤ))) → IsTermOf (length ds) x → IsTermOf (length es) x → IsTermOf (length es) y → AreDomains es → IsNarrower ds es
    → AreMatchedBy (IsRowOfTwo table) es x y → (fixed ≡ true → IsFixedIn es x ⊎ IsFixedIn es y)
    → IsAnswerOf (rested_by fixed) (IsRowAt (x ∷ y ∷ []) table) (AreSupported (x ∷ y ∷ []) table) ds es
rested_answer false x y table ds es was_x is_x is_y domains narrower line one = line_of_two x y table es (some_number ds es x was_x domains narrower) line
rested_answer true x y table ds es was_x is_x is_y domains narrower line one = (
  (λ a within. row_of_pair table (term_value a x) (term_value a y) (always (IsRowOfTwo table) x y es is_x is_y (one refl) line a within)),
  (λ fs doms less. line_of_two x y table fs (some_number es fs x is_x doms less) (for_good (IsRowOfTwo table) x y es fs is_x is_y (one refl) line doms less)),
)

-- ---- what is left of two terms

in_ones : (base : ℤ) (word : ℕ) (D : ℤ → Type 0) → AreOnes word (λ i. D (base +ℤ pos i)) → (n : ℤ) → IsBit base word n → D n
in_ones base word D ones n is = subst D (sym is.2) ((ones is.0 is.1).0 is.3)

bit_of : (base : ℤ) (word k : ℕ) (D : ℤ → Type 0) → AreOnes word (λ i. D (base +ℤ pos i)) → k < 64 → (n : ℤ) → n ≡ base +ℤ pos k → D n → IsBit base word n
bit_of base word k D ones small n at is = (k, small, at, (ones k small).1 (subst D at is))

pub left_matching : (table : List ℤ) (pairs : Pairs) (left : Left) (kept : Matches) (x y : Term) (ds : List (List (ℤ × ℤ))) → ArePairsOf table pairs → AreLeftOf left pairs ds x y
    → kept.firsts.base ≡ left.first.base → kept.seconds.base ≡ left.second.base
    → AreMatching (ArePartners pairs) (λ n. IsBit left.first.base left.first.bits n) (λ m. IsBit left.second.base left.second.bits m)
    (λ n. IsBit left.first.base kept.firsts.bits n) (λ m. IsBit left.second.base kept.seconds.bits m)
    → MatchLeft (IsRowOfTwo table) x y ds (λ n. IsBit kept.firsts.base kept.firsts.bits n) (λ m. IsBit kept.seconds.base kept.seconds.bits m)
left_matching table pairs left kept x y ds are is first_base second_base h =
    let D : ℤ → Type 0 = λ n. IsInSet (term_set ds x) n in
    let E : ℤ → Type 0 = λ m. IsInSet (term_set ds y) m in
    let to : (n m : ℤ) → IsPairOf (ArePartners pairs) (λ k. IsBit left.first.base left.first.bits k) (λ k. IsBit left.second.base left.second.bits k) n m
    → IsPairOf (IsRowOfTwo table) D E n m = λ n m p. record {
      partners = (are.partners n m).0 p.partners;
      first = in_ones pairs.first left.first.bits D is.firsts n (subst (λ (b : ℤ). IsBit b left.first.bits n) is.first_base p.first);
      second = in_ones pairs.base left.second.bits E is.seconds m (subst (λ (b : ℤ). IsBit b left.second.bits m) is.second_base p.second);
    } in
    let from : (n m : ℤ) → IsPairOf (IsRowOfTwo table) D E n m
    → IsPairOf (ArePartners pairs) (λ k. IsBit left.first.base left.first.bits k) (λ k. IsBit left.second.base left.second.bits k) n m = λ n m p.
    let partners = (are.partners n m).1 p.partners in
    let bit = partners.3 in record {
      partners = partners;
      first = subst (λ (b : ℤ). IsBit b left.first.bits n) (sym is.first_base) (bit_of pairs.first left.first.bits partners.0 D is.firsts partners.1 n partners.2 p.first);
      second = subst (λ (b : ℤ). IsBit b left.second.bits m) (sym is.second_base) (bit_of pairs.base left.second.bits bit.0 E is.seconds bit.1 m bit.2 p.second);
    } in
    record {
      firsts = λ n. (
        (λ bit. let p = (h.firsts n).0 (subst (λ (b : ℤ). IsBit b kept.firsts.bits n) first_base bit) in (p.0, to n p.0 p.1)),
        (λ p. subst (λ (b : ℤ). IsBit b kept.firsts.bits n) (sym first_base) ((h.firsts n).1 (p.0, from n p.0 p.1))),
      );
      seconds = λ m. (
        (λ bit. let p = (h.seconds m).0 (subst (λ (b : ℤ). IsBit b kept.seconds.bits m) second_base bit) in (p.0, to p.0 m p.1)),
        (λ p. subst (λ (b : ℤ). IsBit b kept.seconds.bits m) (sym second_base) ((h.seconds m).1 (p.0, from p.0 m p.1))),
      );
    }
