-- The matches, index by index.
use Rattle.std.proofs.Common.{◌≡◌, ℕ, ◌<◌, ◌^◌, List, [], ◌∷◌, ◌++◌, sym, subst, arith, length, ◌⊎◌, inl, inr}
use Rattle.std.specs.Prelude.{ℤ, pos, ◌≤ℤ◌, ◌<ℤ◌, ◌+ℤ◌, ◌↔◌, slice_get, Option, Some, None, MatchOption}
use Rattle.std.specs.List.{AllByRecursion}
use Rattle.std.proofs.lemmas.Int.{ints, by_lt_z}
use Rattle.std.proofs.lemmas.Nat.Bits.{bit_at-zero}
use Rattle.std.proofs.lemmas.Option.{slice_get_within}
use Rattle.fz_bits.specs.Words.{HasBit, AreOnes}
use Rattle.fz_bits.proofs.Words.{first_bit, positive}
use Rattle.fz_sets.specs.Sets.{IsInSet, IsWithinLimits, AreOneSet, AreWithinLimits}
use Rattle.fz_sets.proofs.Lists.{all_at}
use Rattle.fz_dom.specs.Shape.{least, IsDomain, IsNextAbove, IsNoneAbove}
use Rattle.fz_dom.proofs.Ranges.{least_member}
use Rattle.fz_dom.proofs.Runs.{offset_in}
use Rattle.fz_spec.specs.declared.term.Term.{Term}
use Rattle.fz_strength.specs.Domains.{term_set}
use Rattle.fz_strength.specs.VariableElements.{StandsAt, IsMatch}
use Rattle.fz_prop.specs.Matching.{AreMatching}
use Rattle.fz_prop.proofs.Grown.{same_or_other, in_more, in_before, in_last, limits_more}
use Rattle.fz_prop.proofs.Partnering.{matching_as}
use Rattle.fz_element.specs.Matching.{IsLeftAt, IsMatchedAt, IsMatchedBy, AreMatches, AreAllMatched, AreFound, AreShared}

-- ---- terms at an index

pub stands_from : (k : ℤ) (xs : List Term) (x : Term) → StandsAt k xs x → pos 1 ≤ℤ k
stands_from k xs x is = let e = is.1 in omega (arith, ints, e)

pub stands_to : (k : ℤ) (xs : List Term) (x : Term) → StandsAt k xs x → k ≤ℤ pos (length xs)
stands_to k xs x is = let e = is.1 in let below = slice_get_within xs is.0 x is.2 in omega (arith, ints, e, below)

pub stands_only : (k : ℤ) (xs : List Term) (x y : Term) → StandsAt k xs x → StandsAt k xs y → x ≡ y
stands_only k xs x y is_x is_y =
    let e = is_x.1 in
    let f = is_y.1 in
    let same : is_x.0 ≡ is_y.0 = omega (arith, ints, e, f) in
    let at_x : slice_get xs is_y.0 ≡ Some x = subst (λ (i : ℕ). slice_get xs i ≡ Some x) same is_x.2 in
    cc (at_x, is_y.2)

pub stands_of : (P : Term → Type 0) (k : ℤ) (xs : List Term) (x : Term) → AllByRecursion P xs → StandsAt k xs x → P x
stands_of P k xs x all is = all_at P xs is.0 x all is.2

-- ---- lists of ranges that are joined

pub in_joined : (rs ss : List (ℤ × ℤ)) (n : ℤ) → IsInSet (rs ++ ss) n → IsInSet rs n ⊎ IsInSet ss n
in_joined [] ss n is = inr is
in_joined (r ∷ rs) ss n is = elim is [
  | inl h ↦ inl (inl h)
  | inr h ↦ elim (in_joined rs ss n h) [ inl g ↦ inl (inr g) | inr g ↦ inr g ]
]

pub in_first : (rs ss : List (ℤ × ℤ)) (n : ℤ) → IsInSet rs n → IsInSet (rs ++ ss) n
in_first [] ss n is = absurd is
in_first (r ∷ rs) ss n is = elim is [ inl h ↦ inl h | inr h ↦ inr (in_first rs ss n h) ]

pub in_second : (rs ss : List (ℤ × ℤ)) (n : ℤ) → IsInSet ss n → IsInSet (rs ++ ss) n
in_second [] ss n is = is
in_second (r ∷ rs) ss n is = inr (in_second rs ss n is)

pub limits_joined : (rs ss : List (ℤ × ℤ)) → AreWithinLimits rs → AreWithinLimits ss → AreWithinLimits (rs ++ ss)
limits_joined [] ss all more = more
limits_joined (r ∷ rs) ss all more = (all.0, all.1, limits_joined rs ss all.2 more)

-- ---- the loop over all places

-- the matches whose index is below j
pub record AreMatchesBelow (xs : List Term) (k c : Term) (ds : List (List (ℤ × ℤ))) (indices numbers : List (ℤ × ℤ)) (j : ℤ) : Type 0 where
  pub indices_are : (i : ℤ) → IsInSet indices i ↔ (IsMatchedAt xs k c ds i × (i <ℤ j))
  pub numbers_are : (n : ℤ) → IsInSet numbers n ↔ ((i : ℤ) × IsMatch xs k c ds i n × (i <ℤ j))
  pub index_limits : AreWithinLimits indices
  pub number_limits : AreWithinLimits numbers

pub matches_passed : (xs : List Term) (k c : Term) (ds : List (List (ℤ × ℤ))) (indices numbers : List (ℤ × ℤ)) (j : ℤ) → (IsMatchedAt xs k c ds j → ⊥)
    → AreMatchesBelow xs k c ds indices numbers j → AreMatchesBelow xs k c ds indices numbers (j +ℤ pos 1)
matches_passed xs k c ds indices numbers j none h =
    let before : (i n : ℤ) → IsMatch xs k c ds i n → i <ℤ (j +ℤ pos 1) → i <ℤ j = λ i n m below. elim (same_or_other i j) [
      | inl same ↦ absurd (none (n, subst (λ (q : ℤ). IsMatch xs k c ds q n) same m))
      | inr other ↦ omega (arith, ints, below, other)
    ] in
    record {
      indices_are = λ i. (
        (λ is. let p = (h.indices_are i).0 is in let below = p.1 in (p.0, omega (arith, ints, below))),
        (λ p. (h.indices_are i).1 (p.0, before i p.0.0 p.0.1 p.1)),
      );
      numbers_are = λ n. (
        (λ is. let p = (h.numbers_are n).0 is in let below = p.2 in (p.0, p.1, omega (arith, ints, below))),
        (λ p. (h.numbers_are n).1 (p.0, p.1, before p.0 n p.1 p.2)),
      );
      index_limits = h.index_limits;
      number_limits = h.number_limits;
    }

pub matches_more : (xs : List Term) (k c : Term) (ds : List (List (ℤ × ℤ))) (indices numbers more : List (ℤ × ℤ)) (j : ℤ) → IsMatchedAt xs k c ds j
    → ((n : ℤ) → IsInSet more n ↔ IsMatch xs k c ds j n) → IsWithinLimits j → AreWithinLimits more
    → AreMatchesBelow xs k c ds indices numbers j → AreMatchesBelow xs k c ds (indices ++ (j, j) ∷ []) (numbers ++ more) (j +ℤ pos 1)
matches_more xs k c ds indices numbers more j new more_are within within_more h = record {
  indices_are = λ i. (
    (λ is. elim (in_more indices j i is) [
      | inl q ↦ let p = (h.indices_are i).0 q in let below = p.1 in (p.0, omega (arith, ints, below))
      | inr same ↦ (subst (λ (q : ℤ). IsMatchedAt xs k c ds q) (sym same) new, omega (arith, ints, same))
    ]),
    (λ p. elim (same_or_other i j) [
      | inl same ↦ in_last indices j i same
      | inr other ↦ let below = p.1 in in_before indices j i ((h.indices_are i).1 (p.0, omega (arith, ints, below, other)))
    ]),
  );
  numbers_are = λ n. (
    (λ is. elim (in_joined numbers more n is) [
      | inl q ↦ let p = (h.numbers_are n).0 q in let below = p.2 in (p.0, p.1, omega (arith, ints, below))
      | inr q ↦ (j, (more_are n).0 q, omega (arith, ints))
    ]),
    (λ p. elim (same_or_other p.0 j) [
      | inl same ↦ in_second numbers more n ((more_are n).1 (subst (λ (q : ℤ). IsMatch xs k c ds q n) same p.1))
      | inr other ↦ let below = p.2 in in_first numbers more n ((h.numbers_are n).1 (p.0, p.1, omega (arith, ints, below, other)))
    ]),
  );
  index_limits = limits_more indices j h.index_limits within;
  number_limits = limits_joined numbers more h.number_limits within_more;
}

pub matches_all : (xs : List Term) (k c : Term) (ds : List (List (ℤ × ℤ))) (indices numbers s t : List (ℤ × ℤ)) (j : ℤ) → ((i n : ℤ) → IsMatch xs k c ds i n → i <ℤ j)
    → AreMatchesBelow xs k c ds indices numbers j → AreOneSet s indices → AreOneSet t numbers → AreMatches xs k c ds (λ i. IsInSet s i) (λ n. IsInSet t n)
matches_all xs k c ds indices numbers s t j all h is_s is_t = record {
  indices_are = λ i. (
    (λ is. ((h.indices_are i).0 ((is_s i).0 is)).0),
    (λ p. (is_s i).1 ((h.indices_are i).1 (p, all i p.0 p.1))),
  );
  numbers_are = λ n. (
    (λ is. let p = (h.numbers_are n).0 ((is_t n).0 is) in (p.0, p.1)),
    (λ p. (is_t n).1 ((h.numbers_are n).1 (p.0, p.1, all p.0 n p.1))),
  );
}

-- what is shared of the term at an index and of c are the matches there
pub matches_at : (xs : List Term) (k c x : Term) (ds : List (List (ℤ × ℤ))) (e d : List (ℤ × ℤ)) (j : ℤ) → StandsAt j xs x → IsInSet (term_set ds k) j → e ≡ term_set ds c
    → ((n : ℤ) → IsInSet d n ↔ (IsInSet (term_set ds x) n × IsInSet e n)) → (n : ℤ) → IsInSet d n ↔ IsMatch xs k c ds j n
matches_at xs k c x ds e d j stands index same shared n = (
  (λ is. let p = (shared n).0 is in record { term = x; stands = stands; index = index; there = p.0; value = subst (λ (f : List (ℤ × ℤ)). IsInSet f n) same p.1 }),
  (λ m. (shared n).1 (
    subst (λ (y : Term). IsInSet (term_set ds y) n) (stands_only j xs m.term x m.stands stands) m.there,
    subst (λ (f : List (ℤ × ℤ)). IsInSet f n) (sym same) m.value,
  )),
)

pub match_is : (o : Option (List (ℤ × ℤ))) (xs : List Term) (k c x : Term) (ds : List (List (ℤ × ℤ))) (e : List (ℤ × ℤ)) (j : ℤ) → StandsAt j xs x → IsInSet (term_set ds k) j
    → e ≡ term_set ds c → MatchOption o ((n : ℤ) → IsInSet (term_set ds x) n → IsInSet e n → ⊥) (λ d. AreShared (term_set ds x) e d)
    → MatchOption o (IsMatchedAt xs k c ds j → ⊥) (λ d. IsMatchedAt xs k c ds j × IsDomain d × ((n : ℤ) → IsInSet d n ↔ IsMatch xs k c ds j n))
match_is None xs k c x ds e j stands index same none = λ at.
    let m = at.1 in
    none at.0 (subst (λ (y : Term). IsInSet (term_set ds y) at.0) (stands_only j xs m.term x m.stands stands) m.there)
    (subst (λ (f : List (ℤ × ℤ)). IsInSet f at.0) (sym same) m.value)
match_is (Some d) xs k c x ds e j stands index same shared =
    let are = matches_at xs k c x ds e d j stands index same shared.0 in
    let first = (least_member d shared.2 shared.1.0).0 in
    ((_, (are (least d)).0 first), shared.1, are)

-- ---- near matches

-- the bits of what is left of the term at an index
pub left_ones : (xs : List Term) (x : Term) (ds : List (List (ℤ × ℤ))) (j base : ℤ) (word : ℕ) → StandsAt j xs x → AreOnes word (λ i. IsInSet (term_set ds x) (base +ℤ pos i))
    → AreOnes word (λ i. IsLeftAt xs ds j (base +ℤ pos i))
left_ones xs x ds j base word stands ones = λ i small. (
  (λ bit. (x, stands, (ones i small).0 bit)),
  (λ h. (ones i small).1 (subst (λ (y : Term). IsInSet (term_set ds y) (base +ℤ pos i)) (stands_only j xs h.0 x h.1 stands) h.2)),
)

pub near_are : (xs : List Term) (k c : Term) (ds : List (List (ℤ × ℤ))) (D E P Q : ℤ → Type 0) → ((i : ℤ) → D i ↔ IsInSet (term_set ds k) i) → ((n : ℤ) → E n ↔ IsInSet (term_set ds c) n)
    → AreMatching (λ i n. IsLeftAt xs ds i n) D E P Q → AreMatches xs k c ds P Q
near_are xs k c ds D E P Q indices values h =
    let are = matching_as (λ i n. IsLeftAt xs ds i n) D E P Q (λ i n. IsMatch xs k c ds i n)
    (λ i n. (
      (λ p. record { term = p.partners.0; stands = p.partners.1; index = (indices i).0 p.first; there = p.partners.2; value = (values n).0 p.second }),
      (λ m. record { partners = (m.term, m.stands, m.there); first = (indices i).1 m.index; second = (values n).1 m.value }),
    )) h in
    record { indices_are = are.0; numbers_are = are.1 }

-- ---- words

-- The bits are those of the ranges but for what is left of them.
pub record AreBitsBut (whole rest : List (ℤ × ℤ)) (base : ℤ) (word : ℕ) : Type 0 where
  pub bits : (j : ℕ) → j < 64 → (HasBit word j ⊎ IsInSet rest (base +ℤ pos j)) ↔ IsInSet whole (base +ℤ pos j)

-- ---- the loop by words

-- what is found of some of the indices
pub record AreFoundOf (B : ℤ → Type 0) (xs : List Term) (k c : Term) (ds : List (List (ℤ × ℤ))) (base : ℤ) (word : ℕ) : Type 0 where
  pub index : (i : ℤ) → IsInSet (term_set ds k) i → B i → IsMatchedAt xs k c ds i
  pub number : (j : ℕ) → j < 64 → HasBit word j → IsMatchedBy xs k c ds (base +ℤ pos j)

pub found_first : (xs : List Term) (k c : Term) (ds : List (List (ℤ × ℤ))) (base place : ℤ) → ((i : ℤ) → IsInSet (term_set ds k) i → place ≤ℤ i)
    → AreFoundOf (λ i. i <ℤ place) xs k c ds base 0
found_first xs k c ds base place least_is = record {
  index = λ i is below. (let from = least_is i is in absurd (omega (arith, ints, from, below)));
  number = λ j small one. (let z = bit_at-zero j in absurd (omega (arith, z, one)));
}

-- one index more
pub found_more : (xs : List Term) (k c x : Term) (ds : List (List (ℤ × ℤ))) (base place : ℤ) (wanted here shared word more : ℕ) → StandsAt place xs x → IsInSet (term_set ds k) place
    → AreOnes wanted (λ j. IsInSet (term_set ds c) (base +ℤ pos j)) → AreOnes here (λ j. IsInSet (term_set ds x) (base +ℤ pos j))
    → AreOnes shared (λ j. HasBit here j × HasBit wanted j) → shared < 2 ^ 64 → (shared ≡ 0 → ⊥) → AreOnes more (λ j. HasBit word j ⊎ HasBit shared j)
    → AreFoundOf (λ i. i <ℤ place) xs k c ds base word → AreFoundOf (λ i. i ≤ℤ place) xs k c ds base more
found_more xs k c x ds base place wanted here shared word more stands index is_wanted is_here is_shared fits some is_more h =
    let match_of : (j : ℕ) → j < 64 → HasBit shared j → IsMatch xs k c ds place (base +ℤ pos j) = λ j small one.
    let both = (is_shared j small).0 one in
    record { term = x; stands = stands; index = index; there = (is_here j small).0 both.0; value = (is_wanted j small).0 both.1 } in
    let first = first_bit shared (positive shared some) fits in
    record {
      index = λ i is to. elim (same_or_other i place) [
        | inl same ↦ subst (λ (q : ℤ). IsMatchedAt xs k c ds q) (sym same) (_, match_of _ first.0 first.1)
        | inr other ↦ h.index i is (omega (arith, ints, to, other))
      ];
      number = λ j small one. elim ((is_more j small).0 one) [
        | inl old ↦ h.number j small old
        | inr new ↦ (place, match_of j small new)
      ];
    }

-- the next index
pub found_next : (xs : List Term) (k c : Term) (ds : List (List (ℤ × ℤ))) (base place next : ℤ) (word : ℕ) → IsNextAbove (term_set ds k) place next
    → AreFoundOf (λ i. i ≤ℤ place) xs k c ds base word → AreFoundOf (λ i. i <ℤ next) xs k c ds base word
found_next xs k c ds base place next word is_next h = record {
  index = λ i is below. h.index i is (by_lt_z place i (λ over. let far = is_next.2 i is over in absurd (omega (arith, ints, far, below))) (λ to. to));
  number = h.number;
}

-- no index is left
pub found_all : (xs : List Term) (k c : Term) (ds : List (List (ℤ × ℤ))) (base place : ℤ) (word : ℕ) → IsNoneAbove (term_set ds k) place
    → AreFoundOf (λ i. i ≤ℤ place) xs k c ds base word → AreFound xs k c ds base word
found_all xs k c ds base place word end h = record { index = λ i is. h.index i is (end i is); number = h.number }

-- all numbers of c have bits
pub all_found : (xs : List Term) (k c : Term) (ds : List (List (ℤ × ℤ))) (base : ℤ) (wanted found : ℕ) → ((n : ℤ) → IsInSet (term_set ds c) n → (base ≤ℤ n) × (n ≤ℤ (base +ℤ pos 63)))
    → AreOnes wanted (λ j. IsInSet (term_set ds c) (base +ℤ pos j)) → found ≡ wanted → AreFound xs k c ds base found → AreAllMatched xs k c ds
all_found xs k c ds base wanted found near is_wanted same h = record {
  index = h.index;
  number = λ n is.
      let close = near n is in
      let from = close.0 in
      let to = close.1 in
      let o = offset_in base n from in
      let e = o.1 in
      let small : o.0 < 64 = omega (arith, ints, e, to) in
      let one : HasBit found o.0 = subst (λ (w : ℕ). HasBit w o.0) (sym same) ((is_wanted o.0 small).1 (subst (IsInSet (term_set ds c)) e is)) in
      subst (λ (m : ℤ). IsMatchedBy xs k c ds m) (sym e) (h.number o.0 small one);
}
