-- What was tried is all there is: the truth of a constraint depends on the numbers of its variables alone.
use Rattle.std.proofs.Common.{◌≡◌, ◌⊎◌, inl, inr, ℕ, zero, suc, ◌+◌, ◌<◌, ◌≤◌, List, [], ◌∷◌, refl, sym, ap, subst, ◌∙◌, arith, length, set}
use Rattle.std.specs.Prelude.{ℤ, ◌-ℤ◌, ◌≤ℤ◌, nat_abs}
use Rattle.std.specs.List.{AllByRecursion}
use Rattle.std.proofs.lemmas.Bool.{cases_eq, cases_lt}
use Rattle.std.proofs.lemmas.Int.{ints}
use Rattle.fz_sets.specs.Sets.{AreRanges, IsInSet, set_size, range_size}
use Rattle.fz_spec.specs.declared.term.Term.TheVariants.{Var}
use Rattle.fz_spec.specs.Constraints.{Constraint, IsTrueOf, term_value}
use Rattle.fz_refutes.specs.Boxes.{AreSets, set_at}
use Rattle.fz_refutes.specs.Refuted.{IsAt, IsEmptyAmong, IsRefutedSmall, choices_of, open_after, variables_of}
use Rattle.fz_refutes.proofs.Truths.{IsSameAt, truth_stays}
use Rattle.fz_refutes.proofs.Insides.{ranges_of}
use Rattle.fz_refutes.specs.Smalls.{HasFixed, NeverFrom}
use Rattle.fz_refutes.proofs.Opening.{Among, by_among, is_open, only_open, are_open, all_within}

-- ---- numbers that are put

pub value_put : (a : List ℤ) (v : ℕ) (x : ℤ) → v < length a → term_value (set a v x) (Var v) ≡ x
value_put [] v x within = absurd (omega (arith, within))
value_put (y ∷ ys) zero x within = refl
value_put (y ∷ ys) (suc v) x within = value_put ys v x (omega (arith, within))

pub value_kept : (a : List ℤ) (w v : ℕ) (x : ℤ) → (w ≡ v → ⊥) → term_value (set a w x) (Var v) ≡ term_value a (Var v)
value_kept [] w v x other = refl
value_kept (y ∷ ys) zero zero x other = absurd (other refl)
value_kept (y ∷ ys) zero (suc v) x other = refl
value_kept (y ∷ ys) (suc w) zero x other = refl
value_kept (y ∷ ys) (suc w) (suc v) x other = value_kept ys w v x (λ e. other (ap suc e))

length_put : (a : List ℤ) (v : ℕ) (x : ℤ) → length (set a v x) ≡ length a
length_put [] v x = refl
length_put (y ∷ ys) zero x = refl
length_put (y ∷ ys) (suc v) x = ap suc (length_put ys v x)

-- ---- the number of a variable that has one

only : (r : ℤ × ℤ) → r.0 ≤ℤ r.1 → range_size r ≤ 1 → r.1 ≡ r.0
only r rises one = omega (arith, ints, rises, one)

more_zero : (n : ℕ) → 1 < n → 1 < n + 0
more_zero n more = omega (arith, more)

more_two : (a b c : ℕ) → 1 < (a + 1) + ((b + 1) + c)
more_two a b c = omega arith

pub one_number : (d : List (ℤ × ℤ)) → AreRanges d → (d ≡ [] → ⊥) → (1 < set_size d → ⊥) → (x : ℤ) × (d ≡ (x, x) ∷ [])
one_number [] are some one = absurd (some refl)
one_number (r ∷ []) are some one =
    let same = only r are (elim (cases_lt 1 (range_size r)) [ inl lt ↦ absurd (one (more_zero (range_size r) lt)) | inr le ↦ le ]) in
    (r.0, ap (λ (y : ℤ). (r.0, y) ∷ []) same)
one_number (r ∷ s ∷ rs) are some one = absurd (one (more_two (nat_abs (r.1 -ℤ r.0)) (nat_abs (s.1 -ℤ s.0)) (set_size rs)))

pub in_one : (x y : ℤ) → IsInSet ((x, x) ∷ []) y → y ≡ x
in_one x y (inl p) = let low = p.0 in let high = p.1 in omega (arith, ints, low, high)
in_one x y (inr p) = absurd p

one_in : (x y : ℤ) → y ≡ x → IsInSet ((x, x) ∷ []) y
one_in x y e = inl (omega (arith, ints, e), omega (arith, ints, e))

-- the number that an assignment with fixed numbers has there is in the set, and any that is in it
fixed_in : (box : List (List (ℤ × ℤ))) (a : List ℤ) (v : ℕ) → AreSets box → (set_at box v ≡ [] → ⊥) → (1 < set_size (set_at box v) → ⊥) → HasFixed box a v → IsInSet (set_at box v) (term_value a (Var v))
fixed_in box a v are some one fixed =
    let is = one_number (set_at box v) (ranges_of box v are) some one in
    let at : term_value a (Var v) ≡ is.0 = fixed is.0 is.1 in
    subst (λ (d : List (ℤ × ℤ)). IsInSet d (term_value a (Var v))) (sym is.1) (one_in is.0 (term_value a (Var v)) at)

fixed_same : (box : List (List (ℤ × ℤ))) (a b : List ℤ) (v : ℕ) → AreSets box → (set_at box v ≡ [] → ⊥) → (1 < set_size (set_at box v) → ⊥) → HasFixed box a v → IsAt box b v → term_value b (Var v) ≡ term_value a (Var v)
fixed_same box a b v are some one fixed i =
    let is = one_number (set_at box v) (ranges_of box v are) some one in
    in_one is.0 (term_value b (Var v)) (subst (λ (d : List (ℤ × ℤ)). IsInSet d (term_value b (Var v))) is.1 i) ∙ sym (fixed is.0 is.1)

-- ---- what was tried covers an assignment

-- an assignment with the numbers that another has for these variables
with_numbers : List ℕ → List ℤ → List ℤ → List ℤ
with_numbers [] b a = a
with_numbers (v ∷ vs) b a = with_numbers vs b (set a v (term_value b (Var v)))

never_at : (c : Constraint) (box : List (List (ℤ × ℤ))) (vs : List ℕ) (b a : List ℤ) → NeverFrom c box vs a → AllByRecursion (IsAt box b) vs → IsTrueOf (with_numbers vs b a) c → ⊥
unfolding with_numbers
never_at c box [] b a never all holds = never holds
never_at c box (v ∷ vs) b a never all holds = never_at c box vs b (set a v (term_value b (Var v))) (never (term_value b (Var v)) all.0) all.1 holds

same_put : (a b : List ℤ) (w v : ℕ) → w < length a → ((w ≡ v) ⊎ (term_value a (Var v) ≡ term_value b (Var v))) → term_value (set a w (term_value b (Var w))) (Var v) ≡ term_value b (Var v)
same_put a b w v within same = elim (cases_eq w v) [
  | inl e ↦ subst (λ (u : ℕ). term_value (set a w (term_value b (Var w))) (Var u) ≡ term_value b (Var u)) e (value_put a w (term_value b (Var w)) within)
  | inr ne ↦ elim same [ inl e ↦ absurd (ne e) | inr is ↦ value_kept a w v (term_value b (Var w)) ne ∙ is ]
]

below_put : (a : List ℤ) (w : ℕ) (x : ℤ) (vs : List ℕ) → AllByRecursion (λ v. v < length a) vs → AllByRecursion (λ v. v < length (set a w x)) vs
below_put a w x vs below = subst (λ (k : ℕ). AllByRecursion (λ v. v < k) vs) (sym (length_put a w x)) below

has_later : (w : ℕ) (ws : List ℕ) (b a : List ℤ) (v : ℕ) → w < length a → (Among (w ∷ ws) v ⊎ (term_value a (Var v) ≡ term_value b (Var v)))
    → Among ws v ⊎ (term_value (set a w (term_value b (Var w))) (Var v) ≡ term_value b (Var v))
has_later w ws b a v within (inl (inl e)) = inr (same_put a b w v within (inl e))
has_later w ws b a v within (inl (inr i)) = inl i
has_later w ws b a v within (inr is) = inr (same_put a b w v within (inr is))

has_numbers : (vs : List ℕ) (b a : List ℤ) (v : ℕ) → AllByRecursion (λ w. w < length a) vs → (Among vs v ⊎ (term_value a (Var v) ≡ term_value b (Var v))) → term_value (with_numbers vs b a) (Var v) ≡ term_value b (Var v)
unfolding with_numbers
has_numbers [] b a v below (inl i) = absurd i
has_numbers [] b a v below (inr is) = is
has_numbers (w ∷ ws) b a v below same =
    has_numbers ws b (set a w (term_value b (Var w))) v (below_put a w (term_value b (Var w)) ws below.1) (has_later w ws b a v below.0 same)

-- ---- all assignments of the variables' sets, and those that were tried

pub record IsBuffer (box : List (List (ℤ × ℤ))) (vs : List ℕ) (a : List ℤ) : Type 0 where
  pub are : AreSets box
  pub full : IsEmptyAmong box vs → ⊥
  pub room : length a ≡ length box
  pub fixed : AllByRecursion (HasFixed box a) vs

each_same : (box : List (List (ℤ × ℤ))) (ws vs : List ℕ) (a b : List ℤ) → AreSets box → (IsEmptyAmong box vs → ⊥) → AllByRecursion (HasFixed box a) vs → ((v : ℕ) → 1 < set_size (set_at box v) → Among vs v → Among ws v)
    → AllByRecursion (λ w. w < length a) ws → AllByRecursion (IsAt box b) vs → AllByRecursion (IsSameAt b (with_numbers ws b a)) vs
each_same box ws [] a b are full fixed opens below all = tt
each_same box ws (v ∷ vs) a b are full fixed opens below all = (
  sym (has_numbers ws b a v below (elim (cases_lt 1 (set_size (set_at box v))) [
    | inl big ↦ inl (opens v big (inl refl))
    | inr one ↦ inr (sym (fixed_same box a b v are (λ e. full (inl e)) (λ lt. omega (arith, one, lt)) fixed.0 all.0))
  ])),
  each_same box ws vs a b are (λ e. full (inr e)) fixed.1 (λ u big i. opens u big (inr i)) below all.1,
)

at_among : (box : List (List (ℤ × ℤ))) (b : List ℤ) (ws : List ℕ) (v : ℕ) → Among ws v → AllByRecursion (IsAt box b) ws → IsAt box b v
at_among box b [] v i all = absurd i
at_among box b (w ∷ ws) v (inl e) all = subst (IsAt box b) e all.0
at_among box b (w ∷ ws) v (inr i) all = at_among box b ws v i all.1

at_each : (box : List (List (ℤ × ℤ))) (b : List ℤ) (vs ws : List ℕ) → ((v : ℕ) → Among ws v → Among vs v) → AllByRecursion (IsAt box b) vs → AllByRecursion (IsAt box b) ws
at_each box b vs [] inside all = tt
at_each box b vs (w ∷ ws) inside all = (at_among box b vs w (inside w (inl refl)) all, at_each box b vs ws (λ v i. inside v (inr i)) all)

each_at : (box : List (List (ℤ × ℤ))) (ws vs : List ℕ) (a b : List ℤ) → AreSets box → (IsEmptyAmong box vs → ⊥) → AllByRecursion (HasFixed box a) vs → ((v : ℕ) → 1 < set_size (set_at box v) → Among vs v → Among ws v)
    → AllByRecursion (IsAt box b) ws → ((v : ℕ) → (Among ws v → ⊥) → term_value b (Var v) ≡ term_value a (Var v)) → AllByRecursion (IsAt box b) vs
each_at box ws [] a b are full fixed opens inside outside = tt
each_at box ws (v ∷ vs) a b are full fixed opens inside outside = (
  by_among ws v (λ i. at_among box b ws v i inside)
      (λ n. subst (IsInSet (set_at box v)) (sym (outside v n)) (fixed_in box a v are (λ e. full (inl e)) (λ big. n (opens v big (inl refl))) fixed.0)),
  each_at box ws vs a b are (λ e. full (inr e)) fixed.1 (λ u big i. opens u big (inr i)) inside outside,
)

from_never : (c : Constraint) (box : List (List (ℤ × ℤ))) (ws : List ℕ) (a : List ℤ)
    → ((b : List ℤ) → AllByRecursion (IsAt box b) ws → ((v : ℕ) → (Among ws v → ⊥) → term_value b (Var v) ≡ term_value a (Var v)) → IsTrueOf b c → ⊥)
    → AllByRecursion (λ w. w < length a) ws → NeverFrom c box ws a
from_never c box [] a all below = all a tt (λ v n. refl)
from_never c box (w ∷ ws) a all below = λ x i.
    from_never c box ws (set a w x)
    (λ b inside outside holds. all b
    (by_among ws w (λ j. at_among box b ws w j inside) (λ n. subst (IsInSet (set_at box w)) (sym (outside w n ∙ value_put a w x below.0)) i), inside)
    (λ v n. outside v (λ j. n (inr j)) ∙ value_kept a w v x (λ e. n (inl e)))
    holds)
    (below_put a w x ws below.1)

among_none : (box : List (List (ℤ × ℤ))) (vs : List ℕ) (v : ℕ) → Among (open_after box [] vs) v → Among vs v
among_none box vs v i = elim (only_open box [] vs v i) [ inl j ↦ absurd j | inr j ↦ j ]

pub small_is : (c : Constraint) (box : List (List (ℤ × ℤ))) (a : List ℤ) (several : List ℕ) → IsBuffer box (variables_of c.arguments) a → several ≡ open_after box [] (variables_of c.arguments) → choices_of box several ≤ 256
    → (NeverFrom c box several a → IsRefutedSmall c box) × (IsRefutedSmall c box → NeverFrom c box several a)
small_is c box a several buffer is few =
    let vs = variables_of c.arguments in
    let ws = open_after box [] vs in
    let below : AllByRecursion (λ w. w < length a) ws = subst (λ (k : ℕ). AllByRecursion (λ w. w < k) ws) (sym buffer.room) (all_within box ws (are_open box [] vs tt)) in
    let opens = λ (v : ℕ) (big : 1 < set_size (set_at box v)) (i : Among vs v). is_open box [] vs v big i in (
      λ never. record {
        few = subst (λ (us : List ℕ). choices_of box us ≤ 256) is few;
        never = λ b all holds. never_at c box ws b a (subst (λ (us : List ℕ). NeverFrom c box us a) is never) (at_each box b vs ws (among_none box vs) all)
            (truth_stays c b (with_numbers ws b a) (each_same box ws vs a b buffer.are buffer.full buffer.fixed opens below all) holds);
      },
      λ small. subst (λ (us : List ℕ). NeverFrom c box us a) (sym is) (from_never c box ws a
          (λ b inside outside holds. small.never b (each_at box ws vs a b buffer.are buffer.full buffer.fixed opens inside outside) holds) below),
    )
