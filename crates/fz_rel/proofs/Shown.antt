-- What the ends of two terms show of a relation, and what is true of all their numbers.
use Rattle.std.proofs.Common.{◌≡◌, List, refl, sym, ap, subst, ◌∙◌, inl, inr, arith, length}
use Rattle.std.specs.Prelude.{ℤ, pos, ◌≤ℤ◌}
use Rattle.std.proofs.lemmas.Int.{ints}
use Rattle.fz_sets.specs.Sets.{IsInSet}
use Rattle.fz_dom.specs.Shape.{least, greatest}
use Rattle.fz_dom.proofs.Ranges.{least_member, greatest_member}
use Rattle.fz_spec.specs.declared.term.Term.{Term}
use Rattle.fz_spec.specs.Constraints.{term_value}
use Rattle.fz_spec.specs.declared.shape.Relation.{Relation}
use Rattle.fz_spec.specs.declared.shape.Relation.TheVariants.{Equal, NotEqual, AtMost, Below}
use Rattle.fz_strength.specs.Domains.{term_set, AreDomains, IsTermOf}
use Rattle.fz_strength.specs.Events.{IsOnly}
use Rattle.fz_strength.specs.Promises.{IsTruth}
use Rattle.fz_strength.specs.Memberships.{LiesOutside}
use Rattle.fz_spec.specs.Truth.{Relates}
use Rattle.fz_strength.specs.Relations.{RestsAs, RestsAgainst, IsShown, IsRefuted}
use Rattle.fz_strength.proofs.Terms.{in_single}
use Rattle.fz_prop.specs.Truths.{HasRanges, AreSides, TruthWith, LineWith, IsAbout}
use Rattle.fz_prop.proofs.Filled.{term_ranges, narrower_ranges, one_left}
use Rattle.fz_prop.proofs.Reifying.{shown_about, refuted_about}
use Rattle.fz_prop.proofs.TermChanges.{term_within, narrower_term}
use Rattle.fz_rel.specs.Truths.{TruthOf}
use Rattle.fz_sets.proofs.Numbers.{above_of_not, most_of_not}
use Rattle.fz_prop.proofs.Numbers.{same_of_not}
use Rattle.fz_rel.specs.Reified.{sides_of}
use Rattle.fz_rel.specs.Seen.{AreAll, AreNone}

in_order : (d : List (ℤ × ℤ)) → HasRanges d → least d ≤ℤ greatest d
in_order d has = (greatest_member d has.some has.ranges).1 (least d) (least_member d has.some has.ranges).0

-- all numbers of two sets are one number, where each ends before the other begins
all_one : (d e : List (ℤ × ℤ)) → HasRanges d → HasRanges e → greatest d ≤ℤ least e → greatest e ≤ℤ least d → IsOnly d (least d) × IsOnly e (least d)
all_one d e has_d has_e first second =
    let low_d = least_member d has_d.some has_d.ranges in
    let high_d = greatest_member d has_d.some has_d.ranges in
    let low_e = least_member e has_e.some has_e.ranges in
    let high_e = greatest_member e has_e.some has_e.ranges in
    let order_d = in_order d has_d in
    let order_e = in_order e has_e in (
      one_left d (least d) has_d (λ u i. let low = low_d.1 u i in let high = high_d.1 u i in omega (arith, ints, low, high, first, second, order_e)),
      one_left e (least d) has_e (λ u i. let low = low_e.1 u i in let high = high_e.1 u i in omega (arith, ints, low, high, first, second, order_d)),
    )

-- a line, and what refutes the relation
pub not_both : (relation : Relation) (d e : List (ℤ × ℤ)) → HasRanges d → HasRanges e → RestsAs relation d e → IsRefuted relation d e → ⊥
not_both Equal d e has_d has_e same refuted =
    let order = in_order d has_d in
    let low = ap least same in
    let high = ap greatest same in
    elim refuted [ inl h ↦ omega (arith, ints, h, order, low, high) | inr h ↦ omega (arith, ints, h, order, low, high) ]
not_both NotEqual d e has_d has_e apart refuted =
    let both = all_one d e has_d has_e refuted.0 refuted.1 in
    apart.0 (least d) both.0 (subst (λ (f : List (ℤ × ℤ)). IsInSet f (least d)) (sym both.1) (in_single (least d) (least d) refl))
not_both AtMost d e has_d has_e line refuted =
    let order = in_order e has_e in
    let low = line.0 in
    omega (arith, ints, refuted, order, low)
not_both Below d e has_d has_e line refuted =
    let order = in_order e has_e in
    let low = line.0 in
    omega (arith, ints, refuted, order, low)

pub not_against : (relation : Relation) (d e : List (ℤ × ℤ)) → HasRanges d → HasRanges e → RestsAgainst relation d e → IsShown relation d e → ⊥
not_against Equal d e has_d has_e line shown = not_both NotEqual d e has_d has_e line shown
not_against NotEqual d e has_d has_e line shown = not_both Equal d e has_d has_e line shown
not_against AtMost d e has_d has_e line shown = not_both Below e d has_e has_d line shown
not_against Below d e has_d has_e line shown = not_both AtMost e d has_e has_d line shown

-- what is shown is true of all numbers
pub shown_true : (relation : Relation) (d e : List (ℤ × ℤ)) (x y : ℤ) → HasRanges d → HasRanges e → IsShown relation d e → IsInSet d x → IsInSet e y → Relates relation x y
shown_true Equal d e x y has_d has_e shown in_d in_e =
    let low_x = (least_member d has_d.some has_d.ranges).1 x in_d in
    let high_x = (greatest_member d has_d.some has_d.ranges).1 x in_d in
    let low_y = (least_member e has_e.some has_e.ranges).1 y in_e in
    let high_y = (greatest_member e has_e.some has_e.ranges).1 y in_e in
    let first = shown.0 in
    let second = shown.1 in
    omega (arith, ints, low_x, high_x, low_y, high_y, first, second)
shown_true NotEqual d e x y has_d has_e shown in_d in_e = λ same.
    let low_x = (least_member d has_d.some has_d.ranges).1 x in_d in
    let high_x = (greatest_member d has_d.some has_d.ranges).1 x in_d in
    let low_y = (least_member e has_e.some has_e.ranges).1 y in_e in
    let high_y = (greatest_member e has_e.some has_e.ranges).1 y in_e in
    elim shown [ inl h ↦ omega (arith, ints, same, high_x, low_y, h) | inr h ↦ omega (arith, ints, same, low_x, high_y, h) ]
shown_true AtMost d e x y has_d has_e shown in_d in_e =
    let high_x = (greatest_member d has_d.some has_d.ranges).1 x in_d in
    let low_y = (least_member e has_e.some has_e.ranges).1 y in_e in
    omega (arith, ints, high_x, low_y, shown)
shown_true Below d e x y has_d has_e shown in_d in_e =
    let high_x = (greatest_member d has_d.some has_d.ranges).1 x in_d in
    let low_y = (least_member e has_e.some has_e.ranges).1 y in_e in
    omega (arith, ints, high_x, low_y, shown)

pub shown_outside : (x y : Term) (ds : List (List (ℤ × ℤ))) → IsTermOf (length ds) x → IsTermOf (length ds) y → AreDomains ds → IsShown NotEqual (term_set ds x) (term_set ds y)
    → LiesOutside (term_set ds x) (term_set ds y)
shown_outside x y ds is_x is_y domains shown = λ z i j. shown_true NotEqual (term_set ds x) (term_set ds y) z z (term_ranges ds x is_x domains) (term_ranges ds y is_y domains) shown i j refl

-- what is true of all numbers has its line

pub all_rests : (relation : Relation) (d e : List (ℤ × ℤ)) → HasRanges d → HasRanges e → AreAll relation d e → RestsAs relation d e
all_rests Equal d e has_d has_e all =
    let low_d = least_member d has_d.some has_d.ranges in
    let low_e = least_member e has_e.some has_e.ranges in
    let first = one_left d (least e) has_d (λ u i. all u (least e) i low_e.0) in
    let second = one_left e (least e) has_e (λ w i. sym (all (least d) w low_d.0 i) ∙ all (least d) (least e) low_d.0 low_e.0) in
    first ∙ sym second
all_rests NotEqual d e has_d has_e all = (
  (λ u only i. all u u (subst (λ (f : List (ℤ × ℤ)). IsInSet f u) (sym only) (in_single u u refl)) i refl),
  (λ u only i. all u u i (subst (λ (f : List (ℤ × ℤ)). IsInSet f u) (sym only) (in_single u u refl)) refl),
)
all_rests AtMost d e has_d has_e all = (
  all (least d) (least e) (least_member d has_d.some has_d.ranges).0 (least_member e has_e.some has_e.ranges).0,
  all (greatest d) (greatest e) (greatest_member d has_d.some has_d.ranges).0 (greatest_member e has_e.some has_e.ranges).0,
)
all_rests Below d e has_d has_e all = (
  all (least d) (least e) (least_member d has_d.some has_d.ranges).0 (least_member e has_e.some has_e.ranges).0,
  all (greatest d) (greatest e) (greatest_member d has_d.some has_d.ranges).0 (greatest_member e has_e.some has_e.ranges).0,
)

pub none_rests : (relation : Relation) (d e : List (ℤ × ℤ)) → HasRanges d → HasRanges e → AreNone relation d e → RestsAgainst relation d e
none_rests Equal d e has_d has_e none = all_rests NotEqual d e has_d has_e none
none_rests NotEqual d e has_d has_e none = all_rests Equal d e has_d has_e (λ u w i j. same_of_not u w (none u w i j))
none_rests AtMost d e has_d has_e none = all_rests Below e d has_e has_d (λ w u j i. above_of_not u w (none u w i j))
none_rests Below d e has_d has_e none = all_rests AtMost e d has_e has_d (λ w u j i. most_of_not u w (none u w i j))

-- what is seen of the relation that is true exactly where this one is false
pub none_most : (d e : List (ℤ × ℤ)) → AreAll Below e d → AreNone AtMost d e
none_most d e all u w i j most = let below = all w u j i in omega (arith, ints, below, most)

pub none_below : (d e : List (ℤ × ℤ)) → AreAll AtMost e d → AreNone Below d e
none_below d e all u w i j below = let most = all w u j i in omega (arith, ints, below, most)

-- ---- the sides of a relation of two terms

pub are_sides : (relation : Relation) (x y : Term) (ds : List (List (ℤ × ℤ))) → IsTermOf (length ds) x → IsTermOf (length ds) y → AreSides (sides_of relation x y) ds
are_sides relation x y ds is_x is_y = record {
  one = λ es domains narrower line refuted. not_both relation (term_set es x) (term_set es y) (narrower_ranges ds es x is_x domains narrower) (narrower_ranges ds es y is_y domains narrower) line refuted;
  zero = λ es domains narrower line shown. not_against relation (term_set es x) (term_set es y) (narrower_ranges ds es x is_x domains narrower) (narrower_ranges ds es y is_y domains narrower) line shown;
}

-- where all numbers stand in the relation, a reified one is about the number 1 of its Boolean, and where none do, about 0
pub all_about : (relation : Relation) (x y r : Term) (ds : List (List (ℤ × ℤ))) → IsTermOf (length ds) x → IsTermOf (length ds) y → IsTermOf (length ds) r
    → AreAll relation (term_set ds x) (term_set ds y) → IsAbout r (λ u. u ≡ pos 1) (TruthWith (TruthOf relation x y) r) (LineWith (sides_of relation x y) r) ds
all_about relation x y r ds is_x is_y is_r all =
    shown_about (TruthOf relation x y) (sides_of relation x y) r ds is_r (are_sides relation x y ds is_x is_y)
    (λ a within. all (term_value a x) (term_value a y) (term_within ds a x is_x within) (term_within ds a y is_y within))
    (λ es domains narrower.
    all_rests relation (term_set es x) (term_set es y) (narrower_ranges ds es x is_x domains narrower) (narrower_ranges ds es y is_y domains narrower)
    (λ u w i j. all u w (narrower_term ds es x narrower u i) (narrower_term ds es y narrower w j)))

pub none_about : (relation : Relation) (x y r : Term) (ds : List (List (ℤ × ℤ))) → IsTermOf (length ds) x → IsTermOf (length ds) y → IsTermOf (length ds) r → IsTruth ds r
    → AreNone relation (term_set ds x) (term_set ds y) → IsAbout r (λ u. u ≡ pos 0) (TruthWith (TruthOf relation x y) r) (LineWith (sides_of relation x y) r) ds
none_about relation x y r ds is_x is_y is_r truth none =
    refuted_about (TruthOf relation x y) (sides_of relation x y) r ds is_r truth (are_sides relation x y ds is_x is_y)
    (λ a within. none (term_value a x) (term_value a y) (term_within ds a x is_x within) (term_within ds a y is_y within))
    (λ es domains narrower.
    none_rests relation (term_set es x) (term_set es y) (narrower_ranges ds es x is_x domains narrower) (narrower_ranges ds es y is_y domains narrower)
    (λ u w i j. none u w (narrower_term ds es x narrower u i) (narrower_term ds es y narrower w j)))
