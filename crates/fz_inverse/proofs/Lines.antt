-- The line of two lists of which all numbers can point back, and what a run of both answers.
use Rattle.std.proofs.Common.{◌≡◌, ℕ, ◌+◌, ◌<◌, List, [], ◌∷◌, ◌∙◌, refl, sym, subst, arith, length, true, false, Bool, pos, IsTrue}
use Rattle.std.specs.Prelude.{ℤ, slice_get, Some}
use Rattle.std.specs.List.{AllByRecursion}
use Rattle.std.proofs.lemmas.Int.{ints}
use Rattle.std.proofs.lemmas.Option.{slice_get_within}
use Rattle.fz_sets.specs.Sets.{IsInSet, IsInRange}
use Rattle.fz_sets.proofs.Lists.{all_of}
use Rattle.fz_dom.specs.declared.change.Change.{Change}
use Rattle.fz_dom.specs.declared.change.Change.TheVariants.{Same, Changed, Wiped}
use Rattle.fz_spec.specs.declared.term.Term.{Term}
use Rattle.fz_spec.specs.Constraints.{term_value}
use Rattle.fz_strength.specs.declared.event.Event.TheVariants.{Any}
use Rattle.fz_strength.specs.Domains.{term_set, room, AreDomains, Within, IsNarrower, IsTermOf}
use Rattle.fz_strength.specs.Events.{AllFixed, AreSingle}
use Rattle.fz_strength.specs.Inverse.{ArePlaces, IsInverseLine}
use Rattle.fz_strength.proofs.Inverse.{kept_inverse, inverse_true}
use Rattle.fz_strength.proofs.Terms.{AreQuietAt}
use Rattle.fz_prop.specs.Answers.{IsAnswerOf, IsCorrectOf}
use Rattle.fz_prop.specs.Outcomes.{IsOutcome, rested_by}
use Rattle.fz_prop.specs.Stores.{Stored, Shrinks}
use Rattle.fz_prop.proofs.Filled.{still_only}
use Rattle.fz_prop.proofs.TermChanges.{term_within, only_in}
use Rattle.fz_prop.proofs.Twice.{room_after}
use Rattle.fz_inverse.specs.Pointing.{PointBackAt, AreInverseAt, CanPointBack, AllCanPointBack, IsLeftAt, AreOthers, AreApart, IsApartKept}
use Rattle.fz_inverse.proofs.Lefts.{left_here}

-- ---- the line

places_of : (ts others : List Term) (ds : List (List (ℤ × ℤ))) → length ts ≡ length others → AllCanPointBack ts others ds → ArePlaces ds (length ts) ts
places_of ts others ds size all = all_of (λ (t : Term). (x : ℤ) → IsInSet (term_set ds t) x → IsInRange (pos 1, pos (length ts)) x) ts (λ i t at x is.
    let w = all i t x at is in
    let inside = slice_get_within others w.index w.back.term w.back.stands in
    let e = w.is_place in
    (omega (arith, ints, e), omega (arith, ints, e, inside, size)))

left_back : (ts others : List Term) (ds : List (List (ℤ × ℤ))) (i j : ℕ) (t other : Term) → AllCanPointBack ts others ds → slice_get ts i ≡ Some t → slice_get others j ≡ Some other
    → IsInSet (term_set ds t) (pos (j + 1)) → IsInSet (term_set ds other) (pos (i + 1))
left_back ts others ds i j t other all at_t at_other is =
    let w = all i t (pos (j + 1)) at_t is in
    let e = w.is_place in
    let one : w.index ≡ j = omega (arith, ints, e) in
    left_here others ds i j other at_other (subst (λ (k : ℕ). IsLeftAt others ds i k) one w.back)

pub line_of : (fs gs : List Term) (ds : List (List (ℤ × ℤ))) → length fs ≡ length gs → AllCanPointBack fs gs ds → AllCanPointBack gs fs ds → IsInverseLine fs gs ds
line_of fs gs ds size there back = record {
  size = size;
  first = places_of fs gs ds size there;
  second = places_of gs fs ds (sym size) back;
  mirrored = λ i j f g at_f at_g. (left_back fs gs ds i j f g there at_f at_g, left_back gs fs ds j i g f back at_g at_f);
}

-- ---- where all terms are fixed

singles : (ts : List Term) (ds : List (List (ℤ × ℤ))) (a : List ℤ) → AllByRecursion (IsTermOf (length ds)) ts → AllFixed ds ts → Within ds a → AreSingle ds a ts
singles [] ds a terms fixed within = tt
singles (t ∷ ts) ds a terms fixed within =
    let same : term_value a t ≡ fixed.0.0 = only_in (term_set ds t) fixed.0.0 (term_value a t) fixed.0.1 (term_within ds a t terms.0 within) in
    (subst (λ (n : ℤ). term_set ds t ≡ (n, n) ∷ []) (sym same) fixed.0.1, singles ts ds a terms.1 fixed.1 within)

all_stay : (ts : List Term) (ds es : List (List (ℤ × ℤ))) → AllByRecursion (IsTermOf (length ds)) ts → AllFixed ds ts → AreDomains es → IsNarrower ds es → AreQuietAt Any ds es ts
all_stay [] ds es terms fixed domains narrower = tt
all_stay (t ∷ ts) ds es terms fixed domains narrower =
    (fixed.0.1 ∙ sym (still_only ds es t fixed.0.0 terms.0 fixed.0.1 domains narrower), all_stay ts ds es terms.1 fixed.1 domains narrower)

-- where the line holds, it does for good if all terms are fixed
pub rested_answer : (for_good : Bool) (fs gs : List Term) (ds es : List (List (ℤ × ℤ))) → AllByRecursion (IsTermOf (length es)) fs → AllByRecursion (IsTermOf (length es)) gs
    → (IsTrue for_good → AllFixed es fs) → (IsTrue for_good → AllFixed es gs) → IsInverseLine fs gs es → IsAnswerOf (rested_by for_good) (AreInverseAt fs gs) (IsInverseLine fs gs) ds es
rested_answer false fs gs ds es in_fs in_gs of_f of_g line = line
rested_answer true fs gs ds es in_fs in_gs of_f of_g line = (
  (λ a within. inverse_true fs gs es a (singles fs es a in_fs (of_f refl) within) (singles gs es a in_gs (of_g refl) within) line),
  (λ ns domains narrower. kept_inverse fs gs es ns (all_stay fs es ns in_fs (of_f refl) domains narrower) (all_stay gs es ns in_gs (of_g refl) domains narrower) line),
)

-- ---- one list, and then the other

pub both_correct : (fs gs : List Term) (r s t : Stored) → IsCorrectOf (PointBackAt fs gs) r.doms s.doms → IsCorrectOf (PointBackAt gs fs) s.doms t.doms → IsCorrectOf (AreInverseAt fs gs) r.doms t.doms
both_correct fs gs r s t first second = λ a holds within. second a holds.back (first a holds.there within)

pub first_correct : (fs gs : List Term) (r s : Stored) → IsCorrectOf (PointBackAt fs gs) r.doms s.doms → IsCorrectOf (AreInverseAt fs gs) r.doms s.doms
first_correct fs gs r s first = λ a holds within. first a holds.there within

pub first_fails : (fs gs : List Term) (r s t : Stored) → IsOutcome Wiped (PointBackAt fs gs) r s → IsOutcome Wiped (AreInverseAt fs gs) r t
first_fails fs gs r s t none = λ a within holds. none a within holds.there

-- where the second changes nothing, it is what the first made of it
pub first_outcome : (change : Change) (fs gs : List Term) (r s t : Stored) → (change ≡ Wiped → ⊥) → t ≡ s → IsOutcome change (PointBackAt fs gs) r s → IsOutcome change (AreInverseAt fs gs) r t
first_outcome Same fs gs r s t not same h = same ∙ h
first_outcome Changed fs gs r s t not same h = subst (λ (u : Stored). room u.doms < room r.doms) (sym same) h
first_outcome Wiped fs gs r s t not same h = absurd (not refl)

pub second_outcome : (change : Change) (fs gs : List Term) (r s t : Stored) → (change ≡ Same → ⊥) → Shrinks r s → IsCorrectOf (PointBackAt fs gs) r.doms s.doms → IsOutcome change (PointBackAt gs fs) s t
    → IsOutcome change (AreInverseAt fs gs) r t
second_outcome Same fs gs r s t not shrinks correct h = absurd (not refl)
second_outcome Changed fs gs r s t not shrinks correct h = let before = room_after r s shrinks in omega (arith, before, h)
second_outcome Wiped fs gs r s t not shrinks correct h = λ a within holds. h a (correct a holds.there within) holds.back

-- ---- where all are different variables

pub turned : (fs gs : List Term) → AreOthers fs gs → AreOthers gs fs
turned fs gs others = λ i j v at_g at_f. others j i v at_f at_g

-- the numbers of the first list still can point back, as the second is kept to those that can
pub second_keeps : (fs gs : List Term) (s t : Stored) → AreApart fs gs → IsApartKept gs fs s.doms t.doms → AllCanPointBack fs gs s.doms → AllCanPointBack fs gs t.doms
second_keeps fs gs s t apart kept all = λ i f x at is.
    let others = turned fs gs apart.others in
    let was : IsInSet (term_set s.doms f) x = subst (λ (d : List (ℤ × ℤ)). IsInSet d x) (kept.still others i f at) is in
    let w = all i f x at was in
    let mine : CanPointBack fs s.doms w.index (pos (i + 1)) = record { index = i; is_place = refl; back = record { term = f; stands = at; left = subst (IsInSet (term_set s.doms f)) w.is_place was } } in
    let stays : IsInSet (term_set t.doms w.back.term) (pos (i + 1)) = kept.stay others apart.once w.index w.back.term (pos (i + 1)) w.back.stands w.back.left mine in
    record { index = w.index; is_place = w.is_place; back = record { term = w.back.term; stands = w.back.stands; left = stays } }

pub is_changed : (change : Change) → (change ≡ Wiped → ⊥) → (change ≡ Same → ⊥) → change ≡ Changed
is_changed Same wiped same = absurd (same refl)
is_changed Changed wiped same = refl
is_changed Wiped wiped same = absurd (wiped refl)
