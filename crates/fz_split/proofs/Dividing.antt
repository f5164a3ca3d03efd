-- A plan's choice at an undecided node divides it.
use Rattle.std.proofs.Common.{◌≡◌, ◌∙◌, ℕ, zero, suc, ◌-◌, ◌/◌, ◌<◌, List, [], ◌∷◌, length, sym, subst, refl, arith, Bool, true, false, cond, Option, None, MatchOption, slice_index, slice_index_or, get_or}
use Rattle.std.specs.Prelude.{ℤ, pos, negsuc, ◌+ℤ◌, ◌≤ℤ◌}
use Rattle.std.specs.Int.{int_div_euclid}
use Rattle.std.specs.List.{AllByRecursion}
use Rattle.std.proofs.lemmas.Bool.{ltb-true, ltb-false}
use Rattle.std.proofs.lemmas.Int.{ints}
use Rattle.fz_sets.specs.Sets.{AreRanges, IsInSet, set_size}
use Rattle.fz_sets.proofs.Lists.{same_at, all_get}
use Rattle.fz_dom.specs.Shape.{least, greatest}
use Rattle.fz_dom.proofs.Ranges.{lower_bound, upper_bound, least_is_in, greatest_is_in}
use Rattle.fz_spec.specs.declared.search.Pick.TheVariants.{InputOrder}
use Rattle.fz_spec.specs.declared.search.Value.{Value}
use Rattle.fz_spec.specs.declared.search.Value.TheVariants.{IndomainMin, IndomainMax, IndomainMedian, IndomainSplit, IndomainReverseSplit, Indomain}
use Rattle.fz_spec.specs.Instance.{Instance, SearchPart}
use Rattle.fz_tree.specs.declared.decision.Comparison.TheVariants.{AtMost}
use Rattle.fz_tree.specs.declared.decision.Decision.{Decision}
use Rattle.fz_tree.specs.Choice.{pair_of}
use Rattle.fz_region.specs.Each.{value_at, each_of}
use Rattle.fz_region.proofs.Each.{value_in, each_of_all}
use Rattle.fz_branch.specs.Values.{is_open, median, middle, decision_of, takes_each, choice_of}
use Rattle.fz_branch.specs.Picks.{IsDone, domain_at}
use Rattle.fz_branch.specs.Plans.{IsPlanOf, AreDone, IsChosen, IsChosenOf}
use Rattle.fz_branch.proofs.Choosing.{open_within}
use Rattle.fz_branch.proofs.Keeping.{all_keep, all_on, one_is_met}
use Rattle.fz_search_space.specs.Spaces.{AreDomains, IsUndecided, dom_at, number_at}
use Rattle.fz_search_space.proofs.Places.{some_at}
use Rattle.fz_split.specs.Divisions.{IsBetween, IsDivision}

-- ---- between the ends

pub between_in : (d : List (ℤ × ℤ)) (x : ℤ) → AreRanges d → IsInSet d x → (least d ≤ℤ x) × (x ≤ℤ greatest d)
between_in [] x ranges member = absurd member
between_in (r ∷ rs) x ranges member = (lower_bound r rs x ranges member, upper_bound (r ∷ rs) x ranges member)

pub least_in : (d : List (ℤ × ℤ)) → AreRanges d → 0 < length d → IsInSet d (least d)
least_in [] ranges some = absurd (omega (arith, some))
least_in (r ∷ rs) ranges some = least_is_in r rs ranges

pub greatest_in : (d : List (ℤ × ℤ)) → AreRanges d → 0 < length d → IsInSet d (greatest d)
greatest_in [] ranges some = absurd (omega (arith, some))
greatest_in (r ∷ rs) ranges some = greatest_is_in r rs ranges

some_open : (d : List (ℤ × ℤ)) → is_open d ≡ true → 0 < length d
some_open [] several = absurd (omega (arith, ltb-true 1 0 several))
some_open (r ∷ rs) several = omega arith

middle_between : (sum low high : ℤ) → sum ≡ low +ℤ high → low ≤ℤ high → (low ≤ℤ int_div_euclid sum (pos 2)) × (int_div_euclid sum (pos 2) ≤ℤ high)
middle_between (pos n) low high is order = (omega (arith, ints, is, order), omega (arith, ints, is, order))
middle_between (negsuc n) low high is order = (omega (arith, ints, is, order), omega (arith, ints, is, order))

middle_in : (d : List (ℤ × ℤ)) → AreRanges d → is_open d ≡ true → (least d ≤ℤ middle d) × (middle d ≤ℤ greatest d)
middle_in d ranges several =
    let order = (between_in d (least d) ranges (least_in d ranges (some_open d several))).1 in
    middle_between (least d +ℤ greatest d) (least d) (greatest d) refl order

decision_between : (value : Value) (v : ℕ) (d : List (ℤ × ℤ)) → AreRanges d → is_open d ≡ true → IsBetween d (decision_of value v d)
decision_between IndomainMin v d ranges several = between_in d (least d) ranges (least_in d ranges (some_open d several))
decision_between IndomainMax v d ranges several = between_in d (greatest d) ranges (greatest_in d ranges (some_open d several))
decision_between IndomainMedian v d ranges several =
    let at : (set_size d - 1) / 2 < set_size d = omega (arith, ltb-true 1 (set_size d) several) in
    between_in d (median d) ranges (value_in d ((set_size d - 1) / 2) ranges at)
decision_between IndomainSplit v d ranges several = middle_in d ranges several
decision_between IndomainReverseSplit v d ranges several = middle_in d ranges several
decision_between Indomain v d ranges several = between_in d (least d) ranges (least_in d ranges (some_open d several))

between_if : (b : Bool) (d : List (ℤ × ℤ)) (each pair : List Decision) → AllByRecursion (IsBetween d) each → AllByRecursion (IsBetween d) pair → AllByRecursion (IsBetween d) (cond b each pair)
between_if true d each pair e p = e
between_if false d each pair e p = p

all_between : (value : Value) (v : ℕ) (d : List (ℤ × ℤ)) → AreRanges d → is_open d ≡ true → AllByRecursion (IsBetween d) (choice_of value v d)
all_between value v d ranges several =
    let one = decision_between value v d ranges several in
    between_if (takes_each value d) d (each_of v d) (pair_of (decision_of value v d)) (each_of_all (IsBetween d) v d (λ k h. between_in d (value_at d k) ranges (value_in d k ranges h))) (one, (one, tt))

-- ---- what is chosen

divided_by : (ds : List (List (ℤ × ℤ))) (value : Value) (v : ℕ) → AreDomains ds → is_open (domain_at ds v) ≡ true → IsDivision ds (choice_of value v (domain_at ds v))
divided_by ds value v domains several =
    let below = open_within ds v several in
    let ranges = (domains v below).0.0 in
    record {
      variable = v;
      below = below;
      on_it = all_on value v (domain_at ds v);
      keeps = all_keep value v (domain_at ds v) ranges several;
      between = all_between value v (domain_at ds v) ranges several;
      one_is_met = λ a within. (
          let size : v < length a = rw within.size below in
          one_is_met value v (domain_at ds v) a (number_at a v) size (some_at a v size) (within.members v below)
          );
    }

-- the variable that is chosen has several values left, and all decisions are on it
pub record IsOn (ds : List (List (ℤ × ℤ))) (choice : List Decision) : Type 0 where
  pub variable : ℕ
  pub several : is_open (domain_at ds variable) ≡ true
  pub on_it : AllByRecursion (λ (d : Decision). d.variable ≡ variable) choice

-- a part that isn't read
blank : SearchPart
blank = record { variables = []; pick = InputOrder; value = IndomainMin }

pub chosen_on : (plan : List SearchPart) (ds : List (List (ℤ × ℤ))) (choice : List Decision) → IsChosen plan ds choice → IsOn ds choice
chosen_on plan ds choice chosen =
    let part = slice_index_or plan chosen.part blank in
    let of_part : IsChosenOf ds part choice = chosen.of_part blank in
    let v = slice_index part.variables of_part.place in
    record { variable = v; several = of_part.picked.several; on_it = subst (AllByRecursion (λ (d : Decision). d.variable ≡ v)) (sym of_part.divides) (all_on part.value v (domain_at ds v)) }

pub divided : (plan : List SearchPart) (ds : List (List (ℤ × ℤ))) (choice : List Decision) → AreDomains ds → IsChosen plan ds choice → IsDivision ds choice
divided plan ds choice domains chosen =
    let part = slice_index_or plan chosen.part blank in
    let of_part : IsChosenOf ds part choice = chosen.of_part blank in
    subst (IsDivision ds) (sym of_part.divides) (divided_by ds part.value (slice_index part.variables of_part.place) domains of_part.picked.several)

-- ---- the halves of a domain

pub halved : (ds : List (List (ℤ × ℤ))) (v : ℕ) (x : ℤ) → AreDomains ds → is_open (domain_at ds v) ≡ true → x ≡ middle (domain_at ds v) → IsDivision ds (pair_of (record { variable = v; comparison = AtMost; value = x }))
halved ds v x domains several is =
    subst (λ (y : ℤ). IsDivision ds (pair_of (record { variable = v; comparison = AtMost; value = y }))) (sym is) (divided_by ds IndomainSplit v domains several)

-- as the code reads it: of the first decision its variable, of which dom is the domain
pub first_on : (ds : List (List (ℤ × ℤ))) (choice : List Decision) (on : IsOn ds choice) (first : Decision) → 0 < length choice → first ≡ get_or choice 0 first → first.variable ≡ on.variable
first_on ds choice on first some is = subst (λ (d : Decision). d.variable ≡ on.variable) (sym is) (all_get (λ (d : Decision). d.variable ≡ on.variable) choice 0 first some on.on_it)

pub open_first : (ds : List (List (ℤ × ℤ))) (choice : List Decision) (first : Decision) → IsOn ds choice → 0 < length choice → first ≡ get_or choice 0 first → is_open (domain_at ds first.variable) ≡ true
open_first ds choice first on some is = subst (λ (v : ℕ). is_open (domain_at ds v) ≡ true) (sym (first_on ds choice on first some is)) on.several

pub dom_read : (ds : List (List (ℤ × ℤ))) (v : ℕ) (dom : List (ℤ × ℤ)) → is_open (domain_at ds v) ≡ true → dom ≡ get_or ds v dom → dom ≡ domain_at ds v
dom_read ds v dom several is = is ∙ same_at ds v dom [] (open_within ds v several)

-- ---- some variable is chosen

done_at : (ds : List (List (ℤ × ℤ))) (ps : List SearchPart) (k : ℕ) (p : SearchPart) → k < length ps → slice_index_or ps k p ≡ p → AreDone ds ps → IsDone ds p.variables
done_at ds [] k p within is done = absurd (omega (arith, within))
done_at ds (q ∷ ps) zero p within is done = subst (λ (r : SearchPart). IsDone ds r.variables) is done.0
done_at ds (q ∷ ps) (suc k) p within is done = done_at ds ps k p (omega (arith, within)) is done.1

pub not_done : (m : Instance) (plan : List SearchPart) (ds : List (List (ℤ × ℤ))) → length ds ≡ length m.variables → IsUndecided ds → IsPlanOf m plan → AreDone ds plan → ⊥
not_done m plan ds size undecided whole done =
    let v = undecided.variable in
    let below : v < length m.variables = rw (← size) undecided.within in
    let part = whole v below in
    let place = part.4 in
    let closed = done_at ds plan part.0 part.1 part.2 part.3 done place.0 place.1 in
    let there : slice_index part.1.variables place.0 ≡ v = same_at part.1.variables place.0 0 v place.1 ∙ place.2 in
    let shut : is_open (dom_at ds v) ≡ false = subst (λ (u : ℕ). is_open (domain_at ds u) ≡ false) there closed in
    absurd (omega (arith, undecided.several, ltb-false 1 (set_size (dom_at ds v)) shut))

-- as the code says it: seen are the domains that it reads
pub none_chosen : (m : Instance) (plan : List SearchPart) (ds seen : List (List (ℤ × ℤ))) (o : Option (List Decision)) → seen ≡ ds → length ds ≡ length m.variables → IsUndecided ds → IsPlanOf m plan
    → o ≡ None → MatchOption o (AreDone seen plan) (IsChosen plan seen) → ⊥
none_chosen m plan ds seen o same size undecided whole none found =
    not_done m plan ds size undecided whole (subst (λ (xs : List (List (ℤ × ℤ))). AreDone xs plan) same (subst (λ (q : Option (List Decision)). MatchOption q (AreDone seen plan) (IsChosen plan seen)) none found))
