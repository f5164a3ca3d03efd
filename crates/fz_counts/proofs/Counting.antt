-- How many terms have a value, of an assignment within the domains: no fewer than are sure to, and no more than may.
use Rattle.std.proofs.Common.{◌≡◌, ℕ, ◌≤◌, List, [], ◌∷◌, refl, sym, ap, subst, ◌∙◌, arith, length, Bool, true, false, cond}
use Rattle.std.specs.Prelude.{ℤ, pos, ◌≤ℤ◌, ◌&&◌, ◌↔◌, not, IsTrue}
use Rattle.std.specs.Ordering.{int_eq}
use Rattle.std.specs.List.{AllByRecursion}
use Rattle.std.proofs.lemmas.Bool.{and_from, and_parts, false_from_ne_true}
use Rattle.std.proofs.lemmas.Bool.Decides.{Decides-int_eq}
use Rattle.std.proofs.lemmas.Int.{ints}
use mir.Val.{bool_byte}
use Rattle.fz_sets.specs.Sets.{IsInSet}
use Rattle.fz_dom.specs.Changes.{IsFromTo}
use Rattle.fz_dom.specs.Shape.{least, greatest}
use Rattle.fz_dom.proofs.Ranges.{least_below, upper_bound}
use Rattle.fz_spec.specs.declared.term.Term.{Term}
use Rattle.fz_spec.specs.Constraints.{term_value, term_values}
use Rattle.fz_spec.specs.Truth.{count_of}
use Rattle.fz_strength.specs.Counts.{may_be, is_surely, fewest, most, IsDecided, IsCountLine}
use Rattle.fz_strength.specs.Domains.{term_set, AreDomains, Within, IsNarrower, IsTermOf}
use Rattle.fz_strength.specs.Events.{IsOnly}
use Rattle.fz_strength.proofs.Counts.{left_is, is_left, has_value, count_values}
use Rattle.fz_strength.proofs.Spreads.{count_le, count_back}
use Rattle.fz_strength.proofs.Terms.{in_single}
use Rattle.fz_prop.proofs.Filled.{term_ranges, one_left, still_only}
use Rattle.fz_prop.proofs.TermChanges.{term_within, narrower_term, only_in}
use Rattle.fz_counts.specs.declared.places.Choice.TheVariants.{Without, With}
use Rattle.fz_counts.specs.Counting.{IsCount, IsOpen, IsSettled, AllGo}

-- ---- one term

pub only_of : (ds : List (List (ℤ × ℤ))) (value : ℤ) (t : Term) → IsTermOf (length ds) t → AreDomains ds → is_surely ds value t ≡ true → IsOnly (term_set ds t) value
only_of ds value t is domains sure =
    let d = term_set ds t in
    let has = term_ranges ds t is domains in
    let both = and_parts (int_eq (least d) value) (int_eq (greatest d) value) sure in
    let low : least d ≡ value = (Decides-int_eq (least d) value).0 both.0 in
    let high : greatest d ≡ value = (Decides-int_eq (greatest d) value).0 both.1 in
    one_left d value has (λ u i.
    let from = least_below d u has.ranges i in
    let to = upper_bound d u has.ranges i in
    omega (arith, ints, low, high, from, to))

sure_of : (d : List (ℤ × ℤ)) (value : ℤ) → IsOnly d value → (int_eq (least d) value && int_eq (greatest d) value) ≡ true
sure_of d value only =
    let same = (Decides-int_eq value value).1 refl in
    rw only (and_from (int_eq value value) (int_eq value value) same same)

has_only : (d : List (ℤ × ℤ)) (value : ℤ) → IsOnly d value → IsInSet d value
has_only d value only = subst (λ (e : List (ℤ × ℤ)). IsInSet e value) (sym only) (in_single value value refl)

surely_left : (ds : List (List (ℤ × ℤ))) (value : ℤ) (t : Term) → IsTermOf (length ds) t → AreDomains ds → is_surely ds value t ≡ true → may_be ds value t ≡ true
surely_left ds value t is domains sure = is_left (term_set ds t) value (has_only (term_set ds t) value (only_of ds value t is domains sure))

surely_had : (ds : List (List (ℤ × ℤ))) (a : List ℤ) (value : ℤ) (t : Term) → IsTermOf (length ds) t → AreDomains ds → Within ds a → is_surely ds value t ≡ true → has_value a value t ≡ true
surely_had ds a value t is domains within sure =
    (Decides-int_eq (term_value a t) value).1 (only_in (term_set ds t) value (term_value a t) (only_of ds value t is domains sure) (term_within ds a t is within))

had_left : (ds : List (List (ℤ × ℤ))) (a : List ℤ) (value : ℤ) (t : Term) → IsTermOf (length ds) t → Within ds a → has_value a value t ≡ true → may_be ds value t ≡ true
had_left ds a value t is within had =
    is_left (term_set ds t) value (subst (IsInSet (term_set ds t)) ((Decides-int_eq (term_value a t) value).0 had) (term_within ds a t is within))

-- ---- all terms

all_left : (ds : List (List (ℤ × ℤ))) (value : ℤ) (xs : List Term) → AllByRecursion (IsTermOf (length ds)) xs → AreDomains ds
    → AllByRecursion (λ (t : Term). is_surely ds value t ≡ true → may_be ds value t ≡ true) xs
all_left ds value [] terms domains = tt
all_left ds value (x ∷ xs) terms domains = ((λ sure. surely_left ds value x terms.0 domains sure), all_left ds value xs terms.1 domains)

all_sure : (ds : List (List (ℤ × ℤ))) (a : List ℤ) (value : ℤ) (xs : List Term) → AllByRecursion (IsTermOf (length ds)) xs → AreDomains ds → Within ds a
    → AllByRecursion (λ (t : Term). is_surely ds value t ≡ true → has_value a value t ≡ true) xs
all_sure ds a value [] terms domains within = tt
all_sure ds a value (x ∷ xs) terms domains within = ((λ sure. surely_had ds a value x terms.0 domains within sure), all_sure ds a value xs terms.1 domains within)

all_had : (ds : List (List (ℤ × ℤ))) (a : List ℤ) (value : ℤ) (xs : List Term) → AllByRecursion (IsTermOf (length ds)) xs → Within ds a
    → AllByRecursion (λ (t : Term). has_value a value t ≡ true → may_be ds value t ≡ true) xs
all_had ds a value [] terms within = tt
all_had ds a value (x ∷ xs) terms within = ((λ had. had_left ds a value x terms.0 within had), all_had ds a value xs terms.1 within)

pub at_least : (ds : List (List (ℤ × ℤ))) (a : List ℤ) (value : ℤ) (xs : List Term) → AllByRecursion (IsTermOf (length ds)) xs → AreDomains ds → Within ds a
    → fewest xs ds value ≤ count_of value (term_values a xs)
at_least ds a value xs terms domains within =
    subst (λ (n : ℕ). fewest xs ds value ≤ n) (count_values a value xs) (count_le (is_surely ds value) (has_value a value) xs (all_sure ds a value xs terms domains within))

pub at_most : (ds : List (List (ℤ × ℤ))) (a : List ℤ) (value : ℤ) (xs : List Term) → AllByRecursion (IsTermOf (length ds)) xs → Within ds a → count_of value (term_values a xs) ≤ most xs ds value
at_most ds a value xs terms within =
    subst (λ (n : ℕ). n ≤ most xs ds value) (count_values a value xs) (count_le (has_value a value) (may_be ds value) xs (all_had ds a value xs terms within))

-- a count lies between both
pub count_between : (ds : List (List (ℤ × ℤ))) (a : List ℤ) (value : ℤ) (xs : List Term) (count : Term) → AllByRecursion (IsTermOf (length ds)) xs → AreDomains ds → Within ds a → IsCount xs value count a
    → IsFromTo (pos (fewest xs ds value)) (pos (most xs ds value)) (term_value a count)
count_between ds a value xs count terms domains within is =
    let from = at_least ds a value xs terms domains within in
    let to = at_most ds a value xs terms within in
    (omega (arith, ints, is, from), omega (arith, ints, is, to))

-- ---- no more have it than are sure to, or no fewer than may

without : (ds : List (List (ℤ × ℤ))) (a : List ℤ) (value : ℤ) (xs : List Term) → AllByRecursion (IsTermOf (length ds)) xs → AreDomains ds
    → AllByRecursion (λ (t : Term). has_value a value t ≡ true → is_surely ds value t ≡ true) xs → AllGo Without value xs ds a
without ds a value [] terms domains back = tt
without ds a value (x ∷ xs) terms domains back = (
  (λ opened had. opened.1 (only_of ds value x terms.0 domains (back.0 ((Decides-int_eq (term_value a x) value).1 had)))),
  without ds a value xs terms.1 domains back.1,
)

with_it : (ds : List (List (ℤ × ℤ))) (a : List ℤ) (value : ℤ) (xs : List Term) → AllByRecursion (λ (t : Term). may_be ds value t ≡ true → has_value a value t ≡ true) xs → AllGo With value xs ds a
with_it ds a value [] back = tt
with_it ds a value (x ∷ xs) back = ((λ opened. (Decides-int_eq (term_value a x) value).0 (back.0 (is_left (term_set ds x) value opened.0))), with_it ds a value xs back.1)

pub full_goes : (ds : List (List (ℤ × ℤ))) (a : List ℤ) (value : ℤ) (xs : List Term) (count : Term) (n : ℕ) → AllByRecursion (IsTermOf (length ds)) xs → IsTermOf (length ds) count → AreDomains ds
    → greatest (term_set ds count) ≡ pos n → n ≤ fewest xs ds value → Within ds a → IsCount xs value count a → AllGo Without value xs ds a
full_goes ds a value xs count n terms term domains top few within is =
    let to = upper_bound (term_set ds count) (term_value a count) (term_ranges ds count term domains).ranges (term_within ds a count term within) in
    let less : count_of value (term_values a xs) ≤ fewest xs ds value = omega (arith, ints, is, to, top, few) in
    without ds a value xs terms domains
    (count_back (is_surely ds value) (has_value a value) xs (all_sure ds a value xs terms domains within) (subst (λ (m : ℕ). m ≤ fewest xs ds value) (sym (count_values a value xs)) less))

pub needed_goes : (ds : List (List (ℤ × ℤ))) (a : List ℤ) (value : ℤ) (xs : List Term) (count : Term) (n : ℕ) → AllByRecursion (IsTermOf (length ds)) xs → IsTermOf (length ds) count → AreDomains ds
    → least (term_set ds count) ≡ pos n → most xs ds value ≤ n → Within ds a → IsCount xs value count a → AllGo With value xs ds a
needed_goes ds a value xs count n terms term domains bottom many within is =
    let from = least_below (term_set ds count) (term_value a count) (term_ranges ds count term domains).ranges (term_within ds a count term within) in
    let more : most xs ds value ≤ count_of value (term_values a xs) = omega (arith, ints, is, from, bottom, many) in
    with_it ds a value xs (count_back (has_value a value) (may_be ds value) xs (all_had ds a value xs terms within) (subst (λ (m : ℕ). most xs ds value ≤ m) (sym (count_values a value xs)) more))

-- ---- as many are sure to as may

decided : (ds : List (List (ℤ × ℤ))) (value : ℤ) (xs : List Term) → AllByRecursion (IsTermOf (length ds)) xs → AreDomains ds
    → AllByRecursion (λ (t : Term). may_be ds value t ≡ true → is_surely ds value t ≡ true) xs → IsDecided xs ds value
decided ds value [] terms domains back = tt
decided ds value (x ∷ xs) terms domains back = ((λ member. only_of ds value x terms.0 domains (back.0 (is_left (term_set ds x) value member))), decided ds value xs terms.1 domains back.1)

-- no fewer may have it than are sure to
pub no_fewer : (ds : List (List (ℤ × ℤ))) (value : ℤ) (xs : List Term) → AllByRecursion (IsTermOf (length ds)) xs → AreDomains ds → fewest xs ds value ≤ most xs ds value
no_fewer ds value xs terms domains = count_le (is_surely ds value) (may_be ds value) xs (all_left ds value xs terms domains)

pub decided_by : (ds : List (List (ℤ × ℤ))) (value : ℤ) (xs : List Term) → AllByRecursion (IsTermOf (length ds)) xs → AreDomains ds → most xs ds value ≤ fewest xs ds value → IsDecided xs ds value
decided_by ds value xs terms domains few = decided ds value xs terms domains (count_back (is_surely ds value) (may_be ds value) xs (all_left ds value xs terms domains) few)

-- ---- where less is left

still_sure : (ds es : List (List (ℤ × ℤ))) (value : ℤ) (xs : List Term) → AllByRecursion (IsTermOf (length ds)) xs → AreDomains ds → AreDomains es → IsNarrower ds es
    → AllByRecursion (λ (t : Term). is_surely ds value t ≡ true → is_surely es value t ≡ true) xs
still_sure ds es value [] terms before after narrower = tt
still_sure ds es value (x ∷ xs) terms before after narrower = (
  (λ sure. sure_of (term_set es x) value (still_only ds es x value terms.0 (only_of ds value x terms.0 before sure) after narrower)),
  still_sure ds es value xs terms.1 before after narrower,
)

was_left : (ds es : List (List (ℤ × ℤ))) (value : ℤ) (xs : List Term) → IsNarrower ds es → AllByRecursion (λ (t : Term). may_be es value t ≡ true → may_be ds value t ≡ true) xs
was_left ds es value [] narrower = tt
was_left ds es value (x ∷ xs) narrower = ((λ may. is_left (term_set ds x) value (narrower_term ds es x narrower value (left_is (term_set es x) value may))), was_left ds es value xs narrower)

pub fewest_grows : (ds es : List (List (ℤ × ℤ))) (value : ℤ) (xs : List Term) → AllByRecursion (IsTermOf (length ds)) xs → AreDomains ds → AreDomains es → IsNarrower ds es → fewest xs ds value ≤ fewest xs es value
fewest_grows ds es value xs terms before after narrower = count_le (is_surely ds value) (is_surely es value) xs (still_sure ds es value xs terms before after narrower)

pub most_falls : (ds es : List (List (ℤ × ℤ))) (value : ℤ) (xs : List Term) → IsNarrower ds es → most xs es value ≤ most xs ds value
most_falls ds es value xs narrower = count_le (may_be es value) (may_be ds value) xs (was_left ds es value xs narrower)

-- ---- the line, where the tally is of domains that stayed as they were

pub line_of : (ds es : List (List (ℤ × ℤ))) (value : ℤ) (xs : List Term) (count : Term) (f m : ℕ) → es ≡ ds → f ≡ fewest xs ds value → m ≡ most xs ds value
    → pos f ≤ℤ least (term_set es count) → greatest (term_set es count) ≤ℤ pos m → (greatest (term_set es count) ≡ pos f → IsDecided xs es value) → (least (term_set es count) ≡ pos m → IsDecided xs es value)
    → IsCountLine xs es value count
line_of ds es value xs count f m same is_f is_m low high full needed =
    let few : f ≡ fewest xs es value = is_f ∙ ap (λ (u : List (List (ℤ × ℤ))). fewest xs u value) (sym same) in
    let many : m ≡ most xs es value = is_m ∙ ap (λ (u : List (List (ℤ × ℤ))). most xs u value) (sym same) in
    record {
      low = subst (λ (n : ℕ). pos n ≤ℤ least (term_set es count)) few low;
      high = subst (λ (n : ℕ). greatest (term_set es count) ≤ℤ pos n) many high;
      full = λ top. full (top ∙ ap pos (sym few));
      needed = λ bottom. needed (bottom ∙ ap pos (sym many));
    }

-- ---- open places

-- a term that may have a value, and isn't sure to
pub is_open : (b c : Bool) (ds : List (List (ℤ × ℤ))) (value : ℤ) (t : Term) → b ≡ may_be ds value t → c ≡ is_surely ds value t → b ≡ true → not c ≡ true → IsOpen value ds t
is_open b true ds value t may sure left other = absurd (cc (other))
is_open b false ds value t may sure left other = (left_is (term_set ds t) value (sym may ∙ left), λ only. (let is = sure_of (term_set ds t) value only in cc (is, sure)))

pub surely_settled : (c : Bool) (ds : List (List (ℤ × ℤ))) (value : ℤ) (t : Term) → IsTermOf (length ds) t → AreDomains ds → c ≡ is_surely ds value t → not c ≡ false → IsSettled value ds t
surely_settled true ds value t is domains sure other = λ member. only_of ds value t is domains (sym sure)
surely_settled false ds value t is domains sure other = absurd (cc (other))

pub never_settled : (b : Bool) (ds : List (List (ℤ × ℤ))) (value : ℤ) (t : Term) → b ≡ may_be ds value t → b ≡ false → IsSettled value ds t
never_settled b ds value t may gone = λ member. (let left = is_left (term_set ds t) value member in absurd (cc (left, may, gone)))

-- a test of what is left is that of its ranges
pub test_of : (b : Bool) (ds : List (List (ℤ × ℤ))) (value : ℤ) (t : Term) → IsTrue b ↔ IsInSet (term_set ds t) value → b ≡ may_be ds value t
test_of true ds value t h = sym (is_left (term_set ds t) value (h.0 refl))
test_of false ds value t h = sym (false_from_ne_true (may_be ds value t) (λ left. (let is = h.1 (left_is (term_set ds t) value left) in cc (is))))

pub one_of : (b : Bool) → bool_byte b ≡ cond b 1 0
one_of true = refl
one_of false = refl
