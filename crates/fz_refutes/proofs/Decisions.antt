-- Whether an assignment satisfies, and whether it is better, can be decided.
use Rattle.std.proofs.Common.{◌≡◌, ◌≢◌, ◌∙◌, ◌<◌, ◌≤◌, ◌+◌, ◌*◌, ◌⊎◌, inl, inr, ℕ, zero, suc, List, [], ◌∷◌, length, Option, Some, None, refl, sym, ap, subst, arith, length-drop}
use Rattle.std.specs.Prelude.{◌↔◌, ◌%◌, ℤ, pos, negsuc, ◌≤ℤ◌, ◌<ℤ◌, ◌+ℤ◌, ◌-ℤ◌, ◌*ℤ◌, int_div, slice_get, slice_range, count_by}
use Rattle.std.specs.Ordering.{int_eq}
use Rattle.std.specs.List.{AllByRecursion}
use Rattle.std.proofs.lemmas.Bool.{cases_lt}
use Rattle.std.proofs.lemmas.Int.{ints}
use Rattle.std.proofs.lemmas.List.{length-take}
use Rattle.std.proofs.lemmas.Option.{slice_get_within}
use Rattle.std.proofs.lemmas.Bool.Decides.{Decides-int_eq, Decides-eqb}
use Rattle.fz_spec.specs.declared.shape.Operation.{Operation}
use Rattle.fz_spec.specs.declared.shape.Operation.TheVariants.{Plus, Times, Quotient, Remainder, Abs, Min, Max}
use Rattle.fz_spec.specs.declared.shape.Relation.{Relation}
use Rattle.fz_spec.specs.declared.shape.Relation.TheVariants.{Equal, NotEqual, AtMost, Below}
use Rattle.fz_spec.specs.declared.shape.Shape.{Shape}
use Rattle.fz_spec.specs.declared.shape.Shape.TheVariants.{Rel, Dom, Linear, Clause, Or, And, Xor, Arithmetic, Element, Extensional, Distinct, Cumulative, Regular, Counts, Inverse}
use Rattle.fz_spec.specs.Signatures.{shape_of}
use Rattle.fz_spec.specs.declared.goal.Goal.{Goal}
use Rattle.fz_spec.specs.declared.goal.Goal.TheVariants.{Satisfy, Minimize, Maximize}
use Rattle.fz_sets.specs.Sets.{IsInSet}
use Rattle.fz_sets.proofs.Lists.{some_is}
use Rattle.fz_spec.specs.Truth.{SomeByRecursion, IsOne, IsZero, Relates, IsResult, remainder, size_of, weighted_sum, Task, tasks_of, IsTask, IsCumulative, load_at, IsElement, AreDifferent, is_one, IsRowOf, Automaton, IsState, IsSymbol, RunsFrom, next_place, IsAccepted, count_of, AreCounts, PointBack, AreInverse}
use Rattle.fz_spec.specs.Constraints.{Argument, One, Numbers, Terms, Set, Constraint, OrReified, HoldsAs, IsTrueOf, term_value, term_values}
use Rattle.fz_spec.proofs.Automata.{ended, begun, stepped}
use Rattle.fz_spec.specs.Instance.{Instance, Variable, AreDeclared, Satisfies, IsBetter, score}
use Rattle.fz_language.proofs.Decisions.{Decided, by, both, from_test}

-- ---- of what is decided

pub never : Decided ⊥
never = inr (λ h. h)

pub either : {P Q : Type 0} → Decided P → Decided Q → Decided (P ⊎ Q)
either (inl p) _ = inl (inl p)
either (inr n) (inl q) = inl (inr q)
either {P} {Q} (inr n) (inr m) = inr (λ h. elim h [ inl p ↦ n p | inr q ↦ m q ])

pub without : {P : Type 0} → Decided P → Decided (P → ⊥)
without (inl p) = inr (λ n. n p)
without (inr n) = inl n

pub implied : {P Q : Type 0} → Decided P → Decided Q → Decided (P → Q)
implied (inl p) (inl q) = inl (λ _. q)
implied (inl p) (inr m) = inr (λ h. m (h p))
implied (inr n) _ = inl (λ p. absurd (n p))

alike : {P Q : Type 0} → Decided P → Decided Q → Decided (P ↔ Q)
alike p q = both (implied p q) (implied q p)

all : {X : Type 0} (P : X → Type 0) → ((x : X) → Decided (P x)) → (xs : List X) → Decided (AllByRecursion P xs)
all P decide [] = inl tt
all P decide (x ∷ xs) = both (decide x) (all P decide xs)

some : {X : Type 0} (P : X → Type 0) → ((x : X) → Decided (P x)) → (xs : List X) → Decided (SomeByRecursion P xs)
some P decide [] = never
some P decide (x ∷ xs) = either (decide x) (some P decide xs)

-- ---- numbers

equal : (x y : ℤ) → Decided (x ≡ y)
equal x y = from_test (int_eq x y) (Decides-int_eq x y)

at_most_by : (x y d : ℤ) → y -ℤ x ≡ d → Decided (x ≤ℤ y)
at_most_by x y (pos n) e = inl (omega (arith, ints, e))
at_most_by x y (negsuc n) e = inr (λ h. omega (arith, ints, e, h))

pub at_most : (x y : ℤ) → Decided (x ≤ℤ y)
at_most x y = at_most_by x y (y -ℤ x) refl

below_by : (x y : ℤ) → Decided (y ≤ℤ x) → Decided (x <ℤ y)
below_by x y (inl h) = inr (λ less. omega (arith, ints, h, less))
below_by x y (inr n) = elim (at_most (x +ℤ pos 1) y) [ inl h ↦ inl (omega (arith, ints, h)) | inr m ↦ inr (λ less. m (omega (arith, ints, less))) ]

pub below : (x y : ℤ) → Decided (x <ℤ y)
below x y = below_by x y (at_most y x)

-- ---- lists of numbers

same_option : (o : Option ℤ) (c : ℤ) → Decided (o ≡ Some c)
same_option None c = inr (λ e. cc)
same_option (Some x) c = by (λ e. ap Some e) (λ e. cc) (equal x c)

same_list : (xs ys : List ℤ) → Decided (xs ≡ ys)
same_list [] [] = inl refl
same_list [] (y ∷ ys) = inr (λ e. cc)
same_list (x ∷ xs) [] = inr (λ e. cc)
same_list (x ∷ xs) (y ∷ ys) = by (λ e. ap (λ h. h ∷ xs) e.0 ∙ ap (λ t. y ∷ t) e.1) (λ e. (cc, cc)) (both (equal x y) (same_list xs ys))

element_at : (n i : ℕ) (xs : List ℤ) (c : ℤ) → n ≡ i → slice_get xs i ≡ Some c → slice_get xs n ≡ Some c
element_at n i xs c same e = ap (slice_get xs) same ∙ e

element : (k : ℤ) (xs : List ℤ) (c : ℤ) → Decided (IsElement k xs c)
element (pos zero) xs c = inr (λ h. let e = h.1 in omega (arith, ints, e))
element (pos (suc n)) xs c = by (λ e. (n, omega (arith, ints), e)) (λ h. element_at n h.0 xs c (let e = h.1 in omega (arith, ints, e)) h.2) (same_option (slice_get xs n) c)
element (negsuc n) xs c = inr (λ h. let e = h.1 in omega (arith, ints, e))

different : (xs : List ℤ) → Decided (AreDifferent xs)
different [] = inl tt
different (x ∷ xs) = both (all (λ y. x ≢ y) (λ y. without (equal x y)) xs) (different xs)

in_set : (set : List (ℤ × ℤ)) (x : ℤ) → Decided (IsInSet set x)
in_set [] x = never
in_set (r ∷ rs) x = either (both (at_most r.0 x) (at_most x r.1)) (in_set rs x)

-- ---- an automaton

from_to : (low high x : ℤ) → Decided ((low ≤ℤ x) × (x ≤ℤ high))
from_to low high x = both (at_most low x) (at_most x high)

abbrev HasElement : ℤ → List ℤ → Type 0
HasElement k xs = (c : ℤ) × IsElement k xs c

element_of : (o : Option ℤ) (n : ℕ) (xs : List ℤ) → slice_get xs n ≡ o → Decided (HasElement (pos (suc n)) xs)
element_of (Some c) n xs e = inl (c, (n, omega (arith, ints), e))
element_of None n xs e = inr (λ h. let place = h.1.1 in let same : n ≡ h.1.0 = omega (arith, ints, place) in let none = sym e ∙ element_at n h.1.0 xs h.0 same h.1.2 in cc)

has_element : (k : ℤ) (xs : List ℤ) → Decided (HasElement k xs)
has_element (pos zero) xs = inr (λ h. let e = h.1.1 in omega (arith, ints, e))
has_element (pos (suc n)) xs = element_of (slice_get xs n) n xs refl
has_element (negsuc n) xs = inr (λ h. let e = h.1.1 in omega (arith, ints, e))

stepping : (m : Automaton) (p x : ℤ) (xs : List ℤ) → Decided (IsState m p × IsSymbol m x) → Decided (HasElement (next_place m p x) m.next) → ((q : ℤ) → Decided (RunsFrom m q xs)) → Decided (RunsFrom m p (x ∷ xs))
stepping m p x xs (inr n) _ rest = inr (λ h. let first = begun m p x xs h in n (first.1, first.2.0))
stepping m p x xs (inl is) (inr n) rest = inr (λ h. let first = begun m p x xs h in n (first.0, first.2.1))
stepping m p x xs (inl is) (inl next) rest = let same = stepped m p x next.0 xs is.0 (is.1, next.1) in by same.1 same.0 (rest next.0)

runs_from : (m : Automaton) (xs : List ℤ) (p : ℤ) → Decided (RunsFrom m p xs)
runs_from m [] p = by (ended m p).1 (ended m p).0 (both (from_to (pos 1) m.states p) (in_set m.accepting p))
runs_from m (x ∷ xs) p = stepping m p x xs (both (from_to (pos 1) m.states p) (from_to (pos 1) m.symbols x)) (has_element (next_place m p x) m.next) (runs_from m xs)

accepted : (m : Automaton) (xs : List ℤ) → Decided (IsAccepted m xs)
accepted m xs = runs_from m xs m.start

-- ---- counts

counted : (xs cover counts : List ℤ) → Decided (AreCounts xs cover counts)
counted xs [] [] = inl tt
counted xs (value ∷ cover) (count ∷ counts) = both (equal count (pos (count_of value xs))) (counted xs cover counts)
counted xs [] (count ∷ counts) = never
counted xs (value ∷ cover) [] = never

-- ---- rows of a table

abbrev OneBelow : (ℕ → Type 0) → ℕ → Type 0
OneBelow P n = (i : ℕ) × (i < n) × P i

no_more : (P : ℕ → Type 0) (n i : ℕ) → (P n → ⊥) → i < suc n → P i → (i < n) ⊎ (i ≡ n) → i < n
no_more P n i not less p (inl h) = h
no_more P n i not less p (inr e) = absurd (not (subst P e p))

less_or_last : (n i : ℕ) → i < suc n → (i < n) ⊎ (i ≡ n)
less_or_last n i h = elim (cases_lt i n) [ inl less ↦ inl less | inr other ↦ inr (omega (arith, h, other)) ]

one_below : (P : ℕ → Type 0) → ((i : ℕ) → Decided (P i)) → (n : ℕ) → Decided (OneBelow P n)
one_below P decide zero = inr (λ h. let less = h.1 in omega (arith, less))
one_below P decide (suc n) = elim (decide n) [
  | inl p ↦ inl (n, omega arith, p)
  | inr not ↦ by (λ h. (h.0, (let less = h.1 in omega (arith, less)), h.2)) (λ h. (h.0, no_more P n h.0 not h.1 h.2 (less_or_last n h.0 h.1), h.2)) (one_below P decide n)
]

all_below : (P : ℕ → Type 0) → ((i : ℕ) → Decided (P i)) → (n : ℕ) → Decided ((i : ℕ) → i < n → P i)
all_below P decide zero = inl (λ i h. absurd (omega (arith, h)))
all_below P decide (suc n) = by (λ h i less. elim (less_or_last n i less) [ inl l ↦ h.1 i l | inr e ↦ subst P (sym e) h.0 ]) (λ h. (h n (omega arith), λ i l. h i (omega (arith, l)))) (both (decide n) (all_below P decide n))

at_least_once : (i w : ℕ) → 0 < w → i ≤ i * w
at_least_once zero w h = omega arith
at_least_once (suc i) w h = let rest = at_least_once i w h in let e : suc i * w ≡ w + i * w = omega arith in omega (arith, rest, e, h)

row_within : (xs table : List ℤ) (i : ℕ) → 0 < length xs → slice_range table (i * length xs) (i * length xs + length xs) ≡ xs → i < length table
row_within xs table i h e =
    let from = i * length xs in
    let size : length (slice_range table from (from + length xs)) ≡ length xs = ap (λ (l : List ℤ). length l) e in
    let more = at_least_once i (length xs) h in
    omega (arith, size, more, h, length-take {A = ℤ}, length-drop from table)

row : (xs table : List ℤ) → Decided (0 < length xs) → Decided (IsRowOf xs table)
row xs table (inr n) = inr (λ h. n h.0)
row xs table (inl h) = by (λ r. (h, (r.0, r.2))) (λ r. (r.1.0, row_within xs table r.1.0 h r.1.1, r.1.1))
    (one_below (λ i. slice_range table (i * length xs) (i * length xs + length xs) ≡ xs) (λ i. same_list (slice_range table (i * length xs) (i * length xs + length xs)) xs) (length table))

has_some : (xs : List ℤ) → Decided (0 < length xs)
has_some [] = inr (λ h. omega (arith, h))
has_some (x ∷ xs) = inl (omega arith)

-- ---- inverses

abbrev PointsBack : List ℤ → List ℤ → ℕ → Type 0
PointsBack fs gs i = (f : ℤ) → slice_get fs i ≡ Some f → IsElement f gs (pos (i + 1))

points_by : (o : Option ℤ) (gs : List ℤ) (i : ℕ) → Decided ((f : ℤ) → o ≡ Some f → IsElement f gs (pos (i + 1)))
points_by None gs i = inl (λ f e. cc)
points_by (Some g) gs i = by (λ h f e. subst (λ (u : ℤ). IsElement u gs (pos (i + 1))) (some_is g f e) h) (λ h. h g refl) (element g gs (pos (i + 1)))

point_back : (fs gs : List ℤ) → Decided (PointBack fs gs)
point_back fs gs = by (λ h i f e. h i (slice_get_within fs i f e) f e) (λ h i l f e. h i f e) (all_below (PointsBack fs gs) (λ i. points_by (slice_get fs i) gs i) (length fs))

inverse : (fs gs : List ℤ) → Decided (AreInverse fs gs)
inverse fs gs = by (λ h. record { there = h.0; back = h.1 }) (λ r. (r.there, r.back)) (both (point_back fs gs) (point_back gs fs))

-- ---- constraints

ones : (xs : List ℤ) → Decided (AllByRecursion IsOne xs)
ones xs = all IsOne (λ x. equal x (pos 1)) xs

a_one : (xs : List ℤ) → Decided (SomeByRecursion IsOne xs)
a_one xs = some IsOne (λ x. equal x (pos 1)) xs

relates : (relation : Relation) (x y : ℤ) → Decided (Relates relation x y)
relates Equal x y = equal x y
relates NotEqual x y = without (equal x y)
relates AtMost x y = at_most x y
relates Below x y = below x y

result : (operation : Operation) (xs : List ℤ) (z : ℤ) → Decided (IsResult operation xs z)
result Plus (x ∷ y ∷ []) z = equal (x +ℤ y) z
result Times (x ∷ y ∷ []) z = equal (x *ℤ y) z
result Quotient (x ∷ y ∷ []) z = both (without (equal y (pos 0))) (equal (int_div x y) z)
result Remainder (x ∷ y ∷ []) z = both (without (equal y (pos 0))) (equal (remainder x y) z)
result Abs (x ∷ []) z = equal z (size_of x)
result Min xs z = both (some (λ x. x ≡ z) (λ x. equal x z) xs) (all (λ x. z ≤ℤ x) (λ x. at_most z x) xs)
result Max xs z = both (some (λ x. x ≡ z) (λ x. equal x z) xs) (all (λ x. x ≤ℤ z) (λ x. at_most x z) xs)
result operation xs z = never

task : (t : Task) → Decided (IsTask t)
task t = both (at_most (pos 0) t.duration) (at_most (pos 0) t.usage)

cumulative : (tasks : List Task) (bound : ℤ) → Decided (IsCumulative tasks bound)
cumulative tasks bound = by (λ h. (h.0, h.1.0, h.1.1)) (λ h. (h.0, (h.1, h.2))) (both (at_most (pos 0) bound) (both (all IsTask task tasks)
    (all (λ (t : Task). pos 0 <ℤ t.duration → load_at t.start tasks ≤ℤ bound) (λ (t : Task). implied (below (pos 0) t.duration) (at_most (load_at t.start tasks) bound)) tasks)))

-- with one Boolean more
reified : {P : Type 0} → (rest : List Argument) (a : List ℤ) → Decided P → Decided (OrReified rest a P)
reified [] a decide = decide
reified (One r ∷ []) a decide = alike (equal (term_value a r) (pos 1)) decide
reified rest a decide = never

pub holds : (shape : Shape) (arguments : List Argument) (a : List ℤ) → Decided (HoldsAs shape arguments a)
holds (Rel relation) (One x ∷ One y ∷ rest) a = reified rest a (relates relation (term_value a x) (term_value a y))
holds Dom (One x ∷ Set set ∷ rest) a = reified rest a (in_set set (term_value a x))
holds (Linear relation) (Numbers ks ∷ Terms ts ∷ One c ∷ rest) a = reified rest a (relates relation (weighted_sum ks (term_values a ts)) (term_value a c))
holds Clause (Terms ps ∷ Terms ns ∷ rest) a = reified rest a (either (a_one (term_values a ps)) (some IsZero (λ x. equal x (pos 0)) (term_values a ns)))
holds Or (Terms ts ∷ rest) a = reified rest a (a_one (term_values a ts))
holds Or (One x ∷ One y ∷ rest) a = reified rest a (a_one (term_values a (x ∷ y ∷ [])))
holds And (Terms ts ∷ rest) a = reified rest a (ones (term_values a ts))
holds And (One x ∷ One y ∷ rest) a = reified rest a (ones (term_values a (x ∷ y ∷ [])))
holds Xor (Terms ts ∷ rest) a = reified rest a (from_test _ (Decides-eqb (count_by is_one (term_values a ts) % 2) 1))
holds (Arithmetic operation) (One x ∷ One z ∷ []) a = result operation (term_values a (x ∷ [])) (term_value a z)
holds (Arithmetic operation) (One x ∷ One y ∷ One z ∷ rest) a = reified rest a (result operation (term_values a (x ∷ y ∷ [])) (term_value a z))
holds (Arithmetic operation) (One z ∷ Terms xs ∷ rest) a = reified rest a (result operation (term_values a xs) (term_value a z))
holds Element (One k ∷ Numbers xs ∷ One c ∷ rest) a = reified rest a (element (term_value a k) xs (term_value a c))
holds Element (One k ∷ Terms xs ∷ One c ∷ rest) a = reified rest a (element (term_value a k) (term_values a xs) (term_value a c))
holds Extensional (Terms xs ∷ Numbers table ∷ rest) a = reified rest a (row (term_values a xs) table (has_some (term_values a xs)))
holds Distinct (Terms xs ∷ rest) a = reified rest a (different (term_values a xs))
holds Cumulative (Terms ss ∷ Terms ds ∷ Terms us ∷ One b ∷ rest) a = reified rest a (cumulative (tasks_of (term_values a ss) (term_values a ds) (term_values a us)) (term_value a b))
holds Regular (Terms xs ∷ One states ∷ One symbols ∷ Numbers next ∷ One start ∷ Set accepting ∷ rest) a = reified rest a (accepted _ (term_values a xs))
holds Counts (Terms xs ∷ Numbers cover ∷ Terms counts ∷ rest) a = reified rest a (counted (term_values a xs) cover (term_values a counts))
holds Inverse (Terms fs ∷ Terms gs ∷ rest) a = reified rest a (inverse (term_values a fs) (term_values a gs))
holds shape arguments a = never

-- ---- assignments

declared : (vs : List Variable) (a : List ℤ) → Decided (AreDeclared vs a)
declared [] [] = inl tt
declared (v ∷ vs) (x ∷ xs) = both (in_set v.set x) (declared vs xs)
declared [] (x ∷ xs) = never
declared (v ∷ vs) [] = never

pub satisfies : (m : Instance) (a : List ℤ) → Decided (Satisfies m a)
satisfies m a = by (λ h. record { declared = h.0; constraints = h.1 }) (λ s. (s.declared, s.constraints))
    (both (declared m.variables a) (all (IsTrueOf a) (λ (c : Constraint). holds (shape_of c.name) c.arguments a) m.constraints))

no_goal : (g : Goal) → Decided (g ≡ Satisfy)
no_goal Satisfy = inl refl
no_goal (Minimize term) = inr (λ e. cc)
no_goal (Maximize term) = inr (λ e. cc)

pub better : (m : Instance) (a b : List ℤ) → Decided (IsBetter m a b)
better m a b = by (λ h. record { goal = h.0; whole = h.1.0; other_whole = h.1.1.0; less = h.1.1.1 }) (λ s. (s.goal, (s.whole, (s.other_whole, s.less))))
    (both (without (no_goal m.goal)) (both (from_test _ (Decides-eqb (length a) (length m.variables))) (both (from_test _ (Decides-eqb (length b) (length m.variables))) (below (score m a) (score m b)))))
