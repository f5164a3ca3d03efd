-- What a model keeps of what its constraints say: computation looks at each row, and there is a line for each shape.
use Rattle.std.proofs.Common.{tests, ◌≡◌, ◌≢◌, ℕ, zero, suc, List, [], ◌∷◌, ◌++◌, ◌∙◌, refl, ap, subst, arith, length, map, drop, true, false, Bool, cond}
use Rattle.std.proofs.lemmas.Bool.{and_parts}
use Rattle.std.proofs.lemmas.Int.{ints}
use Rattle.std.specs.Prelude.{ℤ, pos, ◌≤◌, ◌&&◌, ◌==◌, IsTrue, Option, Some, None, MatchOption, find}
use Rattle.std.specs.List.{AllByRecursion, list_all}
use Rattle.fz_sets.proofs.Lists.{all_left, all_right, all_both}
use Rattle.fz_spec.specs.declared.kind.Kind.{Kind}
use Rattle.fz_spec.specs.declared.kind.Kind.TheVariants as kinds
use Rattle.fz_spec.specs.declared.asked.Asked.{Asked}
use Rattle.fz_spec.specs.declared.asked.Asked.TheVariants as asked
use Rattle.fz_spec.specs.declared.asked.Element.{Element}
use Rattle.fz_spec.specs.declared.asked.Lengths.{Lengths}
use Rattle.fz_spec.specs.declared.asked.Lengths.TheVariants as lengths
use Rattle.fz_spec.specs.declared.builtin.Builtin.{Builtin}
use Rattle.fz_spec.specs.declared.limits.TheConstants.{ELEMENT_LIMIT}
use Rattle.fz_spec.specs.declared.shape.Relation.{Relation}
use Rattle.fz_spec.specs.declared.shape.Relation.TheVariants.{Below}
use Rattle.fz_spec.specs.declared.shape.Shape.{Shape}
use Rattle.fz_spec.specs.declared.shape.Shape.TheVariants.{Rel, Dom, Linear, Clause, Or, And, Xor, Arithmetic, Extensional, Distinct}
use Rattle.fz_spec.specs.declared.shape.Shape.TheVariants as shapes
use Rattle.fz_spec.specs.declared.term.Term.{Term}
use Rattle.fz_spec.specs.declared.term.Term.TheVariants.{Num, Var}
use Rattle.fz_spec.specs.Constraints.{Argument, One, Numbers, Terms, Set, fit_lengths, list_lengths, terms_of, terms_among}
use Rattle.fz_spec.specs.Signatures.{Row, rows, row_of, shape_of, shape_in, signature_of, have_lengths}
use Rattle.fz_spec.specs.Instance.{Variable}
use Rattle.fz_spec.specs.contracts.builtin.BuiltinPartialEq.TheImpl as equality
use Rattle.fz_model.specs.Kept as kept
use Rattle.fz_model.specs.Kept.{FitsElement, FitsList, FitsAsked, AllFit, FitsRow}
use Rattle.fz_strength.specs.declared.literal.Literal.{Literal}
use Rattle.fz_strength.specs.Clauses.{positive, negative}
use Rattle.fz_strength.specs.Sums.{left_factors, left_terms}
use Rattle.fz_strength.specs.Sayings.{Saying, said, said_terms, truths_of}
use Rattle.fz_says.specs.Fits.{IsKnown, FitsSum, IsFit, SaidFits}
use Rattle.fz_says.proofs.Known.{known_of, no_list}

-- ---- what rows ask

-- how many arguments stand before those that have to be Booleans, where what is said takes some for 0 or 1
abbrev before_booleans : Shape → ℕ
before_booleans (Rel relation) = 2
before_booleans Dom = 2
before_booleans (Linear relation) = 3
before_booleans Clause = 0
before_booleans Or = 0
before_booleans And = 0
before_booleans Xor = 0
before_booleans shape = 9

abbrev is_boolean : Kind → Bool
is_boolean kinds.Bool = true
is_boolean kinds.Int = false

abbrev asks_boolean : Asked → Bool
asks_boolean (asked.One element) = is_boolean element.kind
asks_boolean (asked.List element) = is_boolean element.kind
asks_boolean asked.Set = false

abbrev ask_booleans : Shape → List Asked → Bool
ask_booleans shape signature = list_all asks_boolean (drop (before_booleans shape) signature)

-- a sum has as many factors as terms, and none is strictly below a number
abbrev is_sum : Shape → Lengths → Bool
is_sum (Linear Below) lengths = false
is_sum (Linear relation) lengths.Equal = true
is_sum (Linear relation) lengths = false
is_sum shape lengths = true

abbrev is_sound : Row → Bool
is_sound row = is_sum row.shape row.lengths && list_all (ask_booleans row.shape) row.signatures

all_sound : list_all is_sound rows ≡ true
all_sound = refl

-- of a list all of whose elements pass a test the one that is found does
found_passes : {X : Type 0} (test first : X → Bool) (xs : List X) (x : X) → list_all test xs ≡ true → find first xs ≡ Some x → test x ≡ true
found_passes test first [] x all e = cc
found_passes test first (y ∷ ys) x all e = let each = and_parts (test y) (list_all test ys) all in go each.0 (λ k. found_passes test first ys x each.1 k) (first y) e
  where
    go : test y ≡ true → (find first ys ≡ Some x → test x ≡ true) → (b : Bool) → cond b (Some y) (find first ys) ≡ Some x → test x ≡ true
    go here later true k = let is : y ≡ x = cc in subst (λ z. test z ≡ true) is here
    go here later false k = later k

-- ---- Booleans among arguments

boolean_is : (kind : Kind) → is_boolean kind ≡ true → kind ≡ kinds.Bool
boolean_is kinds.Bool is = refl
boolean_is kinds.Int is = cc

element_boolean : (vs : List Variable) (element : Element) (t : Term) → is_boolean element.kind ≡ true → FitsElement vs element t → kept.IsTermOf vs kinds.Bool t
element_boolean vs element (Num n) is fits = subst (λ (kind : Kind). kept.IsNumberOf kind n) (boolean_is element.kind is) fits
element_boolean vs element (Var v) is fits = fits.1 ∙ ap Some (boolean_is element.kind is)

list_boolean : (vs : List Variable) (kind : Kind) (may_vary : Bool) (ts : List Term) → is_boolean kind ≡ true → FitsList vs kind may_vary (Terms ts) → AllByRecursion (kept.IsTermOf vs kinds.Bool) ts
list_boolean vs kind true ts is fits = subst (λ (k : Kind). AllByRecursion (kept.IsTermOf vs k) ts) (boolean_is kind is) fits.1
list_boolean vs kind false ts is fits = absurd fits

asked_boolean : (vs : List Variable) (wanted : Asked) (argument : Argument) → asks_boolean wanted ≡ true → FitsAsked vs wanted argument → AllByRecursion (kept.IsTermOf vs kinds.Bool) (terms_of argument)
asked_boolean vs (asked.One element) (One t) is fits = (element_boolean vs element t is fits, tt)
asked_boolean vs (asked.List element) (One t) is fits = absurd (no_list vs element.kind element.may_vary t fits)
asked_boolean vs asked.Set (One t) is fits = absurd fits
asked_boolean vs (asked.List element) (Terms ts) is fits = list_boolean vs element.kind element.may_vary ts is fits
asked_boolean vs (asked.One element) (Terms ts) is fits = absurd fits
asked_boolean vs asked.Set (Terms ts) is fits = absurd fits
asked_boolean vs wanted (Numbers ns) is fits = tt
asked_boolean vs wanted (Set set) is fits = tt

all_boolean : (vs : List Variable) (n : ℕ) (signature : List Asked) (arguments : List Argument) → list_all asks_boolean (drop n signature) ≡ true → AllFit vs signature arguments
    → AllByRecursion (kept.IsTermOf vs kinds.Bool) (terms_among (drop n arguments))
all_boolean vs zero [] [] is fits = tt
all_boolean vs zero (wanted ∷ rest) (argument ∷ arguments) is fits =
    let each = and_parts (asks_boolean wanted) (list_all asks_boolean rest) is in
    all_both (kept.IsTermOf vs kinds.Bool) (terms_of argument) (terms_among arguments) (asked_boolean vs wanted argument each.0 fits.0) (all_boolean vs zero rest arguments each.1 fits.1)
all_boolean vs (suc n) [] [] is fits = tt
all_boolean vs (suc n) (wanted ∷ rest) (argument ∷ arguments) is fits = all_boolean vs n rest arguments is fits.1
all_boolean vs n [] (argument ∷ arguments) is fits = absurd fits
all_boolean vs n (wanted ∷ rest) [] is fits = absurd fits

-- ---- sums

abbrev IsSummed : Shape → List Argument → Type 0
IsSummed (Linear relation) (Numbers ks ∷ Terms ts ∷ rest) = (relation ≢ Below) × (length ks ≡ length ts) × (length ts ≤ ELEMENT_LIMIT)
IsSummed shape arguments = Unit {0}

never_below : (relation : Relation) (wanted : Lengths) → is_sum (Linear relation) wanted ≡ true → relation ≢ Below
never_below Below wanted is = cc
never_below relation wanted is = λ e. cc

asks_equal : (relation : Relation) (wanted : Lengths) → is_sum (Linear relation) wanted ≡ true → wanted ≡ lengths.Equal
asks_equal Below wanted is = cc
asks_equal relation lengths.Equal is = refl
asks_equal relation wanted is = cc

same_length : (ks : List ℤ) (ts : List Term) (ns : List ℕ) → IsTrue (have_lengths lengths.Equal (length ks ∷ length ts ∷ ns)) → length ks ≡ length ts
same_length ks ts ns h = let first = (and_parts (length ts == length ks) (list_all (λ m. m == length ks) ns) h).0 in grind (arith, tests, first)

few_terms : (vs : List Variable) (kind : Kind) (may_vary : Bool) (ts : List Term) → FitsList vs kind may_vary (Terms ts) → length ts ≤ ELEMENT_LIMIT
few_terms vs kind true ts fits = fits.0
few_terms vs kind false ts fits = absurd fits

second_few : (vs : List Variable) (signature : List Asked) (ks : List ℤ) (ts : List Term) (rest : List Argument) → AllFit vs signature (Numbers ks ∷ Terms ts ∷ rest) → length ts ≤ ELEMENT_LIMIT
second_few vs (first ∷ asked.List element ∷ others) ks ts rest fits = few_terms vs element.kind element.may_vary ts fits.1.0
second_few vs (first ∷ asked.One element ∷ others) ks ts rest fits = absurd fits.1.0
second_few vs (first ∷ asked.Set ∷ others) ks ts rest fits = absurd fits.1.0
second_few vs (first ∷ []) ks ts rest fits = absurd fits.1
second_few vs [] ks ts rest fits = absurd fits

summed : (vs : List Variable) (shape : Shape) (wanted : Lengths) (signature : List Asked) (arguments : List Argument) → is_sum shape wanted ≡ true → AllFit vs signature arguments
    → IsTrue (fit_lengths wanted arguments) → IsSummed shape arguments
summed vs (Linear relation) wanted signature (Numbers ks ∷ Terms ts ∷ rest) is fits right = (
  never_below relation wanted is,
  same_length ks ts (list_lengths rest) (subst (λ (w : Lengths). IsTrue (fit_lengths w (Numbers ks ∷ Terms ts ∷ rest))) (asks_equal relation wanted is) right),
  second_few vs signature ks ts rest fits,
)
summed vs shape wanted signature arguments is fits right = tt

left_sizes : (ks : List ℤ) (ts : List Term) (c : Term) → length ks ≡ length ts → length ts ≤ ELEMENT_LIMIT
    → (length (left_factors ks c) ≡ length (left_terms ts c)) × (length (left_terms ts c) ≤ suc ELEMENT_LIMIT)
left_sizes ks ts (Num c) same few = (same, omega (arith, few))
left_sizes ks ts (Var v) same few = (omega (arith, same), omega (arith, few))

-- ---- the terms of what is said, in its order

left_all : (P : Term → Type 0) (ts : List Term) (c : Term) → AllByRecursion P (ts ++ c ∷ []) → AllByRecursion P (left_terms ts c)
left_all P ts (Num c) all = all_left P ts (Num c ∷ []) all
left_all P ts (Var v) all = ((all_right P ts (Var v ∷ []) all).0, all_left P ts (Var v ∷ []) all)

last_first : (P : Term → Type 0) (ts : List Term) (c r : Term) → AllByRecursion P (ts ++ c ∷ r ∷ []) → AllByRecursion P (r ∷ ts)
last_first P ts c r all = ((all_right P ts (c ∷ r ∷ []) all).1.0, all_left P ts (c ∷ r ∷ []) all)

sign_all : (P : Term → Type 0) (sign : Term → Literal) (ts : List Term) → ((t : Term) → t ≡ (sign t).term) → AllByRecursion P ts → AllByRecursion P (map (λ (l : Literal). l.term) (map sign ts))
sign_all P sign [] same all = tt
sign_all P sign (t ∷ ts) same all = (subst P (same t) all.0, sign_all P sign ts same all.1)

signed : (P : Term → Type 0) (sign : Term → Literal) (ts : List Term) (r : Term) → ((t : Term) → t ≡ (sign t).term) → AllByRecursion P (ts ++ r ∷ []) → AllByRecursion P (r ∷ map (λ (l : Literal). l.term) (map sign ts))
signed P sign ts r same all = ((all_right P ts (r ∷ []) all).0, sign_all P sign ts same (all_left P ts (r ∷ []) all))

signs_all : (P : Term → Type 0) (ps ns : List Term) → AllByRecursion P ps → AllByRecursion P ns → AllByRecursion P (map (λ (l : Literal). l.term) (map positive ps ++ map negative ns))
signs_all P [] ns of_ps of_ns = sign_all P negative ns (λ t. refl) of_ns
signs_all P (p ∷ ps) ns of_ps of_ns = (of_ps.0, signs_all P ps ns of_ps.1 of_ns)

literals_all : (P : Term → Type 0) (ps ns rest : List Term) → AllByRecursion P (ps ++ (ns ++ rest)) → AllByRecursion P (map (λ (l : Literal). l.term) (map positive ps ++ map negative ns))
literals_all P ps ns rest all = signs_all P ps ns (all_left P ps (ns ++ rest) all) (all_left P ns rest (all_right P ps (ns ++ rest) all))

result_of : (P : Term → Type 0) (ps ns : List Term) (r : Term) → AllByRecursion P (ps ++ (ns ++ r ∷ [])) → P r
result_of P ps ns r all = (all_right P ns (r ∷ []) (all_right P ps (ns ++ r ∷ []) all)).0

two_lists : (P : Term → Type 0) (fs gs : List Term) → AllByRecursion P (fs ++ (gs ++ [])) → AllByRecursion P (fs ++ gs)
two_lists P fs gs all = all_both P fs gs (all_left P fs (gs ++ []) all) (all_left P gs [] (all_right P fs (gs ++ []) all))

-- ---- a line a shape

one_boolean : (vs : List Variable) → kept.IsTermOf vs kinds.Bool (Num (pos 1))
one_boolean vs = (omega (arith, ints), omega (arith, ints))

one_known : (vs : List Variable) → IsKnown vs (Num (pos 1))
one_known vs = ((omega (arith, ints), omega (arith, ints)), tt)

-- what is known of the arguments of a constraint of a shape
record AreRowed (vs : List Variable) (shape : Shape) (arguments : List Argument) : Type 0 where
  pub known : AllByRecursion (IsKnown vs) (terms_among arguments)
  pub booleans : AllByRecursion (kept.IsTermOf vs kinds.Bool) (terms_among (drop (before_booleans shape) arguments))
  pub sum : IsSummed shape arguments

made : {vs : List Variable} {s : Saying} → AllByRecursion (IsKnown vs) (said_terms s) → AllByRecursion (kept.IsTermOf vs kinds.Bool) (truths_of s) → FitsSum s → IsFit vs s
made terms truths sum = record { terms = terms; truths = truths; sum = sum }

fit : (vs : List Variable) (shape : Shape) (arguments : List Argument) → AreRowed vs shape arguments → IsFit vs (said shape arguments)
fit vs (Rel relation) (One x ∷ One y ∷ []) h = made h.known tt tt
fit vs (Rel relation) (One x ∷ One y ∷ One r ∷ []) h = made h.known h.booleans tt
fit vs Dom (One x ∷ Set set ∷ []) h = made h.known tt tt
fit vs Dom (One x ∷ Set set ∷ One r ∷ []) h = made h.known h.booleans tt
fit vs (Linear relation) (Numbers ks ∷ Terms ts ∷ One c ∷ []) h = made (left_all (IsKnown vs) ts c h.known) tt (let sizes = left_sizes ks ts c h.sum.1 h.sum.2 in (h.sum.0, sizes.0, sizes.1))
fit vs (Linear relation) (Numbers ks ∷ Terms ts ∷ One (Num c) ∷ One r ∷ []) h = made (last_first (IsKnown vs) ts (Num c) r h.known) h.booleans h.sum
fit vs Clause (Terms ps ∷ Terms ns ∷ []) h = made (one_known vs, literals_all (IsKnown vs) ps ns [] h.known) (one_boolean vs, literals_all (kept.IsTermOf vs kinds.Bool) ps ns [] h.booleans) tt
fit vs Clause (Terms ps ∷ Terms ns ∷ One r ∷ []) h =
    made (result_of (IsKnown vs) ps ns r h.known, literals_all (IsKnown vs) ps ns (r ∷ []) h.known)
    (result_of (kept.IsTermOf vs kinds.Bool) ps ns r h.booleans, literals_all (kept.IsTermOf vs kinds.Bool) ps ns (r ∷ []) h.booleans) tt
fit vs Or (Terms ts ∷ One r ∷ []) h = made (signed (IsKnown vs) positive ts r (λ t. refl) h.known) (signed (kept.IsTermOf vs kinds.Bool) positive ts r (λ t. refl) h.booleans) tt
fit vs Or (One x ∷ One y ∷ One r ∷ []) h = made (signed (IsKnown vs) positive (x ∷ y ∷ []) r (λ t. refl) h.known) (signed (kept.IsTermOf vs kinds.Bool) positive (x ∷ y ∷ []) r (λ t. refl) h.booleans) tt
fit vs And (Terms ts ∷ One r ∷ []) h = made (signed (IsKnown vs) negative ts r (λ t. refl) h.known) (signed (kept.IsTermOf vs kinds.Bool) negative ts r (λ t. refl) h.booleans) tt
fit vs And (One x ∷ One y ∷ One r ∷ []) h = made (signed (IsKnown vs) negative (x ∷ y ∷ []) r (λ t. refl) h.known) (signed (kept.IsTermOf vs kinds.Bool) negative (x ∷ y ∷ []) r (λ t. refl) h.booleans) tt
fit vs Xor (Terms ts ∷ []) h = made (all_left (IsKnown vs) ts [] h.known) (all_left (kept.IsTermOf vs kinds.Bool) ts [] h.booleans) tt
fit vs (Arithmetic operation) (One x ∷ One z ∷ []) h = made (h.known.1.0, (h.known.0, tt)) tt tt
fit vs (Arithmetic operation) (One x ∷ One y ∷ One z ∷ []) h = made (h.known.1.1.0, (h.known.0, (h.known.1.0, tt))) tt tt
fit vs (Arithmetic operation) (One z ∷ Terms xs ∷ []) h = made (h.known.0, all_left (IsKnown vs) xs [] h.known.1) tt tt
fit vs shapes.Element (One k ∷ Numbers xs ∷ One c ∷ []) h = made h.known tt tt
fit vs shapes.Element (One k ∷ Terms xs ∷ One c ∷ []) h = made (h.known.0, ((all_right (IsKnown vs) xs (c ∷ []) h.known.1).0, all_left (IsKnown vs) xs (c ∷ []) h.known.1)) tt tt
fit vs Extensional (Terms xs ∷ Numbers table ∷ []) h = made (all_left (IsKnown vs) xs [] h.known) tt tt
fit vs shapes.Regular (Terms xs ∷ One (Num states) ∷ One (Num symbols) ∷ Numbers next ∷ One (Num start) ∷ Set accepting ∷ []) h = made (all_left (IsKnown vs) xs _ h.known) tt tt
fit vs Distinct (Terms xs ∷ []) h = made (all_left (IsKnown vs) xs [] h.known) tt tt
fit vs shapes.Cumulative (Terms ss ∷ Terms dd ∷ Terms us ∷ One b ∷ []) h = made h.known tt tt
fit vs shapes.Inverse (Terms fs ∷ Terms gs ∷ []) h = made (two_lists (IsKnown vs) fs gs h.known) tt tt
fit vs shapes.Counts (Terms xs ∷ Numbers cover ∷ Terms counts ∷ []) h = made (two_lists (IsKnown vs) xs counts h.known) tt tt
fit vs shape arguments h = made h.known tt tt

-- ---- rows

in_signature : (vs : List Variable) (row : Row) (arguments : List Argument) (o : Option (List Asked)) → signature_of row (length arguments) ≡ o → MatchOption o ⊥ (λ signature. AllFit vs signature arguments)
    → is_sound row ≡ true → IsTrue (fit_lengths row.lengths arguments) → AllByRecursion (IsKnown vs) (terms_among arguments) → AreRowed vs row.shape arguments
in_signature vs row arguments None is fits sound right known = absurd fits
in_signature vs row arguments (Some signature) is fits sound right known =
    let each = and_parts (is_sum row.shape row.lengths) (list_all (ask_booleans row.shape) row.signatures) sound in
    let asks = found_passes (ask_booleans row.shape) (λ (asked : List Asked). length asked == length arguments) row.signatures signature each.1 is in
    record { known = known; booleans = all_boolean vs (before_booleans row.shape) signature arguments asks fits; sum = summed vs row.shape row.lengths signature arguments each.0 fits right }

in_row : (vs : List Variable) (name : Builtin) (arguments : List Argument) (o : Option Row) → row_of name ≡ o → MatchOption o ⊥ (λ row. FitsRow vs row arguments) → AllByRecursion (IsKnown vs) (terms_among arguments)
    → IsFit vs (said (shape_in o) arguments)
in_row vs name arguments None is fits known = absurd fits
in_row vs name arguments (Some row) is fits known =
    fit vs row.shape arguments (in_signature vs row arguments (signature_of row (length arguments)) refl fits.fit (found_passes is_sound (λ (r : Row). (equality.ghosts).eq name r.builtin) rows row all_sound is) fits.lengths known)

pub said_fits : SaidFits
unfolding shape_of
said_fits vs c is = in_row vs c.name c.arguments (row_of c.name) refl is (known_of vs c is)
