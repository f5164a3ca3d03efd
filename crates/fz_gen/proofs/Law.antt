-- Each text of a knapsack is accepted, and its goal is to maximize its last variable.
use Rattle.std.proofs.Common.{◌≡◌, ℕ, zero, suc, ◌+◌, ◌/◌, ◌≤◌, true, false, List, [], ◌∷◌, ◌++◌, length, codes, map, refl, ap, ◌∙◌, arith, add-one, nat_lt, Bool, length-append}
use Rattle.std.specs.List.{range_with_len}
use Rattle.std.proofs.lemmas.Bool.Decides.{Decides-ltb}
use Rattle.std.proofs.lemmas.List.FromFn.{length-map-range_with_len}
use Rattle.fz_spec.specs.declared.kind.Kind.TheVariants as kinds
use Rattle.fz_spec.specs.declared.limits.TheConstants.{VARIABLE_LIMIT}
use Rattle.fz_language.specs.Trees.{Item, SolveItem}
use Rattle.fz_language.specs.Entries as entries
use Rattle.fz_language.specs.Rules.{Counts, Fault, additions, all_counted, faults_of, solve_faults}
use Rattle.fz_spec.specs.declared.goal.Goal.TheVariants.{Maximize}
use Rattle.fz_spec.specs.declared.term.Term.TheVariants.{Var}
use Rattle.fz_language.specs.Models.{goal_of, Scope, behind, scope_behind, made, variables_of, model_of}
use Rattle.fz_language.specs.Reads.{faults_from, program_faults}
use Rattle.fz_gen.specs.declared.text.Measure.{Measure}
use Rattle.fz_gen.specs.declared.text.Measure.TheVariants.{Weight, Value}
use Rattle.fz_gen.specs.Knapsack.{measure_of, total}
use Rattle.fz_gen.specs.Laws.{EachIsAccepted}
use Rattle.fz_gen.proofs.Texts.{Entry, Known, number, nought, minus_one, name_of, goal_name, measures, names, whole}
use Rattle.fz_gen.proofs.Spelling.{tokens}
use Rattle.fz_gen.proofs.Fitting.{is_short, are_tokens}
use Rattle.fz_gen.proofs.Trees.{basic, basics, choice_item, choice_end, choice_items, choices_end, goal_end, factors_at, terms_at, bound_at, solve_item, weights_item, weights_end, values_item, last_items, last_end, program}
use Rattle.fz_gen.proofs.Spelt.{spells}
use Rattle.fz_gen.proofs.Kept.{env, whole_env, AllFit, FitsIn, basics_are, unknown, known, no_goal}
use Rattle.fz_gen.proofs.Faultless.{choice_keeps, goal_keeps, counts, sum_counted, at_most_keeps, equal_keeps, right}

-- ---- after that many choices

abbrev scope : ℕ → Scope
scope j = record { entries = env j; variables = j }

behind_is : (j i at : ℕ) → i ≡ suc j → behind (scope j) (choice_item at i) ≡ scope (suc j)
behind_is j i at e = λ x. record { entries = entries.with_entry (name_of (e x)) (entries.Variable kinds.Int j) (env j); variables = add-one j x }

next : (i j : ℕ) → i ≡ suc j → i + 1 ≡ suc (suc j)
next i j e = omega (arith, e)

so_many : (j k : ℕ) → suc j + k ≡ j + suc k
so_many j k = omega arith

scope_behind_choices : (k i j at : ℕ) (more : List Item) → i ≡ suc j → scope_behind (scope j) (choice_items at i k more) ≡ scope_behind (scope (j + k)) more
scope_behind_choices zero i j at more e = ap (λ (m : ℕ). scope_behind (scope m) more) (omega arith)
scope_behind_choices (suc k) i j at more e =
    ap (λ (s : Scope). scope_behind s (choice_items (choice_end at i) (i + 1) k more)) (behind_is j i at e)
    ∙ scope_behind_choices k (i + 1) (suc j) (choice_end at i) more (next i j e)
    ∙ ap (λ (m : ℕ). scope_behind (scope m) more) (so_many j k)

abbrev variables_from : ℕ → List Item → ℕ
variables_from j items = length (made variables_of (scope j) items)

variables_behind_choices : (k i j at : ℕ) (more : List Item) → i ≡ suc j → variables_from j (choice_items at i k more) ≡ k + variables_from (j + k) more
variables_behind_choices zero i j at more e =
    let a : variables_from j more ≡ variables_from (j + 0) more = ap (λ (m : ℕ). variables_from m more) (omega arith) in
    omega (arith, a)
variables_behind_choices (suc k) i j at more e =
    let a : variables_from j (choice_items at i (suc k) more) ≡ suc (variables_from (suc j) (choice_items (choice_end at i) (i + 1) k more)) = ap (λ (s : Scope). suc (length (made variables_of s (choice_items (choice_end at i) (i + 1) k more)))) (behind_is j i at e) in
    let b = variables_behind_choices k (i + 1) (suc j) (choice_end at i) more (next i j e) in
    let c : variables_from (suc j + k) more ≡ variables_from (j + suc k) more = ap (λ (m : ℕ). variables_from m more) (so_many j k) in
    omega (arith, a, b, c)

low : (a : ℕ) → a ≤ 1001 → nat_lt a VARIABLE_LIMIT ≡ true
low a l = (Decides-ltb a VARIABLE_LIMIT).1 (omega (arith, l))

choices_keep : (k i j at : ℕ) (more : List Item) (solve : SolveItem) → i ≡ suc j → j + k ≤ 1000 → faults_from (scope j) (counts j 0 0) (choice_items at i k more) solve ≡ faults_from (scope (j + k)) (counts (j + k) 0 0) more solve
choices_keep zero i j at more solve e l = ap (λ (m : ℕ). faults_from (scope m) (counts m 0 0) more solve) (omega arith)
choices_keep (suc k) i j at more solve e l =
    ap (λ xs. xs ++ faults_from (behind (scope j) (choice_item at i)) (counts (j + 1) 0 0) (choice_items (choice_end at i) (i + 1) k more) solve)
    (choice_keeps (env j) (counts j 0 0) at i (unknown j i (omega (arith, e)) (omega (arith, e, l))) (low j (omega (arith, l))))
    ∙ (λ x. faults_from (behind_is j i at e x) (counts (add-one j x) 0 0) (choice_items (choice_end at i) (i + 1) k more) solve)
    ∙ choices_keep k (i + 1) (suc j) (choice_end at i) more solve (next i j e) (omega (arith, l))
    ∙ ap (λ (m : ℕ). faults_from (scope m) (counts m 0 0) more solve) (so_many j k)

-- ---- the entries of the sums

measures_fit : (m : Measure) (i n k : ℕ) → AllFit false (whole_env k) (map (λ j. number (measure_of m j)) (range_with_len i n))
measures_fit m i zero k = tt
measures_fit m i (suc n) k = (tt, measures_fit m (i + 1) n k)

names_fit : (k i j n : ℕ) → i ≡ suc j → j + k ≤ n → n ≤ 1000 → AllFit true (whole_env n) (map (λ x. Known (name_of x)) (range_with_len i k))
names_fit zero i j n e l b = tt
names_fit (suc k) i j n e l b = (
  (refl, (j, ap (λ (x : ℕ). env n (name_of x)) e ∙ known n j (omega (arith, l)) b)),
  names_fit k (i + 1) (suc j) n (next i j e) (omega (arith, l)) b,
)

with_last_fits : (vary : Bool) (k : ℕ) (es : List Entry) (e : Entry) → AllFit vary (whole_env k) es → FitsIn vary (whole_env k) e → AllFit vary (whole_env k) (es ++ e ∷ [])
with_last_fits vary k [] e f g = (g, tt)
with_last_fits vary k (x ∷ es) e f g = (f.0, with_last_fits vary k es e f.1 g)

-- ---- the last items

abbrev counts_behind : ℕ → ℕ → ℕ → Counts
counts_behind n c e = counts (n + 1) c e

mapped : (f : ℕ → Entry) (n : ℕ) → length (map f (range_with_len 1 n)) ≡ n
mapped f n = length-map-range_with_len f 1 n

with_one : (es : List Entry) (e : Entry) → length (es ++ e ∷ []) ≡ length es + 1
with_one es e = length-append es (e ∷ [])

weights_keep : (n at c e : ℕ) → n ≤ 1000 → c ≤ 1 → e ≤ 2000 → faults_of (whole_env n) (counts_behind n c e) (weights_item at n) ≡ []
weights_keep n at c e l f g =
    let name = codes "int_lin_le" in
    let a = factors_at at name in
    let b = terms_at at name (measures Weight n) in
    let d = bound_at at name (measures Weight n) (names n) in
    let x = mapped (λ i. number (measure_of Weight i)) n in
    let y = mapped (λ i. Known (name_of i)) n in
    at_most_keeps (whole_env n) (counts_behind n c e) (at + 10 + 1) a b (basics a (measures Weight n)) (basics b (names n)) (basic d (number (total Weight n / 2)))
    (right (whole_env n) (n + 1) c e (at + 10 + 1) a b d (measures Weight n) (names n) (number (total Weight n / 2)) (measures_fit Weight 1 n n) (names_fit n 1 0 n refl (omega arith) l) tt (omega (arith, x, y)) (omega (arith, f)) (omega (arith, g, l, x, y)))

values_keep : (n at c e : ℕ) → n ≤ 1000 → c ≤ 1 → e ≤ 2000 → faults_of (whole_env n) (counts_behind n c e) (values_item at n) ≡ []
values_keep n at c e l f g =
    let name = codes "int_lin_eq" in
    let fs = measures Value n ++ minus_one ∷ [] in
    let ts = names n ++ Known goal_name ∷ [] in
    let a = factors_at at name in
    let b = terms_at at name fs in
    let d = bound_at at name fs ts in
    let x = mapped (λ i. number (measure_of Value i)) n in
    let y = mapped (λ i. Known (name_of i)) n in
    let z = with_one (measures Value n) minus_one in
    let w = with_one (names n) (Known goal_name) in
    equal_keeps (whole_env n) (counts_behind n c e) (at + 10 + 1) a b (basics a fs) (basics b ts) (basic d nought)
    (right (whole_env n) (n + 1) c e (at + 10 + 1) a b d fs ts nought (with_last_fits false n (measures Value n) minus_one (measures_fit Value 1 n n) tt)
    (with_last_fits true n (names n) (Known goal_name) (names_fit n 1 0 n refl (omega arith) l) (refl, (n, refl))) tt (omega (arith, x, y, z, w)) (omega (arith, f)) (omega (arith, g, l, x, y, z, w)))

weights_counted : (n at : ℕ) → all_counted (counts_behind n 0 0) (additions (weights_item at n)) ≡ counts_behind n 1 (n + n)
weights_counted n at =
    let name = codes "int_lin_le" in
    let a = factors_at at name in
    let b = terms_at at name (measures Weight n) in
    let x = mapped (λ i. number (measure_of Weight i)) n in
    let y = mapped (λ i. Known (name_of i)) n in
    sum_counted (n + 1) 0 0 (at + 10 + 1) (measures Weight n) (names n) (basics a (measures Weight n)) (basics b (names n)) (bound_at at name (measures Weight n) (names n)) (number (total Weight n / 2)) (basics_are a (measures Weight n)) (basics_are b (names n))
    ∙ ap (λ (k : ℕ). counts_behind n 1 k) (omega (arith, x, y))

last_keep : (n at end : ℕ) → n ≤ 1000 → faults_from (scope n) (counts n 0 0) (last_items at n) (solve_item end) ≡ []
last_keep n at end l =
    let b = goal_end at (total Value n) in
    let c = weights_end b n in
    (λ i. goal_keeps (env n) (counts n 0 0) at (total Value n) (no_goal n) (low n (omega (arith, l))) i
    ++ (weights_keep n b 0 0 l (omega arith) (omega arith) i ++ (faults_of (whole_env n) (weights_counted n b i) (values_item c n) ++ solve_faults (whole_env n) (solve_item end))))
    ∙ ap (λ (xs : List Fault). xs ++ solve_faults (whole_env n) (solve_item end)) (values_keep n c 1 (n + n) l (omega arith) (omega (arith, l)))

keeps : (n : ℕ) → n ≤ 1000 → program_faults (program n) ≡ []
keeps n l =
    let at = choices_end 0 1 n in
    let same : 0 + n ≡ n = omega arith in
    choices_keep n 1 0 0 (last_items at n) (solve_item (last_end at n)) refl (omega (arith, l))
    ∙ ap (λ (m : ℕ). faults_from (scope m) (counts m 0 0) (last_items at n) (solve_item (last_end at n))) same
    ∙ last_keep n at (last_end at n) l

-- ---- the whole

last_scope : (n : ℕ) → scope_behind (scope 0) (program n).items ≡ record { entries = whole_env n; variables = n + 1 }
last_scope n =
    let at = choices_end 0 1 n in
    scope_behind_choices n 1 0 0 (last_items at n) refl ∙ ap (λ (m : ℕ). scope_behind (scope m) (last_items at n)) (let same : 0 + n ≡ n = omega arith in same)

goal_is : (n : ℕ) → (model_of (program n)).goal ≡ Maximize (Var n)
goal_is n = ap (λ (s : Scope). goal_of s.entries (program n).solve) (last_scope n)

count_is : (n : ℕ) → length (model_of (program n)).variables ≡ n + 1
count_is n = let c = variables_behind_choices n 1 0 0 (last_items (choices_end 0 1 n) n) refl in c

pub each_is_accepted : EachIsAccepted
each_is_accepted n some few = record {
  model = model_of (program n);
  accepted = record {
    program = program n;
    spelt = record { short = is_short n some few; tokens = tokens 0 (whole n); lexed = are_tokens n some few; spelt = spells n };
    keep = keeps n few;
    is = refl;
  };
  count = count_is n;
  goal = goal_is n;
}
