-- A division lowers what is left to divide.
use Rattle.std.proofs.Common.{◌≡◌, ◌∙◌, ℕ, ◌+◌, ◌-◌, ◌<◌, ◌≤◌, List, [], ◌∷◌, ◌++◌, length, map, take, ap, sym, refl, arith, true}
use Rattle.std.specs.Prelude.{ℤ}
use Rattle.std.specs.List.{AllByRecursion, sum_by, count_by, filter}
use Rattle.std.proofs.lemmas.List.{take_all}
use Rattle.std.proofs.lemmas.List.Sums.{sum_by-append, sum_by-cons, length-filter}
use Rattle.fz_spec.specs.Instance.{Instance}
use Rattle.fz_tree.specs.declared.decision.Decision.{Decision}
use Rattle.fz_tree.specs.Choice.{meets, IsChoice}
use Rattle.fz_tree.specs.Frontier.{meets_taken, first_of}
use Rattle.fz_tree.specs.Proper.{IsReachable}
use Rattle.fz_tree.specs.Measure.{all_declared, place_weight, others_weight, weight_below}
use Rattle.fz_tree.proofs.Measures.{branched_lowers}
use Rattle.fz_split.specs.Weights.{edge_of, path_of, weight_of, weight_in}

-- ---- sums

sum_same : {X : Type 0} (f g : X → ℕ) (xs : List X) → ((x : X) → f x ≡ g x) → sum_by f xs ≡ sum_by g xs
sum_same f g [] same = refl
sum_same f g (x ∷ xs) same = omega (arith, sum_by-cons f x xs, sum_by-cons g x xs, same x, sum_same f g xs same)

pub weight_first : (m : Instance) (p : List Decision) (ps : List (List Decision)) → weight_in m (p ∷ ps) ≡ weight_of m p + weight_in m ps
weight_first m p ps = sum_by-cons (weight_of m) p ps

pub weight_last : (m : Instance) (ps : List (List Decision)) (p : List Decision) → weight_in m (ps ++ p ∷ []) ≡ weight_in m ps + weight_of m p
weight_last m ps p = sum_by-append (weight_of m) ps (p ∷ []) ∙ ap (λ (n : ℕ). weight_in m ps + n) (sum_by-cons (weight_of m) p [] ∙ omega arith)

-- ---- paths of parts

abbrev below : List Decision → List (List ℤ) → ℕ
below p ls = weight_below (map edge_of p) true ls

-- the assignments that the first decision leaves
abbrev left_by : Decision → List (List ℤ) → List (List ℤ)
left_by d ls = filter (λ (a : List ℤ). meets_taken a (edge_of d)) ls

below_first : (d : Decision) (p : List Decision) (ls : List (List ℤ)) → below (d ∷ p) ls ≡ below p (left_by d ls)
below_first d p ls = omega arith

below_some : (p : List Decision) (ls : List (List ℤ)) → 1 ≤ below p ls
below_some [] ls = omega arith
below_some (d ∷ ds) ls = omega (arith, below_first d ds ls, below_some ds (left_by d ls))

pub weight_some : (m : Instance) (p : List Decision) → 1 ≤ weight_of m p
weight_some m p = below_some p (all_declared m.variables)

-- the path that is divided counts what the paths of all alternatives do
first_below : (ls : List (List ℤ)) (d : Decision) (ds : List Decision) → weight_below (first_of (d ∷ ds) ∷ []) true ls ≡ sum_by (λ (e : Decision). below (e ∷ []) ls) (d ∷ ds)
first_below ls d ds =
    let count : length (d ∷ ds) - 1 - 0 ≡ length ds = omega arith in
    let weigh : Decision → ℕ = λ e. place_weight (count_by (λ (a : List ℤ). meets a e) ls) in
    let others : others_weight (first_of (d ∷ ds)) ls ≡ sum_by weigh ds = ap (λ n. sum_by weigh (take n ds)) count ∙ ap (sum_by weigh) (take_all (length ds) ds (omega arith)) in
    let each : (e : Decision) → weigh e ≡ below (e ∷ []) ls = λ e. ap place_weight (sym (length-filter (λ (a : List ℤ). meets a e) ls)) ∙ omega arith in
    let here : below (d ∷ []) ls ≡ place_weight (length (left_by d ls)) = omega arith in
    omega (arith, others, sum_same weigh (λ (e : Decision). below (e ∷ []) ls) ds each, here, sum_by-cons (λ (e : Decision). below (e ∷ []) ls) d ds)

divided_below : (p : List Decision) (ls : List (List ℤ)) (d : Decision) (ds : List Decision) → weight_below (map edge_of p ++ first_of (d ∷ ds) ∷ []) true ls ≡ sum_by (λ (e : Decision). below (p ++ e ∷ []) ls) (d ∷ ds)
divided_below [] ls d ds = first_below ls d ds
divided_below (c ∷ p) ls d ds =
    let rest = divided_below p (left_by c ls) d ds in
    let same = sum_same (λ (e : Decision). below (p ++ e ∷ []) (left_by c ls)) (λ (e : Decision). below (c ∷ (p ++ e ∷ [])) ls) (d ∷ ds) (λ e. sym (below_first c (p ++ e ∷ []) ls)) in
    omega (arith, rest, same)

pub alternatives_less : (m : Instance) (p choice : List Decision) → IsChoice choice → AllByRecursion (IsReachable m.variables (map edge_of p)) choice → sum_by (λ (e : Decision). weight_of m (p ++ e ∷ [])) choice < weight_of m p
alternatives_less m p [] chooses reachable = absurd (let several = chooses.several in omega (arith, several))
alternatives_less m p (d ∷ ds) chooses reachable =
    let lower = branched_lowers m (path_of p) (d ∷ ds) refl chooses reachable in
    let is = divided_below p (all_declared m.variables) d ds in
    omega (arith, lower, is)
