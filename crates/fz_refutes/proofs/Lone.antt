-- A box that leaves one number of each variable: its assignment breaks no constraint that isn't refuted.
use Rattle.std.proofs.Common.{◌≡◌, ◌≢◌, ℕ, suc, ◌<◌, ◌≤◌, ℤ, ◌<ℤ◌, inl, inr, List, [], ◌∷◌, refl, sym, subst, ◌∙◌, arith, length}
use Rattle.std.specs.Prelude.{Option, Some, None, slice_get}
use Rattle.std.specs.List.{AllByRecursion}
use Rattle.std.proofs.lemmas.Int.{ints, by_lt_z}
use Rattle.fz_sets.specs.Sets.{AreRanges, IsInSet, set_size, single}
use Rattle.fz_sets.proofs.Sizes.{size_of_one}
use Rattle.fz_dom.specs.Shape.{least}
use Rattle.fz_dom.proofs.Ranges.{least_member}
use Rattle.fz_spec.specs.declared.term.Term.{Term}
use Rattle.fz_spec.specs.declared.term.Term.TheVariants.{Num, Var}
use Rattle.fz_spec.specs.declared.goal.Goal.{Goal}
use Rattle.fz_spec.specs.declared.goal.Goal.TheVariants.{Satisfy, Minimize, Maximize}
use Rattle.fz_spec.specs.Constraints.{Constraint, IsTrueOf, term_value}
use Rattle.fz_spec.specs.Instance.{Instance, Variable, AreDeclared, score_of}
use Rattle.fz_refutes.specs.Boxes.{IsInBox, AreSets, HasEmpty, set_of}
use Rattle.fz_refutes.specs.Refuted.{IsAt, IsRefutedSmall, RefutesIfThere, IsNoBetter, IsWorse, choices_of, open_after, variables_of}
use Rattle.fz_refutes.specs.Trees.{IsOpen}
use Rattle.fz_refutes.specs.Texts.{IsHead}
use Rattle.fz_refutes.specs.Laws.{Betters}
use Rattle.fz_refutes.specs.Makers.{IsPartOf, SomeIsOpen}
use Rattle.fz_refutes.proofs.Hulls.{some_length}
use Rattle.fz_refutes.proofs.Insides.{declared_length, at_term, ranges_of_term}
use Rattle.fz_refutes.proofs.Opening.{AreOpen, are_open, not_more}
use Rattle.fz_refutes.proofs.Agreeing.{one_number, in_one}
use Rattle.fz_refutes.proofs.Truths.{IsSameAt, truth_stays}

-- the least number of each set
abbrev pub leasts : List (List (ℤ × ℤ)) → List ℤ
leasts [] = []
leasts (d ∷ ds) = least d ∷ leasts ds

pub leasts_in : (box : List (List (ℤ × ℤ))) → AreSets box → (HasEmpty box → ⊥) → IsInBox box (leasts box)
leasts_in [] are full = tt
leasts_in (d ∷ ds) are full = ((least_member d (some_length d (λ e. full (inl e))) are.0).0, leasts_in ds are.1 (λ e. full (inr e)))

-- an assignment in a part of the declared sets
pub part_declared : (vs : List Variable) (box : List (List (ℤ × ℤ))) (a : List ℤ) → IsPartOf vs box → IsInBox box a → AreDeclared vs a
part_declared [] [] [] part i = tt
part_declared [] [] (x ∷ xs) part i = absurd i
part_declared [] (d ∷ ds) a part i = absurd part
part_declared (v ∷ vs) [] a part i = absurd part
part_declared (v ∷ vs) (d ∷ ds) [] part i = absurd i
part_declared (v ∷ vs) (d ∷ ds) (x ∷ xs) part i = (part.0 x i.0, part_declared vs ds xs part.1 i.1)

-- ---- where no variable has several numbers

abbrev NoneOpen : List (List (ℤ × ℤ)) → Type 0
NoneOpen box = (v : ℕ) → IsOpen box v → ⊥

one_member : (d : List (ℤ × ℤ)) (x y : ℤ) → AreRanges d → (1 < set_size d → ⊥) → IsInSet d x → IsInSet d y → x ≡ y
one_member d x y are one i j =
    let is = one_number d are (λ e. subst (λ (s : List (ℤ × ℤ)). IsInSet s x) e i) one in
    in_one is.0 x (subst (λ (s : List (ℤ × ℤ)). IsInSet s x) is.1 i) ∙ sym (in_one is.0 y (subst (λ (s : List (ℤ × ℤ)). IsInSet s y) is.1 j))

one_left : (box : List (List (ℤ × ℤ))) (t : Term) → NoneOpen box → 1 < set_size (set_of box t) → ⊥
one_left box (Num n) none more = not_more (set_size (single n)) (size_of_one n) more
one_left box (Var v) none more = none v more

same_value : (box : List (List (ℤ × ℤ))) (a : List ℤ) (t : Term) (x : ℤ) → AreSets box → NoneOpen box → IsInBox box a → IsInSet (set_of box t) x → x ≡ term_value a t
same_value box a t x are none i j = one_member (set_of box t) x (term_value a t) (ranges_of_term box t are) (one_left box t none) j (at_term box a t i)

each_same : (box : List (List (ℤ × ℤ))) (a b : List ℤ) (vs : List ℕ) → AreSets box → NoneOpen box → IsInBox box a → AllByRecursion (IsAt box b) vs → AllByRecursion (IsSameAt b a) vs
each_same box a b [] are none i all = tt
each_same box a b (v ∷ vs) are none i all = (same_value box a (Var v) (term_value b (Var v)) are none i all.0, each_same box a b vs are none i all.1)

one_choice : (box : List (List (ℤ × ℤ))) (vs : List ℕ) → AreOpen box vs → NoneOpen box → choices_of box vs ≤ 256
one_choice box [] all none = omega arith
one_choice box (v ∷ vs) all none = absurd (none v all.0)

-- a constraint that the one assignment breaks is refuted
broken_small : (c : Constraint) (box : List (List (ℤ × ℤ))) (a : List ℤ) → AreSets box → NoneOpen box → IsInBox box a → (IsTrueOf a c → ⊥) → IsRefutedSmall c box
broken_small c box a are none i broken = record {
  few = one_choice box (open_after box [] (variables_of c.arguments)) (are_open box [] (variables_of c.arguments) tt) none;
  never = λ b all holds. broken (truth_stays c b a (each_same box a b (variables_of c.arguments) are none i all) holds);
}

-- so where none is refuted it can't be that one is broken
none_broken : (cs : List Constraint) (box : List (List (ℤ × ℤ))) (a : List ℤ) → AreSets box → NoneOpen box → IsInBox box a → ((k : ℕ) → RefutesIfThere (slice_get cs k) box → ⊥)
    → (AllByRecursion (IsTrueOf a) cs → ⊥) → ⊥
none_broken [] box a are none i unrefuted broken = broken tt
none_broken (c ∷ cs) box a are none i unrefuted broken =
    none_broken cs box a are none i (λ k out. unrefuted (suc k) out) (λ all. unrefuted 0 (inr (inr (broken_small c box a are none i (λ holds. broken (holds, all))))))

no_better : (goal : Goal) (box : List (List (ℤ × ℤ))) (a best : List ℤ) → AreSets box → NoneOpen box → IsInBox box a → goal ≢ Satisfy → (score_of goal a <ℤ score_of goal best → ⊥) → IsNoBetter goal box best
no_better Satisfy box a best are none i some above = absurd (some refl)
no_better (Minimize t) box a best are none i some above = λ x j.
    let same = same_value box a t x are none i j in
    by_lt_z x (term_value best t) (λ lt. absurd (above (omega (arith, ints, lt, same)))) (λ le. le)
no_better (Maximize t) box a best are none i some above = λ x j.
    let same = same_value box a t x are none i j in
    by_lt_z (term_value best t) x (λ lt. absurd (above (omega (arith, ints, lt, same)))) (λ le. le)

-- where the one assignment doesn't better the head, no value of the goal does
worse : (m : Instance) (head : Option (List ℤ)) (box : List (List (ℤ × ℤ))) (a : List ℤ) → AreSets box → NoneOpen box → IsInBox box a → length a ≡ length m.variables → IsHead m head
    → (Betters m a head → ⊥) → IsWorse m.goal box head
worse m None box a are none i whole is_head behind = behind tt
worse m (Some best) box a are none i whole is_head behind =
    no_better m.goal box a best are none i is_head.1
    (λ less. behind (record { goal = is_head.1; whole = whole; other_whole = declared_length m.variables best is_head.0.declared; less = less }))

pub some_is_open : SomeIsOpen
some_is_open m head box is_head best part are full unrefuted hope none =
    let a = leasts box in
    let i = leasts_in box are full in
    let declared = part_declared m.variables box a part i in
    none_broken m.constraints box a are none i unrefuted
    (λ all. hope (worse m head box a are none i (declared_length m.variables a declared) is_head (λ better. best a (record { declared = declared; constraints = all }) better)))
