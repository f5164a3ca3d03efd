-- A block among those that runs print is one of a solution.
use Rattle.std.proofs.Common.{◌≡◌, inl, inr, ℕ, ℤ, Bool, true, false, Option, List, [], ◌∷◌, ◌++◌, refl, sym, ap, ap₂, subst, ◌∙◌, append_assoc, codes, flat_map}
use Rattle.std.proofs.lemmas.List.{append_cancel_left}
use Rattle.std.specs.Prelude.{IsSomeAnd, drop, get_or}
use Rattle.std.specs.List.{AllByRecursion}
use Rattle.fz_spec.specs.declared.goal.Goal.{Goal}
use Rattle.fz_spec.specs.declared.goal.Goal.TheVariants.{Satisfy, Minimize, Maximize}
use Rattle.fz_spec.specs.Instance.{Instance, Output, Satisfies}
use Rattle.fz_spec.specs.Run.{blocks, line, output_text}
use Rattle.fz_tree.specs.declared.decision.Decision.{Decision}
use Rattle.fz_shown.specs.Shown.{IsSolutionText}
use Rattle.fz_join.specs.Joins.{AreNamed, ArePartsOf, AreRuns, IsName, Ran}
use Rattle.fz_join.specs.Joining.{AreBlocks, HasItems, IsLine}
use Rattle.fz_join.specs.Checking.{HasFalse, IsFalseBest}
use Rattle.fz_join.specs.Machine.{begun}
use Rattle.fz_join.specs.After.{after_runs, shown_of}
use Rattle.fz_join.proofs.LineBytes.{item_line}
use Rattle.fz_join.proofs.Passed.{items_some, joined, left_none, line_rest}
use Rattle.fz_join.proofs.SumAfter.{lists_of, printed_after, printed_of_goal}
use Rattle.fz_join.proofs.SumRuns.{joined_sound}
use Rattle.fz_join.proofs.WholeBest.{none_or_block}
use Rattle.fz_join.proofs.WholeSolutions.{parts_known}

-- ---- lines

firsts : (a b : ℕ) (x y : List ℕ) → a ∷ x ≡ b ∷ y → a ≡ b
firsts a b x y is = ap (λ (l : List ℕ). get_or l 0 0) is

later : (a b : ℕ) (x y : List ℕ) → a ∷ x ≡ b ∷ y → x ≡ y
later a b x y is = ap (λ (l : List ℕ). drop 1 l) is

-- two lines and what stands behind each
same_line : (a b x y : List ℕ) → IsLine a → IsLine b → a ++ 10 ∷ x ≡ b ++ 10 ∷ y → (a ≡ b) × (x ≡ y)
same_line [] [] x y is_a is_b is = (refl, later 10 10 x y is)
same_line [] (c ∷ b) x y is_a is_b is = absurd (is_b.0 (sym (firsts 10 c x (b ++ 10 ∷ y) is)))
same_line (c ∷ a) [] x y is_a is_b is = absurd (is_a.0 (firsts c 10 (a ++ 10 ∷ x) y is))
same_line (c ∷ a) (d ∷ b) x y is_a is_b is =
    let behind = same_line a b x y is_a.1 is_b.1 (later c d (a ++ 10 ∷ x) (b ++ 10 ∷ y) is) in
    (ap₂ (λ (e : ℕ) (l : List ℕ). e ∷ l) (firsts c d (a ++ 10 ∷ x) (b ++ 10 ∷ y) is) behind.0, behind.1)

-- ---- blocks

first_parts : (name equal value lines dashes : List ℕ) → ((((name ++ equal) ++ value) ++ codes ";\n") ++ lines) ++ dashes ≡ (name ++ equal) ++ ((value ++ codes ";") ++ 10 ∷ (lines ++ dashes))
first_parts name equal value lines dashes = simp append_assoc

same_items : (a : List ℤ) (os : List Output) (b rest more : List ℕ) → AllByRecursion (λ (o : Output). IsName o.name) os → HasItems os b → b ++ rest ≡ (flat_map (line a) os ++ codes "----------\n") ++ more
    → (b ≡ flat_map (line a) os ++ codes "----------\n") × (rest ≡ more)
same_items a [] b rest more named items is = (items, append_cancel_left (codes "----------\n") rest more (sym (ap (λ (t : List ℕ). t ++ rest) items) ∙ is))
same_items a (o ∷ os) b rest more named items is =
    let front : List ℕ = o.name ++ codes " = " in
    let value : List ℕ = output_text a o ++ codes ";" in
    let behind : List ℕ = flat_map (line a) os ++ codes "----------\n" in
    let parts : (line a o ++ flat_map (line a) os) ++ codes "----------\n" ≡ front ++ (value ++ 10 ∷ behind) = first_parts o.name (codes " = ") (output_text a o) (flat_map (line a) os) (codes "----------\n") in
    let both : front ++ (items.value ++ 10 ∷ (items.rest ++ rest)) ≡ front ++ (value ++ 10 ∷ (behind ++ more)) =
    sym (ap (λ (t : List ℕ). t ++ rest) items.is ∙ joined front items.value items.rest rest) ∙ is ∙ ap (λ (t : List ℕ). t ++ more) parts ∙ joined front value behind more in
    let lines = same_line items.value value (items.rest ++ rest) (behind ++ more) items.line
    (line_rest front value (subst IsLine (append_assoc front (output_text a o) (codes ";")) (item_line a o named.0))) (append_cancel_left front _ _ both) in
    let inner = same_items a os items.rest rest more named.1 items.later lines.1 in
    (items.is ∙ ap₂ (λ (v r : List ℕ). front ++ (v ++ 10 ∷ r)) lines.0 inner.0 ∙ sym parts, inner.1)

-- behind blocks and before anything, among blocks of solutions
is_one : (m : Instance) (bs : List (List ℕ)) (b rest : List ℕ) (l : List (List ℤ)) → AreNamed m → AllByRecursion (HasItems m.outputs) bs → HasItems m.outputs b → AllByRecursion (Satisfies m) l → flat_map (λ c. c) bs ++ (b ++ rest) ≡ blocks m l → IsSolutionText m b
is_one m [] b rest [] named each items sound is = absurd (items_some m.outputs b items (left_none b rest is))
is_one m [] b rest (a ∷ l) named each items sound is =
    let same = same_items a m.outputs b rest (blocks m l) named items is in
    record { assignment = a; satisfies = sound.0; is_block = same.0 }
is_one m (c ∷ bs) b rest [] named each items sound is =
    absurd (items_some m.outputs c each.0 (left_none c (flat_map (λ d. d) bs ++ (b ++ rest)) (sym (append_assoc c (flat_map (λ d. d) bs) (b ++ rest)) ∙ is)))
is_one m (c ∷ bs) b rest (a ∷ l) named each items sound is =
    let same = same_items a m.outputs c (flat_map (λ d. d) bs ++ (b ++ rest)) (blocks m l) named each.0 (sym (append_assoc c (flat_map (λ d. d) bs) (b ++ rest)) ∙ is) in
    is_one m bs b rest l named each.1 items sound.1 same.1

-- ---- runs

-- blocks of these solutions
record ArePrinted (m : Instance) (text : List ℕ) : Type 0 where
  list : List (List ℤ)
  sound : AllByRecursion (Satisfies m) list
  is : text ≡ blocks m list

shown_sound : (m : Instance) (all : Bool) (l : List (List ℤ)) → AllByRecursion (Satisfies m) l → AllByRecursion (Satisfies m) (shown_of all false l)
shown_sound m true l sound = sound
shown_sound m false [] sound = tt
shown_sound m false (a ∷ l) sound = (sound.0, tt)

runs_printed : (m : Instance) (all : Bool) (ps : List (List Decision)) (rs : List Ran) (text : List ℕ) → ArePartsOf m ps → AreRuns m all ps rs text → ArePrinted m (after_runs m all (begun ps) rs).printed
runs_printed m all ps rs text parts runs = by_goal m.goal refl
  where
    by_goal : (g : Goal) → m.goal ≡ g → ArePrinted m (after_runs m all (begun ps) rs).printed
    by_goal Satisfy goal = record {
      list = shown_of all false (lists_of rs);
      sound = shown_sound m all (lists_of rs) (joined_sound m all rs goal (parts_known m ps rs all text parts runs) runs.each);
      is = printed_after m all (begun ps) rs goal;
    }
    by_goal (Minimize term) goal = record { list = []; sound = tt; is = printed_of_goal m all (begun ps) rs (λ same. let bad : Minimize term ≡ Satisfy = sym goal ∙ same in cc) }
    by_goal (Maximize term) goal = record { list = []; sound = tt; is = printed_of_goal m all (begun ps) rs (λ same. let bad : Maximize term ≡ Satisfy = sym goal ∙ same in cc) }

-- runs print no block of no solution
pub none_false : (m : Instance) (all : Bool) (ps : List (List Decision)) (rs : List Ran) (text found printed : List ℕ) → AreNamed m → ArePartsOf m ps → AreRuns m all ps rs text → found ≡ (after_runs m all (begun ps) rs).printed
    → AreBlocks m printed → HasFalse m found printed → ⊥
none_false m all ps rs text found printed named parts runs is are wrong =
    let by_runs = runs_printed m all ps rs text parts runs in
    wrong.other
    (is_one m are.blocks wrong.block wrong.later by_runs.list named are.each wrong.items by_runs.sound
    (sym (ap (λ (t : List ℕ). t ++ (wrong.block ++ wrong.later)) are.is) ∙ sym wrong.is ∙ is ∙ by_runs.is))

-- nor is the best one such
pub best_is_one : (m : Instance) (all : Bool) (ps : List (List Decision)) (rs : List Ran) (text : List ℕ) → ArePartsOf m ps → AreRuns m all ps rs text → IsFalseBest m (after_runs m all (begun ps) rs).state.best → ⊥
best_is_one m all ps rs text parts runs wrong = elim (none_or_block m all ps rs text parts runs wrong.goal) [
  | inl none ↦ subst (λ (o : Option (ℤ × List ℕ)). IsSomeAnd o (λ (b : ℤ × List ℕ). IsSolutionText m b.1 → ⊥)) none wrong.other
  | inr b ↦ subst (λ (o : Option (ℤ × List ℕ)). IsSomeAnd o (λ (c : ℤ × List ℕ). IsSolutionText m c.1 → ⊥)) b.is wrong.other (record { assignment = b.shown; satisfies = b.satisfies; is_block = refl })
]
