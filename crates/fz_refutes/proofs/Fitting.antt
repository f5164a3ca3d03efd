-- Some line of a tree fits each box.
use Rattle.std.proofs.Common.{◌≡◌, ◌⊎◌, ℕ, zero, suc, ◌<◌, ◌≤◌, inl, inr, Bool, true, false, cond, List, [], ◌∷◌, refl, arith}
use Rattle.std.specs.Prelude.{ℤ, pos, ◌≤ℤ◌, ◌<ℤ◌, Option, Some, None, nat_lt}
use Rattle.std.specs.List.{AllByRecursion}
use Rattle.std.proofs.lemmas.Bool.{cases_lt}
use Rattle.std.proofs.lemmas.Int.{ints}
use Rattle.fz_sets.specs.Sets.{set_size, single}
use Rattle.fz_sets.proofs.Sizes.{size_of_one}
use Rattle.fz_dom.specs.Shape.{least, greatest}
use Rattle.fz_spec.specs.Instance.{Instance, Variable}
use Rattle.fz_model.specs.Kept.{IsModel, IsVariable}
use Rattle.fz_refutes.specs.Boxes.{AreSets, HasEmpty, IsWord, set_at}
use Rattle.fz_refutes.specs.Trees.{Line, IsEmpty, Fails, IsBehind, Splits, IsOpen, IsFirstOpen, IsPicked, NoneFails, goal_variable, middle}
use Rattle.fz_refutes.specs.Refuted.{IsWorse}
use Rattle.fz_refutes.specs.Makers.{IsPartOf, IsFirstFit}
use Rattle.fz_refutes.proofs.Halves.{of_up_to, of_above}
use Rattle.fz_refutes.proofs.Insides.{ranges_of}
use Rattle.fz_refutes.proofs.Opening.{not_more, open_within}
use Rattle.fz_refutes.proofs.Lone.{some_is_open}
use Rattle.fz_refutes.proofs.Shrinking.{has_middle, picked_open}
use Rattle.fz_refutes.proofs.Within.{part_length, part_limits, word_limits}
use Rattle.fz_refutes.proofs.Refuting.{has_empty, first_failing, worse}
use Rattle.fz_refutes.specs.Certain.{SomeFits}

-- ---- the first open variable

NoneOpen : List (List (ℤ × ℤ)) → Type 0
NoneOpen box = (v : ℕ) → IsOpen box v → ⊥

none_here : (d : List (ℤ × ℤ)) (ds : List (List (ℤ × ℤ))) (n : ℕ) → set_size d ≤ 1 → ((u : ℕ) → u < n → IsOpen ds u → ⊥) → (u : ℕ) → u < suc n → IsOpen (d ∷ ds) u → ⊥
none_here d ds n one rest zero less several = omega (arith, one, several)
none_here d ds n one rest (suc u) less several = rest u (omega (arith, less)) several

none_more : (d : List (ℤ × ℤ)) (ds : List (List (ℤ × ℤ))) → set_size d ≤ 1 → ((u : ℕ) → IsOpen ds u → ⊥) → (u : ℕ) → IsOpen (d ∷ ds) u → ⊥
none_more d ds one rest zero several = omega (arith, one, several)
none_more d ds one rest (suc u) several = rest u several

first_open : (box : List (List (ℤ × ℤ))) → ((v : ℕ) × IsFirstOpen box v) ⊎ ((v : ℕ) → IsOpen box v → ⊥)
first_open [] = inr (λ v several. not_more (set_size (single (pos 0))) (size_of_one (pos 0)) (omega (arith, several)))
first_open (d ∷ ds) =
    elim (cases_lt 1 (set_size d)) [
      | inl several ↦ inl (0, record { open_now = omega (arith, several); first = λ u less. absurd (omega (arith, less)) })
      | inr one ↦ elim (first_open ds) [
        | inl later ↦ inl (suc later.0, record { open_now = later.1.open_now; first = none_here d ds later.0 one later.1.first })
        | inr rest ↦ inr (none_more d ds one rest)
      ]
    ]

by_goal : (test : Bool) (box : List (List (ℤ × ℤ))) (goal v : ℕ) → IsFirstOpen box v → (u : ℕ) × cond test (u ≡ goal) (IsFirstOpen box u)
by_goal true box goal v first = (goal, refl)
by_goal false box goal v first = (v, first)

picked : (goal : Option ℕ) (box : List (List (ℤ × ℤ))) (v : ℕ) → IsFirstOpen box v → (u : ℕ) × IsPicked goal box u
picked None box v first = (v, first)
picked (Some g) box v first = by_goal (nat_lt 1 (set_size (set_at box g))) box g v first

-- ---- where it is split

between_word : (low n high : ℤ) → IsWord low → IsWord high → low ≤ℤ n → n <ℤ high → IsWord n
between_word low n high is_low is_high over under = let floor = is_low.0 in let ceiling = is_high.1 in (omega (arith, ints, floor, over), omega (arith, ints, ceiling, under))

middle_word : (vs : List Variable) (box : List (List (ℤ × ℤ))) (v : ℕ) → AllByRecursion IsVariable vs → IsPartOf vs box → AreSets box → IsOpen box v → IsWord (middle (set_at box v))
middle_word vs box v fits part are several =
    let d = set_at box v in
    let ends = has_middle d (ranges_of box v are) several in
    let within = open_within box v (omega (arith, several)) in
    let low = of_up_to (middle d) d (least d) ends.low in
    let high = of_above (middle d) d (greatest d) ends.high in
    between_word (least d) (middle d) (greatest d) (word_limits (least d) (part_limits vs box v (least d) fits part within low.0)) (word_limits (greatest d) (part_limits vs box v (greatest d) fits part within high.0)) low.1 high.1

split : (m : Instance) (head : Option (List ℤ)) (box : List (List (ℤ × ℤ))) → IsModel m → IsPartOf m.variables box → AreSets box → (HasEmpty box → ⊥) → NoneFails m box → (IsWorse m.goal box head → ⊥)
    → (v : ℕ) → IsFirstOpen box v → (line : Line) × IsFirstFit m head box line
split m head box is part are full unrefuted hope v first =
    let at = picked (goal_variable m.goal) box v first in
    let several = picked_open (goal_variable m.goal) box at.0 at.1 in
    let length_is = part_length m.variables box part in
    let within = open_within box at.0 (omega (arith, several)) in (
      Splits at.0 (middle (set_at box at.0)),
      record {
        full = full;
        none_fails = unrefuted;
        hope = hope;
        within = (omega (arith, length_is, within), middle_word m.variables box at.0 is.sets part are several);
        picked = at.1;
        number = refl;
      },
    )

pub some_fits : SomeFits
some_fits m head box is is_head best part are =
    elim (has_empty box) [
      | inl e ↦ (IsEmpty, e)
      | inr full ↦ elim (first_failing m.constraints box are) [
        | inl failing ↦ (Fails failing.constraint, record { full = full; failing = record { refuted = failing.refuted; first = failing.first } })
        | inr unrefuted ↦ elim (worse m.goal box head are) [
          | inl behind ↦ (IsBehind, record { full = full; none_fails = unrefuted; worse = behind })
          | inr hope ↦ elim (first_open box) [
            | inl at ↦ split m head box is part are full unrefuted hope at.0 at.1
            | inr none ↦ absurd (some_is_open m head box is_head best part are full unrefuted hope none)
          ]
        ]
      ]
    ]
