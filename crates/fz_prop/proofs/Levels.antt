-- What the level of a change tells.
use Rattle.std.proofs.Common.{◌≡◌, ℕ, ◌<◌, ◌≤◌, List, refl, arith, Bool, true, false, nat_eq, ◌⊎◌, inl, inr, cond}
use Rattle.std.specs.Prelude.{ℤ, ◌&&◌}
use Rattle.std.specs.Ordering.{int_eq}
use Rattle.std.proofs.lemmas.Bool.{eq-eqb}
use Rattle.std.proofs.lemmas.Bool.Decides.{Decides-int_eq}
use Rattle.fz_sets.specs.Sets.{set_size}
use Rattle.fz_sets.proofs.Sizes.{size_of_one}
use Rattle.fz_dom.specs.Shape.{least, greatest}
use Rattle.fz_strength.specs.declared.event.Event.{Event}
use Rattle.fz_strength.specs.declared.event.Event.TheVariants.{Any, Bound, Fixed}
use Rattle.fz_strength.specs.Events.{level, IsQuiet}
use Rattle.fz_prop.specs.Cuts.{change_level, have_same_ends}

ends_level : (a b : Bool) → (2 ≤ cond (a && b) 1 2) ⊎ ((a ≡ true) × (b ≡ true))
ends_level true true = inr (refl, refl)
ends_level true false = inl (omega arith)
ends_level false b = inl (omega arith)

-- below 2 the ends are the same
same_ends : (e : List (ℤ × ℤ)) (low high : ℤ) → have_same_ends e low high < 2 → (low ≡ least e) × (high ≡ greatest e)
same_ends e low high below = elim (ends_level (int_eq low (least e)) (int_eq high (greatest e))) [
  | inl h ↦ absurd (omega (arith, below, h))
  | inr h ↦ ((Decides-int_eq low (least e)).0 h.0, (Decides-int_eq high (greatest e)).0 h.1)
]

some_level : (a b : Bool) → 1 ≤ cond a 3 (cond b 1 2)
some_level true b = omega arith
some_level false true = omega arith
some_level false false = omega arith

pub at_least_one : (e : List (ℤ × ℤ)) (low high : ℤ) → 1 ≤ change_level low high e
at_least_one e low high = some_level (nat_eq (set_size e) 1) (int_eq low (least e) && int_eq high (greatest e))

when_below : (b : Bool) (n : ℕ) → cond b 3 n < 3 → (b ≡ false) × (cond b 3 n ≡ n)
when_below true n below = absurd (omega (arith, below))
when_below false n below = (refl, refl)

tells_fixed : (d e : List (ℤ × ℤ)) → change_level (least d) (greatest d) e < level Fixed → IsQuiet Fixed d e
tells_fixed d e below = λ x only.
    let open_ : (nat_eq (set_size e) 1 ≡ false) × (change_level (least d) (greatest d) e ≡ have_same_ends e (least d) (greatest d)) =
    when_below (nat_eq (set_size e) 1) (have_same_ends e (least d) (greatest d)) below in
    let fixed : nat_eq (set_size e) 1 ≡ true = eq-eqb (set_size e) 1 (rw only (size_of_one x)) in
    absurd (cc (open_.0, fixed))

pub tells : (d e : List (ℤ × ℤ)) (event : Event) → change_level (least d) (greatest d) e < level event → IsQuiet event d e
tells d e Any below = absurd (omega (arith, below, at_least_one e (least d) (greatest d)))
tells d e Bound below =
    let open_ : (nat_eq (set_size e) 1 ≡ false) × (change_level (least d) (greatest d) e ≡ have_same_ends e (least d) (greatest d)) =
    when_below (nat_eq (set_size e) 1) (have_same_ends e (least d) (greatest d)) (omega (arith, below)) in
    let ends = same_ends e (least d) (greatest d) (omega (arith, below, open_.1)) in
    (ends.0, ends.1, tells_fixed d e (omega (arith, below)))
tells d e Fixed below = tells_fixed d e below
