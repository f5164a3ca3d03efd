-- All numbers of a set, one after another.
use Rattle.std.proofs.Common.{◌≡◌, ℕ, zero, suc, List, [], ◌∷◌, refl, ap, subst, ◌∙◌, arith, set, get_or}
use Rattle.std.specs.Prelude.{ℤ, pos, negsuc, ◌-ℤ◌, ◌<ℤ◌, Option, Some, None, unsigned_abs, MatchOption}
use Rattle.std.proofs.lemmas.Int.{ints, by_lt_z}
use Rattle.fz_sets.specs.Sets.{IsInSet}
use Rattle.fz_sets.specs.Sets.{AreWithinLimits}
use mir.Val.{SFits}
use mir.Syntax.{w32}
use Rattle.fz_dom.proofs.Ranges.{within_limits}
use Rattle.fz_dom.specs.Shape.{IsNextFrom, IsNextAbove, IsNoneFrom, IsNoneAbove}
use Rattle.fz_spec.specs.Constraints.{Constraint}
use Rattle.fz_refutes.specs.Boxes.{set_at}
use Rattle.fz_refutes.specs.Smalls.{NeverFrom}

-- below the next number, which is in the set; or anywhere, where there is none
abbrev pub IsPast : Option ℤ → ℤ → Type 0
IsPast None y = Unit {0}
IsPast (Some x) y = y <ℤ x

abbrev pub IsMember : List (ℤ × ℤ) → Option ℤ → Type 0
IsMember d None = Unit {0}
IsMember d (Some x) = IsInSet d x

-- how far it is to the end of all numbers
abbrev pub room_from : Option ℤ → ℕ
room_from None = 0
room_from (Some x) = unsigned_abs (pos 2147483648 -ℤ x)

-- each number that is past was tried
pub record AreTried (c : Constraint) (box : List (List (ℤ × ℤ))) (v : ℕ) (rest : List ℕ) (a : List ℤ) (next : Option ℤ) : Type 0 where
  pub member : IsMember (set_at box v) next
  pub tried : (y : ℤ) → IsInSet (set_at box v) y → IsPast next y → NeverFrom c box rest (set a v y)

set_over : (a : List ℤ) (v : ℕ) (x y : ℤ) → set (set a v x) v y ≡ set a v y
set_over [] v x y = refl
set_over (z ∷ zs) zero x y = refl
set_over (z ∷ zs) (suc v) x y = ap (λ (ts : List ℤ). z ∷ ts) (set_over zs v x y)

set_back : (a : List ℤ) (v : ℕ) (x : ℤ) → x ≡ get_or a v x → set a v x ≡ a
set_back [] v x is = refl
set_back (z ∷ zs) zero x is = ap (λ (y : ℤ). y ∷ zs) is
set_back (z ∷ zs) (suc v) x is = ap (λ (ts : List ℤ). z ∷ ts) (set_back zs v x is)

pub restored : (a now : List ℤ) (v : ℕ) (x before : ℤ) → now ≡ set a v x → before ≡ get_or a v before → set now v before ≡ a
restored a now v x before is was = ap (λ (ts : List ℤ). set ts v before) is ∙ set_over a v x before ∙ set_back a v before was

pub first_tried : (c : Constraint) (box : List (List (ℤ × ℤ))) (v : ℕ) (rest : List ℕ) (a : List ℤ) (low : ℤ) (next : Option ℤ) → low ≡ negsuc 2147483647 → AreWithinLimits (set_at box v)
    → MatchOption next (IsNoneFrom (set_at box v) low) (λ y. IsNextFrom (set_at box v) low y) → AreTried c box v rest a next
first_tried c box v rest a low None is within found = record {
  member = tt;
  tried = λ y i past. let under = found y i in let floor = (within_limits (set_at box v) y within i).0 in absurd (omega (arith, ints, is, under, floor));
}
first_tried c box v rest a low (Some x) is within found = record {
  member = found.0;
  tried = λ y i past. let floor = (within_limits (set_at box v) y within i).0 in let over = found.2 y i (omega (arith, ints, is, floor)) in absurd (omega (arith, ints, past, over));
}

pub next_tried : (c : Constraint) (box : List (List (ℤ × ℤ))) (v : ℕ) (rest : List ℕ) (a : List ℤ) (x : ℤ) (next : Option ℤ) → AreTried c box v rest a (Some x) → NeverFrom c box rest (set a v x)
    → MatchOption next (IsNoneAbove (set_at box v) x) (λ y. IsNextAbove (set_at box v) x y) → AreTried c box v rest a next
next_tried c box v rest a x None so_far here found = record {
  member = tt;
  tried = λ y i past. let most = found y i in
      by_lt_z y x (λ lt. so_far.tried y i lt) (λ le. subst (λ (z : ℤ). NeverFrom c box rest (set a v z)) (omega (arith, ints, most, le)) here);
}
next_tried c box v rest a x (Some z) so_far here found = record {
  member = found.0;
  tried = λ y i past.
      by_lt_z y x (λ lt. so_far.tried y i lt) (λ le. by_lt_z x y (λ above. let over = found.2 y i above in absurd (omega (arith, ints, past, over)))
      (λ most. subst (λ (w : ℤ). NeverFrom c box rest (set a v w)) (omega (arith, ints, most, le)) here));
}

pub fits_member : (box : List (List (ℤ × ℤ))) (v : ℕ) (next : Option ℤ) (x : ℤ) → AreWithinLimits (set_at box v) → IsMember (set_at box v) next → next ≡ Some x → SFits w32 x
fits_member box v next x within member is =
    let limits = within_limits (set_at box v) x within (subst (IsMember (set_at box v)) is member) in
    let low = limits.0 in let high = limits.1 in grind (arith, ints, low, high)
