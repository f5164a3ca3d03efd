use Rattle.std.proofs.Common.{◌≡◌, ◌<◌, ℕ, length, List, rules, sym, subst, ◌∙◌, ap, get_or, pos, refl, of_z, to_z, set, take, drop, ◌-◌}
use Rattle.std.specs.Prelude.{ℤ, MatchOption, Option, Some}
use Rattle.std.proofs.Math.Facts.{to_z-of_z}
use mir.Val.{SFits}
use mir.Syntax.{w32}
use Rattle.fz_sets.specs.Sets.{AreWithinLimits, single}
use Rattle.fz_sets.proofs.Lists.{same_at}
use Rattle.fz_dom.specs.Shape.{IsNoneFrom, IsNextFrom, IsNoneAbove, IsNextAbove}
use Rattle.fz_refutes.specs.Boxes.{set_at}
use Rattle.fz_refutes.specs.Smalls.{NeverFrom}
use Rattle.fz_cert.proofs.Trying.{AreTried, first_tried, next_tried, restored, fits_member}
use Rattle.fz_cert.proofs.small.+none_holds.Goals as goal

read_is : (sets box : List (List (ℤ × ℤ))) (v : ℕ) (d : List (ℤ × ℤ)) → sets ≡ box → v < length box → d ≡ get_or sets v d → d ≡ set_at box v
read_is sets box v d are within is = is ∙ ap (λ (ds : List (List (ℤ × ℤ))). get_or ds v d) are ∙ same_at box v d (single (pos 0)) within

pub numbers-init : goal.numbers-init
numbers-init t c =
    let v = get_or c.args.variables.now 0 0 in
    let d = read_is c.sets.result.now c.args.area.now v c.index-sets-place.result c.sets.ensures.sets (search rules) c.index-sets-place.is in
    record {
      same = refl;
      tried = first_tried _ _ v _ _ _ _ refl
          (subst AreWithinLimits d c.next_from-next.ensures.domain.1)
          (subst (λ (s : List (ℤ × ℤ)). MatchOption c.next_from-next.result (IsNoneFrom s _) (λ y. IsNextFrom s _ y)) d c.next_from-next.ensures.next);
    }

pub returns-then-not-never-clause-same : goal.returns-then-not-never-clause-same
returns-then-not-never-clause-same t c =
    let v = get_or c.args.variables.now 0 0 in
    let x = to_z w32 (of_z w32 c.in-Some.value) in
    let fits : SFits w32 c.index-before.result.now = search rules in
    rw (to_z-of_z fits) (restored c.args.values.now.items c.none_holds-never.new.values.items v x c.index-before.result.now
    (c.none_holds-never.ensures.same ∙ ap (λ (ts : List ℤ). set ts v x) c.numbers.invariant.same) c.index-before.ensures)

pub numbers-preserved : goal.numbers-preserved
numbers-preserved t c =
    let v = get_or c.args.variables.now 0 0 in
    let rest = take (length c.args.variables.now - 1) (drop 1 c.args.variables.now) in
    let a = c.args.values.now.items in
    let box = c.args.area.now in
    let x = to_z w32 (of_z w32 c.in-Some.value) in
    let before_fits : SFits w32 c.index-before.result.now = search rules in
    let d = read_is c.sets-in-Some.result.now box v c.index-sets-place-in-Some.result c.sets-in-Some.ensures.sets (search rules) c.index-sets-place-in-Some.is in
    let within = subst AreWithinLimits d c.next_above-next.ensures.domain.1 in
    let fits : SFits w32 c.in-Some.value = fits_member box v c.numbers.next c.in-Some.value within c.numbers.invariant.tried.member c.in-Some.is in
    let value_is : x ≡ c.in-Some.value = to_z-of_z fits in
    let so_far : AreTried c.args.constraint.now box v rest a (Some x) =
    subst (λ (o : Option ℤ). AreTried c.args.constraint.now box v rest a o) (c.in-Some.is ∙ ap (λ (z : ℤ). Some z) (sym value_is)) c.numbers.invariant.tried in
    let never : NeverFrom c.args.constraint.now box rest (set c.numbers.values.items v x) = c.if-not-never.ensures.never.0 refl in
    record {
      same = rw (to_z-of_z before_fits) (restored a c.none_holds-never.new.values.items v x c.index-before.result.now
          (c.none_holds-never.ensures.same ∙ ap (λ (ts : List ℤ). set ts v x) c.numbers.invariant.same) c.index-before.ensures);
      tried = next_tried c.args.constraint.now box v rest a x c.next_above-next.result so_far
          (subst (λ (ts : List ℤ). NeverFrom c.args.constraint.now box rest (set ts v x)) c.numbers.invariant.same never)
          (subst (λ (s : List (ℤ × ℤ)). MatchOption c.next_above-next.result (IsNoneAbove s x) (λ y. IsNextAbove s x y)) d c.next_above-next.ensures.next);
    }
