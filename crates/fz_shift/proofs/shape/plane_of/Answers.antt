use Rattle.std.proofs.Common.{List, [], ◌∷◌, get_or, rules, subst, sym, w32}
use Rattle.std.specs.Prelude.{ℤ, pos}
use Rattle.std.proofs.Math.Facts.{to_z-of_z}
use mir.Val.{SFits}
use Rattle.fz_spec.specs.declared.term.Term.{Term}
use Rattle.fz_spec.specs.declared.term.Term.TheVariants.{Num}
use Rattle.fz_shift.specs.Planes.{IsPlaneIn}
use Rattle.fz_shift.proofs.Shapes.{some_more, three_of}
use Rattle.fz_shift.proofs.shape.plane_of.Goals as goal

pub returns : goal.returns
returns c =
    let n = c.args.number in
    let ks = c.args.factors.now in
    let ts = c.args.terms.now in
    let k : ℤ = pos 0 in
    let t : Term = Num (pos 0) in
    let fits_0 : SFits w32 (get_or ks 0 k) = search rules in
    let fits_1 : SFits w32 (get_or ks 1 k) = search rules in
    let fits_2 : SFits w32 (get_or ks 2 k) = search rules in
    let factors : List ℤ = get_or ks 0 k ∷ get_or ks 1 k ∷ get_or ks 2 k ∷ [] in
    some_more c.plane_of_three.result (λ p is.
    subst (λ (ls : List ℤ). IsPlaneIn p ls ts n) (sym (three_of ks k k k c.if-factors-ne3.false))
    (subst (λ (us : List Term). IsPlaneIn p factors us n) (sym (three_of ts t t t c.if-terms-ne3.false)) is))
    (rw (to_z-of_z fits_0, to_z-of_z fits_1, to_z-of_z fits_2, to_z-of_z c.ranges.number) at c.plane_of_three.ensures)
