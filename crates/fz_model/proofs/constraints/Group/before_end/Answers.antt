use Rattle.std.proofs.Common.{arith, ◌≡◌, ◌+◌, ◌-◌, ℕ, List, Some, ap, subst, refl, length, get_or}
use Rattle.std.specs.Prelude.{slice_get, pos}
use Rattle.std.proofs.lemmas.Option.{slice_get_read}
use Rattle.fz_spec.specs.declared.term.Term.{Term}
use Rattle.fz_spec.specs.declared.term.Term.TheVariants.{Num}
use Rattle.fz_spec.specs.Constraints.{Constraint}
use Rattle.fz_model.specs.Groups.{Group, items_in, within}
use Rattle.fz_model.proofs.Numbered.{at_element, at_in_written, in_group, read_at}
use Rattle.fz_model.proofs.constraints.Group.before_end.Goals as goal

pub returns-then-places-terms : goal.returns-then-places-terms
returns-then-places-terms c =
    let g : Group = record { written = c.self.inside.written.items; terms = c.self.inside.terms; set = c.self.inside.set.value; end = c.self.inside.end } in
    let ts = c.as_slice-terms.result.now in
    let j = length ts - c.args.places in
    let t = get_or ts j (Num (pos 0)) in
    let some = c.requires.some in
    let near = c.if-places-terms.true in
    let same = ap (λ (l : List Term). length l) c.as_slice-terms.ensures in
    let all = in_group g in
    let at = subst (λ (l : List Term). slice_get l j ≡ Some t) c.as_slice-terms.ensures (read_at ts j (Num (pos 0)) (omega (arith, some, near))) in
    subst (λ (h : Group). (i : ℕ) → i + c.args.places ≡ length (items_in h) → slice_get (items_in h) i ≡ Some (within c.self.inside.set.value t)) c.self.view_is
    (λ i is. at_element g i j t (omega (arith, is, near, same, all)) at)

pub returns-else-places-terms : goal.returns-else-places-terms
returns-else-places-terms c =
    let g : Group = record { written = c.self.inside.written.items; terms = c.self.inside.terms; set = c.self.inside.set.value; end = c.self.inside.end } in
    let ts = c.as_slice-terms.result.now in
    let ws = c.as_slice-written.result.now in
    let j = length ws - (c.args.places - length ts) in
    let x = c.index-written-written.result in
    let far = c.if-places-terms.false in
    let few = c.requires.few in
    let view = ap (λ (h : Group). length (items_in h)) c.self.view_is in
    let same = ap (λ (l : List Term). length l) c.as_slice-terms.ensures in
    let whole = ap (λ (l : List Constraint). length l) c.as_slice-written.ensures.value in
    let all = in_group g in
    let at = subst (λ (l : List Constraint). slice_get l j ≡ Some x) c.as_slice-written.ensures.value (slice_get_read ws (length ws) j x refl (omega (arith, far, few, view, same, whole, all)) c.index-written-written.is) in
    subst (λ (h : Group). (i : ℕ) → i + c.args.places ≡ length (items_in h) → slice_get (items_in h) i ≡ Some x) c.self.view_is
    (λ i is. at_in_written g i j x (omega (arith, is, far, same, whole, all)) (omega (arith, is, far, same, whole, all)) at)
