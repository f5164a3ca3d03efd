use Rattle.std.proofs.Common.{arith, rules, ◌≡◌, ◌<◌, ◌-◌, ◌∙◌, List, [], Some, ap, subst, refl, length}
use Rattle.std.specs.Prelude.{slice_get, flat_map, ◌++◌}
use Rattle.std.proofs.lemmas.Option.{slice_get_read}
use Rattle.fz_spec.specs.Constraints.{Constraint}
use Rattle.fz_model.specs.Groups.{Group, AreEnds, constraint_at, items_in}
use Rattle.fz_model.proofs.Numbered.{counted_behind, at_written, in_place}
use Rattle.fz_model.proofs.constraints.Constraints.at.Goals as goal

pub bounds-written-number : goal.bounds-written-number
bounds-written-number c =
    let all = c.self.inside.grouped in
    let count = counted_behind all c.self.inside.groups.items c.self.inside.written.items c.self.invariant.ends in
    let size = ap (λ (l : List Constraint). length l) c.self.view_is in
    let same = ap (λ (l : List Constraint). length l) c.as_slice-written.ensures.value in
    let inside = c.requires in
    let past = c.if-number-self.true in
    omega (arith, count, size, same, inside, past)

pub offset_bounds-written-number : goal.offset_bounds-written-number
offset_bounds-written-number c =
    let all = c.self.inside.grouped in
    let count = counted_behind all c.self.inside.groups.items c.self.inside.written.items c.self.invariant.ends in
    let size = ap (λ (l : List Constraint). length l) c.self.view_is in
    let same = ap (λ (l : List Constraint). length l) c.as_slice-written.ensures.value in
    let inside = c.requires in
    let past = c.if-number-self.true in
    let within : c.args.number - all < length c.as_slice-written.result.now = omega (arith, count, size, same, inside, past) in
    search rules

pub before_end-requires-clause-few : goal.before_end-requires-clause-few
before_end-requires-clause-few c =
    let gs = c.as_slice-groups.result.now in
    let ends : AreEnds 0 gs c.self.inside.grouped = rw c.as_slice-groups.ensures.value c.self.invariant.ends in
    let found = in_place c.self.inside.grouped c.args.number c.place_of.result gs c.index-groups-place_of.result [] ends c.place_of.ensures c.index-groups-place_of.is in
    let is = found.is in
    let end = c.end.ensures in
    omega (arith, is, end)

pub returns-then-number-self : goal.returns-then-number-self
returns-then-number-self c =
    let all = c.self.inside.grouped in
    let count = counted_behind all c.self.inside.groups.items c.self.inside.written.items c.self.invariant.ends in
    let size = ap (λ (l : List Constraint). length l) c.self.view_is in
    let same = ap (λ (l : List Constraint). length l) c.as_slice-written.ensures.value in
    let inside = c.requires in
    let past = c.if-number-self.true in
    let k = c.args.number - all in
    let at = slice_get_read c.as_slice-written.result.now (length c.as_slice-written.result.now) k c.index-written-number.result refl (omega (arith, count, size, same, inside, past)) c.index-written-number.is in
    subst (λ (l : List Constraint). slice_get l c.args.number ≡ Some c.index-written-number.result) c.self.view_is
    (at_written all c.args.number c.self.inside.groups.items c.self.inside.written.items c.index-written-number.result c.self.invariant.ends past
    (subst (λ (l : List Constraint). slice_get l k ≡ Some c.index-written-number.result) c.as_slice-written.ensures.value at))

pub place_of-requires-clause-ends : goal.place_of-requires-clause-ends
place_of-requires-clause-ends c = rw c.as_slice-groups.ensures.value c.self.invariant.ends

pub returns : goal.returns
returns c =
    let gs = c.as_slice-groups.result.now in
    let ends : AreEnds 0 gs c.self.inside.grouped = rw c.as_slice-groups.ensures.value c.self.invariant.ends in
    let cs = c.self.inside.written.items in
    let found = in_place c.self.inside.grouped c.args.number c.place_of.result gs c.index-groups-place_of.result cs ends c.place_of.ensures c.index-groups-place_of.is in
    let at = subst (λ (l : List Group). slice_get (flat_map items_in l ++ cs) c.args.number ≡ slice_get (items_in c.index-groups-place_of.result) found.place) c.as_slice-groups.ensures.value found.at in
    subst (λ (l : List Constraint). slice_get l c.args.number ≡ Some (constraint_at c.before_end.result)) c.self.view_is
    (at ∙ c.before_end.ensures found.place (rw c.end.ensures found.is))
