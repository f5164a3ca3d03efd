use Rattle.std.proofs.Common.{◌∙◌, ◌<◌, ◌≤◌, ◌-◌, ℕ, refl, sym, subst, pos, rules, get_or, arith, length}
use Rattle.std.proofs.Math.Facts.{to_z-of_z}
use Rattle.std.proofs.lemmas.Option.{slice_get-get_or}
use mir.Val.{SFits}
use mir.Syntax.{w32}
use Rattle.fz_column.specs.declared.supports.Support.{Support}
use Rattle.fz_column.specs.declared.packed.Packed.{Packed}
use Rattle.fz_column.specs.Supports.{AreSized}
use Rattle.fz_column.proofs.Packing.{packed_none, packed_more, packed_all, whole_none, end_further}
use Rattle.fz_column.proofs.packed.Packed.fill.Goals as goal

pub loop-place-init : goal.loop-place-init
loop-place-init c = record {
  whole = whole_none c.args.self.now c.requires.none;
  width = refl;
  size = c.requires.rows;
  rows = packed_none c.args.supports.now c.args.self.now c.requires.none;
}

pub join_to-place-requires-clause-order : goal.join_to-place-requires-clause-order
join_to-place-requires-clause-order c = c.requires.order

pub join_to-place-requires-clause-sized : goal.join_to-place-requires-clause-sized
join_to-place-requires-clause-sized c =
    subst (λ (size : ℕ). AreSized c.args.supports.now size) (sym (c.clear.ensures.size ∙ c.loop-place.invariant.size)) c.requires.sized

pub push-requires-clause-whole : goal.push-requires-clause-whole
push-requires-clause-whole c = c.loop-place.invariant.whole

pub push-requires-clause-rows : goal.push-requires-clause-rows
push-requires-clause-rows c = c.join_to-place.ensures.size ∙ c.clear.ensures.size ∙ c.loop-place.invariant.size ∙ sym c.loop-place.invariant.width

pub loop-place-preserved : goal.loop-place-preserved
loop-place-preserved c =
    let xs = c.args.supports.now in
    let k = c.loop-place.place in
    let none : Support = record { number = pos 0; rows = record { word = 0; bits = 0 } } in
    let s = get_or xs k none in
    let fits : SFits w32 s.number = search rules in
    record {
      whole = c.in_ok-push.ensures.whole;
      width = c.in_ok-push.ensures.width ∙ c.loop-place.invariant.width;
      size = c.join_to-place.ensures.size ∙ c.clear.ensures.size ∙ c.loop-place.invariant.size;
      rows = packed_more xs c.loop-place.self c.push.new.self k c.join_to-place.result s c.clear.new.rows c.join_to-place.new.rows c.requires.order
          (slice_get-get_or xs k none c.loop-place-test.true) (rw (to_z-of_z fits) at c.join_to-place.ensures.end) c.clear.ensures.none c.join_to-place.ensures.rows
          (rw (to_z-of_z fits) at c.in_ok-push.ensures.rows) c.loop-place.invariant.rows;
    }

pub loop-place-smaller : goal.loop-place-smaller
loop-place-smaller c =
    let xs = c.args.supports.now in
    let k = c.loop-place.place in
    let none : Support = record { number = pos 0; rows = record { word = 0; bits = 0 } } in
    let s = get_or xs k none in
    let fits : SFits w32 s.number = search rules in
    let test = c.loop-place-test.true in
    let further = end_further xs k c.join_to-place.result s (slice_get-get_or xs k none test) (rw (to_z-of_z fits) at c.join_to-place.ensures.end) in
    let smaller : length xs - c.join_to-place.result < length xs - k = omega (arith, test, further) in
    smaller

pub returns : goal.returns
returns c = λ t.
    let old : Packed = c.loop-place.self in
    let last : Packed = record { numbers = c.shrink_to_fit.new.self; words = c.shrink_to_fit-2.new.self; width = old.width } in
    let past = c.loop-place-test.false in
    packed_all c.args.supports.now old last c.loop-place.place (omega (arith, past)) c.shrink_to_fit.ensures.items c.shrink_to_fit-2.ensures.items refl c.loop-place.invariant.whole
    (λ size are. subst (λ (w : ℕ). w ≤ size) (sym c.loop-place.invariant.width) (c.requires.least size are)) c.loop-place.invariant.rows
