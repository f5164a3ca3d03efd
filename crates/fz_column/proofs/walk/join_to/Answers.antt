use Rattle.std.proofs.Common.{◌≡◌, ◌<◌, ◌<ℤ◌, ◌≤ℤ◌, ◌+◌, ℕ, ◌∙◌, sym, subst, pos, rules, get_or, arith, length}
use Rattle.std.proofs.Math.Facts.{to_z-of_z}
use Rattle.std.proofs.lemmas.Option.{slice_get-get_or}
use Rattle.fz_column.specs.declared.supports.Support.{Support}
use Rattle.fz_column.proofs.Walking.{AreUpTo, up_to_more, one_more, end_at, end_last, joined_next}
use Rattle.fz_column.proofs.walk.join_to.Goals as goal

pub returns-then-supports-end-clause-end : goal.returns-then-supports-end-clause-end
returns-then-supports-end-clause-end c =
    let xs = c.args.supports.now in
    let k = c.loop-end.end in
    let none : Support = record { number = pos 0; rows = record { word = 0; bits = 0 } } in
    let s = get_or xs k none in
    let at = slice_get-get_or xs k none c.loop-end-test.true in
    let here : c.args.high <ℤ s.number = search rules in
    end_at xs c.args.place c.args.high k s c.requires.order at here (rw (to_z-of_z c.ranges.high) at c.loop-end.invariant.up_to)

pub join-requires : goal.join-requires
join-requires c =
    let xs = c.args.supports.now in
    let k = c.loop-end.end in
    let none : Support = record { number = pos 0; rows = record { word = 0; bits = 0 } } in
    let s = get_or xs k none in
    let at = slice_get-get_or xs k none c.loop-end-test.true in
    subst (λ (size : ℕ). s.rows.word < size) (sym c.loop-end.invariant.size) (c.requires.sized s (k, at))

pub loop-end-preserved : goal.loop-end-preserved
loop-end-preserved c =
    let xs = c.args.supports.now in
    let k = c.loop-end.end in
    let none : Support = record { number = pos 0; rows = record { word = 0; bits = 0 } } in
    let s = get_or xs k none in
    let test = c.loop-end-test.true in
    let at = slice_get-get_or xs k none test in
    let low : s.number ≤ℤ c.args.high = search rules in
    let up_to = rw (to_z-of_z c.ranges.high) at c.loop-end.invariant.up_to in
    record {
      up_to = rw (to_z-of_z c.ranges.high) (up_to_more xs c.args.place c.args.high k (k + 1) s at low (omega arith) (omega (arith, test)) (one_more xs k s at) up_to);
      joined = joined_next xs c.args.place c.args.rows.now c.loop-end.rows c.join.new.rows k s up_to.from at c.join.ensures.members c.loop-end.invariant.joined;
      size = c.join.ensures.size ∙ c.loop-end.invariant.size;
    }

pub returns-clause-end : goal.returns-clause-end
returns-clause-end c =
    let xs = c.args.supports.now in
    let up_to = rw (to_z-of_z c.ranges.high) at c.loop-end.invariant.up_to in
    let test = c.loop-end-test.false in
    let to = up_to.to in
    let end : c.loop-end.end ≡ length xs = omega (arith, test, to) in
    end_last xs c.args.place c.args.high (length xs) (omega arith) (subst (λ (e : ℕ). AreUpTo xs c.args.place c.args.high e) end up_to)
