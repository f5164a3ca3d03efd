use Rattle.std.proofs.Common.{◌≡◌, ◌<◌, ◌≤◌, ◌∙◌, refl, sym, length, arith, get_or, pos}
use Rattle.std.specs.Prelude.{slice_get, Some}
use Rattle.std.proofs.lemmas.Option.{slice_get-get_or}
use Rattle.fz_spec.specs.declared.term.Term.TheVariants.{Num}
use Rattle.fz_table.proofs.LeftRows.{IsFixedBelow, IsFixedOrBelow, left_each, left_sized, fixed_more, fixed_passed, open_none, open_more, open_passed, left_all, column_at}
use Rattle.fz_table.proofs.rows.find_left.Goals.{then-is_fixed, else-is_fixed, then-not-is_fixed, else-not-is_fixed}
use Rattle.fz_table.proofs.rows.find_left.Goals as goal

pub keep_left-requires-clause-sized : goal.keep_left-requires-clause-sized
keep_left-requires-clause-sized c =
    let xs = c.args.terms.now in
    let table = c.args.table.now in
    let ds = c.args.store.now.doms in
    let k = c.loop-place.place in
    let size = c.requires.columns.size in
    let test = c.loop-place-test.true in
    let inside : k < length xs = omega (arith, size, test) in
    let column = c.index-columns-place.result in
    let own = column_at table (length xs) k c.args.columns.now column inside c.requires.columns c.index-columns-place.is in
    left_sized xs table ds c.loop-place.left (IsFixedBelow ds k) k column own c.loop-place.invariant.0

pub keep_left-requires-clause-each : goal.keep_left-requires-clause-each
keep_left-requires-clause-each c =
    let xs = c.args.terms.now in
    let table = c.args.table.now in
    let ds = c.args.store.now.doms in
    let k = c.loop-place.place in
    let size = c.requires.columns.size in
    let test = c.loop-place-test.true in
    let inside : k < length xs = omega (arith, size, test) in
    let column = c.index-columns-place.result in
    let own = column_at table (length xs) k c.args.columns.now column inside c.requires.columns c.index-columns-place.is in
    left_each xs table ds c.loop-place.left (IsFixedBelow ds k) k column inside own c.loop-place.invariant.0

pub loop-place-preserved : goal.loop-place-preserved
loop-place-preserved c =
    let xs = c.args.terms.now in
    let table = c.args.table.now in
    let ds = c.args.store.now.doms in
    let k = c.loop-place.place in
    let size = c.requires.columns.size in
    let test = c.loop-place-test.true in
    let inside : k < length xs = omega (arith, size, test) in
    let column = c.index-columns-place.result in
    let own = column_at table (length xs) k c.args.columns.now column inside c.requires.columns c.index-columns-place.is in
    let t = get_or xs k (Num (pos 0)) in
    let at : slice_get xs k ≡ Some t = slice_get-get_or xs k (Num (pos 0)) inside in
    elim c.if-is_fixed.branch [
      | then-is_fixed w ↦
          let kept = w.keep_left in
          rw (w.left-is, w.found-is) (
            fixed_more xs table ds c.loop-place.left kept.new.rows k t column at (w.if-is_fixed.ensures.0 refl) own kept.ensures.rows kept.ensures.size c.loop-place.invariant.0,
            kept.ensures.found ∙ c.loop-place.invariant.1 ∙ sym kept.ensures.size,
          )
      | else-is_fixed w ↦ rw (w.left-is, w.found-is) (fixed_passed xs table ds c.loop-place.left k t at (λ fixed. cc (w.if-is_fixed.ensures.1 fixed)) c.loop-place.invariant.0, c.loop-place.invariant.1)
    ]

pub loop-place-2-init : goal.loop-place-2-init
loop-place-2-init c =
    let xs = c.args.terms.now in
    let k = c.loop-place.place in
    let size = c.requires.columns.size in
    let past = c.loop-place-test.false in
    let end : length xs ≤ k = omega (arith, size, past) in
    (open_none xs c.args.table.now c.args.store.now.doms c.loop-place.left k end c.loop-place.invariant.0, c.loop-place.invariant.1)

pub keep_left-requires-then-not-is_fixed-clause-sized : goal.keep_left-requires-then-not-is_fixed-clause-sized
keep_left-requires-then-not-is_fixed-clause-sized c =
    let xs = c.args.terms.now in
    let table = c.args.table.now in
    let ds = c.args.store.now.doms in
    let k = c.loop-place-2.place in
    let size = c.requires.columns.size in
    let test = c.loop-place-2-test.true in
    let inside : k < length xs = omega (arith, size, test) in
    let column = c.index-columns-place-in-loop-place-2.result in
    let own = column_at table (length xs) k c.args.columns.now column inside c.requires.columns c.index-columns-place-in-loop-place-2.is in
    left_sized xs table ds c.loop-place-2.left (IsFixedOrBelow ds k) k column own c.loop-place-2.invariant.0

pub keep_left-requires-then-not-is_fixed-clause-each : goal.keep_left-requires-then-not-is_fixed-clause-each
keep_left-requires-then-not-is_fixed-clause-each c =
    let xs = c.args.terms.now in
    let table = c.args.table.now in
    let ds = c.args.store.now.doms in
    let k = c.loop-place-2.place in
    let size = c.requires.columns.size in
    let test = c.loop-place-2-test.true in
    let inside : k < length xs = omega (arith, size, test) in
    let column = c.index-columns-place-in-loop-place-2.result in
    let own = column_at table (length xs) k c.args.columns.now column inside c.requires.columns c.index-columns-place-in-loop-place-2.is in
    left_each xs table ds c.loop-place-2.left (IsFixedOrBelow ds k) k column inside own c.loop-place-2.invariant.0

pub loop-place-2-preserved : goal.loop-place-2-preserved
loop-place-2-preserved c =
    let xs = c.args.terms.now in
    let table = c.args.table.now in
    let ds = c.args.store.now.doms in
    let k = c.loop-place-2.place in
    let size = c.requires.columns.size in
    let test = c.loop-place-2-test.true in
    let inside : k < length xs = omega (arith, size, test) in
    let column = c.index-columns-place-in-loop-place-2.result in
    let own = column_at table (length xs) k c.args.columns.now column inside c.requires.columns c.index-columns-place-in-loop-place-2.is in
    let t = get_or xs k (Num (pos 0)) in
    let at : slice_get xs k ≡ Some t = slice_get-get_or xs k (Num (pos 0)) inside in
    elim c.if-not-is_fixed.branch [
      | then-not-is_fixed w ↦
          let kept = w.keep_left-then-not-is_fixed in
          rw (w.left-is, w.found-is) (
            open_more xs table ds c.loop-place-2.left kept.new.rows k t column at own kept.ensures.rows kept.ensures.size c.loop-place-2.invariant.0,
            kept.ensures.found ∙ c.loop-place-2.invariant.1 ∙ sym kept.ensures.size,
          )
      | else-not-is_fixed w ↦ rw (w.left-is, w.found-is) (open_passed xs table ds c.loop-place-2.left k t at (w.if-not-is_fixed.ensures.0 refl) c.loop-place-2.invariant.0, c.loop-place-2.invariant.1)
    ]

pub returns-clause-left : goal.returns-clause-left
returns-clause-left c =
    let xs = c.args.terms.now in
    let k = c.loop-place-2.place in
    let size = c.requires.columns.size in
    let past = c.loop-place-2-test.false in
    let end : length xs ≤ k = omega (arith, size, past) in
    left_all xs c.args.table.now c.args.store.now.doms c.loop-place-2.left k c.requires.some end c.loop-place-2.invariant.0
