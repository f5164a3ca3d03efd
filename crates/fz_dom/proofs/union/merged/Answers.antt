use Rattle.std.proofs.Common.{◌≡◌, ◌+◌, ◌≤ℤ◌, ◌<ℤ◌, ◌+ℤ◌, pos, drop, get_or, arith, rules, w32, to_z, of_z}
use Rattle.std.specs.Int.{int_max}
use Rattle.std.proofs.lemmas.Int.{ints}
use Rattle.std.proofs.lemmas.List.{drop_more}
use Rattle.fz_dom.proofs.Merging.{IsMerging-start, IsMerging-join, IsMerging-push}
use Rattle.fz_dom.proofs.union.merged.Goals as goal
use Rattle.fz_dom.proofs.union.merged.Goals.{then-next-last, else-next-last+in_ok-push}

pub loop-next-init : goal.loop-next-init
loop-next-init c =
    let s = c.in-Some.ensures.variant in
    rw c.new-done.ensures.items (IsMerging-start c.in-Some.first.now c.in-Some.others.now c.args.ordered.now (search rules) c.requires.proper c.requires.order)

pub loop-next-preserved : goal.loop-next-preserved
loop-next-preserved c =
    let xs = c.in-Some.others.now in
    let i = c.loop-next.next-index in
    let r = get_or xs i (pos 0, pos 0) in
    let last = c.loop-next.last in
    let e = drop_more xs i (pos 0, pos 0) c.loop-next-test.true in
    let m = rw e at c.loop-next.invariant in
    elim c.if-next-last.branch [
      | then-next-last w ↦ (
          let x : to_z w32 (of_z w32 w.max.result) ≡ int_max last.1 r.1 = search rules in
          let t = w.if-next-last.true in
          let touch : r.0 ≤ℤ (last.1 +ℤ pos 1) = omega (arith, ints) in
          rw (w.done-is, w.last-is, x) (IsMerging-join c.loop-next.done.items last r (drop (i + 1) xs) c.args.ordered.now m touch))
      | else-next-last+in_ok-push w ↦ (
          let t = w.if-next-last.false in
          let apart : (last.1 +ℤ pos 1) <ℤ r.0 = omega (arith, ints) in
          rw (w.done-is, w.last-is, w.in_ok-push.ensures.items) (IsMerging-push c.loop-next.done.items last r (drop (i + 1) xs) c.args.ordered.now m apart))
    ]
