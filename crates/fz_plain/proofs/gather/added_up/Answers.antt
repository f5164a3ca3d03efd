use Rattle.std.proofs.Common.{◌≡◌, ◌+◌, ◌+ℤ◌, pos, drop, get_or, arith, rules, to_z, of_z, w32, []}
use Rattle.std.proofs.lemmas.List.{drop_more}
use Rattle.fz_plain.specs.Entries.{IsAdding}
use Rattle.fz_plain.proofs.Merging.{adding_joins, adding_pushes, adding_ends, drop_past}
use Rattle.fz_plain.proofs.gather.added_up.Goals.{then-next-last+in-Some-checked_add, else-next-last+in_ok-push}
use Rattle.fz_plain.proofs.gather.added_up.Goals as goal

pub loop-next-preserved : goal.loop-next-preserved
loop-next-preserved c =
    let xs = c.in-Some.others.now in
    let i = c.loop-next.next-index in
    let next = get_or xs i (0, pos 0) in
    let last = c.loop-next.last in
    let ks = c.loop-next.sum.factors.items in
    let ts = c.loop-next.sum.terms.items in
    let es = c.args.entries.now in
    let here : IsAdding ks ts last (drop i xs) es = c.loop-next.invariant in
    let is = rw (drop_more xs i (0, pos 0) c.loop-next-test.true) at here in
    elim c.if-next-last.branch [
      | then-next-last+in-Some-checked_add w ↦ (
          let one : next.0 ≡ last.0 = search rules in
          let sum : w.in-Some-checked_add.factor ≡ (last.1 +ℤ next.1) = search rules in
          let read : to_z w32 (of_z w32 (last.1 +ℤ next.1)) ≡ (last.1 +ℤ next.1) = search rules in
          rw (w.sum-is, w.last-is, sum, read) (adding_joins ks ts last next (drop (i + 1) xs) es one is))
      | else-next-last+in_ok-push w ↦ (
          let apart : next.0 ≡ last.0 → ⊥ = search rules in
          let read : to_z w32 (of_z w32 last.1) ≡ last.1 = search rules in
          rw (w.sum-is, w.last-is, w.in_ok-push.ensures.factors, w.in_ok-push.ensures.terms, read) (adding_pushes ks ts last next (drop (i + 1) xs) es apart is))
    ]

pub returns : goal.returns
returns c =
    let xs = c.in-Some.others.now in
    let none : drop c.loop-next.next-index xs ≡ [] = drop_past c.loop-next.next-index xs (omega arith) in
    let here : IsAdding c.loop-next.sum.factors.items c.loop-next.sum.terms.items c.loop-next.last (drop c.loop-next.next-index xs) c.args.entries.now = c.loop-next.invariant in
    let read : to_z w32 (of_z w32 c.loop-next.last.1) ≡ c.loop-next.last.1 = search rules in
    rw (c.in_ok-push-2.ensures.factors, c.in_ok-push-2.ensures.terms, read) (adding_ends c.loop-next.sum.factors.items c.loop-next.sum.terms.items c.loop-next.last c.args.entries.now (rw none at here))
