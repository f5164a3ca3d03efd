use Rattle.std.proofs.Common.{pos, List, get_or}
use Rattle.std.specs.Prelude.{ℤ}
use Rattle.std.specs.List.{AllByRecursion}
use Rattle.std.proofs.lemmas.Option.{slice_get-get_or}
use Rattle.fz_sets.proofs.Lists.{all_at}
use Rattle.fz_dom.specs.Changes.{IsFromTo}
use Rattle.fz_spec.specs.declared.term.Term.TheVariants.{Num}
use Rattle.fz_strength.specs.declared.bounds.Bounds.{Bounds}
use Rattle.fz_prop.specs.Answers.{IsCorrectOf}
use Rattle.fz_prop.proofs.Keeping.{change_correct, kept_changed, kept_same}
use Rattle.fz_prop.proofs.TermChanges.{falls_of, same_store}
use Rattle.fz_arith.specs.Narrowing.{LiesBetween}
use Rattle.fz_arith.proofs.sized.keep_all.Goals as goal
use Rattle.fz_arith.proofs.sized.keep_all.Goals.{in-Changed, in-Same}

pub loop-index-preserved : goal.loop-index-preserved
loop-index-preserved c =
    let d : Bounds = record { term = Num (pos 0); low = pos 0; high = pos 0 } in
    let b : Bounds = get_or c.args.bounds.now c.loop-index.index d in
    let at = slice_get-get_or c.args.bounds.now c.loop-index.index d c.loop-index-test.true in
    let T : List ℤ → Type 0 = λ a. AllByRecursion (LiesBetween a) c.args.bounds.now in
    let P : List ℤ → Type 0 = λ a. LiesBetween a b in
    let N : ℤ → Type 0 = λ x. IsFromTo b.low b.high x in
    let needs : (a : List ℤ) → T a → P a = λ a h. all_at (LiesBetween a) c.args.bounds.now c.loop-index.index b h at in
    let s = c.loop-index.store in
    let t = c.keep_between.new.store in
    let correct : IsCorrectOf P s.doms t.doms = change_correct c.keep_between.result b.term N P s t (λ a h. h) c.keep_between.ensures.err c.keep_between.ensures.change c.keep_between.ensures.shrinks in
    elim c.match-branch-2.branch [
      | in-Changed w ↦ rw w.has_changed-is
          (kept_changed T P c.args.store.now s t c.loop-index.has_changed c.loop-index.invariant needs c.keep_between.ensures.shrinks correct
          (falls_of b.term N s t (rw w.in-Changed.is at c.in_ok-keep_between.ensures.change)))
      | in-Same w ↦ rw w.has_changed-is
          (kept_same T P c.args.store.now s t c.loop-index.has_changed c.loop-index.invariant (same_store b.term N s t (rw w.in-Same.is at c.in_ok-keep_between.ensures.change)))
    ]
