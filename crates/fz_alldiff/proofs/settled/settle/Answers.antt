use Rattle.std.proofs.Common.{◌≡◌, ℤ, List, pos, get_or, length, arith, rules, true, false, sym, ◌∙◌}
use Rattle.std.proofs.lemmas.Option.{slice_get-get_or}
use Rattle.fz_spec.specs.declared.term.Term.TheVariants.{Num}
use Rattle.fz_sets.specs.Sets.{IsInSet}
use Rattle.fz_sets.proofs.Lists.{same_at}
use Rattle.fz_spec.specs.Constraints.{term_value}
use Rattle.fz_strength.specs.Domains.{Within, term_set}
use Rattle.fz_prop.proofs.Twice.{shrinks_twice}
use Rattle.fz_alldiff.specs.Differing.{IsDone, IsFixedPlace}
use Rattle.fz_alldiff.specs.Settled.{AreRising, IsFreeOf}
use Rattle.fz_alldiff.proofs.Settling.{settling_none, settling_passed, settling_more, settling_correct, settling_fails, settled_all, is_decided}
use Rattle.fz_alldiff.proofs.settled.settle.Goals.{else-not-index-via-then-not-index+in_ok-keep_free+else-not-branch, else-not-index-via-else-not-index}
use Rattle.fz_alldiff.proofs.settled.settle.Goals as goal

pub returns-in_err-keep_free-clause-shrinks : goal.returns-in_err-keep_free-clause-shrinks
returns-in_err-keep_free-clause-shrinks c = shrinks_twice c.args.store.now c.loop-place.store c.keep_free.new.store c.loop-place.invariant.shrinks c.keep_free.ensures.shrinks

pub returns-then-not-branch-clause-shrinks : goal.returns-then-not-branch-clause-shrinks
returns-then-not-branch-clause-shrinks c = shrinks_twice c.args.store.now c.loop-place.store c.keep_free.new.store c.loop-place.invariant.shrinks c.keep_free.ensures.shrinks

pub returns-in_err-keep_free-clause-correct : goal.returns-in_err-keep_free-clause-correct
returns-in_err-keep_free-clause-correct c =
    let xs = c.args.terms.now in
    let es = c.in_ok-entries.entries.items in
    let done = c.in_ok-done.done.items in
    let k = c.loop-place.place in
    let y = get_or xs k (Num (pos 0)) in
    let at = slice_get-get_or xs k (Num (pos 0)) c.loop-place-test.true in
    let undone : IsDone done k → ⊥ = search rules in
    let open_ : IsFixedPlace xs c.args.store.now.doms k → ⊥ = λ f. undone ((c.in_ok-done.ensures.fixed k).1 f) in
    let kept : (a : List ℤ) → Within c.loop-place.store.doms a → IsFreeOf es (term_value a y) → Within c.keep_free.new.store.doms a = rw c.deref-then-not-index.ensures.value at c.keep_free.ensures.within in
    settling_correct xs es done c.args.store.now c.loop-place.store c.keep_free.new.store k y c.requires c.in_ok-entries.ensures open_ at kept c.loop-place.invariant

pub returns-then-not-branch-clause-correct : goal.returns-then-not-branch-clause-correct
returns-then-not-branch-clause-correct c =
    let xs = c.args.terms.now in
    let es = c.in_ok-entries.entries.items in
    let done = c.in_ok-done.done.items in
    let k = c.loop-place.place in
    let y = get_or xs k (Num (pos 0)) in
    let at = slice_get-get_or xs k (Num (pos 0)) c.loop-place-test.true in
    let undone : IsDone done k → ⊥ = search rules in
    let open_ : IsFixedPlace xs c.args.store.now.doms k → ⊥ = λ f. undone ((c.in_ok-done.ensures.fixed k).1 f) in
    let kept : (a : List ℤ) → Within c.loop-place.store.doms a → IsFreeOf es (term_value a y) → Within c.keep_free.new.store.doms a = rw c.deref-then-not-index.ensures.value at c.keep_free.ensures.within in
    settling_correct xs es done c.args.store.now c.loop-place.store c.keep_free.new.store k y c.requires c.in_ok-entries.ensures open_ at kept c.loop-place.invariant

pub returns-then-not-branch-clause-failed : goal.returns-then-not-branch-clause-failed
returns-then-not-branch-clause-failed c = λ none.
    let xs = c.args.terms.now in
    let es = c.in_ok-entries.entries.items in
    let done = c.in_ok-done.done.items in
    let k = c.loop-place.place in
    let y = get_or xs k (Num (pos 0)) in
    let at = slice_get-get_or xs k (Num (pos 0)) c.loop-place-test.true in
    let undone : IsDone done k → ⊥ = search rules in
    let open_ : IsFixedPlace xs c.args.store.now.doms k → ⊥ = λ f. undone ((c.in_ok-done.ensures.fixed k).1 f) in
    let fails : (a : List ℤ) → Within c.loop-place.store.doms a → IsFreeOf es (term_value a y) → ⊥ = rw c.deref-then-not-index.ensures.value at (c.in_ok-keep_free.ensures.failed (search rules)) in
    settling_fails xs es done c.args.store.now c.loop-place.store k y c.requires c.in_ok-entries.ensures open_ at fails c.loop-place.invariant

pub loop-place-preserved : goal.loop-place-preserved
loop-place-preserved c =
    let xs = c.args.terms.now in
    let es = c.in_ok-entries.entries.items in
    let done = c.in_ok-done.done.items in
    let k = c.loop-place.place in
    let y = get_or xs k (Num (pos 0)) in
    let at = slice_get-get_or xs k (Num (pos 0)) c.loop-place-test.true in
    elim c.else-not-index.branch [
      | else-not-index-via-then-not-index+in_ok-keep_free+else-not-branch w ↦ (
          let undone : IsDone done k → ⊥ = search rules in
          let open_ : IsFixedPlace xs c.args.store.now.doms k → ⊥ = λ f. undone ((c.in_ok-done.ensures.fixed k).1 f) in
          let kept : (a : List ℤ) → Within c.loop-place.store.doms a → IsFreeOf es (term_value a y) → Within w.keep_free.new.store.doms a = rw w.deref-then-not-index.ensures.value at w.keep_free.ensures.within in
          let free : (n : ℤ) → IsInSet (term_set w.keep_free.new.store.doms y) n → IsFreeOf es n = rw w.deref-then-not-index.ensures.value at (w.in_ok-keep_free.ensures.outside (search rules)) in
          rw w.store-is (settling_more xs es done c.args.store.now c.loop-place.store w.keep_free.new.store k y c.requires c.in_ok-entries.ensures open_ at (rw w.store-is at c.doms-in-loop-place.ensures.store.domains) w.keep_free.ensures.shrinks kept free c.loop-place.invariant))
      | else-not-index-via-else-not-index w ↦ (
          let size : length done ≡ length xs = c.in_ok-done.ensures.size in
          let test = c.loop-place-test.true in
          let first : c.index.result.now ≡ get_or done k false = c.index.ensures ∙ same_at done k c.index.result.now false (omega (arith, size, test)) in
          let yes : c.index.result.now ≡ true = search rules in
          let is_done : IsDone done k = sym first ∙ yes in
          rw w.store-is (settling_passed xs es done c.args.store.now c.loop-place.store k is_done c.loop-place.invariant))
    ]

pub returns-clause-cleared : goal.returns-clause-cleared
returns-clause-cleared c =
    let xs = c.args.terms.now in
    let es = c.in_ok-entries.entries.items in
    let done = c.in_ok-done.done.items in
    let rising : AreRising es = search rules in
    settled_all xs es done c.args.store.now c.loop-place.store c.loop-place.place c.requires (let test = c.loop-place-test.false in omega (arith, test)) rising c.in_ok-entries.ensures (λ i is. (c.in_ok-done.ensures.fixed i).0 is) (is_decided done) c.loop-place.invariant

pub loop-place-init : goal.loop-place-init
loop-place-init c = settling_none c.args.terms.now c.in_ok-entries.entries.items c.in_ok-done.done.items c.args.store.now c.doms.ensures.store.domains
