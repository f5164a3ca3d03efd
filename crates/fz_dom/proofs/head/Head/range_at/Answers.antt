use Rattle.std.proofs.Common.{◌≡◌, ◌∙◌, ◌<◌, ◌+ℤ◌, ◌∷◌, ℕ, pos, length, drop, ap, sym, subst, arith}
use Rattle.std.proofs.lemmas.Int.{ints}
use Rattle.fz_dom.specs.Places.{bit_ranges}
use Rattle.fz_dom.specs.Heads.{head_set}
use Rattle.fz_dom.proofs.Runs.{run_first, word_left, next_run, run_at, above_of}
use Rattle.fz_dom.proofs.Changes.{word_form}
use Rattle.fz_dom.proofs.head.Head.range_at.Goals as goal

pub first_run-requires : goal.first_run-requires
first_run-requires c =
    let h = c.args.self.now in
    let some : 0 < h.bits = (let t = c.if-self-eq0.false in omega arith) in
    let e = ap length (word_form h c.requires.whole some) in
    word_left h.base c.loop-passed.word h.bits c.loop-passed.passed c.loop-passed.invariant (let i = c.requires.index in let t = c.loop-passed-test.true in omega arith)

pub loop-passed-preserved : goal.loop-passed-preserved
loop-passed-preserved c =
    let h = c.args.self.now in
    let r = c.first_run in
    let e = run_first h.base c.loop-passed.word c.bits_above-word.result r.result.0 r.result.1 r.ensures.first r.ensures.last r.ensures.run r.ensures.none_before r.ensures.none_after c.bits_above-word.ensures in
    next_run h.base c.loop-passed.word c.bits_above-word.result h.bits c.loop-passed.passed _ c.loop-passed.invariant e

pub first_run-first-requires : goal.first_run-first-requires
first_run-first-requires c =
    let h = c.args.self.now in
    let some : 0 < h.bits = (let t = c.if-self-eq0.false in omega arith) in
    let e = ap length (word_form h c.requires.whole some) in
    word_left h.base c.loop-passed.word h.bits c.loop-passed.passed c.loop-passed.invariant (let i = c.requires.index in let t = c.loop-passed.auto.passed-end in omega arith)

pub returns : goal.returns
returns c =
    let h = c.args.self.now in
    let some : 0 < h.bits = (let t = c.if-self-eq0.false in omega arith) in
    let r = c.first_run-first in
    let g = h.base in
    let w = c.requires.whole in
    let fl = w.floor in let ce = w.ceiling in let l = r.ensures.last in let o = r.ensures.first in
    let at : c.loop-passed.passed ≡ c.args.index = (let t = c.loop-passed.auto.passed-end in let u = c.loop-passed-test.false in omega arith) in
    let rest = above_of c.loop-passed.word r.result.1 l in
    let e = run_first h.base c.loop-passed.word rest.0 r.result.0 r.result.1 o l r.ensures.run r.ensures.none_before r.ensures.none_after rest.1 in
    run_at (head_set h) (bit_ranges h.base h.bits) _ _ (h.base +ℤ pos r.result.0) (h.base +ℤ pos r.result.1) c.args.index (bit_ranges h.base rest.0)
    (subst (λ (i : ℕ). drop i (bit_ranges h.base h.bits) ≡ (h.base +ℤ pos r.result.0, h.base +ℤ pos r.result.1) ∷ bit_ranges h.base rest.0) at (sym c.loop-passed.invariant ∙ e))
    (word_form h w some) (omega (arith, ints)) (omega (arith, ints))
