use Rattle.std.proofs.Common.{◌<◌, length, ap, arith}
use Rattle.fz_dom.proofs.Runs.{run_first, none_of_word, few_ranges}
use Rattle.fz_dom.proofs.Changes.{word_form}
use Rattle.fz_dom.proofs.head.Head.range_count.Goals as goal

pub overflow_add-count : goal.overflow_add-count
overflow_add-count c =
    let h = c.args.self.now in
    let i = c.loop-word.invariant in
    let f = few_ranges h.base h.bits c.requires.fits in
    omega arith

pub loop-word-smaller : goal.loop-word-smaller
loop-word-smaller c =
    let h = c.args.self.now in
    let r = c.first_run in
    let e = ap length (run_first h.base c.loop-word.word c.bits_above-word.result r.result.0 r.result.1 r.ensures.first r.ensures.last r.ensures.run r.ensures.none_before r.ensures.none_after c.bits_above-word.ensures) in
    omega arith

pub loop-word-preserved : goal.loop-word-preserved
loop-word-preserved c =
    let h = c.args.self.now in
    let i = c.loop-word.invariant in
    let r = c.first_run in
    let e = ap length (run_first h.base c.loop-word.word c.bits_above-word.result r.result.0 r.result.1 r.ensures.first r.ensures.last r.ensures.run r.ensures.none_before r.ensures.none_after c.bits_above-word.ensures) in
    omega arith

pub returns : goal.returns
returns c =
    let h = c.args.self.now in
    let i = c.loop-word.invariant in
    let some : 0 < h.bits = (let t = c.if-self-eq0.false in omega arith) in
    let z = none_of_word h.base c.loop-word.word (let t = c.loop-word-test.false in omega arith) in
    let e = ap length (word_form h c.requires some) in
    omega arith
