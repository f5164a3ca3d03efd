use Rattle.std.proofs.Common.{arith}
use Rattle.fz_bits.specs.Windows.{IsBit}
use Rattle.fz_alldiff.proofs.Filling.{subsumed, apart_fixed, all_but_none, all_but_one_still}
use Rattle.fz_alldiff.proofs.Resting.{terms_still}
use Rattle.fz_alldiff.proofs.close.keep_once.Goals as goal

pub keep_free-requires-clause-free : goal.keep_free-requires-clause-free
keep_free-requires-clause-free c = rw c.in-Some.ensures.base c.in-Some.ensures.free

pub returns-then-free-eq0-clause-answer : goal.returns-then-free-eq0-clause-answer
returns-then-free-eq0-clause-answer c =
    let xs = c.args.terms.now in
    let ds = c.args.store.now.doms in
    let fixed = c.in-Some.ensures.unfixed.none c.if-free-eq0.true in
    subsumed xs ds ds c.requires.terms (apart_fixed xs ds (λ n. IsBit c.args.span.low c.in-Some.free.numbers.bits n) c.in-Some.ensures.free fixed) (all_but_none xs ds fixed)

pub returns-in_default-answer-clause-answer : goal.returns-in_default-answer-clause-answer
returns-in_default-answer-clause-answer c =
    let xs = c.args.terms.now in
    let ds = c.args.store.now.doms in
    let es = c.keep_free.new.store.doms in
    let one = c.in-Some.ensures.unfixed.one (omega arith) in
    let narrower = c.in_ok-answer.ensures.shrinks.narrower in
    subsumed xs ds es (terms_still xs ds es narrower c.requires.terms) (c.in_ok-answer.ensures.last c.in_default-answer.not-Failed one)
    (all_but_one_still xs ds es c.requires.terms c.doms.ensures.store.domains narrower one)
