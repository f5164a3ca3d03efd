use Rattle.std.proofs.Common.{◌≡◌, ◌∙◌, ◌++◌, Some, length, take, subst, sym, ap, arith, rules}
use Rattle.std.specs.List.{AllByRecursion}
use Rattle.fz_part.specs.Texts.{part_text}
use Rattle.fz_sets.proofs.Lists.{all_read_more, take_whole}
use Rattle.fz_join.specs.Tallies.{times_of}
use Rattle.fz_join.proofs.machine.State.lacking.Goals as goal

pub loop-place-preserved : goal.loop-place-preserved
loop-place-preserved c =
    let tally = c.args.self.now.tally in
    let part = c.index-parts-place.result in
    let once : c.times.result ≡ Some 1 = search rules in
    let text = c.deref.ensures.value ∙ c.in_ok-print.ensures ∙ ap (λ t. t ++ part_text part) c.clear.ensures.items in
    all_read_more (λ p. times_of tally (part_text p) ≡ Some 1) c.args.parts.now c.loop-place.place part c.loop-place-test.true c.index-parts-place.is c.loop-place.invariant
    (sym (ap (times_of tally) text) ∙ sym c.times.ensures ∙ once)

pub returns-clause-none : goal.returns-clause-none
returns-clause-none c =
    let tally = c.args.self.now.tally in
    let parts = c.args.parts.now in
    let all : c.loop-place.place ≡ length parts = omega arith in
    subst (AllByRecursion (λ p. times_of tally (part_text p) ≡ Some 1)) (ap (λ n. take n parts) all ∙ take_whole parts) c.loop-place.invariant
