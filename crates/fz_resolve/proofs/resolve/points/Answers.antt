use Rattle.std.proofs.Common.{ℤ, ap, sym, ◌∙◌, map, Some}
use Rattle.std.specs.Prelude.{option_map}
use Rattle.fz_language.specs.Trees.{Number}
use Rattle.fz_language.specs.Numerals.{value_of}
use Rattle.fz_syntax.specs.Trees.{number_of}
use Rattle.fz_resolve.proofs.AllOf.{more_at, stop, all_done, all_mapped}
use Rattle.fz_resolve.proofs.resolve.points.Goals as goal

pub returns-in-None : goal.returns-in-None
returns-in-None c =
    sym (stop (λ (n : Number). option_map (λ (x : ℤ). (x, x)) (value_of n)) number_of c.args.numbers.now c.loop-number.number-index _ c.loop-number.ranges.items c.loop-number-test.true (sym c.in-None.ensures) c.loop-number.invariant)
    ∙ all_mapped (λ (x : ℤ). (x, x)) value_of (map number_of c.args.numbers.now)

pub loop-number-preserved : goal.loop-number-preserved
loop-number-preserved c =
    more_at (λ (n : Number). option_map (λ (x : ℤ). (x, x)) (value_of n)) number_of c.args.numbers.now c.loop-number.number-index _ c.loop-number.ranges.items c.in-Some.range c.loop-number-test.true (sym c.in-Some.ensures) c.loop-number.invariant
    ∙ ap (λ xs. Some xs) (sym c.in_ok-push-in-Some.ensures.items)

pub returns : goal.returns
returns c =
    sym (all_done (λ (n : Number). option_map (λ (x : ℤ). (x, x)) (value_of n)) number_of c.args.numbers.now c.loop-number.number-index c.loop-number.ranges.items c.loop-number-test.false c.loop-number.invariant)
    ∙ all_mapped (λ (x : ℤ). (x, x)) value_of (map number_of c.args.numbers.now)
