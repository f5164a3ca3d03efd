use Rattle.std.proofs.Common.{◌≡◌, ℤ, sym, subst, arith, to_z, of_z, w32, rules}
use Rattle.std.specs.Prelude.{◌↔◌}
use Rattle.std.proofs.lemmas.Result.{IfOk-weaker}
use Rattle.fz_sets.specs.Sets.{IsInSet, IsWithinLimits}
use Rattle.fz_prop.proofs.Grown.{limits_more}
use Rattle.fz_regular.specs.Runs.{number, IsInRow}
use Rattle.fz_regular.proofs.Numbers.{numbers_none, numbers_more, numbers_all}
use Rattle.fz_regular.proofs.keep.numbers_of.Goals as goal

pub symbols-init : goal.symbols-init
symbols-init c = record {
  limits = rw c.new-ranges.ensures.items tt;
  numbers = rw c.new-ranges.ensures.items (numbers_none c.args.supports.now c.args.row);
}

pub overflow_add-from : goal.overflow_add-from
overflow_add-from c = let few = c.requires.row.1 in let inside = c.in-Some.ensures.has.0 in omega (arith, few, inside)

pub symbols-smaller : goal.symbols-smaller
symbols-smaller c = let least = c.in-Some.ensures.at_least in let inside = c.in-Some.ensures.has.0 in omega (arith, least, inside)

pub symbols-preserved : goal.symbols-preserved
symbols-preserved c =
    let b = c.args.supports.now in
    let symbol = c.in-Some.symbol in
    let n = c.number_of-number.result in
    let is : n ≡ number symbol = c.number_of-number.ensures in
    let kept : to_z w32 (of_z w32 n) ≡ n = search rules in
    let within : IsWithinLimits n = subst IsWithinLimits (sym is) (c.requires.limits symbol c.in-Some.ensures.has) in
    rw (c.in_ok-push.ensures.items, kept)
    record {
      limits = limits_more c.symbols.ranges.items n c.symbols.invariant.limits within;
      numbers = numbers_more b c.args.row c.symbols.from symbol n c.symbols.ranges.items is c.in-Some.ensures c.symbols.invariant.numbers;
    }

pub number_of-number-requires : goal.number_of-number-requires
number_of-number-requires c = c.requires.limits c.in-Some.symbol c.in-Some.ensures.has

pub from_ranges-requires : goal.from_ranges-requires
from_ranges-requires c = rw c.deref.ensures.value c.symbols.invariant.limits

pub returns : goal.returns
returns c =
    let b = c.args.supports.now in
    let row = c.args.row in
    let are = numbers_all b row c.symbols.from c.symbols.ranges.items c.in_default.ensures c.symbols.invariant.numbers in
    IfOk-weaker c.from_ranges.result _ (λ d. (n : ℤ) → IsInSet d n ↔ IsInRow b row n)
    (λ d h n. ((λ is. (are n).0 ((h n).0 is)), (λ is. (h n).1 ((are n).1 is)))) (rw c.deref.ensures.value at c.from_ranges.ensures.one_set)
