use Rattle.std.proofs.Common.{◌<◌, ◌+◌, ◌-◌, length, arith, inl, inr}
use Rattle.std.proofs.lemmas.Bool.{cases_lt}
use Rattle.std.proofs.lemmas.Option.{slice_get-get_or}
use Rattle.fz_alldiff.proofs.Between.{alone_behind}
use Rattle.fz_alldiff.proofs.ends.back_from.Goals as goal

pub returns : goal.returns
returns c = λ j t behind at. elim (cases_lt (j + c.args.back) (length c.args.terms.now)) [
  | inl less ↦ c.loop-passed.invariant j t (omega (arith, behind, less, c.max.ensures, c.loop-passed-test.false)) at
  | inr more ↦ c.requires.told j t more at
]

pub loop-passed-preserved : goal.loop-passed-preserved
loop-passed-preserved c =
    let ts = c.args.terms.now in
    let k = c.loop-passed.passed in
    let inside : k < length ts = omega (arith, c.loop-passed-test.true, c.count_of-count.ensures) in
    alone_behind ts c.args.store.now.doms k _ _ c.requires.apart inside (slice_get-get_or ts (length ts - 1 - k) _ (omega (arith, inside))) c.in-Some.ensures
    c.loop-passed.invariant

pub returns-in-None : goal.returns-in-None
returns-in-None c = c.loop-passed.invariant
