use Rattle.std.proofs.Common.{arith, inl, inr}
use Rattle.std.proofs.lemmas.Bool.{cases_lt}
use Rattle.std.proofs.lemmas.Option.{slice_get-get_or}
use Rattle.fz_alldiff.proofs.Between.{alone_more}
use Rattle.fz_alldiff.proofs.ends.front_from.Goals as goal

pub returns : goal.returns
returns c = λ j t below at. elim (cases_lt j c.args.front) [
  | inl less ↦ c.requires.told j t less at
  | inr more ↦ c.loop-place.invariant j t (omega (arith, below, more, c.max.ensures, c.loop-place-test.false)) at
]

pub loop-place-preserved : goal.loop-place-preserved
loop-place-preserved c =
    let ts = c.args.terms.now in
    let i = c.loop-place.place in
    alone_more ts c.args.store.now.doms i _ _ c.requires.apart (slice_get-get_or ts i _ (omega (arith, c.loop-place-test.true, c.count_of-count.ensures))) c.in-Some.ensures c.loop-place.invariant

pub returns-in-None : goal.returns-in-None
returns-in-None c = c.loop-place.invariant
