use Rattle.std.proofs.Common.{rules, subst, add-one}
use Rattle.std.specs.List.{AllByRecursion}
use Rattle.std.proofs.lemmas.List.{take_all}
use Rattle.fz_sets.proofs.Lists.{all_more}
use Rattle.fz_hall.specs.Seats.{IsPassed, nobody}
use Rattle.fz_hall.proofs.tops.are_passed.Goals as goal

pub loop-place-preserved : goal.loop-place-preserved
loop-place-preserved c = rw add-one (all_more (IsPassed c.args.seats.now) c.args.seats.now c.loop-place.place nobody c.loop-place-test.true c.loop-place.invariant (c.is_passed.ensures (search rules)))

pub returns : goal.returns
returns c = λ yes. subst (AllByRecursion (IsPassed c.args.seats.now)) (take_all c.loop-place.place c.args.seats.now c.loop-place-test.false) c.loop-place.invariant
