use Rattle.std.proofs.Common.{arith}
use Rattle.std.specs.Prelude.{slice_index_or}
use Rattle.fz_strength.specs.declared.cost.Cost.TheVariants.{Unary, Cubic}
use Rattle.fz_engine.proofs.Queuing.{queued_more, same_at, settled_all, full_all}
use Rattle.fz_engine.proofs.network.full_agenda.Goals as goal

pub loop-place-preserved : goal.loop-place-preserved
loop-place-preserved c =
    let costs = c.args.costs.now in
    let place = c.loop-place.place in
    queued_more costs c.in_ok-agenda.agenda c.loop-place.agenda c.wake.new.self place (slice_index_or costs place Unary) c.loop-place.invariant (same_at costs place Unary Cubic c.loop-place-test.true) c.in_ok-wake.ensures.idle
    c.wake.ensures.other

pub returns-clause-settled : goal.returns-clause-settled
returns-clause-settled c = λ sayings s is.
    settled_all c.args.costs.now sayings c.in_ok-agenda.agenda c.loop-place.agenda c.loop-place.place c.in_ok-agenda.ensures.states (omega (arith, c.loop-place-test.false, c.loop-place.auto.place-end)) is c.loop-place.invariant s

pub returns-clause-full : goal.returns-clause-full
returns-clause-full c =
    full_all c.args.costs.now c.in_ok-agenda.agenda c.loop-place.agenda c.loop-place.place c.in_ok-agenda.ensures.states c.in_ok-agenda.ensures.queues (omega (arith, c.loop-place-test.false, c.loop-place.auto.place-end))
    c.loop-place.invariant
