use Rattle.std.proofs.Common.{arith}
use Rattle.fz_propagators.specs.Forms.{said_of}
use Rattle.fz_engine.proofs.Running.{queued_within, ran, answered}
use Rattle.fz_engine.proofs.engine.run_plain.Goals as goal

pub propagator-requires : goal.propagator-requires
propagator-requires c = omega (arith, queued_within c.args.agenda.now.states c.args.place c.requires.queued, c.requires.alive.settled.size)

pub propagate-answer-requires : goal.propagate-answer-requires
propagate-answer-requires c =
    let both = c.requires.alive.terms c.args.place (said_of c.propagator.result.now) c.propagator.ensures in
    record { terms = both.0; suits = both.1 }

pub returns-clause-run : goal.returns-clause-run
returns-clause-run c =
    ran c.args.network.now c.args.store.now c.propagate-answer.new.store c.args.agenda.now.states c.args.place (said_of c.propagator.result.now) c.wakes.ensures.network c.doms.ensures.store
    c.propagator.ensures c.propagate-answer.ensures.shrinks c.propagate-answer.ensures.correct c.requires.alive

pub returns-clause-answer : goal.returns-clause-answer
returns-clause-answer c =
    answered c.propagate-answer.result c.args.network.now c.args.place (said_of c.propagator.result.now) c.args.store.now c.propagate-answer.new.store c.wakes.ensures.network c.requires.alive.declared c.propagator.ensures
    c.propagate-answer.ensures.answer
