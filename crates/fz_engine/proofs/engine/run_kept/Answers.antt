use Rattle.std.proofs.Common.{arith}
use Rattle.fz_prop.proofs.Lasting.{own_told, all_after}
use Rattle.fz_propagators.specs.Forms.{said_of}
use Rattle.fz_engine.proofs.Running.{queued_within, ran, answered}
use Rattle.fz_engine.proofs.engine.run_kept.Goals as goal

pub propagator-requires : goal.propagator-requires
propagator-requires c = omega (arith, queued_within c.args.agenda.now.states c.args.place c.requires.queued, c.requires.alive.settled.size)

pub run-answer-requires : goal.run-answer-requires
run-answer-requires c =
    let both = c.requires.alive.terms c.args.place (said_of c.propagator.result.now) c.propagator.ensures in
    record {
      terms = both.0;
      suits = both.1;
      told = own_told c.args.network.now.sayings c.args.kept.now c.args.store.now.doms c.args.place c.slot-slot.result (said_of c.propagator.result.now) c.own_at-own.result c.requires.told c.propagator.ensures c.own_at-own.ensures;
    }

pub returns-clause-run : goal.returns-clause-run
returns-clause-run c =
    ran c.args.network.now c.args.store.now c.run-answer.new.store c.args.agenda.now.states c.args.place (said_of c.propagator.result.now) c.wakes.ensures.network c.doms.ensures.store
    c.propagator.ensures c.run-answer.ensures.narrows.shrinks c.run-answer.ensures.narrows.correct c.requires.alive

pub returns-clause-answer : goal.returns-clause-answer
returns-clause-answer c =
    answered c.run-answer.result c.args.network.now c.args.place (said_of c.propagator.result.now) c.args.store.now c.run-answer.new.store c.wakes.ensures.network c.requires.alive.declared c.propagator.ensures
    c.run-answer.ensures.narrows.answer

pub returns-clause-told : goal.returns-clause-told
returns-clause-told c =
    all_after c.args.network.now.sayings c.args.kept.now c.keep_at.new.kept c.args.store.now.doms c.run-answer.new.store.doms c.args.place (said_of c.propagator.result.now) c.run-answer.new.kept
    c.doms.ensures.store.domains c.run-answer.ensures.narrows.shrinks.narrower c.requires.told c.propagator.ensures (c.run-answer.ensures.told c.doms.ensures.store.domains) c.keep_at.ensures
