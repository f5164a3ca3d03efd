use Rattle.fz_regular.specs.BitRows.{Has}
use Rattle.fz_regular.specs.Layers.{Leads}
use Rattle.fz_regular.proofs.Gathering.{left_one, taken_one}
use Rattle.fz_regular.proofs.backward.keep_state.Goals as goal

pub returns-then-support-clause-states : goal.returns-then-support-clause-states
returns-then-support-clause-states c =
    let layers = c.args.layers.now in
    left_one (Leads c.args.automaton.now c.args.values.now layers c.args.place c.args.after c.args.state) c.args.place c.args.state (Has layers) (c.support.ensures.some.0 c.if-support.true)

pub returns-then-support-clause-supports : goal.returns-then-support-clause-supports
returns-then-support-clause-supports c = c.support.ensures.supports

pub returns-clause-states : goal.returns-clause-states
returns-clause-states c =
    let layers = c.args.layers.now in
    taken_one (Leads c.args.automaton.now c.args.values.now layers c.args.place c.args.after c.args.state) c.args.place c.args.state (Has layers) (Has c.remove.new.self)
    (λ leads. let some = c.support.ensures.some.1 leads in let none = c.if-support.false in cc (some, none)) c.remove.ensures.bits

pub returns-clause-supports : goal.returns-clause-supports
returns-clause-supports c = c.support.ensures.supports
