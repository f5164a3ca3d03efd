use Rattle.fz_regular.specs.BitRows.{Has}
use Rattle.fz_regular.proofs.Stepping.{led_to_one, led_to_none}
use Rattle.fz_regular.proofs.forward.add_next.Goals as goal

pub insert-requires-clause-bit : goal.insert-requires-clause-bit
insert-requires-clause-bit c = c.requires.fits c.in-Some.next c.in-Some.ensures.to

pub returns-in-Some-clause-states : goal.returns-in-Some-clause-states
returns-in-Some-clause-states c =
    led_to_one c.args.automaton.now c.args.state c.args.symbol c.in-Some.next c.args.after (Has c.args.layers.now) (Has c.insert.new.self) c.in-Some.ensures c.insert.ensures.bits

pub returns-in-None-clause-states : goal.returns-in-None-clause-states
returns-in-None-clause-states c = led_to_none c.args.automaton.now c.args.state c.args.symbol c.args.after (Has c.args.layers.now) c.in-None.ensures
