use Rattle.fz_regular.proofs.Stepping.{leads_in_by}
use Rattle.fz_regular.proofs.backward.does_lead.Goals as goal

pub has-requires-clause-bit : goal.has-requires-clause-bit
has-requires-clause-bit c = c.requires.fits c.in-Some.next c.in-Some.ensures.to

pub returns-in-Some : goal.returns-in-Some
returns-in-Some c = leads_in_by c.args.automaton.now c.args.layers.now c.args.row c.args.state c.args.symbol c.in-Some.next c.has.result c.in-Some.ensures c.has.ensures

pub returns-in-None : goal.returns-in-None
returns-in-None c = ((λ t. absurd (cc (t))), (λ w. absurd (c.in-None.ensures w.0 w.1)))
