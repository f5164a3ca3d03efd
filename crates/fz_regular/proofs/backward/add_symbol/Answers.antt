use Rattle.std.proofs.Common.{refl}
use Rattle.fz_regular.specs.BitRows.{Has}
use Rattle.fz_regular.specs.Layers.{LeadsIn}
use Rattle.fz_regular.proofs.Gathering.{added_one, added_none}
use Rattle.fz_regular.proofs.backward.add_symbol.Goals as goal

pub returns-then-does_lead-clause-leads : goal.returns-then-does_lead-clause-leads
returns-then-does_lead-clause-leads c = ((λ t. c.does_lead.ensures.0 c.if-does_lead.true), (λ w. refl))

pub returns-then-does_lead-clause-supports : goal.returns-then-does_lead-clause-supports
returns-then-does_lead-clause-supports c =
    added_one (LeadsIn c.args.automaton.now c.args.layers.now c.args.after c.args.state c.args.symbol) c.args.place c.args.symbol (Has c.args.supports.now) (Has c.insert.new.self)
    (c.does_lead.ensures.0 c.if-does_lead.true) c.insert.ensures.bits

pub returns-clause-leads : goal.returns-clause-leads
returns-clause-leads c = ((λ t. absurd (cc (t))), (λ w. let leads = c.does_lead.ensures.1 w in let none = c.if-does_lead.false in absurd (cc (leads, none))))

pub returns-clause-supports : goal.returns-clause-supports
returns-clause-supports c =
    added_none (LeadsIn c.args.automaton.now c.args.layers.now c.args.after c.args.state c.args.symbol) c.args.place c.args.symbol (Has c.args.supports.now)
    (λ w. let leads = c.does_lead.ensures.1 w in let none = c.if-does_lead.false in cc (leads, none))
