use Rattle.std.proofs.Common.{sym, subst}
use Rattle.fz_strength.specs.declared.event.Event.{Event}
use Rattle.fz_agenda.specs.contracts.wakes.Wakes.{the_view}
use Rattle.fz_agenda.specs.Wakes.{Waking}
use Rattle.fz_agenda.proofs.Drained.{IsOnly, any_grown, bound_grown, fixed_grown}
use Rattle.fz_agenda.proofs.wakes.Wakes.list.Goals as goal

pub returns-in-Any-clause-extends : goal.returns-in-Any-clause-extends
returns-in-Any-clause-extends c =
    let listed = c.list_at.ensures in
    rw (← c.self.view_is) ((any_grown (the_view c.self.inside) c.list_at.new.lists.items c.args.variable c.args.place listed.extends listed.only).extends)

pub returns-in-Any-clause-only : goal.returns-in-Any-clause-only
returns-in-Any-clause-only c =
    let now = the_view c.self.inside in
    let after = the_view (record { any = c.list_at.new.lists; bound = c.self.inside.bound; fixed = c.self.inside.fixed; watches = c.self.inside.watches; costs = c.self.inside.costs }) in
    let listed = c.list_at.ensures in
    let grown = any_grown now c.list_at.new.lists.items c.args.variable c.args.place listed.extends listed.only in
    subst (λ (w : Waking). IsOnly w after c.args.event c.args.variable c.args.place) c.self.view_is
    (subst (λ (e : Event). IsOnly now after e c.args.variable c.args.place) (sym c.in-Any.is) grown.only)

pub returns-in-Bound-clause-extends : goal.returns-in-Bound-clause-extends
returns-in-Bound-clause-extends c =
    let listed = c.list_at-in-Bound.ensures in
    rw (← c.self.view_is) ((bound_grown (the_view c.self.inside) c.list_at-in-Bound.new.lists.items c.args.variable c.args.place listed.extends listed.only).extends)

pub returns-in-Bound-clause-only : goal.returns-in-Bound-clause-only
returns-in-Bound-clause-only c =
    let now = the_view c.self.inside in
    let after = the_view (record { any = c.self.inside.any; bound = c.list_at-in-Bound.new.lists; fixed = c.self.inside.fixed; watches = c.self.inside.watches; costs = c.self.inside.costs }) in
    let listed = c.list_at-in-Bound.ensures in
    let grown = bound_grown now c.list_at-in-Bound.new.lists.items c.args.variable c.args.place listed.extends listed.only in
    subst (λ (w : Waking). IsOnly w after c.args.event c.args.variable c.args.place) c.self.view_is
    (subst (λ (e : Event). IsOnly now after e c.args.variable c.args.place) (sym c.in-Bound.is) grown.only)

pub returns-in-Fixed-clause-extends : goal.returns-in-Fixed-clause-extends
returns-in-Fixed-clause-extends c =
    let listed = c.list_at-in-Fixed.ensures in
    rw (← c.self.view_is) ((fixed_grown (the_view c.self.inside) c.list_at-in-Fixed.new.lists.items c.args.variable c.args.place listed.extends listed.only).extends)

pub returns-in-Fixed-clause-only : goal.returns-in-Fixed-clause-only
returns-in-Fixed-clause-only c =
    let now = the_view c.self.inside in
    let after = the_view (record { any = c.self.inside.any; bound = c.self.inside.bound; fixed = c.list_at-in-Fixed.new.lists; watches = c.self.inside.watches; costs = c.self.inside.costs }) in
    let listed = c.list_at-in-Fixed.ensures in
    let grown = fixed_grown now c.list_at-in-Fixed.new.lists.items c.args.variable c.args.place listed.extends listed.only in
    subst (λ (w : Waking). IsOnly w after c.args.event c.args.variable c.args.place) c.self.view_is
    (subst (λ (e : Event). IsOnly now after e c.args.variable c.args.place) (sym c.in-Fixed.is) grown.only)
