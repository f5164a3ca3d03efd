use Rattle.std.proofs.Common.{◌≡◌, ◌∙◌, ◌∷◌, length}
use Rattle.fz_strength.specs.declared.event.Event.TheVariants.{Any}
use Rattle.fz_strength.specs.Events.{AreBelow, waits_for}
use Rattle.fz_engine.proofs.Listing.{extends_twice}
use Rattle.fz_engine.proofs.Watching.{index_below, selected_at}
use Rattle.fz_engine.proofs.network.list_said.Goals as goal

pub returns-in_err-list_term-in-SelectTerm-2-clause-extends : goal.returns-in_err-list_term-in-SelectTerm-2-clause-extends
returns-in_err-list_term-in-SelectTerm-2-clause-extends c =
    extends_twice c.args.wakes.now c.list_term.new.wakes c.list_term-in-SelectTerm.new.wakes c.list_term.ensures.extends c.list_term-in-SelectTerm.ensures.extends

pub watch_terms-requires-clause-terms : goal.watch_terms-requires-clause-terms
watch_terms-requires-clause-terms c =
    let n = length c.args.wakes.now.any in
    let xs = c.in-SelectTerm.terms.now in
    let inside : AreBelow (waits_for Any (c.in-SelectTerm.index ∷ c.in-SelectTerm.value ∷ xs)) n = rw c.in-SelectTerm.is at c.requires.inside in
    let same : length c.list_term-in-SelectTerm.new.wakes.any ≡ n = c.list_term-in-SelectTerm.ensures.size.any ∙ c.list_term.ensures.size.any in
    rw (same, c.as_slice.ensures) (index_below n xs c.in-SelectTerm.index c.in-SelectTerm.value inside).1.1

pub returns-in_ok-list_term-in-SelectTerm-2-clause-extends : goal.returns-in_ok-list_term-in-SelectTerm-2-clause-extends
returns-in_ok-list_term-in-SelectTerm-2-clause-extends c =
    extends_twice c.args.wakes.now c.list_term-in-SelectTerm.new.wakes c.watch_terms.new.wakes
    (extends_twice c.args.wakes.now c.list_term.new.wakes c.list_term-in-SelectTerm.new.wakes c.list_term.ensures.extends c.list_term-in-SelectTerm.ensures.extends) c.watch_terms.ensures.extends

pub returns-in_ok-list_term-in-SelectTerm-2-clause-indexed : goal.returns-in_ok-list_term-in-SelectTerm-2-clause-indexed
returns-in_ok-list_term-in-SelectTerm-2-clause-indexed c =
    rw c.in-SelectTerm.is
    (selected_at c.watch_terms.result c.list_term.new.wakes c.list_term-in-SelectTerm.new.wakes c.watch_terms.new.wakes c.args.place c.in-SelectTerm.terms.now c.in-SelectTerm.index c.in-SelectTerm.value
    c.list_term-in-SelectTerm.ensures.extends c.watch_terms.ensures.extends c.in_ok-list_term-in-SelectTerm.ensures.listed c.in_ok-list_term-in-SelectTerm-2.ensures.listed (rw c.as_slice.ensures at c.watch_terms.ensures.watched))
