use Rattle.std.proofs.Common.{true, ◌⊎◌, ◌∙◌, ℕ, ℤ, sym, subst, arith}
use Rattle.std.proofs.lemmas.Option.{slice_get-get_or, slice_get_within}
use Rattle.fz_spec.specs.declared.term.Term.TheVariants.{Var}
use Rattle.fz_strength.specs.declared.event.Event.TheVariants.{Any}
use Rattle.fz_prop.specs.Stores.{IsListed}
use Rattle.fz_agenda.specs.Wakes.{waiting_at, watch, HaveSize, IsWatch}
use Rattle.fz_engine.proofs.Listing.{extends_twice}
use Rattle.fz_engine.proofs.Watching.{watched_next}
use Rattle.fz_engine.proofs.network.watch_terms.Goals as goal

pub returns-in_err-watch_term-clause-extends : goal.returns-in_err-watch_term-clause-extends
returns-in_err-watch_term-clause-extends c = extends_twice c.args.wakes.now c.loop-i.wakes c.watch_term.new.wakes c.loop-i.invariant.extends c.watch_term.ensures.extends

pub loop-i-preserved : goal.loop-i-preserved
loop-i-preserved c = record {
  size = subst (λ (n : ℕ). HaveSize c.watch_term.new.wakes n) c.loop-i.invariant.size.any c.watch_term.ensures.size;
  extends = extends_twice c.args.wakes.now c.loop-i.wakes c.watch_term.new.wakes c.loop-i.invariant.extends c.watch_term.ensures.extends;
  watched = watched_next c.loop-i.wakes c.watch_term.new.wakes c.args.place c.args.index _ c.args.terms.now c.loop-i.i (slice_get-get_or c.args.terms.now c.loop-i.i _ c.loop-i-test.true) c.watch_term.ensures.extends
      c.loop-i.invariant.watched c.in_ok-watch_term.ensures.watched;
  costs = c.watch_term.ensures.costs ∙ c.loop-i.invariant.costs;
}

pub returns-clause-watched : goal.returns-clause-watched
returns-clause-watched c = λ v n stands.
    let within = slice_get_within c.args.terms.now stands.0 (Var v) stands.2 in
    let test = c.loop-i-test.false in
    subst (λ (m : ℤ). IsWatch c.loop-i.wakes v (watch c.args.place c.args.index m true) ⊎ IsListed (waiting_at c.loop-i.wakes Any v) c.args.place) (sym stands.1)
    (c.loop-i.invariant.watched stands.0 v (omega (arith, within, test)) stands.2)
