use Rattle.std.proofs.Common.{subst, rules}
use Rattle.std.specs.Prelude.{ℤ, ◌≤ℤ◌}
use Rattle.std.proofs.Math.Facts.{to_z-of_z}
use mir.Val.{SFits}
use mir.Syntax.{w32}
use Rattle.fz_dom.specs.Shape.{greatest}
use Rattle.fz_dom.specs.declared.change.Change.TheVariants.{Same, Changed}
use Rattle.fz_strength.specs.Domains.{term_set}
use Rattle.fz_prop.specs.Stores.{IsTermChange}
use Rattle.fz_prop.proofs.TermChanges.{same_store}
use Rattle.fz_rel.specs.Truths.{TruthOf, order_of}
use Rattle.fz_rel.proofs.Orders.{high_order, correct_high, correct_from}
use Rattle.fz_rel.proofs.order.keep_order.Goals as goal

pub keep_behind-requires-clause-highs : goal.keep_behind-requires-clause-highs
keep_behind-requires-clause-highs c =
    let fits : SFits w32 c.highest_before-highest.result = search rules in
    high_order c.args.strict c.args.x c.args.y c.highest_before-highest.result c.args.store.now c.keep_to.new.store c.requires.x c.highest_before-highest.ensures.store.domains
    c.highest_before-highest.ensures.greatest
    (subst (λ (v : ℤ). IsTermChange Same c.args.x (λ x. x ≤ℤ v) c.args.store.now c.keep_to.new.store) (to_z-of_z fits) (rw c.in-Same.is at c.in_ok-keep_to.ensures.change))

pub returns-in-Changed-clause-correct : goal.returns-in-Changed-clause-correct
returns-in-Changed-clause-correct c =
    let fits : SFits w32 c.highest_before-highest.result = search rules in
    correct_high c.args.strict Changed c.args.x c.args.y (greatest (term_set c.args.store.now.doms c.args.y)) c.highest_before-highest.result c.args.store.now c.keep_to.new.store c.requires.y
    c.highest_before-highest.ensures.upper_bound c.highest_before-highest.ensures.greatest
    (subst (λ (v : ℤ). IsTermChange Changed c.args.x (λ x. x ≤ℤ v) c.args.store.now c.keep_to.new.store) (to_z-of_z fits) (rw c.in-Changed.is at c.in_ok-keep_to.ensures.change))
    c.in_ok-keep_to.ensures.shrinks

pub returns-in-Same-clause-correct : goal.returns-in-Same-clause-correct
returns-in-Same-clause-correct c =
    let fits : SFits w32 c.highest_before-highest.result = search rules in
    correct_from (TruthOf (order_of c.args.strict) c.args.x c.args.y) c.args.store.now c.keep_to.new.store c.keep_behind.new.store
    (same_store c.args.x (λ x. x ≤ℤ c.highest_before-highest.result) c.args.store.now c.keep_to.new.store
    (subst (λ (v : ℤ). IsTermChange Same c.args.x (λ x. x ≤ℤ v) c.args.store.now c.keep_to.new.store) (to_z-of_z fits) (rw c.in-Same.is at c.in_ok-keep_to.ensures.change)))
    c.keep_behind.ensures.correct
