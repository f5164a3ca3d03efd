use Rattle.std.specs.Prelude.{pos}
use Rattle.fz_prop.proofs.Twice.{shrinks_twice}
use Rattle.fz_linear.proofs.Passing.{kept_between}
use Rattle.fz_linear.proofs.pass.tighten_both.Goals as goal

pub returns-in_err-low-clause-shrinks : goal.returns-in_err-low-clause-shrinks
returns-in_err-low-clause-shrinks c =
    shrinks_twice c.args.store.now c.tighten_all.new.store c.tighten_all-2.new.store c.in_ok-high.ensures.shrinks c.in_err-low.ensures.shrinks

pub returns-in_err-low-clause-kept : goal.returns-in_err-low-clause-kept
returns-in_err-low-clause-kept c =
    kept_between c.args.factors.now c.args.terms.now (pos c.args.above) (pos c.args.below) c.args.store.now c.tighten_all.new.store c.tighten_all-2.new.store
    c.in_ok-high.ensures.domains c.in_err-low.ensures.domains c.requires.inside c.in_ok-high.ensures.shrinks c.in_ok-high.ensures.kept c.in_err-low.ensures.kept

pub returns-then-high-clause-shrinks : goal.returns-then-high-clause-shrinks
returns-then-high-clause-shrinks c =
    shrinks_twice c.args.store.now c.tighten_all.new.store c.tighten_all-2.new.store c.in_ok-high.ensures.shrinks c.in_ok-low.ensures.shrinks

pub returns-then-high-clause-kept : goal.returns-then-high-clause-kept
returns-then-high-clause-kept c =
    kept_between c.args.factors.now c.args.terms.now (pos c.args.above) (pos c.args.below) c.args.store.now c.tighten_all.new.store c.tighten_all-2.new.store
    c.in_ok-high.ensures.domains c.in_ok-low.ensures.domains c.requires.inside c.in_ok-high.ensures.shrinks c.in_ok-high.ensures.kept c.in_ok-low.ensures.kept
