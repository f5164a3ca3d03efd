use Rattle.std.proofs.Common.{rules, slice_index_or, pos, add-one}
use Rattle.std.proofs.Math.Facts.{to_z-of_z}
use mir.Val.{SFits}
use mir.Syntax.{w32}
use Rattle.fz_spec.specs.declared.term.Term.TheVariants.{Num}
use Rattle.fz_linear.specs.Sides.{seen_from, all_seen_from}
use Rattle.fz_linear.proofs.Slacks.{at_seen}
use Rattle.fz_linear.proofs.Summing.{at_place}
use Rattle.fz_linear.proofs.Passing.{pass_step}
use Rattle.fz_linear.proofs.pass.tighten_all.Goals as goal

pub loop-i-preserved : goal.loop-i-preserved
loop-i-preserved c =
    let ks = c.args.factors.now in
    let ts = c.args.terms.now in
    let i = c.loop-i.i in
    let k = slice_index_or ks i (pos 0) in
    let t = slice_index_or ts i (Num (pos 0)) in
    let fits : SFits w32 k = search rules in
    let at = at_seen c.args.side ks ts i k t (at_place ks ts i c.requires.same c.loop-i-test.true) in
    rw (add-one i) (pass_step (all_seen_from c.args.side ks) ts (pos c.args.slack) c.args.store.now c.loop-i.store c.tighten.new.store i c.loop-i.changed c.is_changed.result
    c.in_ok-tighten.field-0 (seen_from c.args.side k) t c.doms.ensures.store.domains c.requires.inside at c.loop-i.invariant
    (rw (to_z-of_z fits) at c.in_ok-tighten.ensures.ok) c.in_ok-tighten.ensures.shrinks c.is_changed.ensures)
