use Rattle.std.proofs.Common.{rules}
use Rattle.std.proofs.Math.Facts.{to_z-of_z}
use Rattle.std.proofs.lemmas.Result.{IfOk-weaker}
use mir.Val.{SFits}
use mir.Syntax.{w32}
use Rattle.fz_dom.specs.Changes.{IsFromTo}
use Rattle.fz_dom.specs.declared.change.Change.{Change}
use Rattle.fz_prop.specs.Stores.{IsChangeAt}
use Rattle.fz_arith.specs.Narrowing.{IsClamped}
use Rattle.fz_arith.proofs.Steps.{change_clamped}
use Rattle.fz_arith.proofs.narrow.keep_range.Goals as goal

pub returns-clause-change : goal.returns-clause-change
returns-clause-change c =
    let v = c.args.variable in
    let before = c.args.store.now in
    let after = c.keep_range.new.self in
    let l = c.clamped.result in
    let h = c.clamped-2.result in
    let fits_l : SFits w32 l = search rules in
    let fits_h : SFits w32 h = search rules in
    let at_low : IsClamped c.args.low l = rw (to_z-of_z c.ranges.low) at c.clamped.ensures in
    let at_high : IsClamped c.args.high h = rw (to_z-of_z c.ranges.high) at c.clamped-2.ensures in
    IfOk-weaker c.keep_range.result (λ (r : Change). IsChangeAt r v (λ x. IsFromTo l h x) before after) (λ (r : Change). IsChangeAt r v (λ x. IsFromTo c.args.low c.args.high x) before after)
    (λ r k. change_clamped r v c.args.low c.args.high l h before after c.doms.ensures.store.domains c.requires at_low at_high k)
    (rw (to_z-of_z fits_l, to_z-of_z fits_h) at c.keep_range.ensures.change)
