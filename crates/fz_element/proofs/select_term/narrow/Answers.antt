use Rattle.std.proofs.Common.{rules, length}
use Rattle.std.specs.Prelude.{pos}
use Rattle.std.proofs.Math.Facts.{to_z-of_z}
use mir.Val.{SFits}
use mir.Syntax.{w32}
use Rattle.fz_dom.specs.Changes.{IsFromTo}
use Rattle.fz_prop.specs.Stores.{IsTermChange}
use Rattle.fz_element.specs.Matching.{IsChosen}
use Rattle.fz_element.proofs.Narrowing.{AreTermsOf, needs_place, step_correct, narrowed_by}
use Rattle.fz_element.proofs.select_term.narrow.Goals as goal

pub returns-in_default : goal.returns-in_default
returns-in_default c =
    let before = c.args.store.now in
    let after = c.keep_range.new.store in
    let xs = c.args.terms.now in
    let k = c.args.index in
    let v = c.args.value in
    let last = c.last_index.result in
    let fits : SFits w32 last = search rules in
    let of : AreTermsOf (length before.doms) xs k v = record { index = c.requires.index; terms = c.requires.terms; value = c.requires.value } in
    let needs = needs_place xs k v before.doms last of c.doms.ensures.store.domains c.requires.fits_index c.last_index.ensures.above in
    let change : IsTermChange c.in_ok-change.change k (λ x. IsFromTo (pos 1) last x) before after = rw (to_z-of_z fits) at c.in_ok-change.ensures.change in
    record {
      shrinks = c.in_ok-change.ensures.shrinks;
      correct = step_correct c.in_ok-change.change k (λ x. IsFromTo (pos 1) last x) (IsChosen xs k v) before after needs change c.in_ok-change.ensures.shrinks;
      narrowed = narrowed_by c.in_ok-change.change k (λ x. IsFromTo (pos 1) last x) xs k v before after c.in_default.not-Same c.requires.index needs change;
    }
