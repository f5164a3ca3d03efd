use Rattle.std.proofs.lemmas.Result.{IfOk-weaker}
use Rattle.fz_sets.specs.Sets.{IsInSet}
use Rattle.fz_dom.specs.Changes.{IsChange}
use Rattle.fz_dom.specs.declared.change.Change.{Change}
use Rattle.fz_rel.specs.Members.{IsOverlap}
use Rattle.fz_rel.proofs.ReifiedSets.{overlap_is}
use Rattle.fz_rel.proofs.reified_member.overlap_of.Goals as goal

pub returns : goal.returns
returns c =
    let d = c.args.dom.now in
    let e = c.keep.new.self in
    let set = c.args.set.now in
    IfOk-weaker c.keep.result (λ (r : Change). IsChange r (λ z. IsInSet set z) d e) (λ (r : Change). IsOverlap r d set)
    (λ r h. overlap_is r d e set c.copy.ensures.domain c.keep.ensures.domain h) (rw c.in_ok-kept.ensures.same at c.keep.ensures.change)
