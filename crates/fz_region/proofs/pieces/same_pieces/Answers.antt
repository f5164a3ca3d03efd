use Rattle.std.proofs.Common.{◌≡◌, ◌∙◌, true, false, sym, subst, arith}
use Rattle.std.specs.Prelude.{IsTrue}
use Rattle.std.specs.Arc.{arc_slice_items}
use Rattle.fz_region.proofs.InPieces.{mapped_apart, mapped_more}
use Rattle.fz_region.proofs.pieces.same_pieces.Goals as goal

pub returns-then-not-same_edges : goal.returns-then-not-same_edges
returns-then-not-same_edges c = (
  λ h. absurd (let bad : false ≡ true = h in cc),
  λ same. subst IsTrue c.if-not-same_edges.true (c.same_edges.ensures.1 (c.as_slice.ensures.value
      ∙ mapped_apart arc_slice_items c.args.these.now c.args.those.now c.loop-i.i c.index-these-i.result c.index-those-i.result (omega (arith, c.loop-i-test.true)) (omega (arith, c.loop-i-test.true, c.requires)) c.index-these-i.is c.index-those-i.is same
      ∙ sym c.as_slice-in-loop-i.ensures.value)),
)

pub loop-i-preserved : goal.loop-i-preserved
loop-i-preserved c =
    mapped_more arc_slice_items c.args.these.now c.args.those.now c.loop-i.i c.index-these-i.result c.index-those-i.result (omega (arith, c.loop-i-test.true)) (omega (arith, c.loop-i-test.true, c.requires)) c.index-these-i.is c.index-those-i.is
    (sym c.as_slice.ensures.value ∙ c.same_edges.ensures.0 c.if-not-same_edges.false ∙ c.as_slice-in-loop-i.ensures.value) c.loop-i.invariant
