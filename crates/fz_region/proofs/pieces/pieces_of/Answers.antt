use Rattle.std.proofs.Common.{◌≤◌, ◌∙◌, ◌+◌, ◌*◌, ap, sym, subst, arith, length}
use Rattle.std.specs.Arc.{arc_slice_items}
use Rattle.std.specs.List.{flat_map}
use Rattle.fz_region.specs.Pieces.{AreWhole}
use Rattle.fz_region.specs.declared.pieces.TheConstants.{PIECE}
use Rattle.fz_region.proofs.InPieces.{piece_made, piece_length, whole_pushed}
use Rattle.fz_region.proofs.pieces.pieces_of.Goals as goal

pub loop-i-preserved : goal.loop-i-preserved
loop-i-preserved c =
    let made = c.loop-i.pieces.items in
    let piece = c.in_ok-from_vec.field-0 in
    let is = c.in_ok-from_vec.ensures ∙ c.in_ok-copies.ensures in
    let within : (c.loop-i.i + 1) * PIECE ≤ length c.args.edges.now = omega (arith, c.loop-i-test.true) in (
      ap (flat_map arc_slice_items) c.in_ok-push.ensures.items ∙ piece_made arc_slice_items c.args.edges.now made piece c.loop-i.i c.loop-i.invariant.0 is,
      subst (AreWhole arc_slice_items) (sym c.in_ok-push.ensures.items) (whole_pushed arc_slice_items made piece c.loop-i.invariant.1 (ap length is ∙ piece_length c.args.edges.now c.loop-i.i within)),
      omega (arith, c.in_ok-push.ensures.len, c.loop-i.invariant.2),
    )
