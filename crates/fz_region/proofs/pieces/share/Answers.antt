use Rattle.std.proofs.Common.{◌∙◌, ◌*◌, ◌/◌, ◌++◌, List, take, ap, ap₂, arith}
use Rattle.std.specs.Arc.{arc_slice_items}
use Rattle.fz_region.specs.Pieces.{joined}
use Rattle.fz_region.specs.declared.pieces.TheConstants.{PIECE}
use Rattle.fz_region.proofs.InPieces.{shared, shared_code}
use Rattle.fz_region.proofs.pieces.share.Goals as goal

pub returns-clause-joined : goal.returns-clause-joined
returns-clause-joined c =
    let n = c.args.settled / PIECE * PIECE in
    ap₂ (joined arc_slice_items) (c.add.ensures ∙ ap (λ (ps : List _). ps ++ c.in_ok-more.more.items) c.in_ok-reserve.ensures.items) c.in_ok-below.ensures.tail
    ∙ shared arc_slice_items c.args.pieces.now.items c.in_ok-more.more.items c.args.tail.now.items n (c.in_ok-more.ensures.all ∙ ap (take n) c.deref.ensures.value)

pub returns-clause-kept : goal.returns-clause-kept
returns-clause-kept c =
    shared_code arc_slice_items c.args.pieces.now.items c.in_ok-more.more.items c.add.new.pieces.items c.args.tail.now.items c.in_ok-below.below.items c.args.settled c.requires
    (c.in_ok-more.ensures.all ∙ ap (take (c.args.settled / PIECE * PIECE)) c.deref.ensures.value) c.in_ok-more.ensures.whole (omega (arith, c.if-len-count-gt-PIECES_MOST.false))
    (c.add.ensures ∙ ap (λ (ps : List _). ps ++ c.in_ok-more.more.items) c.in_ok-reserve.ensures.items) c.in_ok-below.ensures.tail
