use Rattle.std.proofs.Common.{◌∙◌, sym, ap}
use Rattle.fz_join.specs.Machine.{Reading, begun, read_text}
use Rattle.fz_join.proofs.Pieces.{read_on}
use Rattle.fz_join.proofs.join.Join.feed.Goals as goal

pub invariant_of-self-2 : goal.invariant_of-self-2
invariant_of-self-2 c = λ used.
    let known = c.self.invariant c.if-self.false in
    let i = c.self.inside in
    let piece = c.args.piece.now in (
      ap (read_text i.model i.all (begun i.parts.items)) c.with-self-inside.ensures
          ∙ read_on i.model i.all (begun i.parts.items) i.read.bytes piece
          ∙ ap (λ (x : Reading). read_text i.model i.all x piece) known.0
          ∙ sym c.in_ok-read.ensures.read,
      c.in_ok-read.ensures.knows,
    )
