use Rattle.std.proofs.Common.{◌∙◌, ap, take, drop, rules}
use Rattle.fz_io.specs.Outside.{with_more}
use Rattle.fz_io.proofs.Pieces.{with_two, rest_of}
use Rattle.fz_io.proofs.whole.put_all.Goals as goal

pub pieces-preserved : goal.pieces-preserved
pieces-preserved g c = record {
  within = search rules;
  taken = c.in_ok-at.ensures.taken ∙ ap (λ u. with_more (g.S.Sink.taken c.pieces.sink) (take c.in_ok-at.field-0 u)) (rest_of c.pieces.at c.args.piece.now) ∙ ap (λ t. with_more t (take c.in_ok-at.field-0 (drop c.pieces.at c.args.piece.now))) c.pieces.invariant.taken
      ∙ with_two (g.S.Sink.taken c.args.sink.now) c.pieces.at c.in_ok-at.field-0 c.args.piece.now;
  flushed = search rules;
  faults = search rules;
}
