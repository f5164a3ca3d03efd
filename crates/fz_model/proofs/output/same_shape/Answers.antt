use Rattle.std.proofs.lemmas.Slice.Eq.{slice_eq-Decides}
use Rattle.fz_model.proofs.Mapped.{equal_pairs}
use Rattle.fz_model.proofs.output.same_shape.Goals as goal

pub returns : goal.returns
returns c = slice_eq-Decides equal_pairs c.args.this.now c.args.that.now c.eq.result c.eq.ensures
