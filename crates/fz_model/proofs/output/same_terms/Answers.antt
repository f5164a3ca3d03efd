use Rattle.std.proofs.lemmas.Slice.Eq.{slice_eq-Decides}
use Rattle.fz_model.proofs.Mapped.{equal_terms}
use Rattle.fz_model.proofs.output.same_terms.Goals as goal

pub returns : goal.returns
returns c = slice_eq-Decides equal_terms c.args.these.now c.args.those.now c.eq.result c.eq.ensures
