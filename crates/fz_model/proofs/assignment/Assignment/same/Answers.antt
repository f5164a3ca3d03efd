use Rattle.std.proofs.Common.{◌∙◌}
use Rattle.std.proofs.lemmas.Slice.Eq.{slice_eq-Decides}
use Rattle.std.proofs.lemmas.Bool.Decides.{Decides-int_eq}
use Rattle.fz_model.proofs.Same.{same_views}
use Rattle.fz_model.proofs.assignment.Assignment.same.Goals as goal

pub returns : goal.returns
returns c =
    same_views c.eq.result c.as_slice.result.now c.as_slice-2.result.now c.args.self.now c.args.other.now
    (slice_eq-Decides Decides-int_eq c.as_slice.result.now c.as_slice-2.result.now c.eq.result c.eq.ensures) (c.as_slice.ensures.value ∙ c.self.view_is) (c.as_slice-2.ensures.value ∙ c.other.view_is)
