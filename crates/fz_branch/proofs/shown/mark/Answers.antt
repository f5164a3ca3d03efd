use Rattle.std.proofs.Common.{◌∙◌}
use Rattle.fz_tree.specs.Rows.{is_term}
use Rattle.fz_branch.proofs.Showing.{any_more, more_of}
use Rattle.fz_branch.proofs.shown.mark.Goals as goal

pub loop-term-preserved : goal.loop-term-preserved
loop-term-preserved c = (
  λ v lt. more_of _ _ _ _ _ (c.loop-term.invariant.0 v lt) (c.add.ensures.members v lt) _ (any_more (is_term v) c.args.terms.now c.loop-term.term-index _ c.loop-term-test.true),
  c.add.ensures.size ∙ c.loop-term.invariant.1,
)
