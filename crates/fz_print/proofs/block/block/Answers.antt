use Rattle.std.proofs.Common.{◌≡◌, ◌++◌, ◌∙◌, ap, take, codes, arith}
use Rattle.std.specs.Prelude.{flat_map}
use Rattle.std.proofs.lemmas.List.{take_all}
use Rattle.fz_spec.specs.Run.{line}
use Rattle.fz_print.proofs.block.block.Goals as goal

pub returns : goal.returns
returns c =
    let all : take c.loop-output.output-index c.outputs-output-items.result.now ≡ c.outputs-output-items.result.now =
    take_all c.loop-output.output-index c.outputs-output-items.result.now (omega arith) in
    c.in_ok-extend_from_slice.ensures.items ∙ ap (λ u. u ++ codes "----------\n") (c.loop-output.invariant ∙ ap (λ u. flat_map (line c.values-values.result.now) u) (all ∙ c.outputs-output-items.ensures.outputs))
    ∙ ap (λ vs. flat_map (line vs) c.args.model.now.outputs ++ codes "----------\n") c.values-values.ensures.values
