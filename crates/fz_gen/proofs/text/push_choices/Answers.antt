use Rattle.std.proofs.Common.{◌++◌, codes, decimal, ◌∙◌}
use Rattle.fz_gen.proofs.Ranges.{text_next}
use Rattle.fz_gen.proofs.text.push_choices.Goals as goal

pub loop-i-preserved : goal.loop-i-preserved
loop-i-preserved c = c.in_ok-push_choice.ensures ∙ text_next (λ i. codes "var 0..1: x" ++ decimal i ++ codes ";\n") 1 c.loop-i.i c.args.text.now.items c.loop-i.text.items c.loop-i.auto.i c.loop-i.invariant
