use Rattle.std.proofs.Common.{◌++◌, codes, ◌∙◌}
use Rattle.fz_gen.specs.Knapsack as texts
use Rattle.fz_gen.proofs.Ranges.{text_next}
use Rattle.fz_gen.proofs.text.push_further.Goals as goal

pub loop-i-preserved : goal.loop-i-preserved
loop-i-preserved c = c.in_ok-push_next.ensures ∙ text_next (λ i. codes "," ++ texts.part_text c.args.part i) 2 c.loop-i.i c.args.text.now.items c.loop-i.text.items c.loop-i.auto.i c.loop-i.invariant
