use Rattle.std.proofs.Common.{◌++◌, ◌-◌, ◌∙◌, ℕ, List, ap, codes}
use Rattle.std.specs.Prelude.{flat_map}
use Rattle.std.specs.List.{range_with_len}
use Rattle.fz_gen.specs.Knapsack as texts
use Rattle.fz_gen.proofs.Pieces.{join, first_and_further}
use Rattle.fz_gen.proofs.text.push_list.Goals as goal

pub returns : goal.returns
returns c =
    let part = texts.part_text c.args.part in
    join c.args.text.now.items c.push_part.new.text.items c.push_further.new.text.items (part 1) (flat_map (λ i. codes "," ++ part i) (range_with_len 2 (c.args.n - 1)))
    c.in_ok-push_part.ensures c.in_ok-push_further.ensures ∙ ap (λ (x : List ℕ). c.args.text.now.items ++ x) (first_and_further part c.args.n c.requires.least)
