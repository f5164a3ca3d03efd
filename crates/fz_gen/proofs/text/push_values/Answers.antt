use Rattle.std.proofs.Common.{◌++◌, codes}
use Rattle.fz_gen.specs.Knapsack as texts
use Rattle.fz_gen.specs.declared.text.Measure.TheVariants.{Value}
use Rattle.fz_gen.proofs.Pieces.{join}
use Rattle.fz_gen.proofs.text.push_values.Goals as goal

pub returns : goal.returns
returns c =
    let lists = texts.lists_text Value (codes ",-1],[") c.args.n in
    let tail = codes ",z],0);\n" in
    join c.args.text.now.items c.extend_from_slice.new.self.items c.extend_from_slice-2.new.self.items (codes "constraint int_lin_eq([") (lists ++ tail) c.in_ok-extend_from_slice.ensures.items
    (join c.extend_from_slice.new.self.items c.push_lists.new.text.items c.extend_from_slice-2.new.self.items lists tail c.in_ok-push_lists.ensures c.in_ok-extend_from_slice-2.ensures.items)
