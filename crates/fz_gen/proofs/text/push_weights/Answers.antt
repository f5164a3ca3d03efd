use Rattle.std.proofs.Common.{◌++◌, codes}
use Rattle.fz_gen.specs.Knapsack as texts
use Rattle.fz_gen.specs.declared.text.Measure.TheVariants.{Weight}
use Rattle.fz_gen.proofs.Pieces.{join}
use Rattle.fz_gen.proofs.text.push_weights.Goals as goal

pub returns : goal.returns
returns c =
    let lists = texts.lists_text Weight (codes "],[") c.args.n in
    let tail = texts.limit_text c.args.n in
    join c.args.text.now.items c.extend_from_slice.new.self.items c.push_limit.new.text.items (codes "constraint int_lin_le([") (lists ++ tail) c.in_ok-extend_from_slice.ensures.items
    (join c.extend_from_slice.new.self.items c.push_lists.new.text.items c.push_limit.new.text.items lists tail c.in_ok-push_lists.ensures c.in_ok-push_limit.ensures)
