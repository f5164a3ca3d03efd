use Rattle.std.proofs.Common.{◌++◌, ◌∙◌, ℕ, ap, codes, decimal}
use Rattle.fz_gen.specs.Knapsack as texts
use Rattle.fz_gen.specs.declared.text.Measure.TheVariants.{Value}
use Rattle.fz_gen.proofs.Pieces.{join}
use Rattle.fz_gen.proofs.text.push_goal.Goals as goal

pub returns : goal.returns
returns c =
    let number = decimal (texts.total Value c.args.n) in
    let tail = codes ": z :: output_var;\n" in
    join c.args.text.now.items c.extend_from_slice.new.self.items c.extend_from_slice-2.new.self.items (codes "var 0..") (number ++ tail) c.in_ok-extend_from_slice.ensures.items
    (join c.extend_from_slice.new.self.items c.push_number.new.text.items c.extend_from_slice-2.new.self.items number tail
    (c.in_ok-push_number.ensures ∙ ap (λ (m : ℕ). c.extend_from_slice.new.self.items ++ decimal m) c.total.ensures) c.in_ok-extend_from_slice-2.ensures.items)
