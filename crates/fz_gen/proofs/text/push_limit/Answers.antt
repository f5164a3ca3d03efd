use Rattle.std.proofs.Common.{◌++◌, ◌/◌, ◌∙◌, ℕ, ap, codes, decimal}
use Rattle.fz_gen.specs.Knapsack as texts
use Rattle.fz_gen.specs.declared.text.Measure.TheVariants.{Weight}
use Rattle.fz_gen.proofs.Pieces.{join}
use Rattle.fz_gen.proofs.text.push_limit.Goals as goal

pub returns : goal.returns
returns c =
    let number = decimal (texts.total Weight c.args.n / 2) in
    let tail = codes ");\n" in
    join c.args.text.now.items c.extend_from_slice.new.self.items c.extend_from_slice-2.new.self.items (codes "],") (number ++ tail) c.in_ok-extend_from_slice.ensures.items
    (join c.extend_from_slice.new.self.items c.push_number.new.text.items c.extend_from_slice-2.new.self.items number tail
    (c.in_ok-push_number.ensures ∙ ap (λ (m : ℕ). c.extend_from_slice.new.self.items ++ decimal (m / 2)) c.total.ensures) c.in_ok-extend_from_slice-2.ensures.items)
