use Rattle.std.proofs.Common.{◌≡◌, ◌∙◌, length, ap, subst, arith}
use Rattle.fz_model.specs.Kept.{IsModel}
use Rattle.fz_tree.specs.Book.{Book}
use Rattle.fz_machine.proofs.Scores.{few_improving}
use Rattle.fz_machine.proofs.machine.Machine.last_number.Goals as goal

pub overflow_cast-result : goal.overflow_cast-result
overflow_cast-result g c =
    let model : c.model.result.now ≡ c.args.self.now.book.model = c.model.ensures.model ∙ ap (λ (b : Book). b.model) c.book.ensures.book in
    omega (arith, few_improving c.args.self.now.book (subst IsModel model c.goal.ensures.kept) c.book.ensures.law.book, ap length c.improving.ensures)
