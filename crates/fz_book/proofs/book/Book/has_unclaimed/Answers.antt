use Rattle.std.proofs.Common.{◌∙◌, ap}
use Rattle.fz_book.specs.Room.{Roomy}
use Rattle.fz_book.proofs.Unclaimed.{unclaimed_code}
use Rattle.fz_book.proofs.book.Book.has_unclaimed.Goals as goal

pub returns : goal.returns
returns c =
    unclaimed_code c.args.self.now c.deref.result.now c.unclaimed_place.result c.is_some.result
    (c.deref.ensures.value ∙ ap (λ (b : Roomy). b.book.parts) c.self.view_is) c.unclaimed_place.ensures c.is_some.ensures
