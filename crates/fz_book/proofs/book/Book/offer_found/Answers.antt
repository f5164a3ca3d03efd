use Rattle.std.proofs.Common.{refl, ap}
use Rattle.fz_book.specs.Inside.{book_of}
use Rattle.fz_book.specs.Room.{Roomy}
use Rattle.fz_book.proofs.Takings.{offer_code}
use Rattle.fz_book.proofs.book.Book.offer_found.Goals as goal

pub invariant_of-self-2 : goal.invariant_of-self-2
invariant_of-self-2 c =
    offer_code c.args.self.now.book (book_of c.self.inside) c.args.assignment c.push.new.self.items (ap (λ (r : Roomy). r.book) c.self.view_is) c.self.invariant
    (c.if-not-is_improved_by.ensures.0 refl) c.in_ok-push.ensures.ok
