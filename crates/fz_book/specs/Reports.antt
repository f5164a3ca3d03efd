-- What a book takes of a worker.
use Rattle.std.specs.Prelude.{◌≡◌, []}
use Rattle.fz_tree.specs.Account.{Account}
use Rattle.fz_tree.specs.Book.{Book, IsOpen}

-- an account of an open part of the book, which gave nothing away so far
pub record IsReportable (b : Book) (c : Account) : Type 0 where
  pub model : b.model ≡ c.model
  pub mode : b.mode ≡ c.mode
  pub is_open : IsOpen b c.before
  pub given : c.given ≡ []
