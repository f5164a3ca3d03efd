-- A book, how many of the first that are recorded it has let go of, and how many more assignments and parts it has room for without
-- taking memory.
use Rattle.std.specs.Prelude.{ℕ}
use Rattle.fz_tree.specs.Book.{Book}

pub record Roomy : Type 0 where
  pub book : Book
  pub gone : ℕ
  pub found_room : ℕ
  pub given_room : ℕ
