-- What a book makes of an assignment that is offered.
use Rattle.std.specs.Prelude.{◌≡◌, ℤ, List}
use Rattle.fz_spec.specs.Instance.{Satisfies}
use Rattle.fz_tree.specs.declared.mode.Mode.TheVariants.{Best}
use Rattle.fz_tree.specs.Better.{Betters}
use Rattle.fz_tree.specs.Book.{Book, incumbent, with_recorded}
use Rattle.fz_book.specs.declared.offered.Offered.{Offered}
use Rattle.fz_book.specs.declared.offered.Offered.TheVariants as offered

-- in a search for the best one, a satisfying assignment that betters the incumbent
pub record IsImprovement (b : Book) (a : List ℤ) : Type 0 where
  pub best : b.mode ≡ Best
  pub satisfies : Satisfies b.model a
  pub better : Betters b.model a (incumbent b)

abbrev pub Offers : Offered → Book → List ℤ → Book → Type 0
Offers offered.Better old a new = IsImprovement old a × (new ≡ with_recorded old a)
Offers (offered.NotBetter x) old a new = (IsImprovement old a → ⊥) × (x ≡ a) × (new ≡ old)
