use Rattle.std.proofs.Common.{◌≡◌, ◌<◌, ℕ}
use Rattle.std.specs.Prelude.{slice_index_or}
use Rattle.fz_book.specs.Room.{Roomy}
use Rattle.fz_search.specs.Searched.{HasEnded}
use Rattle.fz_search.proofs.assets.place_of_ended.Given as goal

abbrev pub invariant-books : goal.invariant-books
invariant-books g l = (k : ℕ) (x : Roomy) → k < l.place → slice_index_or l.books k x ≡ x → HasEnded l.wanted x.book → ⊥
