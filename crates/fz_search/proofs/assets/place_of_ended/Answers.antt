use Rattle.std.proofs.Common.{◌≡◌, ◌∙◌, ◌<◌, length, subst, rules}
use Rattle.std.specs.Prelude.{slice_index_or}
use Rattle.std.proofs.lemmas.List.{get_or_default}
use Rattle.fz_book.specs.Room.{Roomy}
use Rattle.fz_search.specs.Searched.{HasEnded}
use Rattle.fz_search.proofs.assets.place_of_ended.Goals as goal

pub returns-then-has_ended-clause-ended : goal.returns-then-has_ended-clause-ended
returns-then-has_ended-clause-ended g c = λ any d.
    let low : c.books.place < length c.args.books.now = search rules in
    let same : c.book.result.now ≡ slice_index_or c.args.books.now c.books.place d = c.book.ensures.book ∙ c.index-books-place.is ∙ get_or_default c.args.books.now c.books.place c.index-books-place.result d low in
    subst (λ (b : Roomy). HasEnded c.args.wanted b.book) same (c.has_ended.ensures.0 c.if-has_ended.true)
