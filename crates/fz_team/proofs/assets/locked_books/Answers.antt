use Rattle.std.proofs.Common.{◌∙◌, [], ◌∷◌, sym, arith}
use Rattle.std.proofs.lemmas.List.{length-append}
use Rattle.std.proofs.lemmas.Iterator.Adapters.{YieldsList-from_vec}
use Rattle.std.proofs.lemmas.Iterator.Consumers.{YieldsList-turn, YieldsList-end}
use Rattle.fz_team.proofs.assets.locked_books.Goals as goal

pub push_reserved-requires : goal.push_reserved-requires
push_reserved-requires g c =
    let gives = c.into_iter-book-iterator.ensures.into_iter_gives in
    let road = YieldsList-from_vec {s = c.into_iter-book-iterator.result} c.args.books.items gives.0 (gives.1 ∙ c.args.books.ok.0) in
    let turn = YieldsList-turn road c.books.yielded c.books.book-iterator c.books.yielded_by c.next.result c.next.new.self c.in-Some.book c.in-Some.is c.next.ensures.steps in
    omega (arith, turn.0, c.books.invariant.0, c.books.invariant.1, c.args.books.ok.0, c.requires.room)

pub books-preserved : goal.books-preserved
books-preserved g c =
    let more = length-append c.books.yielded (c.in-Some.book ∷ []) in (
      omega (arith, c.push_reserved.ensures.len, c.books.invariant.0, more),
      omega (arith, c.push_reserved.ensures.capacity, c.books.invariant.1),
    )

pub returns : goal.returns
returns g c =
    let gives = c.into_iter-book-iterator.ensures.into_iter_gives in
    let road = YieldsList-from_vec {s = c.into_iter-book-iterator.result} c.args.books.items gives.0 (gives.1 ∙ c.args.books.ok.0) in
    let end = YieldsList-end road c.books.yielded c.books.book-iterator c.books.yielded_by c.next.result c.next.new.self c.in-None.is c.next.ensures.steps in
    c.books.invariant.0 ∙ (end.1 ∙ sym c.args.books.ok.0)
