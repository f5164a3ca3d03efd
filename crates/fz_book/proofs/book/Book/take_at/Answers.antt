use Rattle.std.proofs.Common.{◌≡◌, ◌∙◌, ◌↔◌, ◌++◌, ap, sym, subst, List}
use Rattle.std.specs.Prelude.{ℤ, IsTrue, IsSomeAnd}
use Rattle.fz_tree.specs.Better.{Betters}
use Rattle.fz_tree.specs.Book.{Part, Book, IsAt, PrefersClaimed, Takes, incumbent, parts_after}
use Rattle.fz_tree.proofs.Books.{takes}
use Rattle.fz_book.specs.Inside.{book_of}
use Rattle.fz_book.specs.Needs.{witness_if}
use Rattle.fz_book.specs.Room.{Roomy}
use Rattle.fz_book.proofs.Takings.{take_code, after_taking}
use Rattle.fz_book.proofs.book.Book.take_at.Goals as goal

taking : (c : goal.After-settle) → Takes (book_of c.self.inside) c.args.account (after_taking (book_of c.self.inside) c.settle.new.recorded.items c.settle.new.parts.items)
taking c =
    let b : Book = book_of c.self.inside in
    let same : b ≡ c.args.self.now.book = ap (λ (r : Roomy). r.book) c.self.view_is in
    let at : IsAt b.parts c.args.account.before c.args.place = subst (λ (k : Book). IsAt k.parts c.args.account.before c.args.place) (sym same) c.requires.place in
    let prefers : PrefersClaimed b.parts c.args.account.before c.args.place = subst (λ (k : Book). PrefersClaimed k.parts c.args.account.before c.args.place) (sym same) c.requires.prefers in
    let test : IsTrue c.is_bettered_by-adds_witness.result ↔ IsSomeAnd c.args.account.witness (λ w. Betters b.model w (incumbent b)) =
    subst (λ (k : Book). IsTrue c.is_bettered_by-adds_witness.result ↔ IsSomeAnd c.args.account.witness (λ w. Betters k.model w (incumbent k))) (sym same) c.is_bettered_by-adds_witness.ensures.better in
    take_code b c.args.account c.settle.new.recorded.items c.settle.new.parts.items c.args.place c.is_bettered_by-adds_witness.result c.self.invariant c.is_bettered_by-adds_witness.ensures.law
    (ap (λ (k : Book). k.model) same ∙ c.requires.model) (ap (λ (k : Book). k.mode) same ∙ c.requires.mode) at prefers test
    (c.settle.ensures.recorded ∙ ap (λ (l : List (List ℤ)). l ++ (c.args.account.found ++ witness_if c.is_bettered_by-adds_witness.result c.args.account.witness)) c.room_for.ensures.recorded)
    (c.settle.ensures.parts ∙ ap (λ (ps : List Part). parts_after ps c.args.place c.args.account) c.room_for.ensures.parts)

pub invariant_of-self-2 : goal.invariant_of-self-2
invariant_of-self-2 c =
    takes (book_of c.self.inside) c.args.account (after_taking (book_of c.self.inside) c.settle.new.recorded.items c.settle.new.parts.items) c.self.invariant c.is_bettered_by-adds_witness.ensures.law
    (ap (λ (r : Roomy). r.book.model) c.self.view_is ∙ c.requires.model) (ap (λ (r : Roomy). r.book.mode) c.self.view_is ∙ c.requires.mode) (taking c)

pub returns-clause-taken : goal.returns-clause-taken
returns-clause-taken c =
    λ t. subst (λ (r : Roomy). Takes r.book c.args.account (after_taking (book_of c.self.inside) c.settle.new.recorded.items c.settle.new.parts.items)) c.self.view_is (taking c)
