use Rattle.std.proofs.Common.{◌≡◌, ◌∙◌, List, ap, refl, set, subst, true}
use Rattle.std.specs.List.{list_all}
use Rattle.fz_tree.specs.Book.{Book, Claims, Part, claimed_part, is_claimed}
use Rattle.fz_book.specs.Room.{Roomy}
use Rattle.fz_book.specs.Inside.{book_of}
use Rattle.fz_book.specs.Places.{IsUnclaimedAt}
use Rattle.fz_book.proofs.Claiming.{claimed_law, claimed_out}
use Rattle.fz_book.proofs.book.Book.claim.Goals as goal

pub invariant_of-self : goal.invariant_of-self
invariant_of-self c =
    claimed_law (book_of c.self.inside) c.in-Some.i c.index-2.result.now c.in_ok-claimed.claimed _ c.self.invariant
    (subst (λ (ps : List Part). IsUnclaimedAt ps c.in-Some.i) c.deref.ensures.value c.in-Some.ensures)
    c.index-2.ensures (c.in_ok-claimed.ensures.copy ∙ ap (λ (p : Part). p.frontier) c.behind-self-2.view_is) refl

pub returns-in_default-clause-none : goal.returns-in_default-clause-none
returns-in_default-clause-none c =
    subst (λ (b : Roomy). list_all is_claimed b.book.parts ≡ true) c.self.view_is (subst (λ (ps : List Part). list_all is_claimed ps ≡ true) c.deref.ensures.value c.in_default.ensures)

pub returns-in_default-clause-same : goal.returns-in_default-clause-same
returns-in_default-clause-same c = refl

pub returns-in_default-clause-gone : goal.returns-in_default-clause-gone
returns-in_default-clause-gone c = refl

pub returns-in_err-frontier-clause-gone : goal.returns-in_err-frontier-clause-gone
returns-in_err-frontier-clause-gone c = refl

pub returns-in_err-claimed-clause-gone : goal.returns-in_err-claimed-clause-gone
returns-in_err-claimed-clause-gone c = refl

pub returns-clause-some : goal.returns-clause-some
returns-clause-some c =
    let old = book_of c.self.inside in
    let parts : List Part = set old.parts c.in-Some.i (claimed_part c.in_ok-claimed.claimed) in
    let new : Book = record { model = old.model; mode = old.mode; recorded = old.recorded; parts = parts } in
    subst (λ (b : Roomy). Claims b.book c.in_ok-frontier.frontier new) c.self.view_is
    (claimed_out old c.in-Some.i c.index.result.now c.index-2.result.now c.in_ok-frontier.frontier c.in_ok-claimed.claimed parts
    (subst (λ (ps : List Part). IsUnclaimedAt ps c.in-Some.i) c.deref.ensures.value c.in-Some.ensures)
    c.index.ensures (c.in_ok-frontier.ensures.copy ∙ ap (λ (p : Part). p.frontier) c.behind-self.view_is)
    c.index-2.ensures (c.in_ok-claimed.ensures.copy ∙ ap (λ (p : Part). p.frontier) c.behind-self-2.view_is) refl)

pub returns-clause-gone : goal.returns-clause-gone
returns-clause-gone c = ap (λ (b : Roomy). b.gone) c.self.view_is
