-- That a book keeps its law where a part of it is claimed.
use Rattle.std.proofs.Common.{◌≡◌, ◌∙◌, ℕ, List, get_or, set, ap, sym}
use Rattle.std.proofs.lemmas.List.{get_or_default}
use Rattle.fz_tree.specs.Frontier.{Frontier}
use Rattle.fz_tree.specs.Book.{Part, Book, BookLaw, Claims, claimed_part}
use Rattle.fz_tree.proofs.Books.{claims}
use Rattle.fz_book.specs.Places.{IsUnclaimedAt}

-- as the code says it: a copy of the frontier at that place, which nobody has claimed, stands there as claimed
pub claimed_law : (b : Book) (i : ℕ) (p : Part) (f : Frontier) (parts : List Part) → BookLaw b → IsUnclaimedAt b.parts i → p ≡ get_or b.parts i p → f ≡ p.frontier → parts ≡ set b.parts i (claimed_part f)
    → BookLaw (record { model = b.model; mode = b.mode; recorded = b.recorded; parts = parts })
claimed_law b i p f parts law at read copy is =
    let new : Book = record { model = b.model; mode = b.mode; recorded = b.recorded; parts = parts } in
    claims b f new law (record {
      place = i;
      open_at = record { within = at.within; is = λ d. ap (λ (q : Part). q.frontier) (get_or_default b.parts i d p at.within ∙ sym read) ∙ sym copy };
      first = at.first;
      is = ap (λ (ps : List Part). let c : Book = record { model = b.model; mode = b.mode; recorded = b.recorded; parts = ps } in c) is;
    })

-- a copy of the same frontier is handed out
pub claimed_out : (b : Book) (i : ℕ) (p q : Part) (f g : Frontier) (parts : List Part) → IsUnclaimedAt b.parts i → p ≡ get_or b.parts i p → f ≡ p.frontier → q ≡ get_or b.parts i q → g ≡ q.frontier
    → parts ≡ set b.parts i (claimed_part g) → Claims b f (record { model = b.model; mode = b.mode; recorded = b.recorded; parts = parts })
claimed_out b i p q f g parts at read copy again other is =
    let there : (d : Part) → get_or b.parts i d ≡ p = λ d. get_or_default b.parts i d p at.within ∙ sym read in
    let same : g ≡ f = other ∙ ap (λ (r : Part). r.frontier) (again ∙ there q) ∙ sym copy in
    record {
      place = i;
      open_at = record { within = at.within; is = λ d. ap (λ (r : Part). r.frontier) (there d) ∙ sym copy };
      first = at.first;
      is = ap (λ (ps : List Part). let c : Book = record { model = b.model; mode = b.mode; recorded = b.recorded; parts = ps } in c) (is ∙ ap (λ (h : Frontier). set b.parts i (claimed_part h)) same);
    }
