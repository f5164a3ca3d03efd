-- What taking an account makes of a book, as the code says it.
use Rattle.std.proofs.Common.{◌≡◌, ◌∙◌, ◌∷◌, ◌++◌, [], ap, sym, refl, subst, inl, inr, ◌↔◌, List, Bool, true, false, Option, Some, None, append-nil, ℕ}
use Rattle.std.specs.Prelude.{ℤ, IsTrue, IsSomeAnd}
use Rattle.fz_spec.specs.Instance.{Instance}
use Rattle.fz_tree.specs.declared.mode.Mode.{Mode}
use Rattle.fz_tree.specs.declared.mode.Mode.TheVariants.{All, Rows, Best}
use Rattle.fz_tree.specs.Frontier.{Frontier}
use Rattle.fz_tree.specs.Better.{Betters}
use Rattle.fz_tree.specs.Account.{Account, AccountLaw, SuitsMode}
use Rattle.fz_tree.specs.Book.{Part, Book, BookLaw, IsAt, IsOpen, PrefersClaimed, AddsIn, AddsWitness, Takes, incumbent, parts_after, claimed_part}
use Rattle.fz_tree.proofs.Books.{offers}
use Rattle.fz_book.specs.Offering.{IsImprovement}
use Rattle.fz_book.specs.Needs.{witness_if}
use Rattle.fz_book.specs.Places.{IsNowhere}

none_if : (b : Bool) (o : Option (List ℤ)) → o ≡ None → witness_if b o ≡ []
none_if true o e = ap (witness_if true) e
none_if false o e = refl

-- a test of whether the witness is better than what is known
abbrev Tests : Instance → Option (List ℤ) → Option (List ℤ) → Bool → Type 0
Tests m known witness b = IsTrue b ↔ IsSomeAnd witness (λ w. Betters m w known)

adds_witness : (m : Instance) (known witness : Option (List ℤ)) (b : Bool) → Tests m known witness b → AddsWitness m known witness (witness_if b witness)
adds_witness m known None b test = none_if b None refl
adds_witness m None (Some w) true test = refl
adds_witness m None (Some w) false test = absurd (cc (test.1 tt))
adds_witness m (Some k) (Some w) true test = inl (test.0 refl, refl)
adds_witness m (Some k) (Some w) false test = inr (λ better. cc (test.1 better), refl)

adds_in : (mode : Mode) (m : Instance) (known : Option (List ℤ)) (c : Account) (b : Bool) → SuitsMode mode c.found c.witness → Tests m known c.witness b → AddsIn mode m known c (c.found ++ witness_if b c.witness)
adds_in All m known c b suits test = ap (λ (l : List (List ℤ)). c.found ++ l) (none_if b c.witness suits) ∙ append-nil c.found
adds_in Rows m known c b suits test = ap (λ (l : List (List ℤ)). c.found ++ l) (none_if b c.witness suits) ∙ append-nil c.found
adds_in Best m known c b suits test =
    subst (λ (l : List (List ℤ)). AddsWitness m known c.witness (l ++ witness_if b c.witness)) (sym suits) (adds_witness m known c.witness b test)

abbrev pub after_taking : Book → List (List ℤ) → List Part → Book
after_taking b recorded parts = record { model = b.model; mode = b.mode; recorded = recorded; parts = parts }

pub take_code : (b : Book) (c : Account) (recorded : List (List ℤ)) (parts : List Part) (place : ℕ) (adds : Bool) → BookLaw b → AccountLaw c → b.model ≡ c.model → b.mode ≡ c.mode → IsAt b.parts c.before place → PrefersClaimed b.parts c.before place
    → Tests b.model (incumbent b) c.witness adds → recorded ≡ b.recorded ++ (c.found ++ witness_if adds c.witness) → parts ≡ parts_after b.parts place c → Takes b c (after_taking b recorded parts)
take_code b c recorded parts place adds law of_c model mode at prefers test is_recorded is_parts =
    let suits : SuitsMode b.mode c.found c.witness = subst (λ (o : Mode). SuitsMode o c.found c.witness) (sym mode) of_c.suits in
    record {
      place = place;
      added = c.found ++ witness_if adds c.witness;
      open_at = at;
      prefers = prefers;
      adds = adds_in b.mode b.model (incumbent b) c adds suits test;
      is = ap (λ (l : List (List ℤ)). after_taking b l parts) is_recorded ∙ ap (after_taking b (b.recorded ++ (c.found ++ witness_if adds c.witness))) is_parts;
    }

pub not_open : (b : Book) (f : Frontier) → IsNowhere b.parts f → IsOpen b f → ⊥
not_open b f nowhere is_open = nowhere is_open.0 is_open.1.within (claimed_part f) (is_open.1.is (claimed_part f))

pub offer_code : (now k : Book) (w : List ℤ) (recorded : List (List ℤ)) → k ≡ now → BookLaw k → IsImprovement now w → recorded ≡ k.recorded ++ w ∷ [] → BookLaw (after_taking k recorded k.parts)
offer_code now k w recorded same law improvement is_recorded =
    let of_k : IsImprovement k w = subst (λ (b : Book). IsImprovement b w) (sym same) improvement in
    subst (λ (l : List (List ℤ)). BookLaw (after_taking k l k.parts)) (sym is_recorded) (offers k w law of_k.best of_k.satisfies of_k.better)
