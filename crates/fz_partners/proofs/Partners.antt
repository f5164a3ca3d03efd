-- From rows that are supported to partners.
use Rattle.std.proofs.Common.{◌≡◌, ℕ, zero, suc, ◌*◌, ◌≤◌, List, [], ◌∷◌, inl, inr, refl, sym, ap, subst, ◌∙◌, arith, map, get_or}
use Rattle.std.specs.Prelude.{ℤ, slice_get, Some}
use Rattle.std.proofs.lemmas.Nat.{mul-le}
use Rattle.fz_sets.specs.Sets.{IsInSet, set_size, single}
use Rattle.fz_sets.proofs.Lists.{some_is}
use Rattle.fz_sets.proofs.Sizes.{size_of_one}
use Rattle.fz_spec.specs.declared.term.Term.{Term}
use Rattle.fz_spec.specs.Constraints.{term_value, term_values}
use Rattle.fz_strength.specs.declared.equation.TheConstants.{FEW_PAIRS}
use Rattle.fz_strength.specs.Domains.{term_set}
use Rattle.fz_strength.specs.Equations.{HasPartners, HavePartners, HaveFewPairs, sets_of}
use Rattle.fz_prop.proofs.TermChanges.{only_in}
use Rattle.fz_partners.specs.declared.equation.Equation.{Equation}
use Rattle.fz_partners.specs.Equations.{DoAgree, EquationLine, EquationTruth, IsLeft, IsSolution, factors_of, terms_of}
use Rattle.fz_strength.proofs.Terms.{in_single}
use Rattle.fz_partners.proofs.Assigning.{three_numbers}

-- ---- the line, by what its numbers have

abbrev pub AllPartnered : Equation → List (List (ℤ × ℤ)) → Type 0
AllPartnered e ds = HavePartners (sets_of ds (terms_of e)) (factors_of e) (terms_of e) e.number

abbrev pub AreFewIn : Equation → List (List (ℤ × ℤ)) → Type 0
AreFewIn e ds = HaveFewPairs (sets_of ds (terms_of e))

few_alone : (d f g : List (ℤ × ℤ)) (x y : ℤ) → d ≡ single x → f ≡ single y → HaveFewPairs (d ∷ f ∷ g ∷ [])
few_alone d f g x y one two = inl (rw (one, two, size_of_one x, size_of_one y) (omega arith))

heads : (d f g p q r : List (ℤ × ℤ)) → d ∷ f ∷ g ∷ [] ≡ p ∷ q ∷ r ∷ [] → (d ≡ p) × (f ≡ q) × (g ≡ r)
heads d f g p q r is = (ap (λ (l : List (List (ℤ × ℤ))). get_or l 0 []) is, ap (λ (l : List (List (ℤ × ℤ))). get_or l 1 []) is, ap (λ (l : List (List (ℤ × ℤ))). get_or l 2 []) is)

in_one : (d : List (ℤ × ℤ)) (x : ℤ) → d ≡ single x → IsInSet d x
in_one d x is = subst (λ (f : List (ℤ × ℤ)). IsInSet f x) (sym is) (in_single x x refl)

-- where one number is left of each term, it is that of an assignment that has partners
alone_sum : (e : Equation) (ds : List (List (ℤ × ℤ))) → AllPartnered e ds → (a : List ℤ) → sets_of ds (terms_of e) ≡ map single (term_values a (terms_of e)) → EquationTruth e a
alone_sum e ds all a is =
    let s = e.first.term in
    let t = e.second.term in
    let r = e.third.term in
    let h = heads (term_set ds s) (term_set ds t) (term_set ds r) (single (term_value a s)) (single (term_value a t)) (single (term_value a r)) is in
    let p = all 0 (term_set ds s) s (term_value a s) refl refl (in_one (term_set ds s) (term_value a s) h.0) in
    let one = only_in (term_set ds s) (term_value a s) (term_value p.numbers s) h.0 p.left.0 in
    let two = only_in (term_set ds t) (term_value a t) (term_value p.numbers t) h.1 p.left.1.0 in
    let three = only_in (term_set ds r) (term_value a r) (term_value p.numbers r) h.2 p.left.1.1.0 in
    rw (one, two, three) at p.sum

pub line_by : (e : Equation) (ds : List (List (ℤ × ℤ))) → (AreFewIn e ds → AllPartnered e ds) → EquationLine e ds
line_by e ds all =
    let s = e.first.term in
    let t = e.second.term in
    let r = e.third.term in
    record {
      partners = all;
      fixed = λ a is.
          let h = heads (term_set ds s) (term_set ds t) (term_set ds r) (single (term_value a s)) (single (term_value a t)) (single (term_value a r)) is in
          alone_sum e ds (all (few_alone (term_set ds s) (term_set ds t) (term_set ds r) (term_value a s) (term_value a t) h.0 h.1)) a is;
    }

-- where even the first two terms have many pairs of numbers, and the last has most numbers
pub line_of_many : (e : Equation) (ds : List (List (ℤ × ℤ))) → ((set_size (term_set ds e.first.term) * set_size (term_set ds e.second.term)) ≤ FEW_PAIRS → ⊥)
    → set_size (term_set ds e.first.term) ≤ set_size (term_set ds e.third.term) → set_size (term_set ds e.second.term) ≤ set_size (term_set ds e.third.term) → EquationLine e ds
line_of_many e ds many first second = line_by e ds (λ few.
    let m = set_size (term_set ds e.first.term) in
    let n = set_size (term_set ds e.second.term) in
    let k = set_size (term_set ds e.third.term) in
    elim few [
      | inl h ↦ absurd (many h)
      | inr (inl h) ↦ let less = mul-le m n m k (omega arith) second in absurd (many (omega (arith, less, h)))
      | inr (inr h) ↦ let less = mul-le n m n k (omega arith) first in absurd (many (omega (arith, less, h)))
    ])

-- ---- numbers that make the sum

own_at : (a : List ℤ) (s t r : Term) (u v w : ℤ) → term_value a s ≡ u → term_value a t ≡ v → term_value a r ≡ w
    → (i : ℕ) (o : Term) (x : ℤ) → slice_get (s ∷ t ∷ r ∷ []) i ≡ Some o → slice_get (u ∷ v ∷ w ∷ []) i ≡ Some x → term_value a o ≡ x
own_at a s t r u v w first second third zero o x at is = ap (term_value a) (sym (some_is s o at)) ∙ first ∙ some_is u x is
own_at a s t r u v w first second third (suc zero) o x at is = ap (term_value a) (sym (some_is t o at)) ∙ second ∙ some_is v x is
own_at a s t r u v w first second third (suc (suc zero)) o x at is = ap (term_value a) (sym (some_is r o at)) ∙ third ∙ some_is w x is
own_at a s t r u v w first second third (suc (suc (suc i))) o x at is = absurd (cc (at))

pub partners_at : (e : Equation) (ds : List (List (ℤ × ℤ))) (u v w : ℤ) → IsLeft ds e u v w → IsSolution e u v w → (i : ℕ) (t : Term) (x : ℤ) → slice_get (terms_of e) i ≡ Some t → slice_get (u ∷ v ∷ w ∷ []) i ≡ Some x
    → HasPartners (sets_of ds (terms_of e)) (factors_of e) (terms_of e) e.number t x
partners_at e ds u v w left solution i t x at is =
    let p = three_numbers ds e.first.term e.second.term e.third.term u v w left.0 left.1 left.2 solution.0 in
    record {
      numbers = p.0;
      left = (
        subst (λ (y : ℤ). IsInSet (term_set ds e.first.term) y) (sym p.1) left.0,
        (
          subst (λ (y : ℤ). IsInSet (term_set ds e.second.term) y) (sym p.2) left.1,
          (subst (λ (y : ℤ). IsInSet (term_set ds e.third.term) y) (sym p.3) left.2, tt),
        ),
      );
      own = own_at p.0 e.first.term e.second.term e.third.term u v w p.1 p.2 p.3 i t x at is;
      sum = rw (p.1, p.2, p.3) solution.1;
    }

-- ---- the truth

pub agree_in : (a : List ℤ) (s t r : Term) → DoAgree s t r (term_value a s) (term_value a t) (term_value a r)
agree_in a s t r = record { first = ap (term_value a); outer = ap (term_value a); last = ap (term_value a) }
