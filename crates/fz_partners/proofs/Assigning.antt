-- Assignments that give some terms some numbers.
use Rattle.std.proofs.Common.{◌≡◌, ℕ, zero, suc, List, [], ◌∷◌, inl, inr, refl, sym, ap, ◌∙◌, pos}
use Rattle.std.specs.Prelude.{ℤ, ◌≢◌}
use Rattle.std.proofs.lemmas.Bool.{cases_eq}
use Rattle.fz_sets.specs.Sets.{IsInSet}
use Rattle.fz_spec.specs.declared.term.Term.{Term}
use Rattle.fz_spec.specs.declared.term.Term.TheVariants.{Num, Var}
use Rattle.fz_spec.specs.Constraints.{term_value}
use Rattle.fz_strength.specs.Domains.{number_at, term_set}
use Rattle.fz_prop.proofs.TermChanges.{only_in}
use Rattle.fz_partners.specs.Equations.{DoAgree}

-- ---- one number

behind : (x y : ℤ) (a : List ℤ) (u : ℕ) → u ≢ 0 → number_at (x ∷ a) u ≡ number_at (y ∷ a) u
behind x y a zero other = absurd (other refl)
behind x y a (suc u) other = refl

behind_nothing : (x : ℤ) (u : ℕ) → u ≢ 0 → number_at (x ∷ []) u ≡ number_at [] u
behind_nothing x zero other = absurd (other refl)
behind_nothing x (suc u) other = refl

shifted : (y : ℤ) (a b : List ℤ) (v : ℕ) → ((u : ℕ) → u ≢ v → number_at b u ≡ number_at a u) → (u : ℕ) → u ≢ suc v → number_at (y ∷ b) u ≡ number_at (y ∷ a) u
shifted y a b v same zero other = refl
shifted y a b v same (suc u) other = same u (λ e. other (ap suc e))

shifted_nothing : (b : List ℤ) (v : ℕ) → ((u : ℕ) → u ≢ v → number_at b u ≡ number_at [] u) → (u : ℕ) → u ≢ suc v → number_at (pos 0 ∷ b) u ≡ number_at [] u
shifted_nothing b v same zero other = refl
shifted_nothing b v same (suc u) other = same u (λ e. other (ap suc e))

-- a list with this number at this place, and the others as they were
with_number : (a : List ℤ) (v : ℕ) (x : ℤ) → (b : List ℤ) × (number_at b v ≡ x) × ((u : ℕ) → u ≢ v → number_at b u ≡ number_at a u)
with_number [] zero x = (x ∷ [], refl, behind_nothing x)
with_number (y ∷ a) zero x = (x ∷ a, refl, behind x y a)
with_number [] (suc v) x = let p = with_number [] v x in (pos 0 ∷ p.0, p.1, shifted_nothing p.0 v p.2)
with_number (y ∷ a) (suc v) x = let p = with_number a v x in (y ∷ p.0, p.1, shifted y a p.0 v p.2)

-- ---- terms

-- the value of a term is this number, and that of another what it was, unless it is the same term
pub record Gives (a : List ℤ) (t : Term) (u : ℤ) : Type 0 where
  pub numbers : List ℤ
  pub own : term_value numbers t ≡ u
  pub others : (s : Term) (x : ℤ) → (s ≡ t → x ≡ u) → term_value a s ≡ x → term_value numbers s ≡ x

kept_value : (a b : List ℤ) (v : ℕ) (u : ℤ) → number_at b v ≡ u → ((w : ℕ) → w ≢ v → number_at b w ≡ number_at a w) → (s : Term) (x : ℤ) → (s ≡ Var v → x ≡ u) → term_value a s ≡ x → term_value b s ≡ x
kept_value a b v u here others (Num n) x same is = is
kept_value a b v u here others (Var w) x same is = elim (cases_eq w v) [
  | inl e ↦ ap (number_at b) e ∙ here ∙ sym (same (ap Var e))
  | inr ne ↦ others w ne ∙ is
]

pub with_term : (ds : List (List (ℤ × ℤ))) (a : List ℤ) (t : Term) (u : ℤ) → IsInSet (term_set ds t) u → Gives a t u
with_term ds a (Num n) u left = record { numbers = a; own = sym (only_in ((n, n) ∷ []) n u refl left); others = λ s x same is. is }
with_term ds a (Var v) u left =
    let p = with_number a v u in
    record { numbers = p.0; own = p.1; others = kept_value a p.0 v u p.1 p.2 }

-- some assignment gives three terms these numbers
pub three_numbers : (ds : List (List (ℤ × ℤ))) (s t r : Term) (u v w : ℤ) → IsInSet (term_set ds s) u → IsInSet (term_set ds t) v → IsInSet (term_set ds r) w → DoAgree s t r u v w
    → (a : List ℤ) × (term_value a s ≡ u) × (term_value a t ≡ v) × (term_value a r ≡ w)
three_numbers ds s t r u v w first second third agree =
    let p = with_term ds [] r w third in
    let q = with_term ds p.numbers t v second in
    let o = with_term ds q.numbers s u first in (
      o.numbers,
      o.own,
      o.others t v (λ e. sym (agree.first (sym e))) q.own,
      o.others r w (λ e. sym (agree.outer (sym e))) (q.others r w (λ e. sym (agree.last (sym e))) p.own),
    )
