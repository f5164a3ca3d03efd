-- What a pass over the terms of a sum, whose least is so far below a bound, does to a store.
use Rattle.std.specs.Prelude.{◌≡◌, ◌<◌, ℤ, ◌+ℤ◌, ◌*ℤ◌, ◌≤ℤ◌, List, Bool, true, false}
use Rattle.fz_dom.specs.declared.change.Change.{Change}
use Rattle.fz_dom.specs.declared.change.Change.TheVariants.{Same, Changed, Wiped}
use Rattle.fz_spec.specs.declared.term.Term.{Term}
use Rattle.fz_spec.specs.Constraints.{term_value, term_values}
use Rattle.fz_spec.specs.Truth.{weighted_sum}
use Rattle.fz_strength.specs.Domains.{term_set, Within, room}
use Rattle.fz_strength.specs.Sums.{least_product, greatest_product, least_sum, AreNear, negated}
use Rattle.fz_prop.specs.Stores.{Stored}
use Rattle.fz_shift.specs.Spans.{IsSpanned}

-- what became of a term: its greatest is near its least; or something left; and it never has no number
abbrev pub IsStep : Change → ℤ → Term → ℤ → Stored → Stored → Type 0
IsStep Same k t slack r s = (s ≡ r) × (greatest_product k (term_set r.doms t) ≤ℤ (least_product k (term_set r.doms t) +ℤ slack))
IsStep Changed k t slack r s = room s.doms < room r.doms
IsStep Wiped k t slack r s = ⊥

-- no assignment is lost where the term is near its least
pub record IsTightened (change : Change) (k : ℤ) (t : Term) (slack : ℤ) (r s : Stored) : Type 0 where
  pub spanned : IsSpanned (term_set r.doms t)
  pub kept : (a : List ℤ) → Within r.doms a → (k *ℤ term_value a t) ≤ℤ (least_product k (term_set r.doms t) +ℤ slack) → Within s.doms a
  pub step : IsStep change k t slack r s

-- no assignment is lost whose sum is near the least
abbrev pub KeepsNear : List ℤ → List Term → ℤ → List (List (ℤ × ℤ)) → List (List (ℤ × ℤ)) → Type 0
KeepsNear ks ts slack ds es = (a : List ℤ) → Within ds a → weighted_sum ks (term_values a ts) ≤ℤ (least_sum ds ks ts +ℤ slack) → Within es a

-- something left; or each term is near its least
abbrev pub IsPassed : Bool → List ℤ → List Term → ℤ → Stored → Stored → Type 0
IsPassed true ks ts slack r s = room s.doms < room r.doms
IsPassed false ks ts slack r s = (s ≡ r) × AreNear r.doms slack ks ts

-- the same of two passes, the second over the negated sum
abbrev pub KeepsBetween : List ℤ → List Term → ℤ → ℤ → List (List (ℤ × ℤ)) → List (List (ℤ × ℤ)) → Type 0
KeepsBetween ks ts above below ds es =
    (a : List ℤ) → Within ds a → weighted_sum ks (term_values a ts) ≤ℤ (least_sum ds ks ts +ℤ above)
    → weighted_sum (negated ks) (term_values a ts) ≤ℤ (least_sum ds (negated ks) ts +ℤ below) → Within es a

abbrev pub ArePassed : Bool → List ℤ → List Term → ℤ → ℤ → Stored → Stored → Type 0
ArePassed true ks ts above below r s = room s.doms < room r.doms
ArePassed false ks ts above below r s = (s ≡ r) × AreNear r.doms above ks ts × AreNear r.doms below (negated ks) ts
