-- Numbers that are found, pair by pair.
use Rattle.std.proofs.Common.{◌≡◌, ◌⊎◌, inl, inr, subst, arith}
use Rattle.std.specs.Prelude.{ℤ, List, ◌<ℤ◌, ◌≤ℤ◌, ◌↔◌}
use Rattle.std.proofs.lemmas.Int.{ints, by_lt_z}
use Rattle.fz_sets.specs.Sets.{IsInSet}
use Rattle.fz_dom.specs.Shape.{IsNextAbove, IsNoneAbove}
use Rattle.fz_strength.specs.Domains.{term_set}
use Rattle.fz_partners.specs.declared.equation.Equation.{Equation}
use Rattle.fz_partners.specs.declared.found.Found.{Found}
use Rattle.fz_partners.specs.Equations.{IsSolution}
use Rattle.fz_partners.specs.Found.{AreFound, AreTogether, Has}

-- ---- found so far

-- Each number that is found has two others; and of all that are left, make the sum and begin with one of these pairs each is found.
pub record AreFoundOf (P : ℤ → ℤ → Type 0) (ds : List (List (ℤ × ℤ))) (e : Equation) (f : Found) : Type 0 where
  pub first : (u : ℤ) → Has f.first u → (v : ℤ) × (w : ℤ) × AreTogether ds e u v w
  pub second : (v : ℤ) → Has f.second v → (u : ℤ) × (w : ℤ) × AreTogether ds e u v w
  pub third : (w : ℤ) → Has f.third w → (u : ℤ) × (v : ℤ) × AreTogether ds e u v w
  pub all : (u v w : ℤ) → P u v → AreTogether ds e u v w → Has f.first u × Has f.second v × Has f.third w

-- first numbers below this one; and those of this one with second numbers below, or up to, another
abbrev pub IsBefore : ℤ → ℤ → ℤ → Type 0
IsBefore x u v = u <ℤ x

abbrev pub IsBelow : ℤ → ℤ → ℤ → ℤ → Type 0
IsBelow x y u v = (u <ℤ x) ⊎ ((u ≡ x) × (v <ℤ y))

abbrev pub IsUpTo : ℤ → ℤ → ℤ → ℤ → Type 0
IsUpTo x y u v = (u <ℤ x) ⊎ ((u ≡ x) × (v ≤ℤ y))

pub found_none : (ds : List (List (ℤ × ℤ))) (e : Equation) (f : Found) (x : ℤ) → ((u : ℤ) → Has f.first u → ⊥) → ((v : ℤ) → Has f.second v → ⊥) → ((w : ℤ) → Has f.third w → ⊥)
    → ((u : ℤ) → IsInSet (term_set ds e.first.term) u → x ≤ℤ u) → AreFoundOf (IsBefore x) ds e f
found_none ds e f x first second third least = record {
  first = λ u has. absurd (first u has);
  second = λ v has. absurd (second v has);
  third = λ w has. absurd (third w has);
  all = λ u v w before are. let h = least u are.0.0 in absurd (omega (arith, ints, before, h));
}

found_over : (P Q : ℤ → ℤ → Type 0) (ds : List (List (ℤ × ℤ))) (e : Equation) (f : Found) → ((u v : ℤ) → Q u v → IsInSet (term_set ds e.first.term) u → IsInSet (term_set ds e.second.term) v → P u v)
    → AreFoundOf P ds e f → AreFoundOf Q ds e f
found_over P Q ds e f among h = record {
  first = h.first;
  second = h.second;
  third = h.third;
  all = λ u v w q are. h.all u v w (among u v q are.0.0 are.0.1) are;
}

up_to : (x y u v : ℤ) → u ≤ℤ x → v ≤ℤ y → IsUpTo x y u v
up_to x y u v first second = by_lt_z u x (λ below. inl below) (λ above. inr (omega (arith, ints, first, above), second))

up_to_or : (x y u v : ℤ) → IsUpTo x y u v → IsBelow x y u v ⊎ ((u ≡ x) × (v ≡ y))
up_to_or x y u v (inl before) = inl (inl before)
up_to_or x y u v (inr here) = let most = here.1 in by_lt_z v y (λ below. inl (inr (here.0, below))) (λ above. inr (here.0, omega (arith, ints, most, above)))

-- those below the next are up to one
most_of_next : (d : List (ℤ × ℤ)) (y z v : ℤ) → IsNextAbove d y z → IsInSet d v → v <ℤ z → v ≤ℤ y
most_of_next d y z v next member below = by_lt_z y v (λ above. let least = next.2 v member above in absurd (omega (arith, ints, below, least))) (λ most. most)

pub first_seconds : (ds : List (List (ℤ × ℤ))) (e : Equation) (f : Found) (x y : ℤ) → ((v : ℤ) → IsInSet (term_set ds e.second.term) v → y ≤ℤ v) → AreFoundOf (IsBefore x) ds e f → AreFoundOf (IsBelow x y) ds e f
first_seconds ds e f x y least = found_over (IsBefore x) (IsBelow x y) ds e f (λ u v q in_u in_v. elim q [ inl before ↦ before | inr here ↦ let h = least v in_v in let l = here.1 in absurd (omega (arith, ints, l, h)) ])

pub next_seconds : (ds : List (List (ℤ × ℤ))) (e : Equation) (f : Found) (x y z : ℤ) → IsNextAbove (term_set ds e.second.term) y z → AreFoundOf (IsUpTo x y) ds e f → AreFoundOf (IsBelow x z) ds e f
next_seconds ds e f x y z next = found_over (IsUpTo x y) (IsBelow x z) ds e f (λ u v q in_u in_v. elim q [ inl before ↦ inl before | inr here ↦ inr (here.0, most_of_next (term_set ds e.second.term) y z v next in_v here.1) ])

pub all_seconds : (ds : List (List (ℤ × ℤ))) (e : Equation) (f : Found) (x y z : ℤ) → IsNoneAbove (term_set ds e.second.term) y → IsNextAbove (term_set ds e.first.term) x z → AreFoundOf (IsUpTo x y) ds e f → AreFoundOf (IsBefore z) ds e f
all_seconds ds e f x y z none next = found_over (IsUpTo x y) (IsBefore z) ds e f (λ u v q in_u in_v. up_to x y u v (most_of_next (term_set ds e.first.term) x z u next in_u q) (none v in_v))

pub all_found : (ds : List (List (ℤ × ℤ))) (e : Equation) (f : Found) (x y : ℤ) → IsNoneAbove (term_set ds e.first.term) x → IsNoneAbove (term_set ds e.second.term) y → AreFoundOf (IsUpTo x y) ds e f → AreFound ds e f
all_found ds e f x y first second h = record {
  first = h.first;
  second = h.second;
  third = h.third;
  all = λ u v w are. h.all u v w (up_to x y u v (first u are.0.0) (second v are.0.1)) are;
}

-- ---- a pair more

-- of the third term no number is left that makes the sum with these, or this one alone
abbrev pub HasNoThird : List (List (ℤ × ℤ)) → Equation → ℤ → ℤ → Type 0
HasNoThird ds e x y = (w : ℤ) → IsInSet (term_set ds e.third.term) w → IsSolution e x y w → ⊥

-- one number more of each
pub record IsMore (f g : Found) (x y z : ℤ) : Type 0 where
  pub first : (u : ℤ) → Has g.first u ↔ (Has f.first u ⊎ (u ≡ x))
  pub second : (v : ℤ) → Has g.second v ↔ (Has f.second v ⊎ (v ≡ y))
  pub third : (w : ℤ) → Has g.third w ↔ (Has f.third w ⊎ (w ≡ z))

turned_to : (e : Equation) (x y u v w : ℤ) → (u ≡ x) × (v ≡ y) → IsSolution e u v w → IsSolution e x y w
turned_to e x y u v w same here = subst (λ (m : ℤ). IsSolution e x m w) same.1 (subst (λ (m : ℤ). IsSolution e m v w) same.0 here)

pub one_more : (ds : List (List (ℤ × ℤ))) (e : Equation) (f g : Found) (x y z : ℤ) → AreTogether ds e x y z → ((w : ℤ) → IsSolution e x y w → w ≡ z) → IsMore f g x y z → AreFoundOf (IsBelow x y) ds e f → AreFoundOf (IsUpTo x y) ds e g
one_more ds e f g x y z are only more h = record {
  first = λ u has. elim ((more.first u).0 has) [ inl there ↦ h.first u there | inr is ↦ (y, z, rw (is) are) ];
  second = λ v has. elim ((more.second v).0 has) [ inl there ↦ h.second v there | inr is ↦ (x, z, rw (is) are) ];
  third = λ w has. elim ((more.third w).0 has) [ inl there ↦ h.third w there | inr is ↦ (x, y, rw (is) are) ];
  all = λ u v w q here. elim (up_to_or x y u v q) [
    | inl below ↦ let has = h.all u v w below here in ((more.first u).1 (inl has.0), (more.second v).1 (inl has.1), (more.third w).1 (inl has.2))
    | inr same ↦ ((more.first u).1 (inr same.0), (more.second v).1 (inr same.1), (more.third w).1 (inr (only w (turned_to e x y u v w same here.1))))
  ];
}

pub no_more : (ds : List (List (ℤ × ℤ))) (e : Equation) (f : Found) (x y : ℤ) → HasNoThird ds e x y → AreFoundOf (IsBelow x y) ds e f → AreFoundOf (IsUpTo x y) ds e f
no_more ds e f x y none h = record {
  first = h.first;
  second = h.second;
  third = h.third;
  all = λ u v w q here. elim (up_to_or x y u v q) [
    | inl below ↦ h.all u v w below here
    | inr same ↦ absurd (none w here.0.2 (turned_to e x y u v w same here.1))
  ];
}
