-- What is left where each of three terms keeps the numbers that are found.
use Rattle.std.proofs.Common.{◌≡◌, ◌⊎◌, ℕ, zero, suc, List, inl, inr, refl, sym, ap, subst, length}
use Rattle.std.specs.Prelude.{ℤ, ◌↔◌}
use Rattle.std.proofs.lemmas.Bool.{cases_eq}
use Rattle.std.specs.List.{AllByRecursion}
use Rattle.fz_sets.specs.Sets.{IsInSet}
use Rattle.fz_sets.proofs.Lists.{some_is}
use Rattle.fz_dom.specs.declared.change.Change.{Change}
use Rattle.fz_dom.specs.declared.change.Change.TheVariants.{Same, Changed, Wiped}
use Rattle.fz_spec.specs.declared.term.Term.{Term}
use Rattle.fz_spec.specs.declared.term.Term.TheVariants.{Num, Var}
use Rattle.fz_spec.specs.Constraints.{term_value}
use Rattle.fz_strength.specs.Domains.{dom_at, term_set, Within, IsTermOf}
use Rattle.fz_prop.specs.Answers.{IsCorrectOf}
use Rattle.fz_prop.specs.Stores.{Stored, Shrinks, IsTermChange}
use Rattle.fz_prop.proofs.Steps.{change_at_as}
use Rattle.fz_prop.proofs.TermChanges.{kept_term, narrower_term, none_kept, term_within, within_kept}
use Rattle.fz_partners.specs.declared.equation.Equation.{Equation}
use Rattle.fz_partners.specs.declared.found.Found.{Found}
use Rattle.fz_partners.specs.Equations.{EquationLine, EquationTruth, terms_of}
use Rattle.fz_partners.specs.Found.{AreFound, AreTogether, Has}
use Rattle.fz_partners.proofs.Partners.{AllPartnered, agree_in, line_by, partners_at}

-- a change by a property is one by another that says the same
pub change_as : (change : Change) (t : Term) (P Q : ℤ → Type 0) (r s : Stored) → ((x : ℤ) → P x ↔ Q x) → IsTermChange change t P r s → IsTermChange change t Q r s
change_as change (Var v) P Q r s same h = change_at_as change v P Q r s (λ x member. same x) h
change_as Same (Num n) P Q r s same h = (h.0, (same n).0 h.1)
change_as Wiped (Num n) P Q r s same h = (h.0, λ q. h.1 ((same n).1 q))
change_as Changed (Num n) P Q r s same h = absurd h

-- a number that has the property where its term is the one that changes
stays : (change : Change) (t : Term) (P : ℤ → Type 0) (r s : Stored) → IsTermChange change t P r s → (q : Term) (x : ℤ) → IsInSet (term_set r.doms q) x → (q ≡ t → P x) → IsInSet (term_set s.doms q) x
stays Same (Var v) P r s h q x is holds = subst (λ (u : Stored). IsInSet (term_set u.doms q) x) (sym h.0) is
stays Wiped (Var v) P r s h q x is holds = subst (λ (u : Stored). IsInSet (term_set u.doms q) x) (sym h.0) is
stays Same (Num n) P r s h q x is holds = subst (λ (u : Stored). IsInSet (term_set u.doms q) x) (sym h.0) is
stays Wiped (Num n) P r s h q x is holds = subst (λ (u : Stored). IsInSet (term_set u.doms q) x) (sym h.0) is
stays Changed (Num n) P r s h q x is holds = absurd h
stays Changed (Var v) P r s h (Num n) x is holds = is
stays Changed (Var v) P r s h (Var u) x is holds = elim (cases_eq u v) [
  | inl e ↦ subst (λ (w : ℕ). IsInSet (dom_at s.doms w) x) (sym e) ((h.kept x).1 (subst (λ (w : ℕ). IsInSet (dom_at r.doms w) x) e is, holds (ap Var e)))
  | inr ne ↦ rw (h.others u ne) is
]

-- ---- truth

pub has_of_truth : (ds : List (List (ℤ × ℤ))) (e : Equation) (f : Found) (a : List ℤ) → AreFound ds e f → AllByRecursion (IsTermOf (length ds)) (terms_of e) → Within ds a → EquationTruth e a
    → Has f.first (term_value a e.first.term) × Has f.second (term_value a e.second.term) × Has f.third (term_value a e.third.term)
has_of_truth ds e f a found inside within truth =
    found.all (term_value a e.first.term) (term_value a e.second.term) (term_value a e.third.term) (
      (term_within ds a e.first.term inside.0 within, term_within ds a e.second.term inside.1.0 within, term_within ds a e.third.term inside.1.1.0 within),
      (agree_in a e.first.term e.second.term e.third.term, truth),
    )

-- an assignment that makes the sum stays through each change
pub correct_first : (e : Equation) (f : Found) (r s : Stored) (change : Change) → AreFound r.doms e f → AllByRecursion (IsTermOf (length r.doms)) (terms_of e) → IsTermChange change e.first.term (Has f.first) r s → Shrinks r s
    → IsCorrectOf (EquationTruth e) r.doms s.doms
correct_first e f r s change found inside h shrinks a truth within = within_kept change e.first.term (Has f.first) r s a h shrinks within (has_of_truth r.doms e f a found inside within truth).0

pub correct_second : (e : Equation) (f : Found) (r s t : Stored) (change : Change) → AreFound r.doms e f → AllByRecursion (IsTermOf (length r.doms)) (terms_of e) → IsCorrectOf (EquationTruth e) r.doms s.doms
    → IsTermChange change e.second.term (Has f.second) s t → Shrinks s t → IsCorrectOf (EquationTruth e) r.doms t.doms
correct_second e f r s t change found inside before h shrinks a truth within = within_kept change e.second.term (Has f.second) s t a h shrinks (before a truth within) (has_of_truth r.doms e f a found inside within truth).1

pub correct_third : (e : Equation) (f : Found) (r s t : Stored) (change : Change) → AreFound r.doms e f → AllByRecursion (IsTermOf (length r.doms)) (terms_of e) → IsCorrectOf (EquationTruth e) r.doms s.doms
    → IsTermChange change e.third.term (Has f.third) s t → Shrinks s t → IsCorrectOf (EquationTruth e) r.doms t.doms
correct_third e f r s t change found inside before h shrinks a truth within = within_kept change e.third.term (Has f.third) s t a h shrinks (before a truth within) (has_of_truth r.doms e f a found inside within truth).2

-- where a change would leave nothing of a term there was none
abbrev pub IsNever : Equation → Stored → Type 0
IsNever e r = (a : List ℤ) → Within r.doms a → EquationTruth e a → ⊥

pub never_first : (e : Equation) (f : Found) (r s : Stored) → AreFound r.doms e f → AllByRecursion (IsTermOf (length r.doms)) (terms_of e) → IsTermChange Wiped e.first.term (Has f.first) r s → IsNever e r
never_first e f r s found inside h a within truth =
    none_kept e.first.term (Has f.first) r s h (term_value a e.first.term) (term_within r.doms a e.first.term inside.0 within) (has_of_truth r.doms e f a found inside within truth).0

-- as far as another term is there
there : (t : Term) (r s : Stored) → Shrinks r s → IsTermOf (length r.doms) t → IsTermOf (length s.doms) t
there t r s shrinks inside = subst (λ (n : ℕ). IsTermOf n t) (sym shrinks.narrower.size) inside

pub never_second : (e : Equation) (f : Found) (r s t : Stored) → AreFound r.doms e f → AllByRecursion (IsTermOf (length r.doms)) (terms_of e) → Shrinks r s → IsCorrectOf (EquationTruth e) r.doms s.doms
    → IsTermChange Wiped e.second.term (Has f.second) s t → IsNever e r
never_second e f r s t found inside shrinks before h a within truth =
    none_kept e.second.term (Has f.second) s t h (term_value a e.second.term) (term_within s.doms a e.second.term (there e.second.term r s shrinks inside.1.0) (before a truth within)) (has_of_truth r.doms e f a found inside within truth).1

pub never_third : (e : Equation) (f : Found) (r s t : Stored) → AreFound r.doms e f → AllByRecursion (IsTermOf (length r.doms)) (terms_of e) → Shrinks r s → IsCorrectOf (EquationTruth e) r.doms s.doms
    → IsTermChange Wiped e.third.term (Has f.third) s t → IsNever e r
never_third e f r s t found inside shrinks before h a within truth =
    none_kept e.third.term (Has f.third) s t h (term_value a e.third.term) (term_within s.doms a e.third.term (there e.third.term r s shrinks inside.1.1.0) (before a truth within)) (has_of_truth r.doms e f a found inside within truth).2

-- ---- the three changes

-- Three terms were narrowed one after the other, none to nothing.
pub record IsKept (e : Equation) (f : Found) (r s t u : Stored) (one two three : Change) : Type 0 where
  pub first : IsTermChange one e.first.term (Has f.first) r s
  pub second : IsTermChange two e.second.term (Has f.second) s t
  pub third : IsTermChange three e.third.term (Has f.third) t u
  pub some_first : one ≡ Wiped → ⊥
  pub some_second : two ≡ Wiped → ⊥
  pub some_third : three ≡ Wiped → ⊥
  pub shrinks_second : Shrinks s t
  pub shrinks_third : Shrinks t u

passes : (e : Equation) (f : Found) (r s t u : Stored) (one two three : Change) → IsKept e f r s t u one two three → (q : Term) (x : ℤ) → IsInSet (term_set r.doms q) x
    → (q ≡ e.first.term → Has f.first x) → (q ≡ e.second.term → Has f.second x) → (q ≡ e.third.term → Has f.third x) → IsInSet (term_set u.doms q) x
passes e f r s t u one two three h q x is first second third =
    stays three e.third.term (Has f.third) t u h.third q x (stays two e.second.term (Has f.second) s t h.second q x (stays one e.first.term (Has f.first) r s h.first q x is first) second) third

-- numbers that make the sum all stay
still_together : (e : Equation) (f : Found) (r s t u : Stored) (one two three : Change) → AreFound r.doms e f → IsKept e f r s t u one two three → (x y z : ℤ) → AreTogether r.doms e x y z → AreTogether u.doms e x y z
still_together e f r s t u one two three found h x y z are =
    let has = found.all x y z are in
    let agree = are.1.0 in (
      (
        passes e f r s t u one two three h e.first.term x are.0.0 (λ is. has.0) (λ is. subst (Has f.second) (sym (agree.first is)) has.1) (λ is. subst (Has f.third) (sym (agree.outer is)) has.2),
        passes e f r s t u one two three h e.second.term y are.0.1 (λ is. subst (Has f.first) (agree.first (sym is)) has.0) (λ is. has.1) (λ is. subst (Has f.third) (sym (agree.last is)) has.2),
        passes e f r s t u one two three h e.third.term z are.0.2 (λ is. subst (Has f.first) (agree.outer (sym is)) has.0) (λ is. subst (Has f.second) (agree.last (sym is)) has.1) (λ is. has.2),
      ),
      are.1,
    )

-- what is left of each was found
first_found : (e : Equation) (f : Found) (r s t u : Stored) (one two three : Change) → IsKept e f r s t u one two three → (x : ℤ) → IsInSet (term_set u.doms e.first.term) x → Has f.first x
first_found e f r s t u one two three h x is =
    let before = narrower_term t.doms u.doms e.first.term h.shrinks_third.narrower x is in
    (kept_term one e.first.term (Has f.first) r s h.first h.some_first x (narrower_term s.doms t.doms e.first.term h.shrinks_second.narrower x before)).1

second_found : (e : Equation) (f : Found) (r s t u : Stored) (one two three : Change) → IsKept e f r s t u one two three → (x : ℤ) → IsInSet (term_set u.doms e.second.term) x → Has f.second x
second_found e f r s t u one two three h x is =
    (kept_term two e.second.term (Has f.second) s t h.second h.some_second x (narrower_term t.doms u.doms e.second.term h.shrinks_third.narrower x is)).1

third_found : (e : Equation) (f : Found) (r s t u : Stored) (one two three : Change) → IsKept e f r s t u one two three → (x : ℤ) → IsInSet (term_set u.doms e.third.term) x → Has f.third x
third_found e f r s t u one two three h x is = (kept_term three e.third.term (Has f.third) t u h.third h.some_third x is).1

all_kept : (e : Equation) (f : Found) (r s t u : Stored) (one two three : Change) → AreFound r.doms e f → IsKept e f r s t u one two three → AllPartnered e u.doms
all_kept e f r s t u one two three found h zero d o x at_d at_o member =
    let is = subst (λ (g : List (ℤ × ℤ)). IsInSet g x) (sym (some_is (term_set u.doms e.first.term) d at_d)) member in
    let p = found.first x (first_found e f r s t u one two three h x is) in
    let are = still_together e f r s t u one two three found h x p.0 p.1 p.2 in
    partners_at e u.doms x p.0 p.1 are.0 are.1 0 o x at_o refl
all_kept e f r s t u one two three found h (suc zero) d o x at_d at_o member =
    let is = subst (λ (g : List (ℤ × ℤ)). IsInSet g x) (sym (some_is (term_set u.doms e.second.term) d at_d)) member in
    let p = found.second x (second_found e f r s t u one two three h x is) in
    let are = still_together e f r s t u one two three found h p.0 x p.1 p.2 in
    partners_at e u.doms p.0 x p.1 are.0 are.1 1 o x at_o refl
all_kept e f r s t u one two three found h (suc (suc zero)) d o x at_d at_o member =
    let is = subst (λ (g : List (ℤ × ℤ)). IsInSet g x) (sym (some_is (term_set u.doms e.third.term) d at_d)) member in
    let p = found.third x (third_found e f r s t u one two three h x is) in
    let are = still_together e f r s t u one two three found h p.0 p.1 x p.2 in
    partners_at e u.doms p.0 p.1 x are.0 are.1 2 o x at_o refl
all_kept e f r s t u one two three found h (suc (suc (suc i))) d o x at_d at_o member = absurd (cc (at_o))

pub kept_line : (e : Equation) (f : Found) (r s t u : Stored) (one two three : Change) → AreFound r.doms e f → IsKept e f r s t u one two three → EquationLine e u.doms
kept_line e f r s t u one two three found h = line_by e u.doms (λ few. all_kept e f r s t u one two three found h)

pub not_wiped : (change : Change) → (change ≡ Same) ⊎ (change ≡ Changed) → change ≡ Wiped → ⊥
not_wiped c (inl is) wiped = cc (is, wiped)
not_wiped c (inr is) wiped = cc (is, wiped)
