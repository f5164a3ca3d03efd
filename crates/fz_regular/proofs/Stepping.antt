-- The state to which a symbol leads from a state.
use Rattle.std.proofs.Common.{◌≡◌, ℕ, ◌+◌, ◌*◌, ◌⊎◌, inl, inr, sym, ap, subst, ◌∙◌, arith}
use Rattle.std.specs.Prelude.{ℤ, pos, ◌-ℤ◌, ◌+ℤ◌, ◌*ℤ◌, ◌↔◌, Bool, IsTrue, Option, Some, None, MatchOption, slice_get}
use Rattle.std.proofs.Math.IntN.{pos-*ℤ-pos}
use Rattle.std.proofs.lemmas.Int.{ints}
use Rattle.fz_spec.specs.Truth.{Automaton, IsElement, IsState, IsSymbol, next_place}
use Rattle.fz_spec.proofs.Automata.{one_element}
use Rattle.fz_regular.specs.declared.bit_rows.BitRows.{BitRows}
use Rattle.fz_regular.specs.BitRows.{Has}
use Rattle.fz_regular.specs.Layers.{LeadsAt, LeadsIn}
use Rattle.fz_regular.specs.Runs.{number, LeadsTo}

number_same : (p r : ℕ) → number p ≡ number r → p ≡ r
number_same p r e = omega (arith, ints, e)

-- where the next state stands in the list, from 0
place_is : (m : Automaton) (p k symbols : ℕ) → pos symbols ≡ m.symbols → next_place m (number p) (number k) ≡ pos (p * symbols + k + 1)
place_is m p k symbols e =
    let first : (number p -ℤ pos 1) ≡ pos p = omega (arith, ints) in
    let product : ((number p -ℤ pos 1) *ℤ m.symbols) ≡ pos (p * symbols) = ap (λ (q : ℤ). q *ℤ m.symbols) first ∙ ap (λ (s : ℤ). pos p *ℤ s) (sym e) ∙ pos-*ℤ-pos p symbols in
    ap (λ (q : ℤ). q +ℤ number k) product ∙ omega (arith, ints)

element_at : (m : Automaton) (p k symbols : ℕ) (n : ℤ) → pos symbols ≡ m.symbols → slice_get m.next (p * symbols + k) ≡ Some n → IsElement (next_place m (number p) (number k)) m.next n
element_at m p k symbols n e at = (p * symbols + k, place_is m p k symbols e, at)

pub leads_by : (m : Automaton) (p k symbols : ℕ) (n : ℤ) (o : Option ℕ) → IsState m (number p) → IsSymbol m (number k) → pos symbols ≡ m.symbols → slice_get m.next (p * symbols + k) ≡ Some n
    → MatchOption o (IsState m n → ⊥) (λ r. (n ≡ number r) × IsState m (number r)) → MatchOption o ((r : ℕ) → LeadsTo m p k r → ⊥) (λ r. LeadsTo m p k r)
leads_by m p k symbols n None state symbol e at h = λ r leads.
    h (subst (IsState m) (one_element (next_place m (number p) (number k)) m.next (number r) n leads.step.1 (element_at m p k symbols n e at)) leads.to)
leads_by m p k symbols n (Some r) state symbol e at h =
    record { from = state; step = (symbol, subst (IsElement (next_place m (number p) (number k)) m.next) h.0 (element_at m p k symbols n e at)); to = h.1 }

-- nothing stands there
pub leads_nowhere : (m : Automaton) (p k symbols : ℕ) → pos symbols ≡ m.symbols → slice_get m.next (p * symbols + k) ≡ None → (r : ℕ) → LeadsTo m p k r → ⊥
leads_nowhere m p k symbols e none r leads =
    let at = leads.step.1 in
    let same : at.0 ≡ p * symbols + k = (let first = at.1 in let here = place_is m p k symbols e in omega (arith, ints, first, here)) in
    let there : slice_get m.next (p * symbols + k) ≡ Some (number r) = subst (λ (i : ℕ). slice_get m.next i ≡ Some (number r)) same at.2 in
    absurd (cc (there, none))

-- a symbol leads to one state
leads_once : (m : Automaton) (p k r s : ℕ) → LeadsTo m p k r → LeadsTo m p k s → r ≡ s
leads_once m p k r s a b = number_same r s (one_element (next_place m (number p) (number k)) m.next (number r) (number s) a.step.1 b.step.1)

pub led_to_one : (m : Automaton) (p k next after : ℕ) (old new : ℕ → ℕ → Type 0) → LeadsTo m p k next → ((i r : ℕ) → new i r ↔ (old i r ⊎ ((i ≡ after) × (r ≡ next))))
    → (i r : ℕ) → new i r ↔ (old i r ⊎ LeadsAt m after p k i r)
led_to_one m p k next after old new leads more i r = (
  (λ h. elim ((more i r).0 h) [ inl was ↦ inl was | inr one ↦ inr (one.0, subst (LeadsTo m p k) (sym one.1) leads) ]),
  (λ h. (more i r).1 (elim h [ inl was ↦ inl was | inr one ↦ inr (one.0, leads_once m p k r next one.1 leads) ])),
)

pub led_to_none : (m : Automaton) (p k after : ℕ) (old : ℕ → ℕ → Type 0) → ((r : ℕ) → LeadsTo m p k r → ⊥) → (i r : ℕ) → old i r ↔ (old i r ⊎ LeadsAt m after p k i r)
led_to_none m p k after old none i r = ((λ h. inl h), (λ h. elim h [ inl was ↦ was | inr one ↦ absurd (none r one.1) ]))

pub leads_in_by : (m : Automaton) (layers : BitRows) (row p k next : ℕ) (b : Bool) → LeadsTo m p k next → (IsTrue b ↔ Has layers row next) → IsTrue b ↔ LeadsIn m layers row p k
leads_in_by m layers row p k next b leads has = (
  (λ t. (next, leads, has.0 t)),
  (λ w. has.1 (subst (Has layers row) (leads_once m p k w.0 next w.1 leads) w.2)),
)
