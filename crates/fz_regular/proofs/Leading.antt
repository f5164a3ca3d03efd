-- The symbols that lead somewhere from each state.
use Rattle.std.proofs.Common.{◌≡◌, ℕ, ◌+◌, ◌<◌, ◌≤◌, ◌⊎◌, inl, inr, refl, sym, subst, arith}
use Rattle.std.specs.Prelude.{◌↔◌, Option, Some, None, MatchOption}
use Rattle.std.proofs.lemmas.Bool.{cases_eq}
use Rattle.fz_spec.specs.Truth.{Automaton, IsState, IsSymbol}
use Rattle.fz_regular.specs.declared.bit_rows.BitRows.{BitRows}
use Rattle.fz_regular.specs.BitRows.{Has, HasRow, IsNext}
use Rattle.fz_regular.specs.Runs.{number, LeadsTo, LeadsOn, AreLeading, automaton_of}
use Rattle.fz_regular.proofs.Gathering.{Gathered, gathered_all}

-- ---- an automaton by its states and steps

leads_as : (m : Automaton) (p k r : ℕ) → LeadsTo (automaton_of m.states m.symbols m.next) p k r ↔ LeadsTo m p k r
leads_as m p k r = ((λ h. record { from = h.from; step = h.step; to = h.to }), (λ h. record { from = h.from; step = h.step; to = h.to }))

pub next_by : (m : Automaton) (p k : ℕ) (o : Option ℕ)
    → MatchOption o ((r : ℕ) → LeadsTo (automaton_of m.states m.symbols m.next) p k r → ⊥) (λ r. LeadsTo (automaton_of m.states m.symbols m.next) p k r)
    → MatchOption o ((r : ℕ) → LeadsTo m p k r → ⊥) (λ r. LeadsTo m p k r)
next_by m p k None h = λ r leads. h r ((leads_as m p k r).1 leads)
next_by m p k (Some r) h = (leads_as m p k r).0 h

pub leading_by : (m : Automaton) (b : BitRows) → AreLeading (automaton_of m.states m.symbols m.next) b → AreLeading m b
leading_by m b h = record {
  rows = h.rows;
  symbols = λ p k state. (
    (λ has. let w = (h.symbols p k state).0 has in (w.0, (leads_as m p k w.0).0 w.1)),
    (λ w. (h.symbols p k state).1 (w.0, (leads_as m p k w.0).1 w.1)),
  );
}

-- ---- the row of a state

pub next_self : (H : ℕ → Type 0) (s : ℕ) → H s → IsNext H s s
next_self H s has = record { at_least = omega arith; has = has; first = λ j above below is. absurd (omega (arith, above, below)) }

pub row_all : (m : Automaton) (state symbol count : ℕ) (old now : ℕ → ℕ → Type 0) → ((k : ℕ) → IsSymbol m (number k) ↔ (k < count)) → count ≤ symbol
    → Gathered (λ k. IsSymbol m (number k)) symbol (λ s i k. (i ≡ state) × (k ≡ s) × LeadsOn m state s) old now → (i k : ℕ) → now i k ↔ (old i k ⊎ ((i ≡ state) × LeadsOn m state k))
row_all m state symbol count old now are end h i k =
    let symbols : ℕ → Type 0 = λ j. IsSymbol m (number j) in
    let adds : ℕ → ℕ → ℕ → Type 0 = λ s a b. (a ≡ state) × (b ≡ s) × LeadsOn m state s in
    let all = gathered_all symbols adds old now symbol (λ j above is. let below = (are j).0 is in omega (arith, above, below, end)) h i k in (
      (λ has. elim (all.0 has) [ inl was ↦ inl was | inr w ↦ inr (w.2.0, subst (LeadsOn m state) (sym w.2.1) w.2.2) ]),
      (λ is. all.1 (elim is [ inl was ↦ inl was | inr w ↦ inr (k, w.1.1.step.0, (w.0, refl, w.1)) ])),
    )

-- ---- all rows

-- in the rows of the first states, so many, are the symbols that lead somewhere
abbrev pub AreLeadingTo : Automaton → ℕ → BitRows → Type 0
AreLeadingTo m state b = (i k : ℕ) → Has b i k ↔ ((i < state) × LeadsOn m i k)

pub leading_more : (m : Automaton) (old new : BitRows) (state : ℕ) → ((i k : ℕ) → Has new i k ↔ (Has old i k ⊎ ((i ≡ state) × LeadsOn m state k))) → AreLeadingTo m state old
    → AreLeadingTo m (state + 1) new
leading_more m old new state more h i k = (
  (λ has. elim ((more i k).0 has) [
    | inl was ↦ let w = (h i k).0 was in let below = w.0 in (omega (arith, below), w.1)
    | inr one ↦ let e = one.0 in (omega (arith, e), subst (λ (j : ℕ). LeadsOn m j k) (sym e) one.1)
  ]),
  (λ w. (more i k).1 (elim (cases_eq i state) [
    | inl e ↦ inr (e, subst (λ (j : ℕ). LeadsOn m j k) e w.1)
    | inr ne ↦ let below = w.0 in inl ((h i k).1 (omega (arith, below, ne), w.1))
  ])),
)

pub leading_all : (m : Automaton) (b : BitRows) (state count : ℕ) → ((p : ℕ) → IsState m (number p) ↔ (p < count)) → count ≤ state → ((p : ℕ) → p < count → HasRow b p) → AreLeadingTo m state b → AreLeading m b
leading_all m b state count are end rows h = record {
  rows = λ p is. rows p ((are p).0 is);
  symbols = λ p k is. let below = (are p).0 is in ((λ has. ((h p k).0 has).1), (λ w. (h p k).1 (omega (arith, below, end), w)));
}
