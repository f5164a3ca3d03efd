-- Layers of states, forward and backward.
use Rattle.std.proofs.Common.{◌≡◌, ℕ, zero, suc, ◌+◌, ◌-◌, ◌<◌, ◌≤◌, ◌⊎◌, inl, inr, refl, sym, subst, ◌∙◌, arith, length}
use Rattle.std.specs.Prelude.{◌↔◌}
use Rattle.std.proofs.lemmas.Bool.{cases_eq}
use Rattle.fz_spec.specs.Truth.{Automaton, IsState}
use Rattle.fz_regular.specs.declared.bit_rows.BitRows.{BitRows}
use Rattle.fz_regular.specs.BitRows.{Has, HasRow, IsNext}
use Rattle.fz_regular.specs.Layers.{FitsStates, AreReached, AreEnding, LedAt, Leads, LeadsIn, SupportsAt}
use Rattle.fz_regular.specs.Runs.{number, LeadsTo, IsReached, IsAccepting, CanEnd, IsOnTheWay}
use Rattle.fz_regular.proofs.Gathering.{Gathered, Filtered, filtered_after}

-- rows of the same size
pub record AreAlike (b c : BitRows) : Type 0 where
  pub width : c.width ≡ b.width
  pub size : length c.words.items ≡ length b.words.items

pub alike_self : (b : BitRows) → AreAlike b b
alike_self b = record { width = refl; size = refl }

pub alike_twice : (b c d : BitRows) → AreAlike b c → AreAlike c d → AreAlike b d
alike_twice b c d p q = record { width = q.width ∙ p.width; size = q.size ∙ p.size }

pub row_alike : (b c : BitRows) (i : ℕ) → AreAlike b c → HasRow b i → HasRow c i
row_alike b c i alike row = rw (alike.width, alike.size) row

pub fits_alike : (automaton : Automaton) (b c : BitRows) → AreAlike b c → FitsStates automaton b → FitsStates automaton c
fits_alike automaton b c alike fits k state = rw alike.width (fits k state)

-- a row that is the same in both
abbrev pub IsSameRow : BitRows → BitRows → ℕ → Type 0
IsSameRow old now row = (k : ℕ) → Has now row k ↔ Has old row k

-- what is added to another row leaves this one
pub same_before : (old now : BitRows) (row other from : ℕ) (m : Automaton) (values : BitRows) → (row ≡ other → ⊥) → Gathered (Has old row) from (LedAt m values row other) (Has old) (Has now) → IsSameRow old now row
same_before old now row other from m values differ h k = (
  (λ is. elim ((h row k).0 is) [ inl was ↦ was | inr w ↦ absurd (differ w.3.0) ]),
  (λ was. (h row k).1 (inl was)),
)

pub next_same : (old now : BitRows) (row from s : ℕ) → IsSameRow old now row → IsNext (Has now row) from s → IsNext (Has old row) from s
next_same old now row from s same next = record {
  at_least = next.at_least;
  has = (same s).0 next.has;
  first = λ j above below has. next.first j above below ((same j).1 has);
}

pub none_same : (old now : BitRows) (row from : ℕ) → IsSameRow old now row → ((k : ℕ) → from ≤ k → Has now row k → ⊥) → (k : ℕ) → from ≤ k → Has old row k → ⊥
none_same old now row from same none k above has = none k above ((same k).1 has)

-- of a row that is filtered the bits from one on are as before, and so are other rows
pub next_left : (old now : BitRows) (row from s : ℕ) (E : ℕ → Type 0) → Filtered row from E (Has old) (Has now) → IsNext (Has now row) from s → IsNext (Has old row) from s
next_left old now row from s E h next = record {
  at_least = next.at_least;
  has = ((h row s).0 next.has).0;
  first = λ j above below has. next.first j above below (filtered_after row from E (Has old) (Has now) h j above has);
}

pub none_left : (old now : BitRows) (row from : ℕ) (E : ℕ → Type 0) → Filtered row from E (Has old) (Has now) → ((k : ℕ) → from ≤ k → Has now row k → ⊥) → (k : ℕ) → from ≤ k → Has old row k → ⊥
none_left old now row from E h none k above has = none k above (filtered_after row from E (Has old) (Has now) h k above has)

pub leads_in_same : (m : Automaton) (values old now : BitRows) (place after from p : ℕ) → (after ≡ place → ⊥) → Filtered place from (Leads m values old place after) (Has old) (Has now)
    → (k : ℕ) → LeadsIn m now after p k ↔ LeadsIn m old after p k
leads_in_same m values old now place after from p differ h k = (
  (λ w. (w.0, w.1, ((h after w.0).0 w.2).0)),
  (λ w. (w.0, w.1, (h after w.0).1 (w.2, λ e. absurd (differ e)))),
)

pub leads_same : (m : Automaton) (values old now : BitRows) (place after from p : ℕ) → (after ≡ place → ⊥) → Filtered place from (Leads m values old place after) (Has old) (Has now)
    → Leads m values now place after p ↔ Leads m values old place after p
leads_same m values old now place after from p differ h = (
  (λ w. (w.0, w.1, (leads_in_same m values old now place after from p differ h w.0).0 w.2)),
  (λ w. (w.0, w.1, (leads_in_same m values old now place after from p differ h w.0).1 w.2)),
)

pub reached_state : (automaton : Automaton) (Allows : ℕ → ℕ → Type 0) (i p : ℕ) → IsReached automaton Allows i p → IsState automaton (number p)
reached_state automaton Allows zero p h = h.1
reached_state automaton Allows (suc i) p h = h.4.to

-- ---- forward

-- before the first places, so many, stand the states that are reached
abbrev pub AreReachedTo : Automaton → BitRows → ℕ → BitRows → Type 0
AreReachedTo automaton values place layers = (i p : ℕ) → Has layers i p ↔ ((i ≤ place) × IsReached automaton (Has values) i p)

pub reached_more : (automaton : Automaton) (values old new : BitRows) (place : ℕ)
    → ((i r : ℕ) → Has new i r ↔ (Has old i r ⊎ ((p : ℕ) × Has old place p × LedAt automaton values place (place + 1) p i r)))
    → AreReachedTo automaton values place old → AreReachedTo automaton values (place + 1) new
reached_more automaton values old new place more h i r = (
  (λ is. elim ((more i r).0 is) [
    | inl was ↦ let w = (h i r).0 was in let below = w.0 in (omega (arith, below), w.1)
    | inr w ↦
        let e : i ≡ suc place = (let same = w.2.0 in omega (arith, same)) in
        let at = ((h place w.0).0 w.1).1 in
        let reached : IsReached automaton (Has values) (suc place) r = (w.0, w.2.1, at, w.2.2, w.2.3) in
        (omega (arith, e), subst (λ (j : ℕ). IsReached automaton (Has values) j r) (sym e) reached)
  ]),
  (λ w. (more i r).1 (elim (cases_eq i (suc place)) [
    | inl e ↦
        let reached : IsReached automaton (Has values) (suc place) r = subst (λ (j : ℕ). IsReached automaton (Has values) j r) e w.1 in
        inr (reached.0, (h place reached.0).1 (omega arith, reached.2), (omega (arith, e), reached.1, reached.3, reached.4))
    | inr ne ↦ let below = w.0 in inl ((h i r).1 (omega (arith, below, ne), w.1))
  ])),
)

-- ---- backward

pub ending_last : (automaton : Automaton) (values old new : BitRows) (places : ℕ) → AreReached automaton values places old
    → ((i p : ℕ) → Has new i p ↔ (Has old i p × ((i ≡ places) → IsAccepting automaton p))) → AreEnding automaton values places places new
ending_last automaton values old new places reached less i p inside = (
  (λ is.
      let w = (less i p).0 is in
      record {
        reached = (reached i p inside).0 w.0;
        ends = λ from.
            let e : i ≡ places = omega (arith, from, inside) in
            let none : 0 ≡ places - i = omega (arith, e) in
            subst (λ (more : ℕ). CanEnd automaton (Has values) more i p) none (w.1 e);
      }),
  (λ w. (less i p).1 (
    (reached i p inside).1 w.reached,
    λ e.
        let none : places - i ≡ 0 = omega (arith, e) in
        subst (λ (more : ℕ). CanEnd automaton (Has values) more i p) none (w.ends (omega (arith, e))),
  )),
)

-- what can end from a place on, by what can after it
pub can_end_at : (automaton : Automaton) (values : BitRows) (places place p : ℕ) → place < places
    → CanEnd automaton (Has values) (places - place) place p ↔ ((k : ℕ) × (r : ℕ) × Has values place k × LeadsTo automaton p k r × CanEnd automaton (Has values) (places - suc place) (suc place) r)
can_end_at automaton values places place p inside =
    let e : places - place ≡ suc (places - suc place) = omega (arith, inside) in
    ((λ h. subst (λ (more : ℕ). CanEnd automaton (Has values) more place p) e h), (λ h. subst (λ (more : ℕ). CanEnd automaton (Has values) more place p) (sym e) h))

after : (place : ℕ) → place + 1 ≡ suc place
after place = omega arith

-- the states after a place, from which it can end
ends_after : (automaton : Automaton) (values layers : BitRows) (places place r : ℕ) → place < places → AreEnding automaton values places (place + 1) layers → Has layers (place + 1) r
    → CanEnd automaton (Has values) (places - suc place) (suc place) r
ends_after automaton values layers places place r inside h has =
    let at : Has layers (suc place) r = subst (λ (i : ℕ). Has layers i r) (after place) has in
    ((h (suc place) r (omega (arith, inside))).0 at).ends (omega arith)

has_after : (automaton : Automaton) (values layers : BitRows) (places place p k r : ℕ) → place < places → AreEnding automaton values places (place + 1) layers → IsReached automaton (Has values) place p
    → Has values place k → LeadsTo automaton p k r → CanEnd automaton (Has values) (places - suc place) (suc place) r → Has layers (place + 1) r
has_after automaton values layers places place p k r inside h reached allowed leads ends =
    let at : Has layers (suc place) r = (h (suc place) r (omega (arith, inside))).1 (record { reached = (p, k, reached, allowed, leads); ends = λ from. ends }) in
    subst (λ (i : ℕ). Has layers i r) (sym (after place)) at

pub ending_more : (automaton : Automaton) (values old new : BitRows) (places place : ℕ) → place < places
    → ((i p : ℕ) → Has new i p ↔ (Has old i p × ((i ≡ place) → Leads automaton values old place (place + 1) p)))
    → AreEnding automaton values places (place + 1) old → AreEnding automaton values places place new
ending_more automaton values old new places place small less h i p inside = (
  (λ is.
      let w = (less i p).0 is in
      let was = (h i p inside).0 w.0 in
      record {
        reached = was.reached;
        ends = λ from. elim (cases_eq i place) [
          | inl e ↦
              let l = w.1 e in
              let here : CanEnd automaton (Has values) (places - place) place p =
              (can_end_at automaton values places place p small).1 (l.0, l.2.0, l.1, l.2.1, ends_after automaton values old places place l.2.0 small h l.2.2) in
              subst (λ (j : ℕ). CanEnd automaton (Has values) (places - j) j p) (sym e) here
          | inr ne ↦ was.ends (omega (arith, from, ne))
        ];
      }),
  (λ w. (less i p).1 (
    (h i p inside).1 (record { reached = w.reached; ends = λ from. w.ends (omega (arith, from)) }),
    λ e.
        let reached : IsReached automaton (Has values) place p = subst (λ (j : ℕ). IsReached automaton (Has values) j p) e w.reached in
        let ends : CanEnd automaton (Has values) (places - place) place p = subst (λ (j : ℕ). CanEnd automaton (Has values) (places - j) j p) e (w.ends (omega (arith, e))) in
        let l = (can_end_at automaton values places place p small).0 ends in
        (l.0, l.2, (l.1, l.3, has_after automaton values old places place p l.0 l.1 small h reached l.2 l.3 l.4)),
  )),
)

-- from some place on the symbols on the way are found
abbrev pub AreSupports : Automaton → BitRows → ℕ → ℕ → BitRows → Type 0
AreSupports automaton values places from supports = (i k : ℕ) → Has supports i k ↔ ((from ≤ i) × (i < places) × IsOnTheWay automaton (Has values) places i k)

pub supports_none : (automaton : Automaton) (values supports : BitRows) (places : ℕ) → ((i k : ℕ) → Has supports i k → ⊥) → AreSupports automaton values places places supports
supports_none automaton values supports places none i k = ((λ h. absurd (none i k h)), (λ w. let above = w.0 in let below = w.1 in absurd (omega (arith, above, below))))

pub supports_more : (automaton : Automaton) (values layers old new : BitRows) (places place : ℕ) → place < places
    → ((i k : ℕ) → Has new i k ↔ (Has old i k ⊎ ((p : ℕ) × Has layers place p × SupportsAt automaton values layers place (place + 1) p i k)))
    → AreEnding automaton values places (place + 1) layers → AreSupports automaton values places (place + 1) old → AreSupports automaton values places place new
supports_more automaton values layers old new places place small more ending h i k = (
  (λ is. elim ((more i k).0 is) [
    | inl was ↦ let w = (h i k).0 was in let above = w.0 in (omega (arith, above), w.1, w.2)
    | inr w ↦
        let e = w.2.0 in
        let to = w.2.2 in
        let reached = ((ending place w.0 (omega (arith, small))).0 w.1).reached in
        let way : IsOnTheWay automaton (Has values) places place k =
        record { from = w.0; to = to.0; reached = reached; allowed = w.2.1; leads = to.1; ends = ends_after automaton values layers places place to.0 small ending to.2 } in
        (omega (arith, e), omega (arith, e, small), subst (λ (j : ℕ). IsOnTheWay automaton (Has values) places j k) (sym e) way)
  ]),
  (λ w. (more i k).1 (elim (cases_eq i place) [
    | inl e ↦
        let way : IsOnTheWay automaton (Has values) places place k = subst (λ (j : ℕ). IsOnTheWay automaton (Has values) places j k) e w.2 in
        let there = has_after automaton values layers places place way.from k way.to small ending way.reached way.allowed way.leads way.ends in
        let here = (ending place way.from (omega (arith, small))).1 (record {
          reached = way.reached;
          ends = λ from. absurd (omega (arith, from));
        }) in
        inr (way.from, here, (e, way.allowed, (way.to, way.leads, there)))
    | inr ne ↦ let above = w.0 in inl ((h i k).1 (omega (arith, above, ne), w.1, w.2))
  ])),
)

pub supports_all : (automaton : Automaton) (values supports : BitRows) (places : ℕ) → AreSupports automaton values places 0 supports
    → (i k : ℕ) → Has supports i k ↔ ((i < places) × IsOnTheWay automaton (Has values) places i k)
supports_all automaton values supports places h i k = ((λ is. let w = (h i k).0 is in (w.1, w.2)), (λ w. (h i k).1 (omega arith, w.0, w.1)))
