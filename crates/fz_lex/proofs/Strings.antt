-- Strings at a place.
use Rattle.std.proofs.Common.{◌≡◌, ◌≢◌, ℕ, ◌+◌, ◌<◌, ◌≤◌, ◌⊎◌, List, [], ◌∷◌, length, slice_index, slice_range, subst, sym, ap, ◌∙◌, refl, inl, inr, arith}
use Rattle.std.proofs.lemmas.Bool.{cases_lt}
use Rattle.fz_language.specs.Tokens.{IsInside, Closes, Goes, Takes, IsText}
use Rattle.fz_language.proofs.Bytes.{head_of, cons_from, slice_none, slice_cons}
use Rattle.fz_lex.specs.Steps.{HasNone, StepsInside}
use Rattle.fz_lex.proofs.Runs.{two}

-- how a string goes on after its quote
abbrev Went : ℕ → List ℕ → Type 0
Went b bs = ((b ≡ 34) × (bs ≡ [])) ⊎ (((b ≢ 34) × (b ≢ 92) × (b ≢ 10) × IsInside bs) ⊎ ((b ≡ 92) × ((c : ℕ) × (cs : List ℕ) × (bs ≡ c ∷ cs) × (c ≢ 10) × IsInside cs)))

abbrev Went_on : List ℕ → Type 0
Went_on [] = ⊥
Went_on (b ∷ bs) = Went b bs

went : (bs : List ℕ) → IsInside bs → Went_on bs
went bs Closes = inl (refl, refl)
went bs (Goes b rest q n l i) = inr (inl (q, n, l, i))
went bs (Takes b rest l i) = inr (inr (refl, (b, rest, refl, l, i)))

at_once : (text : List ℕ) (at end : ℕ) → end ≤ length text → IsInside (slice_range text at end) → (at < end) × Went (slice_index text at) (slice_range text (at + 1) end)
at_once text at end w i = elim (cases_lt at end) [
  | inl l ↦ (l, went (slice_index text at ∷ slice_range text (at + 1) end) (subst IsInside (slice_cons text at end l w) i))
  | inr g ↦ absurd (went [] (subst IsInside (slice_none text at end g) i))
]

-- a quote ends it
pub closes_at : (text : List ℕ) (at : ℕ) → at < length text → slice_index text at ≡ 34 → IsInside (slice_range text at (at + 1))
closes_at text at w q = subst IsInside (sym (cons_from text at (at + 1) 34 [] (omega arith) (omega arith) q (slice_none text (at + 1) (at + 1) (omega arith)))) Closes

some_is_none : (x : ℕ) (xs : List ℕ) → x ∷ xs ≡ [] → ⊥
some_is_none x xs e = cc

pub closes_only : (text : List ℕ) (at end : ℕ) → end ≤ length text → slice_index text at ≡ 34 → IsInside (slice_range text at end) → end ≤ at + 1
closes_only text at end w q i =
    let h = at_once text at end w i in
    elim h.1 [
      | inl s ↦ elim (cases_lt (at + 1) end) [
        | inl l ↦ absurd (some_is_none _ _ (sym (slice_cons text (at + 1) end l w) ∙ s.1))
        | inr g ↦ g
      ]
      | inr r ↦ elim r [
        | inl s ↦ absurd (s.0 q)
        | inr s ↦ absurd (let e : 34 ≡ 92 = sym q ∙ s.0 in omega (arith, e))
      ]
    ]

pub none_at_end : (text : List ℕ) (at : ℕ) → length text ≤ at → HasNone IsInside text at
none_at_end text at g end w i = let h = at_once text at end w i in omega (arith, h.0)

pub none_at_line : (text : List ℕ) (at : ℕ) → slice_index text at ≡ 10 → HasNone IsInside text at
none_at_line text at q end w i =
    let h = at_once text at end w i in
    elim h.1 [
      | inl s ↦ let e : 10 ≡ 34 = sym q ∙ s.0 in omega (arith, e)
      | inr r ↦ elim r [ inl s ↦ s.2 q | inr s ↦ let e : 10 ≡ 92 = sym q ∙ s.0 in omega (arith, e) ]
    ]

pub plain_step : (text : List ℕ) (at : ℕ) → at < length text → slice_index text at ≢ 34 → slice_index text at ≢ 10 → slice_index text at ≢ 92 → StepsInside text at (at + 1)
plain_step text at l q n b = record {
  some = omega arith;
  within = omega arith;
  goes = λ end w i.
      let h = at_once text at end w i in
      elim h.1 [ inl s ↦ absurd (q s.0) | inr r ↦ elim r [ inl s ↦ s.3 | inr s ↦ absurd (b s.0) ] ];
  comes = λ end w i.
      let h = at_once text (at + 1) end w i in
      subst IsInside (sym (slice_cons text at end (omega (arith, h.0)) w)) (Goes (slice_index text at) (slice_range text (at + 1) end) q b n i);
}

-- after a backslash
pub taken : (text : List ℕ) (at end : ℕ) → end ≤ length text → slice_index text at ≡ 92 → slice_index text at ≢ 34 → IsInside (slice_range text at end)
    → (at + 1 < end) × (slice_index text (at + 1) ≢ 10) × IsInside (slice_range text (at + 2) end)
taken text at end w b q i =
    let h = at_once text at end w i in
    elim h.1 [
      | inl s ↦ absurd (q s.0)
      | inr r ↦ elim r [
        | inl s ↦ absurd (s.1 b)
        | inr s ↦
            let k = head_of text (at + 1) end s.1.0 s.1.1 w s.1.2 in (
              k.some,
              λ e. s.1.3 (sym k.byte ∙ e),
              subst (λ (n : ℕ). IsInside (slice_range text n end)) (two at) (subst IsInside (sym k.others) s.1.4),
            )
      ]
    ]

pub none_at_last : (text : List ℕ) (at : ℕ) → at + 1 ≡ length text → slice_index text at ≡ 92 → slice_index text at ≢ 34 → HasNone IsInside text at
none_at_last text at e b q end w i = let t = taken text at end w b q i in omega (arith, t.0, e)

pub none_before_line : (text : List ℕ) (at : ℕ) → slice_index text (at + 1) ≡ 10 → slice_index text at ≡ 92 → slice_index text at ≢ 34 → HasNone IsInside text at
none_before_line text at e b q end w i = (taken text at end w b q i).1 e

pub escape_step : (text : List ℕ) (at : ℕ) → at + 1 < length text → slice_index text at ≢ 34 → slice_index text at ≡ 92 → slice_index text (at + 1) ≢ 10 → StepsInside text at (at + 2)
escape_step text at l q b n = record {
  some = omega arith;
  within = omega arith;
  goes = λ end w i. (taken text at end w b q i).2;
  comes = λ end w i.
      let h = at_once text (at + 2) end w i in
      subst IsInside (sym (cons_from text at end 92 _ (omega (arith, h.0)) w b (slice_cons text (at + 1) end (omega (arith, h.0)) w ∙ ap (λ (n : ℕ). slice_index text (at + 1) ∷ slice_range text n end) (two at))))
      (Takes (slice_index text (at + 1)) (slice_range text (at + 2) end) n i);
}

-- the whole string

pub text_from : (text : List ℕ) (at stop : ℕ) → at < stop → stop ≤ length text → slice_index text at ≡ 34 → IsInside (slice_range text (at + 1) stop) → IsText (slice_range text at stop)
text_from text at stop l w q i = (slice_range text (at + 1) stop, cons_from text at stop 34 _ l w q refl, i)

pub text_inside : (text : List ℕ) (at end : ℕ) → end ≤ length text → IsText (slice_range text at end) → IsInside (slice_range text (at + 1) end)
text_inside text at end w t = subst IsInside (sym (head_of text at end 34 t.0 w t.1).others) t.2

pub text_first : (text : List ℕ) (at end : ℕ) → end ≤ length text → IsText (slice_range text at end) → slice_index text at ≡ 34
text_first text at end w t = (head_of text at end 34 t.0 w t.1).byte
