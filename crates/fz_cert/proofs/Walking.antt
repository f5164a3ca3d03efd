-- The boxes that a walk has left.
use Rattle.std.proofs.Common.{◌≡◌, ℕ, zero, suc, ◌<◌, Bool, true, false, List, [], ◌∷◌, ◌++◌, refl, sym, ap, subst, ◌∙◌, arith, length, set, reverse}
use Rattle.std.specs.Prelude.{ℤ}
use Rattle.std.proofs.lemmas.List.{reverse-append}
use Rattle.fz_cert.specs.declared.walk.Turn.{Turn}
use Rattle.fz_refutes.specs.Boxes.{set_at, up_to, above, high_half}
use Rattle.fz_cert.specs.Walks.{boxes_left, boxes_behind, AreTurns, IsPlace, IsSplitAt}

pub set_twice : (box : List (List (ℤ × ℤ))) (v : ℕ) (d e : List (ℤ × ℤ)) → set (set box v d) v e ≡ set box v e
set_twice [] v d e = refl
set_twice (s ∷ ss) zero d e = refl
set_twice (s ∷ ss) (suc v) d e = ap (λ (ts : List (List (ℤ × ℤ))). s ∷ ts) (set_twice ss v d e)

pub set_same : (box : List (List (ℤ × ℤ))) (v : ℕ) → set box v (set_at box v) ≡ box
set_same [] v = refl
set_same (s ∷ ss) zero = refl
set_same (s ∷ ss) (suc v) = ap (λ (ts : List (List (ℤ × ℤ))). s ∷ ts) (set_same ss v)

pub at_set : (box : List (List (ℤ × ℤ))) (v : ℕ) (d : List (ℤ × ℤ)) → v < length box → set_at (set box v d) v ≡ d
at_set [] v d within = absurd (omega (arith, within))
at_set (s ∷ ss) zero d within = refl
at_set (s ∷ ss) (suc v) d within = at_set ss v d (omega (arith, within))

pub length_set : (box : List (List (ℤ × ℤ))) (v : ℕ) (d : List (ℤ × ℤ)) → length (set box v d) ≡ length box
length_set [] v d = refl
length_set (s ∷ ss) zero d = refl
length_set (s ∷ ss) (suc v) d = ap suc (length_set ss v d)

abbrev pub turn_of : ℕ → ℤ → List (ℤ × ℤ) → Bool → Turn
turn_of v n whole high = record { variable = v; number = n; whole = whole; is_high = high }

-- a split below the others
pub split_left : (done : Bool) (box : List (List (ℤ × ℤ))) (turns : List Turn) (v : ℕ) (n : ℤ) (low whole : List (ℤ × ℤ)) → IsPlace v (boxes_left done box turns)
    → whole ≡ set_at box v → low ≡ up_to n (set_at box v) → IsSplitAt v n (boxes_left done box turns) (boxes_left done (set box v low) (turn_of v n whole false ∷ turns))
split_left true box turns v n low whole place is part = place
split_left false box turns v n low whole place is part =
    let back : set (set box v low) v whole ≡ box = set_twice box v low whole ∙ ap (λ (d : List (ℤ × ℤ)). set box v d) is ∙ set_same box v in
    rw (back, part) refl

-- from the low half to the high half
pub turned : (box : List (List (ℤ × ℤ))) (turns : List Turn) (v : ℕ) (n : ℤ) (high whole : List (ℤ × ℤ)) → v < length box → high ≡ above n whole
    → set box v high ∷ boxes_behind (set box v high) (turn_of v n whole true ∷ turns) ≡ boxes_behind box (turn_of v n whole false ∷ turns)
turned box turns v n high whole within part =
    let back : set (set box v high) v whole ≡ set box v whole = set_twice box v high whole in
    let next : high_half v n (set box v whole) ≡ set box v high = set_twice box v whole (above n (set_at (set box v whole) v)) ∙ ap (λ (d : List (ℤ × ℤ)). set box v (above n d)) (at_set box v whole within) ∙ ap (λ (d : List (ℤ × ℤ)). set box v d) (sym part) in
    rw (back, next) refl

-- ---- lists with the lowest split last

pub last_first : (rest turns : List Turn) (turn : Turn) → turns ≡ rest ++ turn ∷ [] → reverse turns ≡ turn ∷ reverse rest
last_first rest turns turn is = ap reverse is ∙ reverse-append rest (turn ∷ [])

same_turn : (turn : Turn) → turn.is_high ≡ false → turn ≡ turn_of turn.variable turn.number turn.whole false
same_turn turn low = ap (λ (b : Bool). turn_of turn.variable turn.number turn.whole b) low

pub first_within : (count : ℕ) (rest turns : List Turn) (turn : Turn) → turns ≡ rest ++ turn ∷ [] → AreTurns count (reverse turns) → turn.variable < count
first_within count rest turns turn is are = (subst (AreTurns count) (last_first rest turns turn is) are).0

pub next_is : (area new : List (List (ℤ × ℤ))) (rest turns pushed : List Turn) (turn : Turn) (high : List (ℤ × ℤ)) → turns ≡ rest ++ turn ∷ [] → pushed ≡ rest ++ turn_of turn.variable turn.number turn.whole true ∷ []
    → turn.is_high ≡ false → turn.variable < length area → high ≡ above turn.number turn.whole → new ≡ set area turn.variable high
    → new ∷ boxes_behind new (reverse pushed) ≡ boxes_behind area (reverse turns)
next_is area new rest turns pushed turn high is now low within part at =
    let before : reverse turns ≡ turn_of turn.variable turn.number turn.whole false ∷ reverse rest = last_first rest turns turn is ∙ ap (λ (t : Turn). t ∷ reverse rest) (same_turn turn low) in
    let after : reverse pushed ≡ turn_of turn.variable turn.number turn.whole true ∷ reverse rest = last_first rest pushed (turn_of turn.variable turn.number turn.whole true) now in
    ap (λ (ts : List Turn). new ∷ boxes_behind new ts) after
    ∙ ap (λ (box : List (List (ℤ × ℤ))). box ∷ boxes_behind box (turn_of turn.variable turn.number turn.whole true ∷ reverse rest)) at
    ∙ turned area (reverse rest) turn.variable turn.number high turn.whole within part
    ∙ ap (boxes_behind area) (sym before)

pub split_is : (done : Bool) (box new : List (List (ℤ × ℤ))) (turns pushed : List Turn) (v : ℕ) (n : ℤ) (low whole : List (ℤ × ℤ)) → IsPlace v (boxes_left done box (reverse turns))
    → whole ≡ set_at box v → low ≡ up_to n (set_at box v) → new ≡ set box v low → pushed ≡ turns ++ turn_of v n whole false ∷ []
    → IsSplitAt v n (boxes_left done box (reverse turns)) (boxes_left done new (reverse pushed))
split_is done box new turns pushed v n low whole place is part at now =
    subst (λ (ts : List Turn). IsSplitAt v n (boxes_left done box (reverse turns)) (boxes_left done new ts)) (sym (last_first turns pushed (turn_of v n whole false) now))
    (subst (λ (b : List (List (ℤ × ℤ))). IsSplitAt v n (boxes_left done box (reverse turns)) (boxes_left done b (turn_of v n whole false ∷ reverse turns))) (sym at)
    (split_left done box (reverse turns) v n low whole place is part))

pub turns_pushed : (box new : List (List (ℤ × ℤ))) (turns pushed : List Turn) (v : ℕ) (n : ℤ) (low whole : List (ℤ × ℤ)) → v < length box → AreTurns (length box) (reverse turns)
    → new ≡ set box v low → pushed ≡ turns ++ turn_of v n whole false ∷ [] → AreTurns (length new) (reverse pushed)
turns_pushed box new turns pushed v n low whole within are at now =
    subst (λ (k : ℕ). AreTurns k (reverse pushed)) (sym (ap length at ∙ length_set box v low))
    (subst (AreTurns (length box)) (sym (last_first turns pushed (turn_of v n whole false) now)) (within, are))

pub place_within : (done : Bool) (box : List (List (ℤ × ℤ))) (turns : List Turn) (v : ℕ) → IsPlace v (boxes_left done box turns) → v < length box
place_within true box turns v place = absurd place
place_within false box turns v place = place
