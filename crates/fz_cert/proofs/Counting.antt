-- The loop that finds the variables of which several numbers are left, as long as their choices are few.
use Rattle.std.proofs.Common.{◌≡◌, ℕ, suc, ◌+◌, ◌<◌, ◌≤◌, List, [], sym, ap, subst, ◌∙◌, arith, length, drop, drop-cons, get_or, add-one}
use Rattle.std.specs.Prelude.{ℤ}
use Rattle.fz_refutes.specs.Refuted.{choices_of, open_after, with_open}
use Rattle.fz_refutes.proofs.Opening.{more_choices}

pub record AreFew (box : List (List (ℤ × ℤ))) (vs several : List ℕ) (i choices : ℕ) : Type 0 where
  pub found : open_after box several (drop i vs) ≡ open_after box [] vs
  pub counted : choices ≡ choices_of box several
  pub few : choices ≤ 256

next_of : (box : List (List (ℤ × ℤ))) (vs found : List ℕ) (i v : ℕ) → i < length vs → v ≡ get_or vs i v → open_after box found (drop i vs) ≡ open_after box (with_open box found v) (drop (i + 1) vs)
next_of box vs found i v within is =
    ap (open_after box found) (drop-cons vs i v within) ∙ ap (λ (u : ℕ). open_after box (with_open box found u) (drop (suc i) vs)) (sym is) ∙ ap (λ (k : ℕ). open_after box (with_open box found v) (drop k vs)) (sym (add-one i))

pub too_many : (box : List (List (ℤ × ℤ))) (vs old new : List ℕ) (i before after v : ℕ) → AreFew box vs old i before → i < length vs → v ≡ get_or vs i v
    → new ≡ with_open box old v → after ≡ choices_of box new → 256 < after → choices_of box (open_after box [] vs) ≤ 256 → ⊥
too_many box vs old new i before after v so_far within is added counted many few =
    let rest = more_choices box new (drop (i + 1) vs) in
    let whole : open_after box new (drop (i + 1) vs) ≡ open_after box [] vs =
    ap (λ (ws : List ℕ). open_after box ws (drop (i + 1) vs)) added ∙ sym (next_of box vs old i v within is) ∙ so_far.found in
    let least : choices_of box new ≤ choices_of box (open_after box [] vs) = subst (λ (ws : List ℕ). choices_of box new ≤ choices_of box ws) whole rest in
    omega (arith, counted, many, few, least)
