-- The ranges that an iterator has left.
use Rattle.std.proofs.Common.{◌≡◌, ℕ, ◌+◌, ◌<◌, ◌≤◌, ℤ, pos, ◌+ℤ◌, List, [], ◌∷◌, ◌++◌, length, refl, ap, sym, ◌∙◌, append-nil, arith}
use Rattle.std.specs.Prelude.{◌↔◌}
use Rattle.std.specs.Int.{bit_at}
use Rattle.std.proofs.lemmas.Bool.Decides.{nat_tests}
use Rattle.std.specs.Prelude.{Option, Some, None}
use Rattle.std.specs.Iterator.{MakesProgress, item_count}
use Rattle.fz_dom.specs.Places.{bit_ranges}
use Rattle.fz_dom.specs.Left.{left_of}
use Rattle.fz_dom.specs.Heads.{head_set, head_ranges, IsWhole}
use Rattle.fz_dom.specs.declared.head.Head.{Head}
use Rattle.fz_dom.proofs.Changes.{word_form, plain_form}
use Rattle.fz_dom.proofs.Kept.{nil_of}
use Rattle.fz_dom.proofs.Runs.{run_first, none_of_word}

pub no_bits : (base : ℤ) (word : ℕ) → word ≡ 0 → bit_ranges base word ≡ []
no_bits base word z = nil_of (bit_ranges base word) (none_of_word base word z)

-- what an iterator of a head has left at first
pub left_word : (h : Head) (b : ℤ) → IsWhole h → 0 < h.bits → b ≡ h.base → bit_ranges b h.bits ++ [] ≡ head_set h
left_word h b w p e = append-nil (bit_ranges b h.bits) ∙ (ap (λ (x : ℤ). bit_ranges x h.bits) e ∙ sym (word_form h w p))

pub left_plain : (h : Head) (a b base : ℤ) → h.bits ≡ 0 → 0 < h.size → a ≡ h.low → b ≡ h.high → (a, b) ∷ (bit_ranges base 0 ++ []) ≡ head_set h
left_plain h a b base z p e f = rw (no_bits base 0 refl, plain_form h z p, e, f) refl

head_none : (l h b : ℤ) (n bits : ℕ) → bits ≡ 0 → n ≡ 0 → [] ≡ head_ranges l h b n bits
head_none l h b n bits z e = grind (arith, nat_tests)

pub left_none : (h : Head) → h.bits ≡ 0 → h.size ≡ 0 → [] ≡ head_set h
left_none h z n = head_none h.low h.high h.base h.size h.bits z n

-- the first run, and what is left after it
pub left_run : (base a b : ℤ) (word rest first last : ℕ) (rs : List (ℤ × ℤ)) → first ≤ last → last < 64 → ((i : ℕ) → first ≤ i → i ≤ last → bit_at word i ≡ 1)
    → ((i : ℕ) → i < first → bit_at word i ≡ 0) → bit_at word (last + 1) ≡ 0
    → ((i : ℕ) → i < 64 → (bit_at rest i ≡ 1) ↔ ((bit_at word i ≡ 1) × (last < i))) → a ≡ (base +ℤ pos first) → b ≡ (base +ℤ pos last)
    → bit_ranges base word ++ rs ≡ (a, b) ∷ (bit_ranges base rest ++ rs)
left_run base a b word rest first last rs le below run before after f p q =
    rw (p, q) (ap (λ (l : List (ℤ × ℤ)). l ++ rs) (run_first base word rest first last le below run before after f))

-- ---- the steps of an iterator of which nothing comes first

pub step_of_word : (f : Option (ℤ × ℤ)) (base a b : ℤ) (word rest first last : ℕ) (rs d : List (ℤ × ℤ)) → f ≡ None → left_of f base word rs ≡ d
    → first ≤ last → last < 64 → ((i : ℕ) → first ≤ i → i ≤ last → bit_at word i ≡ 1)
    → ((i : ℕ) → i < first → bit_at word i ≡ 0) → bit_at word (last + 1) ≡ 0
    → ((i : ℕ) → i < 64 → (bit_at rest i ≡ 1) ↔ ((bit_at word i ≡ 1) × (last < i))) → a ≡ (base +ℤ pos first) → b ≡ (base +ℤ pos last)
    → d ≡ (a, b) ∷ left_of f base rest rs
step_of_word f base a b word rest first last rs d n v le below run before after g p q =
    sym v ∙ rw n (left_run base a b word rest first last rs le below run before after g p q)

pub step_of_list : (f : Option (ℤ × ℤ)) (base : ℤ) (word : ℕ) (rs qs d : List (ℤ × ℤ)) (x : ℤ × ℤ) → f ≡ None → left_of f base word rs ≡ d → word ≡ 0 → rs ≡ x ∷ qs
    → d ≡ x ∷ left_of f base word qs
step_of_list f base word rs qs d x n v z e = sym v ∙ rw (n, no_bits base word z, e) refl

pub no_step : (f : Option (ℤ × ℤ)) (base : ℤ) (word : ℕ) (rs d : List (ℤ × ℤ)) → f ≡ None → left_of f base word rs ≡ d → word ≡ 0 → length rs ≡ 0 → d ≡ []
no_step f base word rs d n v z l = sym v ∙ rw (n, no_bits base word z, nil_of rs l) refl

pub goes_on : (can : List (ℤ × ℤ) → Type 0) (x : ℤ × ℤ) (d e : List (ℤ × ℤ)) → can e → d ≡ x ∷ e → MakesProgress can (item_count (λ rest. rest)) d (Some x) e
goes_on can x d e c p = let l = ap length p in record { on = λ f. (c, tt, omega arith); keeps = c; rests = λ f. tt }
