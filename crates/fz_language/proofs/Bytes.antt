-- Parts of a text, byte by byte.
use Rattle.std.proofs.Common.{◌≡◌, ℕ, ◌+◌, ◌-◌, ◌<◌, ◌≤◌, suc, Bool, true, List, [], ◌∷◌, ◌++◌, length, take, drop, get_or, IsTrue, slice_range, slice_index, refl, sym, ap, subst, ◌∙◌, append_assoc, inl, inr, arith}
use Rattle.std.specs.List.{list_all}
use Rattle.std.proofs.lemmas.Bool.{cases_lt, both_ways, and_from, true_from_ne_false}
use Rattle.std.proofs.lemmas.List.{length-take, length-drop, get_or-take, get_or-drop, drop_more, take_more}
use Rattle.std.proofs.lemmas.List.{append_cancel_right}
use Rattle.std.proofs.lemmas.List.Folds.{list_all_at, drop_split}
use Rattle.fz_grammar.proofs.Lists.{heads, tails, none_is_no_cons}

-- tests on all bytes

pub all_from : (p : ℕ → Bool) (xs : List ℕ) → ((i : ℕ) → i < length xs → p (get_or xs i 0) ≡ true) → list_all p xs ≡ true
all_from p [] h = refl
all_from p (x ∷ xs) h =
    and_from (p x) (list_all p xs) (h 0 (omega arith)) (all_from p xs (λ i l. h (suc i) (omega arith)))

pub all_at : (p : ℕ → Bool) (xs : List ℕ) (i : ℕ) → i < length xs → list_all p xs ≡ true → p (get_or xs i 0) ≡ true
all_at p xs i l h = true_from_ne_false (p (get_or xs i 0)) (λ e. both_ways (list_all p xs) (list_all_at p xs i 0 l e) h)

-- parts of a text

pub slice_length : (text : List ℕ) (start stop : ℕ) → stop ≤ length text → length (slice_range text start stop) ≡ stop - start
slice_length text start stop h = simp (length-take, length-drop) (omega arith)

pub slice_at : (text : List ℕ) (start stop k : ℕ) → start + k < stop → slice_index (slice_range text start stop) k ≡ slice_index text (start + k)
slice_at text start stop k h =
    get_or-take (stop - start) (drop start text) k 0 (omega arith) ∙ get_or-drop start text k 0

pub slice_none : (text : List ℕ) (start stop : ℕ) → stop ≤ start → slice_range text start stop ≡ []
slice_none text start stop h = let e : stop - start ≡ 0 = omega arith in rw e

pub slice_cons : (text : List ℕ) (start stop : ℕ) → start < stop → stop ≤ length text → slice_range text start stop ≡ slice_index text start ∷ slice_range text (start + 1) stop
slice_cons text start stop h w =
    let e : stop - start ≡ suc (stop - (start + 1)) = omega arith in
    let d : drop start text ≡ get_or text start 0 ∷ drop (start + 1) text = drop_more text start 0 (omega arith) in
    rw (e, d)

pub slice_more : (text : List ℕ) (start stop : ℕ) → start ≤ stop → stop < length text → slice_range text start (stop + 1) ≡ slice_range text start stop ++ slice_index text stop ∷ []
slice_more text start stop h w =
    let e : (stop + 1) - start ≡ (stop - start) + 1 = omega arith in
    let m : start + (stop - start) ≡ stop = omega arith in
    let l : stop - start < length (drop start text) = simp length-drop (omega arith) in
    rw e (take_more (drop start text) (stop - start) 0 l ∙ ap (λ x. take (stop - start) (drop start text) ++ x ∷ []) (get_or-drop start text (stop - start) 0 ∙ ap (λ n. get_or text n 0) m))

-- all bytes from one place up to another pass a test
pub all_of_slice : (p : ℕ → Bool) (text : List ℕ) (start stop : ℕ) → stop ≤ length text → ((k : ℕ) → start ≤ k → k < stop → IsTrue (p (slice_index text k))) → IsTrue (list_all p (slice_range text start stop))
all_of_slice p text start stop w h =
    all_from p (slice_range text start stop) (λ i l.
    let n = slice_length text start stop w in
    subst (λ (x : ℕ). p x ≡ true) (sym (slice_at text start stop i (omega arith))) (h (start + i) (omega arith) (omega arith)))

pub slice_all_at : (p : ℕ → Bool) (text : List ℕ) (start stop k : ℕ) → stop ≤ length text → IsTrue (list_all p (slice_range text start stop)) → start ≤ k → k < stop → IsTrue (p (slice_index text k))
slice_all_at p text start stop k w h a b =
    let n = slice_length text start stop w in
    let m : start + (k - start) ≡ k = omega arith in
    let e : slice_index (slice_range text start stop) (k - start) ≡ slice_index text k =
    slice_at text start stop (k - start) (omega arith) ∙ ap (λ i. get_or text i 0) m in
    subst (λ (x : ℕ). p x ≡ true) e (all_at p (slice_range text start stop) (k - start) (omega arith) h)

-- the first byte of a part, and the others
pub record Head (text : List ℕ) (start stop x : ℕ) (xs : List ℕ) : Type 0 where
  pub some : start < stop
  pub byte : slice_index text start ≡ x
  pub others : slice_range text (start + 1) stop ≡ xs

pub head_of : (text : List ℕ) (start stop x : ℕ) (xs : List ℕ) → stop ≤ length text → slice_range text start stop ≡ x ∷ xs → Head text start stop x xs
head_of text start stop x xs w e = elim (cases_lt start stop) [
  | inl l ↦
      let c : slice_index text start ∷ slice_range text (start + 1) stop ≡ x ∷ xs = sym (slice_cons text start stop l w) ∙ e in
      record { some = l; byte = heads _ _ _ _ c; others = tails _ _ _ _ c }
  | inr g ↦ absurd (none_is_no_cons x xs (sym (slice_none text start stop g) ∙ e))
]

pub cons_from : (text : List ℕ) (start stop x : ℕ) (xs : List ℕ) → start < stop → stop ≤ length text → slice_index text start ≡ x → slice_range text (start + 1) stop ≡ xs → slice_range text start stop ≡ x ∷ xs
cons_from text start stop x xs l w b o = slice_cons text start stop l w ∙ (λ i. b i ∷ o i)

-- two parts, one after the other
pub record Split (text : List ℕ) (start stop : ℕ) (xs ys : List ℕ) : Type 0 where
  pub mid : ℕ
  pub low : start ≤ mid
  pub high : mid ≤ stop
  pub left : slice_range text start mid ≡ xs
  pub right : slice_range text mid stop ≡ ys

pub split : (text : List ℕ) (start stop : ℕ) (xs ys : List ℕ) → start ≤ stop → stop ≤ length text → slice_range text start stop ≡ xs ++ ys → Split text start stop xs ys
split text start stop [] ys o w e = record { mid = start; low = omega arith; high = o; left = slice_none text start start (omega arith); right = e }
split text start stop (x ∷ xs) ys o w e =
    let h = head_of text start stop x (xs ++ ys) w e in
    let i = split text (start + 1) stop xs ys (omega (arith, h.some)) w h.others in
    record {
      mid = i.mid;
      low = omega (arith, i.low);
      high = i.high;
      left = cons_from text start i.mid x xs (omega (arith, i.low)) (omega (arith, i.high)) h.byte i.left;
      right = i.right;
    }

pub join : (text : List ℕ) (start mid stop : ℕ) → start ≤ mid → mid ≤ stop → slice_range text start mid ++ slice_range text mid stop ≡ slice_range text start stop
join text start mid stop a b =
    let whole : drop start text ≡ slice_range text start stop ++ drop stop text = drop_split text start stop (omega arith) in
    let left : drop start text ≡ slice_range text start mid ++ drop mid text = drop_split text start mid a in
    let right : drop mid text ≡ slice_range text mid stop ++ drop stop text = drop_split text mid stop b in
    append_cancel_right (slice_range text start mid ++ slice_range text mid stop) (slice_range text start stop) (drop stop text)
    (append_assoc (slice_range text start mid) (slice_range text mid stop) (drop stop text) ∙ sym (ap (λ (xs : List ℕ). slice_range text start mid ++ xs) right) ∙ sym left ∙ whole)
