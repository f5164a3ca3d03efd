-- Bytes that move in pieces.
use Rattle.std.proofs.Common.{◌≡◌, ℕ, ◌+◌, ◌≤◌, List, [], ◌∷◌, ◌++◌, length, take, drop, Option, None, Some, IfSome, refl, ap, ◌∙◌, sym, arith, append_assoc, append-nil, ◌-◌, length-drop}
use Rattle.std.proofs.Math.Seq.{take-add}
use Rattle.std.proofs.lemmas.List.{drop-drop, take_all}
use Rattle.fz_io.specs.Outside.{with_more, without, Reads}
use Rattle.fz_io.specs.Whole.{AllRead}

pub with_two : (t : Option (List ℕ)) (i n : ℕ) (p : List ℕ) → with_more (with_more t (take i p)) (take n (drop i p)) ≡ with_more t (take (i + n) p)
with_two None i n p = refl
with_two (Some t) i n p = ap Some (append_assoc t (take i p) (take n (drop i p)) ∙ ap (λ u. t ++ u) (sym (take-add i n p)))

pub without_two : (t : Option (List ℕ)) (i n : ℕ) → without (without t i) n ≡ without t (i + n)
without_two None i n = refl
without_two (Some t) i n = ap Some (drop-drop n i t)

pub rest_of : (i : ℕ) (p : List ℕ) → take (length p - i) (drop i p) ≡ drop i p
rest_of i p = take_all (length p - i) (drop i p) (omega (arith, length-drop i p))

pub moved : (n : ℕ) (left after : Option (List ℕ)) (buffer : List ℕ) → Reads n left after buffer → after ≡ without left n
moved n None after buffer r = r
moved n (Some b) after buffer r = r.rest

empty_of_length : (xs : List ℕ) → length xs ≡ 0 → xs ≡ []
empty_of_length [] h = refl
empty_of_length (x ∷ xs) h = absurd (omega arith)

-- the end of what was left was reached after these bytes
pub read_end : (limit : ℕ) (left after : Option (List ℕ)) (got buffer : List ℕ) → length got ≤ limit
    → IfSome left (λ b. b ≡ got ++ drop (length got) b) → Reads 0 (without left (length got)) after buffer → AllRead limit got left after
read_end limit None after got buffer small front r = record { within = small; all = tt; none = tt; untold = r }
read_end limit (Some b) after got buffer small front r =
    let none : drop (length got) b ≡ [] = empty_of_length (drop (length got) b) (r.end.0 refl) in
    record {
      within = small;
      all = sym (front ∙ ap (λ u. got ++ u) none ∙ append-nil got);
      none = r.rest ∙ ap (λ u. Some (drop 0 u)) none;
      untold = tt;
    }
