-- How many sets of a box are empty.
use Rattle.std.proofs.Common.{◌≡◌, ◌↔◌, ◌<◌, ℕ, ◌+◌, List, [], ◌∷◌, ◌++◌, length, cond, refl, ap, sym, ◌∙◌, arith, count_by, inl, inr}
use Rattle.std.specs.Prelude.{ℤ}
use Rattle.std.proofs.lemmas.List.Sums.{sum_by-append, sum_by-cons}
use Rattle.fz_refutes.specs.Boxes.{HasEmpty}
use Rattle.fz_cert.specs.Areas.{has_no_number}

with_empty : (box : List (List (ℤ × ℤ))) → count_by has_no_number ([] ∷ box) ≡ 1 + count_by has_no_number box
with_empty box = sum_by-cons (λ (d : List (ℤ × ℤ)). cond (has_no_number d) 1 0) [] box

with_full : (r : ℤ × ℤ) (rs : List (ℤ × ℤ)) (box : List (List (ℤ × ℤ))) → count_by has_no_number ((r ∷ rs) ∷ box) ≡ count_by has_no_number box
with_full r rs box =
    let same : count_by has_no_number ((r ∷ rs) ∷ box) ≡ 0 + count_by has_no_number box = sum_by-cons (λ (d : List (ℤ × ℤ)). cond (has_no_number d) 1 0) (r ∷ rs) box in
    omega (arith, same)

pub some_is_empty : (box : List (List (ℤ × ℤ))) → (0 < count_by has_no_number box) ↔ HasEmpty box
some_is_empty [] = ((λ l. let none : count_by has_no_number [] ≡ 0 = refl in absurd (omega (arith, l, none))), (λ e. absurd e))
some_is_empty ([] ∷ box) = ((λ l. inl refl), (λ e. let one = with_empty box in omega (arith, one)))
some_is_empty ((r ∷ rs) ∷ box) =
    let same = with_full r rs box in
    ((λ l. inr ((some_is_empty box).0 (omega (arith, l, same)))), (λ e. elim e [ inl is ↦ absurd (cc (is)) | inr more ↦ let some = (some_is_empty box).1 more in omega (arith, some, same) ]))

full_pushed : (box : List (List (ℤ × ℤ))) (d : List (ℤ × ℤ)) → (length d ≡ 0 → ⊥) → count_by has_no_number (box ++ d ∷ []) ≡ count_by has_no_number box
full_pushed box [] some = absurd (some refl)
full_pushed box (r ∷ rs) some =
    let all = sum_by-append (λ (d : List (ℤ × ℤ)). cond (has_no_number d) 1 0) box ((r ∷ rs) ∷ []) in
    let last : count_by has_no_number ((r ∷ rs) ∷ []) ≡ 0 = with_full r rs [] in
    all ∙ omega (arith, last)

empty_pushed : (box : List (List (ℤ × ℤ))) (d : List (ℤ × ℤ)) → length d ≡ 0 → count_by has_no_number (box ++ d ∷ []) ≡ count_by has_no_number box + 1
empty_pushed box [] none =
    let all = sum_by-append (λ (d : List (ℤ × ℤ)). cond (has_no_number d) 1 0) box ([] ∷ []) in
    let last : count_by has_no_number ([] ∷ []) ≡ 1 = with_empty [] in
    all ∙ omega (arith, last)
empty_pushed box (r ∷ rs) none = absurd (omega (arith, none))

pub empty_counted : (box new : List (List (ℤ × ℤ))) (d : List (ℤ × ℤ)) (n m : ℕ) → new ≡ box ++ d ∷ [] → n ≡ count_by has_no_number box → m ≡ n + 1 → length d ≡ 0 → m ≡ count_by has_no_number new
empty_counted box new d n m pushed count more none = more ∙ ap (λ k. k + 1) count ∙ sym (empty_pushed box d none) ∙ ap (count_by has_no_number) (sym pushed)

pub full_counted : (box new : List (List (ℤ × ℤ))) (d : List (ℤ × ℤ)) (n m : ℕ) → new ≡ box ++ d ∷ [] → n ≡ count_by has_no_number box → m ≡ n → (length d ≡ 0 → ⊥) → m ≡ count_by has_no_number new
full_counted box new d n m pushed count same some = same ∙ count ∙ sym (full_pushed box d some) ∙ ap (count_by has_no_number) (sym pushed)
