-- What is in a box is in one of its halves.
use Rattle.std.proofs.Common.{◌≡◌, ℕ, zero, suc, ℤ, pos, inl, inr, ◌⊎◌, List, [], ◌∷◌, refl, subst, ap, arith, set, get_or, ◌<◌, length, take, ◌++◌, ◌+◌, ◌∙◌, add-one}
use Rattle.std.proofs.lemmas.Int.{ints, by_lt_z}
use Rattle.fz_sets.specs.Sets.{AreRanges, IsInSet, single}
use Rattle.fz_spec.specs.declared.term.Term.{Term}
use Rattle.fz_spec.specs.declared.term.Term.TheVariants.{Num, Var}
use Rattle.fz_spec.specs.Constraints.{term_value}
use Rattle.fz_spec.specs.Instance.{Variable, AreDeclared}
use Rattle.fz_refutes.specs.Boxes.{IsInBox, AreSets, HasEmpty, declared_box, set_at, set_of, up_to, above, low_half, high_half}
use Rattle.fz_refutes.proofs.Halves.{up_to_of, above_of, up_to_ranges, above_ranges}

pub of_empty : (box : List (List (ℤ × ℤ))) (b : List ℤ) → HasEmpty box → IsInBox box b → ⊥
of_empty [] b e i = e
of_empty (d ∷ ds) [] e i = i
of_empty (d ∷ ds) (x ∷ xs) (inl e) i = subst (λ (s : List (ℤ × ℤ)). IsInSet s x) e i.0
of_empty (d ∷ ds) (x ∷ xs) (inr e) i = of_empty ds xs e i.1

pub declared_in : (vs : List Variable) (b : List ℤ) → AreDeclared vs b → IsInBox (declared_box vs) b
declared_in [] [] i = i
declared_in [] (x ∷ xs) i = i
declared_in (v ∷ vs) [] i = i
declared_in (v ∷ vs) (x ∷ xs) i = (i.0, declared_in vs xs i.1)

pub declared_length : (vs : List Variable) (a : List ℤ) → AreDeclared vs a → length a ≡ length vs
declared_length [] [] are = refl
declared_length [] (x ∷ xs) are = absurd are
declared_length (v ∷ vs) [] are = absurd are
declared_length (v ∷ vs) (x ∷ xs) are = ap suc (declared_length vs xs are.1)

in_single : (x : ℤ) → IsInSet (single x) x
in_single x = inl (omega (arith, ints), omega (arith, ints))

pub at_variable : (box : List (List (ℤ × ℤ))) (b : List ℤ) (v : ℕ) → IsInBox box b → IsInSet (set_at box v) (term_value b (Var v))
at_variable [] [] v i = in_single (pos 0)
at_variable [] (x ∷ xs) v i = absurd i
at_variable (d ∷ ds) [] v i = absurd i
at_variable (d ∷ ds) (x ∷ xs) zero i = i.0
at_variable (d ∷ ds) (x ∷ xs) (suc v) i = at_variable ds xs v i.1

pub at_term : (box : List (List (ℤ × ℤ))) (b : List ℤ) (t : Term) → IsInBox box b → IsInSet (set_of box t) (term_value b t)
at_term box b (Num n) i = in_single n
at_term box b (Var v) i = at_variable box b v i

after_set : (box : List (List (ℤ × ℤ))) (b : List ℤ) (v : ℕ) (d : List (ℤ × ℤ)) → IsInBox box b → IsInSet d (term_value b (Var v)) → IsInBox (set box v d) b
after_set [] [] v d i j = i
after_set [] (x ∷ xs) v d i j = i
after_set (e ∷ es) [] zero d i j = absurd i
after_set (e ∷ es) [] (suc v) d i j = absurd i
after_set (e ∷ es) (x ∷ xs) zero d i j = (j, i.1)
after_set (e ∷ es) (x ∷ xs) (suc v) d i j = (i.0, after_set es xs v d i.1 j)

pub in_half : (box : List (List (ℤ × ℤ))) (b : List ℤ) (v : ℕ) (n : ℤ) → IsInBox box b → IsInBox (low_half v n box) b ⊎ IsInBox (high_half v n box) b
in_half box b v n i =
    let at = at_variable box b v i in
    by_lt_z n (term_value b (Var v))
    (λ lt. inr (after_set box b v (above n (set_at box v)) i (above_of n (set_at box v) (term_value b (Var v)) at lt)))
    (λ le. inl (after_set box b v (up_to n (set_at box v)) i (up_to_of n (set_at box v) (term_value b (Var v)) at le)))

-- ---- boxes of rising ranges

sets_after : (box : List (List (ℤ × ℤ))) (v : ℕ) (d : List (ℤ × ℤ)) → AreSets box → AreRanges d → AreSets (set box v d)
sets_after [] v d are r = are
sets_after (e ∷ es) zero d are r = (r, are.1)
sets_after (e ∷ es) (suc v) d are r = (are.0, sets_after es v d are.1 r)

pub ranges_of : (box : List (List (ℤ × ℤ))) (v : ℕ) → AreSets box → AreRanges (set_at box v)
ranges_of [] v are = omega (arith, ints)
ranges_of (e ∷ es) zero are = are.0
ranges_of (e ∷ es) (suc v) are = ranges_of es v are.1

pub ranges_of_term : (box : List (List (ℤ × ℤ))) (t : Term) → AreSets box → AreRanges (set_of box t)
ranges_of_term box (Num n) are = omega (arith, ints)
ranges_of_term box (Var v) are = ranges_of box v are

pub low_sets : (box : List (List (ℤ × ℤ))) (v : ℕ) (n : ℤ) → AreSets box → AreSets (low_half v n box)
low_sets box v n are = sets_after box v (up_to n (set_at box v)) are (up_to_ranges n (set_at box v) (ranges_of box v are))

pub high_sets : (box : List (List (ℤ × ℤ))) (v : ℕ) (n : ℤ) → AreSets box → AreSets (high_half v n box)
high_sets box v n are = sets_after box v (above n (set_at box v)) are (above_ranges n (set_at box v) (ranges_of box v are))

-- ---- empty sets, one by one

pub nil_of : (d : List (ℤ × ℤ)) → length d ≡ 0 → d ≡ []
nil_of [] e = refl
nil_of (r ∷ rs) e = absurd (omega (arith, e))

-- ---- declared sets, one by one

more : (vs : List Variable) (i : ℕ) (v d : Variable) → i < length vs → v ≡ get_or vs i d → declared_box (take i vs) ++ v.set ∷ [] ≡ declared_box (take (suc i) vs)
more [] i v d within is = absurd (omega (arith, within))
more (w ∷ ws) zero v d within is = ap (λ (u : Variable). u.set ∷ []) is
more (w ∷ ws) (suc i) v d within is = ap (λ (ss : List (List (ℤ × ℤ))). w.set ∷ ss) (more ws i v d (omega (arith, within)) is)

pub declared_more : (vs : List Variable) (i : ℕ) (v : Variable) → i < length vs → v ≡ get_or vs i v → declared_box (take i vs) ++ v.set ∷ [] ≡ declared_box (take (i + 1) vs)
declared_more vs i v within is = rw add-one (more vs i v v within is)

pub sets_more : (box : List (List (ℤ × ℤ))) (d : List (ℤ × ℤ)) → AreSets box → AreRanges d → AreSets (box ++ d ∷ [])
sets_more [] d are r = (r, tt)
sets_more (e ∷ es) d are r = (are.0, sets_more es d are.1 r)

pub declared_pushed : (vs : List Variable) (i : ℕ) (v : Variable) (box new : List (List (ℤ × ℤ))) (d : List (ℤ × ℤ)) → new ≡ box ++ d ∷ [] → box ≡ declared_box (take i vs) → d ≡ v.set
    → i < length vs → v ≡ get_or vs i v → new ≡ declared_box (take (i + 1) vs)
declared_pushed vs i v box new d pushed same is within at =
    let all = declared_more vs i v within at in
    pushed ∙ ap (λ (ss : List (List (ℤ × ℤ))). ss ++ d ∷ []) same ∙ ap (λ (e : List (ℤ × ℤ)). declared_box (take i vs) ++ e ∷ []) is ∙ all
