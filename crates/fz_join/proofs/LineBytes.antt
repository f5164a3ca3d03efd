-- The bytes of what is printed: none but the last of a line ends it.
use Rattle.std.proofs.Common.{◌≡◌, ℕ, zero, suc, ◌+◌, ◌/◌, ◌%◌, ◌<◌, ◌≤◌, Bool, true, false, cond, eqb, ltb, List, [], ◌∷◌, ◌++◌, map, length, flat_map, codes, decimal, pos, negsuc, ℤ, refl, arith, ltb-true}
use Rattle.std.specs.Fmt.{digits, digits_onto, digit_glyph, signed_decimal}
use Rattle.std.specs.List.{AllByRecursion}
use Rattle.std.specs.Ordering.{int_eq}
use Rattle.fz_sets.proofs.Lists.{all_both}
use Rattle.fz_spec.specs.declared.kind.Kind.{Kind}
use Rattle.fz_spec.specs.declared.kind.Kind.TheVariants as kinds
use Rattle.fz_spec.specs.declared.term.Term.{Term}
use Rattle.fz_spec.specs.Constraints.{term_value}
use Rattle.fz_spec.specs.Instance.{Output}
use Rattle.fz_spec.specs.Run.{value_text, comma_separated, range_text, values_text, shape_text, output_text}
use Rattle.fz_tree.specs.declared.decision.Comparison.{Comparison}
use Rattle.fz_tree.specs.declared.decision.Comparison.TheVariants.{Equal, NotEqual, AtMost, Above}
use Rattle.fz_tree.specs.declared.decision.Decision.{Decision}
use Rattle.fz_part.specs.Texts.{sign_of, decision_text, later_text, part_text}
use Rattle.fz_join.specs.Joins.{IsName}
use Rattle.fz_join.specs.Joining.{IsLine}

-- each byte is above this one
abbrev pub AreAbove : ℕ → List ℕ → Type 0
AreAbove k bytes = AllByRecursion (λ byte. k < byte) bytes

pub both_above : (k : ℕ) (front rest : List ℕ) → AreAbove k front → AreAbove k rest → AreAbove k (front ++ rest)
both_above k front rest f r = all_both (λ byte. k < byte) front rest f r

pub above_lower : (j k : ℕ) (bytes : List ℕ) → j ≤ k → AreAbove k bytes → AreAbove j bytes
above_lower j k [] low above = tt
above_lower j k (b ∷ bs) low above = (let high = above.0 in omega (arith, low, high), above_lower j k bs low above.1)

pub above_line : (k : ℕ) (bytes : List ℕ) → 10 ≤ k → AreAbove k bytes → IsLine bytes
above_line k [] low above = tt
above_line k (b ∷ bs) low above = (λ same. let high = above.0 in omega (arith, low, high, same), above_line k bs low above.1)

-- of a text that is known
abbrev are_above : ℕ → List ℕ → Bool
are_above k [] = true
are_above k (b ∷ bs) = cond (ltb k b) (are_above k bs) false

pub known_above : (k : ℕ) (bytes : List ℕ) → are_above k bytes ≡ true → AreAbove k bytes
known_above k [] are = tt
known_above k (b ∷ bs) are = by (ltb k b) refl (known_above k bs) are
  where
    by : (t : Bool) → ltb k b ≡ t → (are_above k bs ≡ true → AreAbove k bs) → cond t (are_above k bs) false ≡ true → AreAbove k (b ∷ bs)
    by true is rest all = (ltb-true k b is, rest all)
    by false is rest all = absurd (cc (all))

-- ---- decimals

glyph_above : (t : Bool) (d : ℕ) → 47 < cond t (48 + d) (87 + d)
glyph_above true d = omega arith
glyph_above false d = omega arith

onto_above : (k n : ℕ) (bytes : List ℕ) → AreAbove 47 bytes → AreAbove 47 (digits_onto k 10 false n bytes)
onto_above zero n bytes above = above
onto_above (suc k) n bytes above = let more : AreAbove 47 (digit_glyph false (n % 10) ∷ bytes) = (glyph_above (ltb (n % 10) 10) (n % 10), above) in
    either (eqb (n / 10) 0) _ _ more (onto_above k (n / 10) _ more)
  where
    either : (t : Bool) (xs ys : List ℕ) → AreAbove 47 xs → AreAbove 47 ys → AreAbove 47 (cond t xs ys)
    either true xs ys p q = p
    either false xs ys p q = q

pub decimal_above : (n : ℕ) → AreAbove 47 (decimal n)
unfolding digits
decimal_above n = onto_above 64 n [] tt

pub signed_above : (n : ℤ) → AreAbove 44 (signed_decimal n)
signed_above (pos n) = above_lower 44 47 (decimal n) (omega arith) (decimal_above n)
signed_above (negsuc n) = (omega arith, above_lower 44 47 (decimal (suc n)) (omega arith) (decimal_above (suc n)))

printed_decimal : (n : ℕ) → AreAbove 31 (decimal n)
printed_decimal n = above_lower 31 47 (decimal n) (omega arith) (decimal_above n)

printed_signed : (n : ℤ) → AreAbove 31 (signed_decimal n)
printed_signed n = above_lower 31 44 (signed_decimal n) (omega arith) (signed_above n)

-- ---- output items

value_above : (kind : Kind) (x : ℤ) → AreAbove 31 (value_text kind x)
value_above kinds.Bool x = either (int_eq x (pos 0))
  where
    either : (t : Bool) → AreAbove 31 (cond t (codes "false") (codes "true"))
    either true = known_above 31 (codes "false") refl
    either false = known_above 31 (codes "true") refl
value_above kinds.Int x = printed_signed x

commas_above : (f : Term → List ℕ) → ((t : Term) → AreAbove 31 (f t)) → (ts : List Term) → AreAbove 31 (comma_separated (map f ts))
commas_above f each [] = tt
commas_above f each (t ∷ []) = each t
commas_above f each (t ∷ u ∷ us) = both_above 31 (f t ++ codes ", ") _ (both_above 31 (f t) (codes ", ") (each t) (known_above 31 (codes ", ") refl)) (commas_above f each (u ∷ us))

values_above : (a : List ℤ) (o : Output) → AreAbove 31 (values_text a o)
values_above a o = commas_above (λ t. value_text o.kind (term_value a t)) (λ t. value_above o.kind (term_value a t)) o.terms

ranges_above : (shape : List (ℤ × ℤ)) → AreAbove 31 (flat_map (λ (r : ℤ × ℤ). range_text r ++ codes ", ") shape)
ranges_above [] = tt
ranges_above (r ∷ rs) = both_above 31 (range_text r ++ codes ", ") _ (both_above 31 (range_text r) (codes ", ") range (known_above 31 (codes ", ") refl)) (ranges_above rs)
  where
    range : AreAbove 31 (range_text r)
    range = both_above 31 (signed_decimal r.0 ++ codes "..") (signed_decimal r.1) (both_above 31 (signed_decimal r.0) (codes "..") (printed_signed r.0) (known_above 31 (codes "..") refl)) (printed_signed r.1)

shape_above : (shape : List (ℤ × ℤ)) → AreAbove 31 (shape_text shape)
shape_above shape = both_above 31 (codes "array" ++ decimal (length shape) ++ codes "d(" ++ flat_map (λ (r : ℤ × ℤ). range_text r ++ codes ", ") shape) (codes "[")
    (both_above 31 (codes "array" ++ decimal (length shape) ++ codes "d(") (flat_map (λ (r : ℤ × ℤ). range_text r ++ codes ", ") shape)
    (both_above 31 (codes "array" ++ decimal (length shape)) (codes "d(") (both_above 31 (codes "array") (decimal (length shape)) (known_above 31 (codes "array") refl) (printed_decimal (length shape))) (known_above 31 (codes "d(") refl))
    (ranges_above shape))
    (known_above 31 (codes "[") refl)

output_above : (a : List ℤ) (o : Output) → AreAbove 31 (output_text a o)
output_above a o = either o.array _ _ (both_above 31 (shape_text o.shape ++ values_text a o) (codes "])") (both_above 31 (shape_text o.shape) (values_text a o) (shape_above o.shape) (values_above a o)) (known_above 31 (codes "])") refl)) (values_above a o)
  where
    either : (t : Bool) (xs ys : List ℕ) → AreAbove 31 xs → AreAbove 31 ys → AreAbove 31 (cond t xs ys)
    either true xs ys p q = p
    either false xs ys p q = q

-- the line of an item without its end
abbrev pub item_text : List ℤ → Output → List ℕ
item_text a o = o.name ++ codes " = " ++ output_text a o ++ codes ";"

pub item_line : (a : List ℤ) (o : Output) → IsName o.name → IsLine (item_text a o)
item_line a o named = above_line 31 (item_text a o) (omega arith)
    (both_above 31 (o.name ++ codes " = " ++ output_text a o) (codes ";") (both_above 31 (o.name ++ codes " = ") (output_text a o) (both_above 31 o.name (codes " = ") (above_lower 31 47 o.name (omega arith) named) (known_above 31 (codes " = ") refl)) (output_above a o)) (known_above 31 (codes ";") refl))

-- ---- parts

sign_above : (comparison : Comparison) → AreAbove 32 (sign_of comparison)
sign_above Equal = known_above 32 (codes "=") refl
sign_above NotEqual = known_above 32 (codes "!=") refl
sign_above AtMost = known_above 32 (codes "<=") refl
sign_above Above = known_above 32 (codes ">") refl

decision_above : (d : Decision) → AreAbove 32 (decision_text d)
decision_above d = both_above 32 (decimal d.variable) _ (above_lower 32 47 (decimal d.variable) (omega arith) (decimal_above d.variable))
    (both_above 32 (sign_of d.comparison) _ (sign_above d.comparison) (above_lower 32 44 (signed_decimal d.value) (omega arith) (signed_above d.value)))

later_above : (ds : List Decision) → AreAbove 32 (flat_map later_text ds)
later_above [] = tt
later_above (d ∷ ds) = both_above 32 (later_text d) (flat_map later_text ds) (both_above 32 (codes ",") (decision_text d) (known_above 32 (codes ",") refl) (decision_above d)) (later_above ds)

pub part_above : (p : List Decision) → AreAbove 32 (part_text p)
part_above [] = tt
part_above (d ∷ ds) = both_above 32 (decision_text d) (flat_map later_text ds) (decision_above d) (later_above ds)
