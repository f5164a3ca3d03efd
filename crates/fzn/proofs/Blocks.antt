-- Two assignments print the same block exactly where their rows are equal: what is printed is split at the first byte that stands in no value.
use Rattle.std.proofs.Common.{◌≡◌, ◌≢◌, ◌∙◌, ◌≤◌, ◌<◌, ◌^◌, ◌⊎◌, inl, inr, ℕ, zero, suc, List, [], ◌∷◌, ◌++◌, length, map, drop, get_or, append_assoc, refl, sym, ap, ap₂, subst, arith, Bool, true, false, cond, Some, None, decimal, codes}
use Rattle.std.specs.Prelude.{ℤ, pos, negsuc, flat_map, unwrap_or, ◌↔◌}
use lib.Signed.{mag}
use Rattle.std.specs.Fmt.{signed_decimal}
use Rattle.std.specs.Ordering.{int_eq}
use Rattle.std.specs.List.{AllByRecursion, slice_get}
use Rattle.std.specs.Str.Parse.{AllDigits}
use Rattle.std.proofs.lemmas.Int.{ints}
use Rattle.std.proofs.lemmas.List.{length-map}
use Rattle.std.proofs.lemmas.Fmt.{signed_decimal_injective, decimal_is_IsNumeral}
use Rattle.std.proofs.lemmas.Str.Parse.{digit_from_value}
use Rattle.fz_sets.specs.Sets.{IsInSet, IsInRange, IsWithinLimits, AreWithinLimits}
use Rattle.fz_sets.proofs.Lists.{some_is}
use Rattle.fz_spec.specs.declared.kind.Kind.{Kind}
use Rattle.fz_spec.specs.declared.kind.Kind.TheVariants as kinds
use Rattle.fz_spec.specs.declared.term.Term.{Term}
use Rattle.fz_spec.specs.declared.term.Term.TheVariants.{Num, Var}
use Rattle.fz_spec.specs.Constraints.{term_value}
use Rattle.fz_spec.specs.Instance.{Instance, Variable, Output, AreDeclared}
use Rattle.fz_spec.specs.Run.{value_text, comma_separated, shape_text, values_text, output_text, line, block}
use Rattle.fz_model.specs.Kept.{IsModel, IsVariable, IsOutput, HasSetOf, IsTermOf, IsNumberOf, kind_at}
use Rattle.fz_tree.specs.Rows.{row_of}

-- ---- the bytes of a value, and what stands after one: a comma, a semicolon or a bracket

abbrev Inner : ℕ → Type 0
Inner c = (c ≢ 44) × (c ≢ 59) × (c ≢ 93)

abbrev Stops : List ℕ → Type 0
Stops [] = ⊥
Stops (c ∷ l) = (c ≡ 44) ⊎ (c ≡ 59) ⊎ (c ≡ 93)

digit : (c : ℕ) → 45 ≤ c → c ≤ 58 → Inner c
digit c low high = (λ e. omega (arith, e, low), λ e. omega (arith, e, high), λ e. omega (arith, e, high))

letter : (c : ℕ) → 94 ≤ c → Inner c
letter c low = (λ e. omega (arith, e, low), λ e. omega (arith, e, low), λ e. omega (arith, e, low))

never : (c d : ℕ) (l : List ℕ) → Inner c → c ≡ d → Stops (d ∷ l) → ⊥
never c d l inner is (inl e) = inner.0 (is ∙ e)
never c d l inner is (inr (inl e)) = inner.1 (is ∙ e)
never c d l inner is (inr (inr e)) = inner.2 (is ∙ e)

first : (c d : ℕ) (l k : List ℕ) → c ∷ l ≡ d ∷ k → c ≡ d
first c d l k e = ap (λ (l : List ℕ). get_or l 0 0) e

-- what stands before the first byte that stops is the same, and what stands from there on
split : (u v r s : List ℕ) → AllByRecursion Inner u → AllByRecursion Inner v → Stops r → Stops s → u ++ r ≡ v ++ s → (u ≡ v) × (r ≡ s)
split [] [] r s inner other stops ends e = (refl, e)
split [] (d ∷ v) [] s inner other stops ends e = absurd stops
split [] (d ∷ v) (c ∷ r) s inner other stops ends e = absurd (never d c r other.0 (sym (first c d r (v ++ s) e)) stops)
split (c ∷ u) [] r [] inner other stops ends e = absurd ends
split (c ∷ u) [] r (d ∷ s) inner other stops ends e = absurd (never c d s inner.0 (first c d (u ++ r) s e) ends)
split (c ∷ u) (d ∷ v) r s inner other stops ends e =
    let rest = split u v r s inner.1 other.1 stops ends (ap (drop 1) e) in
    (ap₂ (λ (c : ℕ) (l : List ℕ). c ∷ l) (first c d (u ++ r) (v ++ s) e) rest.0, rest.1)

three : (a b c r : List ℕ) → ((a ++ b) ++ c) ++ r ≡ a ++ (b ++ (c ++ r))
three a b c r = append_assoc (a ++ b) c r ∙ append_assoc a b (c ++ r)

four : (a b c d r : List ℕ) → (((a ++ b) ++ c) ++ d) ++ r ≡ a ++ (b ++ (c ++ (d ++ r)))
four a b c d r = append_assoc ((a ++ b) ++ c) d r ∙ three a b c (d ++ r)

-- ---- the text of a value

digits_inner : (ds : List ℕ) → AllDigits 10 ds → AllByRecursion Inner ds
digits_inner [] all = tt
digits_inner (c ∷ ds) all = let is = digit_from_value c all.0 in (digit c (omega (arith, is)) (omega (arith, is)), digits_inner ds all.1)

signed_inner : (x : ℤ) → IsWithinLimits x → AllByRecursion Inner (signed_decimal x)
signed_inner (pos n) h = digits_inner (decimal n) (decimal_is_IsNumeral n (omega (arith, ints, h.0, h.1))).0.1
signed_inner (negsuc n) h = (digit 45 (omega arith) (omega arith), digits_inner (decimal (suc n)) (decimal_is_IsNumeral (suc n) (omega (arith, ints, h.0, h.1))).0.1)

truth_inner : (b : Bool) → AllByRecursion Inner (cond b (codes "false") (codes "true"))
truth_inner true = (letter 102 (omega arith), (letter 97 (omega arith), (letter 108 (omega arith), (letter 115 (omega arith), (letter 101 (omega arith), tt)))))
truth_inner false = (letter 116 (omega arith), (letter 114 (omega arith), (letter 117 (omega arith), (letter 101 (omega arith), tt))))

value_inner : (k : Kind) (x : ℤ) → IsNumberOf k x → AllByRecursion Inner (value_text k x)
value_inner kinds.Bool x h = truth_inner (int_eq x (pos 0))
value_inner kinds.Int x h = signed_inner x h

two : (x : ℤ) → IsInRange (pos 0, pos 1) x → (x ≡ pos 0) ⊎ (x ≡ pos 1)
two (pos zero) h = inl refl
two (pos (suc zero)) h = inr refl
two (pos (suc (suc n))) h = absurd (omega (arith, ints, h.1))
two (negsuc n) h = absurd (omega (arith, ints, h.0))

apart : codes "false" ≡ codes "true" → ⊥
apart e = (let bad : 102 ≡ 116 = ap (λ (l : List ℕ). get_or l 0 0) e in omega (arith, bad))

truth_same : (x y : ℤ) → (x ≡ pos 0) ⊎ (x ≡ pos 1) → (y ≡ pos 0) ⊎ (y ≡ pos 1) → value_text kinds.Bool x ≡ value_text kinds.Bool y → x ≡ y
truth_same x y (inl p) (inl q) e = p ∙ sym q
truth_same x y (inr p) (inr q) e = p ∙ sym q
truth_same x y (inl p) (inr q) e = absurd (apart (sym (ap (value_text kinds.Bool) p) ∙ e ∙ ap (value_text kinds.Bool) q))
truth_same x y (inr p) (inl q) e = absurd (apart (sym (ap (value_text kinds.Bool) q) ∙ sym e ∙ ap (value_text kinds.Bool) p))

small : (x : ℤ) → IsWithinLimits x → mag x < 2 ^ 63
small (pos n) h = omega (arith, ints, h.1)
small (negsuc n) h = omega (arith, ints, h.0)

value_same : (k : Kind) (x y : ℤ) → IsNumberOf k x → IsNumberOf k y → value_text k x ≡ value_text k y → x ≡ y
value_same kinds.Bool x y h i e = truth_same x y (two x h) (two y i) e
value_same kinds.Int x y h i e = signed_decimal_injective x y (small x h) (small y i) e

-- ---- the value of a term

in_limits : (rs : List (ℤ × ℤ)) (x : ℤ) → AreWithinLimits rs → IsInSet rs x → IsWithinLimits x
in_limits [] x within is = absurd is
in_limits (r ∷ rs) x within (inl is) = (omega (arith, ints, within.0.0, is.0), omega (arith, ints, within.1.1, is.1))
in_limits (r ∷ rs) x within (inr is) = in_limits rs x within.2 is

in_one : (r : ℤ × ℤ) (x : ℤ) → IsInSet (r ∷ []) x → IsInRange r x
in_one r x (inl is) = is
in_one r x (inr is) = absurd is

of_kind : (k : Kind) (set : List (ℤ × ℤ)) (x : ℤ) → HasSetOf k set → IsInSet set x → IsNumberOf k x
of_kind kinds.Bool set x has is = in_one (pos 0, pos 1) x (subst (λ (s : List (ℤ × ℤ)). IsInSet s x) has is)
of_kind kinds.Int set x has is = in_limits set x has.within is

variable_is : (vs : List Variable) (k : Kind) (a : List ℤ) (v : ℕ) → AllByRecursion IsVariable vs → AreDeclared vs a → kind_at vs v ≡ Some k → IsNumberOf k (unwrap_or (slice_get a v) (pos 0))
variable_is [] k a v sets declared is = absurd (let bad : None ≡ Some k = is in cc)
variable_is (u ∷ vs) k [] v sets declared is = absurd declared
variable_is (u ∷ vs) k (x ∷ xs) zero sets declared is = subst (λ (k : Kind). IsNumberOf k x) (some_is u.kind k is) (of_kind u.kind u.set x sets.0 declared.0)
variable_is (u ∷ vs) k (x ∷ xs) (suc v) sets declared is = variable_is vs k xs v sets.1 declared.1 is

term_is : (vs : List Variable) (k : Kind) (a : List ℤ) (t : Term) → AllByRecursion IsVariable vs → AreDeclared vs a → IsTermOf vs k t → IsNumberOf k (term_value a t)
term_is vs k a (Num n) sets declared is = is
term_is vs k a (Var v) sets declared is = variable_is vs k a v sets declared is

-- ---- an item, a block

module _ (vs : List Variable) (a b : List ℤ) (sets : AllByRecursion IsVariable vs) (declared : AreDeclared vs a) (other : AreDeclared vs b) where
  abbrev text_of : Kind → List ℤ → Term → List ℕ
  text_of k a t = value_text k (term_value a t)

  inner_of : (k : Kind) (t : Term) → IsTermOf vs k t → AllByRecursion Inner (text_of k a t) × AllByRecursion Inner (text_of k b t)
  inner_of k t is = (value_inner k (term_value a t) (term_is vs k a t sets declared is), value_inner k (term_value b t) (term_is vs k b t sets other is))

  term_same : (k : Kind) (t : Term) → IsTermOf vs k t → text_of k a t ≡ text_of k b t → term_value a t ≡ term_value b t
  term_same k t is e = value_same k (term_value a t) (term_value b t) (term_is vs k a t sets declared is) (term_is vs k b t sets other is) e

  values_split : (k : Kind) (ts : List Term) (r s : List ℕ) → AllByRecursion (IsTermOf vs k) ts → Stops r → Stops s → comma_separated (map (text_of k a) ts) ++ r ≡ comma_separated (map (text_of k b) ts) ++ s
      → (map (term_value a) ts ≡ map (term_value b) ts) × (r ≡ s)
  values_split k [] r s all stops ends e = (refl, e)
  values_split k (t ∷ []) r s all stops ends e =
      let inner = inner_of k t all.0 in
      let both = split (text_of k a t) (text_of k b t) r s inner.0 inner.1 stops ends e in
      (ap (λ (x : ℤ). x ∷ []) (term_same k t all.0 both.0), both.1)
  values_split k (t ∷ u ∷ ts) r s all stops ends e =
      let inner = inner_of k t all.0 in
      let these = comma_separated (map (text_of k a) (u ∷ ts)) in
      let those = comma_separated (map (text_of k b) (u ∷ ts)) in
      let both = split (text_of k a t) (text_of k b t) (44 ∷ 32 ∷ (these ++ r)) (44 ∷ 32 ∷ (those ++ s)) inner.0 inner.1 (inl refl) (inl refl)
      (sym (three (text_of k a t) (codes ", ") these r) ∙ e ∙ three (text_of k b t) (codes ", ") those s) in
      let rest = values_split k (u ∷ ts) r s all.1 stops ends (ap (drop 2) both.1) in
      (ap₂ (λ (x : ℤ) (l : List ℤ). x ∷ l) (term_same k t all.0 both.0) rest.0, rest.1)

  -- after equal bytes
  behind : (l r s : List ℕ) → l ++ r ≡ l ++ s → r ≡ s
  behind [] r s e = e
  behind (c ∷ l) r s e = behind l r s (ap (drop 1) e)

  abbrev row : List ℤ → Output → List ℤ
  row a o = map (term_value a) o.terms

  item_split : (array : Bool) (o : Output) (r s : List ℕ) → AllByRecursion (IsTermOf vs o.kind) o.terms
      → (cond array (shape_text o.shape ++ values_text a o ++ codes "])") (values_text a o)) ++ (codes ";\n" ++ r) ≡ (cond array (shape_text o.shape ++ values_text b o ++ codes "])") (values_text b o)) ++ (codes ";\n" ++ s)
      → (row a o ≡ row b o) × (r ≡ s)
  item_split false o r s all e = let both = values_split o.kind o.terms (codes ";\n" ++ r) (codes ";\n" ++ s) all (inr (inl refl)) (inr (inl refl)) e in (both.0, ap (drop 2) both.1)
  item_split true o r s all e =
      let shape = shape_text o.shape in
      let these = codes "])" ++ (codes ";\n" ++ r) in
      let those = codes "])" ++ (codes ";\n" ++ s) in
      let both = values_split o.kind o.terms these those all (inr (inr refl)) (inr (inr refl))
      (behind shape (values_text a o ++ these) (values_text b o ++ those)
      (sym (three shape (values_text a o) (codes "])") (codes ";\n" ++ r)) ∙ e ∙ three shape (values_text b o) (codes "])") (codes ";\n" ++ s))) in
      (both.0, ap (drop 4) both.1)

  line_split : (o : Output) (r s : List ℕ) → AllByRecursion (IsTermOf vs o.kind) o.terms → line a o ++ r ≡ line b o ++ s → (row a o ≡ row b o) × (r ≡ s)
  line_split o r s all e =
      let equal = codes " = " in
      let end = codes ";\n" in
      let these = output_text a o ++ (end ++ r) in
      let those = output_text b o ++ (end ++ s) in
      item_split o.array o r s all (behind equal these those (behind o.name (equal ++ these) (equal ++ those)
      (sym (four o.name equal (output_text a o) end r) ∙ e ∙ four o.name equal (output_text b o) end s)))

  rows_split : (os : List Output) (r s : List ℕ) → AllByRecursion (IsOutput vs) os → flat_map (line a) os ++ r ≡ flat_map (line b) os ++ s → flat_map (row a) os ≡ flat_map (row b) os
  rows_split [] r s all e = refl
  rows_split (o ∷ os) r s all e =
      let both = line_split o (flat_map (line a) os ++ r) (flat_map (line b) os ++ s) all.0.terms
      (sym (append_assoc (line a o) (flat_map (line a) os) r) ∙ e ∙ append_assoc (line b o) (flat_map (line b) os) s) in
      ap₂ (λ (l k : List ℤ). l ++ k) both.0 (rows_split os r s all.1 both.1)

-- ---- equal rows print the same

abbrev texts_of : Kind → List ℤ → List (List ℕ)
texts_of k xs = map (value_text k) xs

mapped : (k : Kind) (a : List ℤ) (ts : List Term) → map (λ t. value_text k (term_value a t)) ts ≡ texts_of k (map (term_value a) ts)
mapped k a [] = refl
mapped k a (t ∷ ts) = ap (λ (l : List (List ℕ)). value_text k (term_value a t) ∷ l) (mapped k a ts)

line_by : (a b : List ℤ) (o : Output) → map (term_value a) o.terms ≡ map (term_value b) o.terms → line a o ≡ line b o
line_by a b o e =
    let values : values_text a o ≡ values_text b o = ap comma_separated (mapped o.kind a o.terms ∙ ap (texts_of o.kind) e ∙ sym (mapped o.kind b o.terms)) in
    ap (λ (l : List ℕ). o.name ++ codes " = " ++ (cond o.array (shape_text o.shape ++ l ++ codes "])") l) ++ codes ";\n") values

halves : (xs ys us vs : List ℤ) → length xs ≡ length ys → xs ++ us ≡ ys ++ vs → (xs ≡ ys) × (us ≡ vs)
halves [] [] us vs size e = (refl, e)
halves [] (y ∷ ys) us vs size e = absurd (omega (arith, size))
halves (x ∷ xs) [] us vs size e = absurd (omega (arith, size))
halves (x ∷ xs) (y ∷ ys) us vs size e =
    let rest = halves xs ys us vs (omega (arith, size)) (ap (drop 1) e) in
    (ap₂ (λ (z : ℤ) (l : List ℤ). z ∷ l) (ap (λ (l : List ℤ). get_or l 0 (pos 0)) e) rest.0, rest.1)

lines_by : (a b : List ℤ) (os : List Output) → flat_map (λ (o : Output). map (term_value a) o.terms) os ≡ flat_map (λ (o : Output). map (term_value b) o.terms) os → flat_map (line a) os ≡ flat_map (line b) os
lines_by a b [] e = refl
lines_by a b (o ∷ os) e =
    let both = halves (map (term_value a) o.terms) (map (term_value b) o.terms) (flat_map (λ (o : Output). map (term_value a) o.terms) os) (flat_map (λ (o : Output). map (term_value b) o.terms) os)
    (length-map o.terms (term_value a) ∙ sym (length-map o.terms (term_value b))) e in
    ap₂ (λ (l k : List ℕ). l ++ k) (line_by a b o both.0) (lines_by a b os both.1)

pub blocks_are_rows : (m : Instance) (a b : List ℤ) → IsModel m → AreDeclared m.variables a → AreDeclared m.variables b → (block m a ≡ block m b) ↔ (row_of m a ≡ row_of m b)
blocks_are_rows m a b model declared other = (
  λ same. rows_split m.variables a b model.sets declared other m.outputs (codes "----------\n") (codes "----------\n") model.shown same,
  λ same. ap (λ (l : List ℕ). l ++ codes "----------\n") (lines_by a b m.outputs same),
)
