-- Of the block of an assignment the values of its terms are read.
use Rattle.std.proofs.Common.{◌≡◌, ℕ, zero, suc, ◌≤◌, Bool, true, false, List, [], ◌∷◌, ◌++◌, length, take, drop, map, codes, flat_map, ℤ, pos, Some, None, slice_get, unwrap_or, inl, inr, refl, sym, ap, ap₂, subst, ◌∙◌, arith, append_assoc, replicate}
use Rattle.std.specs.Prelude.{◌+◌, ◌-◌, ◌*◌, ◌-ℤ◌, min, set, nat_eq, bytes_eq, if◌then◌else◌}
use Rattle.std.specs.List.{AllByRecursion}
use Rattle.std.proofs.lemmas.Int.{ints}
use Rattle.std.proofs.lemmas.List.{take_at, drop_at, length-replicate}
use Rattle.fz_sets.specs.Sets.{AreWithinLimits, IsInSet, IsWithinLimits}
use Rattle.fz_sets.proofs.Lists.{some_is}
use Rattle.fz_spec.specs.declared.kind.Kind.{Kind}
use Rattle.fz_spec.specs.declared.kind.Kind.TheVariants as kinds
use Rattle.fz_spec.specs.declared.term.Term.{Term}
use Rattle.fz_spec.specs.declared.term.Term.TheVariants.{Num, Var}
use Rattle.fz_spec.specs.Constraints.{term_value}
use Rattle.fz_spec.specs.Instance.{AreDeclared, Instance, Output, Satisfies, Variable}
use Rattle.fz_spec.specs.Run.{block, comma_separated, line, output_text, shape_text, value_text}
use Rattle.fz_model.specs.Kept.{AreNumbers, HasSetOf, HasShape, IsModel, IsNumberOf, IsOutput, IsTermOf, IsVariable, kind_at}
use Rattle.fz_shown.specs.Guesses.{Guess, after, is_among, magnitude, number_of, outputs_told, terms_told, told, value_length, value_of, with_values, with_output, with_outputs, with_term, with_terms}
use Rattle.fz_shown.specs.Shown.{ShowsAll}
use Rattle.fz_shown.proofs.Bytes.{after_shape, length_front, value_free, value_told}
use Rattle.fz_shown.proofs.Telling.{all_told}

abbrev pub guess_of : List ℤ → List ℕ → Guess
guess_of values left = record { values = values; left = left }

-- ---- terms

-- each term has a value of this kind
abbrev HasValues : Kind → List ℤ → List Term → Type 0
HasValues kind a ts = AllByRecursion (λ (t : Term). IsNumberOf kind (term_value a t)) ts

abbrev term_text : Kind → List ℤ → Term → List ℕ
term_text kind a t = value_text kind (term_value a t)

abbrev terms_text : Kind → List ℤ → List Term → List ℕ
terms_text kind a ts = comma_separated (map (term_text kind a) ts)

one_read : (kind : Kind) (a : List ℤ) (t : Term) (values : List ℤ) (c d : ℕ) (rest : List ℕ) → is_among (codes ",;]") c ≡ true → IsNumberOf kind (term_value a t)
    → with_term kind t (guess_of values (term_text kind a t ++ c ∷ d ∷ rest)) ≡ guess_of (told t (term_value a t) values) rest
one_read kind a t values c d rest ends is =
    let text : List ℕ = term_text kind a t ++ c ∷ d ∷ rest in
    let long = length_front (codes ",;]") (term_text kind a t) c (d ∷ rest) (value_free kind (term_value a t) is) ends in
    ap₂ (λ (word later : List ℕ). guess_of (told t (value_of kind word) values) (drop 2 later)) (take_at (term_text kind a t) (c ∷ d ∷ rest) (value_length text) (sym long)) (drop_at (term_text kind a t) (c ∷ d ∷ rest) (value_length text) (sym long))
    ∙ ap (λ (x : ℤ). guess_of (told t x values) rest) (value_told kind (term_value a t) is)

terms_read : (kind : Kind) (a : List ℤ) (t : Term) (ts : List Term) (values : List ℤ) (c d : ℕ) (rest : List ℕ) → is_among (codes ",;]") c ≡ true → HasValues kind a (t ∷ ts)
    → with_terms kind (t ∷ ts) (guess_of values (terms_text kind a (t ∷ ts) ++ c ∷ d ∷ rest)) ≡ guess_of (terms_told (term_value a) (t ∷ ts) values) rest
terms_read kind a t [] values c d rest ends all = one_read kind a t values c d rest ends all.0
terms_read kind a t (u ∷ us) values c d rest ends all =
    let later : List ℕ = terms_text kind a (u ∷ us) in
    ap (λ (text : List ℕ). with_terms kind (u ∷ us) (with_term kind t (guess_of values text))) (append_assoc (term_text kind a t ++ codes ", ") later (c ∷ d ∷ rest) ∙ append_assoc (term_text kind a t) (codes ", ") (later ++ c ∷ d ∷ rest))
    ∙ ap (with_terms kind (u ∷ us)) (one_read kind a t values 44 32 (later ++ c ∷ d ∷ rest) refl all.0)
    ∙ terms_read kind a u us (told t (term_value a t) values) c d rest ends all.1

-- ---- items

-- what is left after the line
abbrev to_end : Guess → Guess
to_end g = guess_of g.values (after 10 g.left)

elements_read : (kind : Kind) (a : List ℤ) (ts : List Term) (values : List ℤ) (rest : List ℕ) → HasValues kind a ts
    → to_end (with_terms kind ts (guess_of values (terms_text kind a ts ++ 93 ∷ 41 ∷ 59 ∷ 10 ∷ rest))) ≡ guess_of (terms_told (term_value a) ts values) rest
elements_read kind a [] values rest all = refl
elements_read kind a (t ∷ ts) values rest all = ap to_end (terms_read kind a t ts values 93 41 (59 ∷ 10 ∷ rest) refl all)

items_read : (array : Bool) (kind : Kind) (shape : List (ℤ × ℤ)) (a : List ℤ) (ts : List Term) (values : List ℤ) (rest : List ℕ) → HasShape array shape (length ts) → HasValues kind a ts
    → with_values array kind ts (guess_of values ((if array then shape_text shape ++ terms_text kind a ts ++ codes "])" else terms_text kind a ts) ++ 59 ∷ 10 ∷ rest)) ≡ guess_of (terms_told (term_value a) ts values) rest
items_read false kind shape a [] values rest shaped all = let one = shaped.1 in absurd (omega (arith, one))
items_read false kind shape a (t ∷ ts) values rest shaped all = terms_read kind a t ts values 59 10 rest refl all
items_read true kind shape a ts values rest shaped all =
    ap (λ (text : List ℕ). to_end (with_terms kind ts (guess_of values (after 91 text)))) (append_assoc (shape_text shape ++ terms_text kind a ts) (codes "])") (59 ∷ 10 ∷ rest) ∙ append_assoc (shape_text shape) (terms_text kind a ts) (93 ∷ 41 ∷ 59 ∷ 10 ∷ rest))
    ∙ ap (λ (text : List ℕ). to_end (with_terms kind ts (guess_of values text))) (after_shape shape (terms_text kind a ts ++ 93 ∷ 41 ∷ 59 ∷ 10 ∷ rest) shaped.few shaped.within)
    ∙ elements_read kind a ts values rest all

output_read : (a : List ℤ) (o : Output) (values : List ℤ) (rest : List ℕ) → HasShape o.array o.shape (length o.terms) → HasValues o.kind a o.terms
    → with_output o (guess_of values (line a o ++ rest)) ≡ guess_of (terms_told (term_value a) o.terms values) rest
output_read a o values rest shaped all =
    let told_text : List ℕ = output_text a o ++ 59 ∷ 10 ∷ rest in
    ap (λ (text : List ℕ). with_values o.array o.kind o.terms (guess_of values (drop 3 (drop (length o.name) text))))
    (append_assoc (o.name ++ codes " = " ++ output_text a o) (codes ";\n") rest ∙ append_assoc (o.name ++ codes " = ") (output_text a o) (59 ∷ 10 ∷ rest) ∙ append_assoc o.name (codes " = ") told_text)
    ∙ ap (λ (text : List ℕ). with_values o.array o.kind o.terms (guess_of values (drop 3 text))) (drop_at o.name (codes " = " ++ told_text) (length o.name) refl)
    ∙ items_read o.array o.kind o.shape a o.terms values rest shaped all

-- an item whose terms have values of its kind
abbrev IsRead : List ℤ → Output → Type 0
IsRead a o = HasShape o.array o.shape (length o.terms) × HasValues o.kind a o.terms

outputs_read : (a : List ℤ) (os : List Output) (values : List ℤ) (rest : List ℕ) → AllByRecursion (IsRead a) os
    → with_outputs os (guess_of values (flat_map (line a) os ++ rest)) ≡ guess_of (outputs_told (term_value a) os values) rest
outputs_read a [] values rest all = refl
outputs_read a (o ∷ os) values rest all =
    ap (λ (text : List ℕ). with_outputs os (with_output o (guess_of values text))) (append_assoc (line a o) (flat_map (line a) os) rest)
    ∙ ap (with_outputs os) (output_read a o values (flat_map (line a) os ++ rest) all.0.0 all.0.1)
    ∙ outputs_read a os (terms_told (term_value a) o.terms values) rest all.1

-- ---- values of a declared assignment

within_limits : (set : List (ℤ × ℤ)) (x : ℤ) → AreWithinLimits set → IsInSet set x → IsWithinLimits x
within_limits [] x limits is = absurd is
within_limits (r ∷ rs) x limits (inl is) = let a = limits.0.0 in let b = limits.1.1 in let c = is.0 in let d = is.1 in (omega (arith, ints), omega (arith, ints))
within_limits (r ∷ rs) x limits (inr is) = within_limits rs x limits.2 is

zero_or_one : (x : ℤ) → IsInSet ((pos 0, pos 1) ∷ []) x → IsNumberOf kinds.Bool x
zero_or_one x (inl is) = is
zero_or_one x (inr none) = absurd none

number_is : (kind : Kind) (set : List (ℤ × ℤ)) (x : ℤ) → HasSetOf kind set → IsInSet set x → IsNumberOf kind x
number_is kinds.Bool set x is member = zero_or_one x (subst (λ (s : List (ℤ × ℤ)). IsInSet s x) is member)
number_is kinds.Int set x is member = within_limits set x is.within member

variable_is : (vs : List Variable) (a : List ℤ) (kind : Kind) (v : ℕ) → AllByRecursion IsVariable vs → AreDeclared vs a → kind_at vs v ≡ Some kind → IsNumberOf kind (unwrap_or (slice_get a v) (pos 0))
variable_is [] a kind v sets declared is = absurd (let bad : None ≡ Some kind = is in cc)
variable_is (u ∷ vs) [] kind v sets declared is = absurd declared
variable_is (u ∷ vs) (x ∷ xs) kind zero sets declared is = subst (λ (k : Kind). IsNumberOf k x) (some_is u.kind kind is) (number_is u.kind u.set x sets.0 declared.0)
variable_is (u ∷ vs) (x ∷ xs) kind (suc v) sets declared is = variable_is vs xs kind v sets.1 declared.1 is

terms_are : (vs : List Variable) (a : List ℤ) (kind : Kind) (ts : List Term) → AllByRecursion IsVariable vs → AreDeclared vs a → AllByRecursion (IsTermOf vs kind) ts → HasValues kind a ts
terms_are vs a kind [] sets declared all = tt
terms_are vs a kind (Num n ∷ ts) sets declared all = (all.0, terms_are vs a kind ts sets declared all.1)
terms_are vs a kind (Var v ∷ ts) sets declared all = (variable_is vs a kind v sets declared all.0, terms_are vs a kind ts sets declared all.1)

outputs_are : (vs : List Variable) (a : List ℤ) (os : List Output) → AllByRecursion IsVariable vs → AreDeclared vs a → AllByRecursion (IsOutput vs) os → AllByRecursion (IsRead a) os
outputs_are vs a [] sets declared all = tt
outputs_are vs a (o ∷ os) sets declared all = ((all.0.shape, terms_are vs a o.kind o.terms sets declared all.0.terms), outputs_are vs a os sets declared all.1)

-- ---- the whole block

-- what is read of the block of a solution is that solution
pub solution_read : (m : Instance) (a values : List ℤ) (text : List ℕ) → IsModel m → ShowsAll m → Satisfies m a → length values ≡ length m.variables → text ≡ block m a
    → (with_outputs m.outputs (guess_of values text)).values ≡ a
solution_read m a values text model shown satisfies long is =
    ap (λ (t : List ℕ). (with_outputs m.outputs (guess_of values t)).values) is
    ∙ ap (λ (g : Guess). g.values) (outputs_read a m.outputs values (codes "----------\n") (outputs_are m.variables a m.outputs model.sets satisfies.declared model.shown))
    ∙ all_told m a values shown satisfies.declared long

-- ---- what is read are numbers within the limits

magnitude_within : (n : ℕ) (bytes : List ℕ) → n ≤ 2147483646 → magnitude n bytes ≤ 2147483646
magnitude_within n [] small = small
magnitude_within n (b ∷ bs) small = magnitude_within (min (n * 10 + (b - 48)) 2147483646) bs (omega arith)

number_within : (word : List ℕ) → IsWithinLimits (number_of word)
number_within [] = (omega (arith, ints), omega (arith, ints))
number_within (b ∷ bs) = either (nat_eq b 45)
  where
    either : (t : Bool) → IsWithinLimits (if t then pos 0 -ℤ pos (magnitude 0 bs) else pos (magnitude 0 (b ∷ bs)))
    either true = let small = magnitude_within 0 bs (omega arith) in (omega (arith, ints, small), omega (arith, ints, small))
    either false = let small = magnitude_within 0 (b ∷ bs) (omega arith) in (omega (arith, ints, small), omega (arith, ints, small))

value_within : (kind : Kind) (word : List ℕ) → IsWithinLimits (value_of kind word)
value_within kinds.Bool word = either (bytes_eq word (codes "true"))
  where
    either : (t : Bool) → IsWithinLimits (if t then pos 1 else pos 0)
    either true = (omega (arith, ints), omega (arith, ints))
    either false = (omega (arith, ints), omega (arith, ints))
value_within kinds.Int word = number_within word

set_numbers : (xs : List ℤ) (i : ℕ) (x : ℤ) → IsWithinLimits x → AreNumbers xs → AreNumbers (set xs i x)
set_numbers [] i x within are = tt
set_numbers (y ∷ ys) zero x within are = (within, are.1)
set_numbers (y ∷ ys) (suc i) x within are = (are.0, set_numbers ys i x within are.1)

told_numbers : (t : Term) (x : ℤ) (xs : List ℤ) → IsWithinLimits x → AreNumbers xs → AreNumbers (told t x xs)
told_numbers (Num n) x xs within are = are
told_numbers (Var v) x xs within are = set_numbers xs v x within are

terms_numbers : (kind : Kind) (ts : List Term) (g : Guess) → AreNumbers g.values → AreNumbers (with_terms kind ts g).values
terms_numbers kind [] g are = are
terms_numbers kind (t ∷ ts) g are = terms_numbers kind ts (with_term kind t g) (told_numbers t (value_of kind (take (value_length g.left) g.left)) g.values (value_within kind (take (value_length g.left) g.left)) are)

items_numbers : (array : Bool) (kind : Kind) (ts : List Term) (g : Guess) → AreNumbers g.values → AreNumbers (with_values array kind ts g).values
items_numbers false kind ts g are = terms_numbers kind ts g are
items_numbers true kind ts g are = terms_numbers kind ts (guess_of g.values (after 91 g.left)) are

pub outputs_numbers : (os : List Output) (g : Guess) → AreNumbers g.values → AreNumbers (with_outputs os g).values
outputs_numbers [] g are = are
outputs_numbers (o ∷ os) g are = outputs_numbers os (with_output o g) (items_numbers o.array o.kind o.terms (guess_of g.values (drop 3 (drop (length o.name) g.left))) are)

pub zeros_are : (n : ℕ) → AreNumbers (replicate n (pos 0))
zeros_are zero = tt
zeros_are (suc n) = ((omega (arith, ints), omega (arith, ints)), zeros_are n)

-- ---- what the code has at the end

-- the zeros that were told of a model's variables
pub guessed_numbers : (os : List Output) (items new list : List ℤ) (n : ℕ) (text : List ℕ) → items ≡ replicate n (pos 0) → new ≡ (with_outputs os (guess_of items text)).values → list ≡ new → AreNumbers list
guessed_numbers os items new list n text from is same =
    subst AreNumbers (sym (same ∙ is)) (outputs_numbers os (guess_of items text) (subst AreNumbers (sym from) (zeros_are n)))

pub guessed_is : (m : Instance) (os : List Output) (items new list a : List ℤ) (n : ℕ) (text : List ℕ) → IsModel m → ShowsAll m → os ≡ m.outputs → n ≡ length m.variables → items ≡ replicate n (pos 0)
    → new ≡ (with_outputs os (guess_of items text)).values → list ≡ new → Satisfies m a → text ≡ block m a → list ≡ a
guessed_is m os items new list a n text model shown outputs count from is same satisfies block_is =
    same ∙ is ∙ ap (λ (o : List Output). (with_outputs o (guess_of items text)).values) outputs
    ∙ solution_read m a items text model shown satisfies (ap length from ∙ length-replicate n (pos 0) ∙ count) block_is
