-- What values a text tells of variables, where it is a block, within this crate.
use Rattle.std.specs.Prelude.{ℕ, ◌+◌, ◌-◌, ◌*◌, min, ℤ, pos, ◌-ℤ◌, Bool, true, false, nat_eq, bytes_eq, List, [], ◌∷◌, length, set, take, drop, codes, if◌then◌else◌}
use Rattle.std.specs.List.{list_any, position_or_len}
use Rattle.fz_spec.specs.declared.kind.Kind.{Kind}
use Rattle.fz_spec.specs.declared.kind.Kind.TheVariants.{Bool as OfBool, Int as OfInt}
use Rattle.fz_spec.specs.declared.term.Term.{Term}
use Rattle.fz_spec.specs.declared.term.Term.TheVariants.{Num, Var}
use Rattle.fz_spec.specs.Instance.{Output}

-- ---- pieces of a text

abbrev pub is_among : List ℕ → ℕ → Bool
is_among ends byte = list_any (λ (end : ℕ). nat_eq end byte) ends

-- how many bytes stand before the first of these
abbrev pub length_before : List ℕ → List ℕ → ℕ
length_before ends text = position_or_len (is_among ends) text

-- what stands after the first such byte
abbrev pub after : ℕ → List ℕ → List ℕ
after byte text = drop (length_before (byte ∷ []) text + 1) text

-- ---- numbers

-- The number that these digits make behind those of another, at most the greatest one. Any byte is taken for a digit.
abbrev pub magnitude : ℕ → List ℕ → ℕ
magnitude n [] = n
magnitude n (byte ∷ bytes) = magnitude (min (n * 10 + (byte - 48)) 2147483646) bytes

abbrev pub number_of : List ℕ → ℤ
number_of [] = pos 0
number_of (byte ∷ bytes) = if nat_eq byte 45 then pos 0 -ℤ pos (magnitude 0 bytes) else pos (magnitude 0 (byte ∷ bytes))

abbrev pub value_of : Kind → List ℕ → ℤ
value_of OfBool word = if bytes_eq word (codes "true") then pos 1 else pos 0
value_of OfInt word = number_of word

-- ---- lines

-- what is told of variables, and what is left of the text
pub record Guess : Type 0 where
  pub values : List ℤ
  pub left : List ℕ

-- a value is told of a term
abbrev pub told : {X : Type 0} → Term → X → List X → List X
told (Num n) x xs = xs
told (Var v) x xs = set xs v x

-- how long a value is
abbrev pub value_length : List ℕ → ℕ
value_length text = length_before (codes ",;]") text

-- the value of a term, and the two bytes after it: a comma and a blank, the end of an array, or the end of the line
abbrev pub with_term : Kind → Term → Guess → Guess
with_term kind t g = record {
  values = told t (value_of kind (take (value_length g.left) g.left)) g.values;
  left = drop 2 (drop (value_length g.left) g.left);
}

abbrev pub with_terms : Kind → List Term → Guess → Guess
with_terms kind [] g = g
with_terms kind (t ∷ ts) g = with_terms kind ts (with_term kind t g)

-- a guess with another text left
abbrev pub leaving : Guess → List ℕ → Guess
leaving g left = record { values = g.values; left = left }

-- what stands after the sign of equality: a value, or those of an array, after its shape and to the end of its line
abbrev pub with_values : Bool → Kind → List Term → Guess → Guess
with_values false kind ts g = with_terms kind ts g
with_values true kind ts g = to_end (with_terms kind ts (leaving g (after 91 g.left)))
  where
    to_end : Guess → Guess
    to_end read = leaving read (after 10 read.left)

-- a line, of which the name and the sign of equality are passed over
abbrev pub with_output : Output → Guess → Guess
with_output o g = with_values o.array o.kind o.terms (leaving g (drop 3 (drop (length o.name) g.left)))

abbrev pub with_outputs : List Output → Guess → Guess
with_outputs [] g = g
with_outputs (o ∷ os) g = with_outputs os (with_output o g)

-- ---- what is told

-- each term has this value
abbrev pub terms_told : {X : Type 0} → (Term → X) → List Term → List X → List X
terms_told f [] xs = xs
terms_told f (t ∷ ts) xs = terms_told f ts (told t (f t) xs)

abbrev pub outputs_told : {X : Type 0} → (Term → X) → List Output → List X → List X
outputs_told f [] xs = xs
outputs_told f (o ∷ os) xs = outputs_told f os (terms_told f o.terms xs)
