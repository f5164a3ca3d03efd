-- What is read of a text is the part that it was printed for.
use Rattle.std.proofs.Common.{◌≡◌, ◌∙◌, ℕ, List, [], ◌∷◌, ◌++◌, refl, sym, ap, subst, arith, length, append-nil, append_assoc}
use Rattle.std.specs.Prelude.{ℤ, Option, Some, decimal, flat_map}
use Rattle.std.specs.Fmt.{signed_decimal}
use Rattle.std.specs.List.{AllByRecursion}
use Rattle.std.proofs.lemmas.Fmt.{decimal_nonempty}
use Rattle.std.proofs.lemmas.List.{length-append}
use Rattle.fz_sets.proofs.Lists.{all_right}
use Rattle.fz_tree.specs.declared.decision.Comparison.{Comparison}
use Rattle.fz_tree.specs.declared.decision.Comparison.TheVariants.{Equal, NotEqual, AtMost, Above}
use Rattle.fz_tree.specs.declared.decision.Decision.{Decision}
use Rattle.fz_part.specs.Words.{IsOfNumber, EndsNumber}
use Rattle.fz_part.specs.Texts.{sign_of, decision_text, later_text, part_text, IsWritten}
use Rattle.fz_part.proofs.Wording.{decimal_bytes, signed_bytes}

-- ---- a comparison by its first byte

pub sign_ends : (comparison : Comparison) (rest : List ℕ) → EndsNumber (sign_of comparison ++ rest)
sign_ends Equal rest = λ h. omega (arith, h.1)
sign_ends NotEqual rest = λ h. omega (arith, h.0)
sign_ends AtMost rest = λ h. omega (arith, h.1)
sign_ends Above rest = λ h. omega (arith, h.1)

-- ---- the decision that a text begins with

-- what stands after the first decision
abbrev pub tail_text : List Decision → List ℕ
tail_text ds = flat_map later_text ds

pub tail_ends : (ds : List Decision) → EndsNumber (tail_text ds)
tail_ends [] = tt
tail_ends (d ∷ ds) = λ h. omega (arith, h.0)

-- what splits a text at the end of a number
abbrev pub Splits : List ℕ → List ℕ → List ℕ → Type 0
Splits text number rest = (f r : List ℕ) → AllByRecursion IsOfNumber f → EndsNumber r → text ≡ f ++ r → (number ≡ f) × (rest ≡ r)

pub first_of : (d : Decision) (ds : List Decision) (text number rest : List ℕ) → IsWritten d → part_text (d ∷ ds) ≡ text → Splits text number rest
    → (number ≡ decimal d.variable) × (rest ≡ sign_of d.comparison ++ (signed_decimal d.value ++ tail_text ds))
first_of d ds text number rest written is split =
    let small = written.variable in
    let after = signed_decimal d.value ++ tail_text ds in
    split (decimal d.variable) (sign_of d.comparison ++ after) (decimal_bytes d.variable (omega (arith, small))) (sign_ends d.comparison after)
    (sym is ∙ append_assoc (decimal d.variable) (sign_of d.comparison ++ signed_decimal d.value) (tail_text ds) ∙ ap (λ (t : List ℕ). decimal d.variable ++ t) (append_assoc (sign_of d.comparison) (signed_decimal d.value) (tail_text ds)))

pub second_of : (d : Decision) (ds : List Decision) (text number rest : List ℕ) → IsWritten d → text ≡ signed_decimal d.value ++ tail_text ds → Splits text number rest
    → (number ≡ signed_decimal d.value) × (rest ≡ tail_text ds)
second_of d ds text number rest written is split = split (signed_decimal d.value) (tail_text ds) (signed_bytes d.value written.value) (tail_ends ds) is

pub rest_of : (ds : List Decision) (rest last : List ℕ) → rest ≡ tail_text ds → (rest ≡ [] → last ≡ []) → ((byte : ℕ) (more : List ℕ) → rest ≡ byte ∷ more → last ≡ more) → last ≡ part_text ds
rest_of [] rest last is empty after = empty is
rest_of (d ∷ ds) rest last is empty after = after 44 (part_text (d ∷ ds)) is

same_decision : (d e : Decision) → d.variable ≡ e.variable → d.comparison ≡ e.comparison → d.value ≡ e.value → d ≡ e
same_decision d e variable comparison value = λ i. record { variable = variable i; comparison = comparison i; value = value i }

-- the decision that is read
pub decision_is : (d : Decision) (variable : ℕ) (comparison : Comparison) (value : ℤ) (o : Option ℕ) (q : Option ℤ) → o ≡ Some variable → q ≡ Some value → o ≡ Some d.variable → q ≡ Some d.value → comparison ≡ d.comparison
    → record { variable = variable; comparison = comparison; value = value } ≡ d
decision_is d variable comparison value o q is_o is_q variable_is value_is comparison_is =
    let v : variable ≡ d.variable = cc in
    let n : value ≡ d.value = cc in
    same_decision (record { variable = variable; comparison = comparison; value = value }) d v comparison_is n

-- ---- all of them

-- decisions were read, and what is left is the text of the others
pub record IsReadSoFar (p read : List Decision) (left : List ℕ) : Type 0 where
  pub later : List Decision
  pub is : p ≡ read ++ later
  pub left_is : part_text later ≡ left

nothing_left : (ds : List Decision) → AllByRecursion IsWritten ds → part_text ds ≡ [] → ds ≡ []
nothing_left [] written is = refl
nothing_left (d ∷ ds) written is =
    let small = written.0.variable in
    let digits = decimal_nonempty d.variable (omega (arith, small)) in
    let whole = length-append (decision_text d) (tail_text ds) in
    let first = length-append (decimal d.variable) (sign_of d.comparison ++ signed_decimal d.value) in
    absurd (omega (arith, digits, whole, first, ap length is))

pub all_read : (p read : List Decision) (left : List ℕ) → AllByRecursion IsWritten p → IsReadSoFar p read left → left ≡ [] → read ≡ p
all_read p read left written so_far none =
    let ends : so_far.later ≡ [] = nothing_left so_far.later (all_right IsWritten read so_far.later (subst (AllByRecursion IsWritten) so_far.is written)) (so_far.left_is ∙ none) in
    sym (so_far.is ∙ ap (λ (ds : List Decision). read ++ ds) ends ∙ append-nil read)

-- another decision is left
record HasNext (p read : List Decision) (left : List ℕ) : Type 0 where
  pub first : Decision
  pub others : List Decision
  pub written : IsWritten first
  pub is : p ≡ read ++ first ∷ others
  pub left_is : part_text (first ∷ others) ≡ left

has_next : (p read later : List Decision) (left : List ℕ) → AllByRecursion IsWritten p → p ≡ read ++ later → part_text later ≡ left → (left ≡ [] → ⊥) → HasNext p read left
has_next p read [] left written is left_is some = absurd (some (sym left_is))
has_next p read (d ∷ ds) left written is left_is some = record {
  first = d;
  others = ds;
  written = (all_right IsWritten read (d ∷ ds) (subst (AllByRecursion IsWritten) is written)).0;
  is = is;
  left_is = left_is;
}

pub not_none : (p read : List Decision) (left : List ℕ) → AllByRecursion IsWritten p → IsReadSoFar p read left → (left ≡ [] → ⊥)
    → ((d : Decision) (ds : List Decision) → IsWritten d → part_text (d ∷ ds) ≡ left → ⊥) → ⊥
not_none p read left written so_far some none = let n = has_next p read so_far.later left written so_far.is so_far.left_is some in none n.first n.others n.written n.left_is

pub one_read : (p read new : List Decision) (left later : List ℕ) (d : Decision) → AllByRecursion IsWritten p → IsReadSoFar p read left → (left ≡ [] → ⊥)
    → ((e : Decision) (ds : List Decision) → IsWritten e → part_text (e ∷ ds) ≡ left → (d ≡ e) × (later ≡ part_text ds)) → new ≡ read ++ d ∷ [] → IsReadSoFar p new later
one_read p read new left later d written so_far some next is_new =
    let n = has_next p read so_far.later left written so_far.is so_far.left_is some in
    let both = next n.first n.others n.written n.left_is in
    record {
      later = n.others;
      is = n.is ∙ ap (λ (e : Decision). read ++ e ∷ n.others) (sym both.0) ∙ sym (append_assoc read (d ∷ []) n.others) ∙ ap (λ (ds : List Decision). ds ++ n.others) (sym is_new);
      left_is = sym both.1;
    }
