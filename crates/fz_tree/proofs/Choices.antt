-- Choices: a decision and its negation are one.
use Rattle.std.proofs.Common.{◌≡◌, ℕ, ◌+◌, ◌<◌, ◌≤◌, List, [], ◌∷◌, refl, ap, ◌∙◌, arith, Bool, true, false, not, length, Option, Some, None}
use Rattle.std.specs.Prelude.{ℤ, int_le}
use Rattle.std.specs.Ordering.{int_eq}
use Rattle.std.specs.List.{slice_get, count_by}
use Rattle.std.proofs.lemmas.Option.{slice_get-get_or}
use Rattle.fz_tree.specs.declared.decision.Comparison.{Comparison}
use Rattle.fz_tree.specs.declared.decision.Comparison.TheVariants.{Equal, NotEqual, AtMost, Above}
use Rattle.fz_tree.specs.declared.decision.Decision.{Decision}
use Rattle.fz_tree.specs.Choice.{compares, compares_if_there, meets, opposite, negated, pair_of, IsChoice}
use Rattle.fz_tree.proofs.Counts.{one_if, count_cons}

one_or_not : (b : Bool) → one_if b + one_if (not b) ≡ 1
one_or_not true = refl
one_or_not false = refl

not_or_one : (b : Bool) → one_if (not b) + one_if b ≡ 1
not_or_one true = refl
not_or_one false = refl

either_compares : (c : Comparison) (x v : ℤ) → one_if (compares c x v) + one_if (compares (opposite c) x v) ≡ 1
either_compares Equal x v = one_or_not (int_eq x v)
either_compares NotEqual x v = not_or_one (int_eq x v)
either_compares AtMost x v = one_or_not (int_le x v)
either_compares Above x v = not_or_one (int_le x v)

-- one of the two, where the variable is there
abbrev one_if_there : Option ℤ → ℕ
one_if_there (Some x) = 1
one_if_there None = 0

either_if_there : (o : Option ℤ) (c : Comparison) (v : ℤ) → one_if (compares_if_there o c v) + one_if (compares_if_there o (opposite c) v) ≡ one_if_there o
either_if_there (Some x) c v = either_compares c x v
either_if_there None c v = refl

pair_count : (d : Decision) (a : List ℤ) → count_by (meets a) (pair_of d) ≡ one_if_there (slice_get a d.variable)
pair_count d a =
    count_cons (meets a) d (negated d ∷ []) ∙ ap (λ n. one_if (meets a d) + n) (count_cons (meets a) (negated d) [] ∙ omega arith)
    ∙ either_if_there (slice_get a d.variable) d.comparison d.value

at_most_one : (o : Option ℤ) → one_if_there o ≤ 1
at_most_one (Some x) = omega arith
at_most_one None = omega arith

pub pair_is_choice : (d : Decision) → IsChoice (pair_of d)
pair_is_choice d = record {
  several = omega arith;
  variable = d.variable;
  on_it = (refl, (refl, tt));
  at_most_one = λ a. omega (arith, pair_count d a, at_most_one (slice_get a d.variable));
}

pub pair_exactly_one : (d : Decision) (a : List ℤ) → d.variable < length a → count_by (meets a) (pair_of d) ≡ 1
pair_exactly_one d [] h = absurd (omega (arith, h))
pair_exactly_one d (x ∷ xs) h = pair_count d (x ∷ xs) ∙ ap one_if_there (slice_get-get_or (x ∷ xs) d.variable x h)
