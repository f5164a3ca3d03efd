-- Whether a box refutes a constraint can be decided.
use Rattle.std.proofs.Common.{◌≡◌, ◌⊎◌, ℕ, zero, suc, ◌<◌, ◌≤◌, inl, inr, List, [], ◌∷◌, refl, ap, ◌∙◌, arith, length}
use Rattle.std.specs.Prelude.{ℤ, pos, ◌≤ℤ◌, Option, Some, None, slice_get}
use Rattle.std.specs.List.{AllByRecursion}
use Rattle.std.proofs.lemmas.Bool.{cases_lt}
use Rattle.std.proofs.lemmas.Int.{ints}
use Rattle.fz_sets.specs.Sets.{AreRanges, IsInSet}
use Rattle.fz_dom.specs.Shape.{least, greatest}
use Rattle.fz_dom.proofs.Ranges.{least_member, greatest_member}
use Rattle.fz_spec.specs.declared.shape.Relation.TheVariants.{AtMost, Equal}
use Rattle.fz_spec.specs.declared.shape.Shape.{Shape}
use Rattle.fz_spec.specs.declared.shape.Shape.TheVariants.{Linear}
use Rattle.fz_spec.specs.Signatures.{shape_of}
use Rattle.fz_spec.specs.declared.term.Term.TheVariants.{Var}
use Rattle.fz_spec.specs.declared.goal.Goal.{Goal}
use Rattle.fz_spec.specs.declared.goal.Goal.TheVariants.{Satisfy, Minimize, Maximize}
use Rattle.fz_spec.specs.Constraints.{Argument, One, Numbers, Terms, Constraint, term_value}
use Rattle.fz_language.proofs.Decisions.{Decided, by}
use Rattle.fz_refutes.specs.Boxes.{AreSets, HasEmpty, set_at, set_of}
use Rattle.fz_refutes.specs.Refuted.{IsSumOut, IsRefutedSum, IsEmptyAmong, IsRefutedSmall, Refutes, RefutesIfThere, IsNoBetter, IsWorse, choices_of, open_after, variables_of}
use Rattle.fz_refutes.specs.Smalls.{HasFixed}
use Rattle.fz_refutes.proofs.Insides.{ranges_of_term}
use Rattle.fz_refutes.proofs.Agreeing.{small_is}
use Rattle.fz_refutes.proofs.Lone.{leasts}
use Rattle.fz_refutes.proofs.Decisions.{never, either, at_most, below}
use Rattle.fz_refutes.proofs.Trying.{never_from}

-- ---- empty sets

is_none : (d : List (ℤ × ℤ)) → Decided (d ≡ [])
is_none [] = inl refl
is_none (r ∷ rs) = inr (λ e. cc)

pub has_empty : (box : List (List (ℤ × ℤ))) → Decided (HasEmpty box)
has_empty [] = never
has_empty (d ∷ ds) = either (is_none d) (has_empty ds)

empty_among : (box : List (List (ℤ × ℤ))) (vs : List ℕ) → Decided (IsEmptyAmong box vs)
empty_among box [] = never
empty_among box (v ∷ vs) = either (is_none (set_at box v)) (empty_among box vs)

-- ---- sums

sum_out : (shape : Shape) (low high : ℤ) → Decided (IsSumOut shape low high)
sum_out (Linear AtMost) low high = below (pos 0) low
sum_out (Linear Equal) low high = either (below (pos 0) low) (below high (pos 0))
sum_out shape low high = never

refuted_sum : (shape : Shape) (arguments : List Argument) (box : List (List (ℤ × ℤ))) → Decided (IsRefutedSum shape arguments box)
refuted_sum shape (Numbers ks ∷ Terms ts ∷ One c ∷ []) box = sum_out shape _ _
refuted_sum shape arguments box = never

-- ---- small boxes

least_value : (box : List (List (ℤ × ℤ))) (v : ℕ) → term_value (leasts box) (Var v) ≡ least (set_at box v)
least_value [] v = refl
least_value (d ∷ ds) zero = refl
least_value (d ∷ ds) (suc v) = least_value ds v

leasts_length : (box : List (List (ℤ × ℤ))) → length (leasts box) ≡ length box
leasts_length [] = refl
leasts_length (d ∷ ds) = ap suc (leasts_length ds)

leasts_fixed : (box : List (List (ℤ × ℤ))) (vs : List ℕ) → AllByRecursion (HasFixed box (leasts box)) vs
leasts_fixed box [] = tt
leasts_fixed box (v ∷ vs) = ((λ x is. least_value box v ∙ ap least is), leasts_fixed box vs)

few : (n : ℕ) → Decided (n ≤ 256)
few n = elim (cases_lt 256 n) [ inl more ↦ inr (λ le. omega (arith, more, le)) | inr le ↦ inl le ]

refuted_small : (c : Constraint) (box : List (List (ℤ × ℤ))) → AreSets box → (IsEmptyAmong box (variables_of c.arguments) → ⊥) → Decided (IsRefutedSmall c box)
refuted_small c box are full =
    let vs = variables_of c.arguments in
    let several = open_after box [] vs in
    elim (few (choices_of box several)) [
      | inl few_now ↦
          let same = small_is c box (leasts box) several (record { are = are; full = full; room = leasts_length box; fixed = leasts_fixed box vs }) refl few_now in
          by same.0 same.1 (never_from c box several (leasts box))
      | inr many ↦ inr (λ small. many small.few)
    ]

only_small : (c : Constraint) (box : List (List (ℤ × ℤ))) → (IsRefutedSum (shape_of c.name) c.arguments box → ⊥) → (IsEmptyAmong box (variables_of c.arguments) → ⊥) → Refutes c box → IsRefutedSmall c box
only_small c box no_sum full (inl out) = absurd (no_sum out)
only_small c box no_sum full (inr (inl e)) = absurd (full e)
only_small c box no_sum full (inr (inr small)) = small

pub refutes : (c : Constraint) (box : List (List (ℤ × ℤ))) → AreSets box → Decided (Refutes c box)
refutes c box are =
    elim (refuted_sum (shape_of c.name) c.arguments box) [
      | inl out ↦ inl (inl out)
      | inr no_sum ↦ elim (empty_among box (variables_of c.arguments)) [
        | inl e ↦ inl (inr (inl e))
        | inr full ↦ by (λ small. inr (inr small)) (only_small c box no_sum full) (refuted_small c box are full)
      ]
    ]

-- ---- the first constraint that is refuted

pub record FirstOf (cs : List Constraint) (box : List (List (ℤ × ℤ))) : Type 0 where
  pub constraint : ℕ
  pub refuted : RefutesIfThere (slice_get cs constraint) box
  pub first : (b : ℕ) → b < constraint → RefutesIfThere (slice_get cs b) box → ⊥

none_at : (c : Constraint) (cs : List Constraint) (box : List (List (ℤ × ℤ))) (n : ℕ) → (Refutes c box → ⊥) → ((b : ℕ) → b < n → RefutesIfThere (slice_get cs b) box → ⊥)
    → (b : ℕ) → b < suc n → RefutesIfThere (slice_get (c ∷ cs) b) box → ⊥
none_at c cs box n here rest zero less out = here out
none_at c cs box n here rest (suc b) less out = rest b (omega (arith, less)) out

none_left : (c : Constraint) (cs : List Constraint) (box : List (List (ℤ × ℤ))) → (Refutes c box → ⊥) → ((b : ℕ) → RefutesIfThere (slice_get cs b) box → ⊥)
    → (b : ℕ) → RefutesIfThere (slice_get (c ∷ cs) b) box → ⊥
none_left c cs box here rest zero out = here out
none_left c cs box here rest (suc b) out = rest b out

pub first_failing : (cs : List Constraint) (box : List (List (ℤ × ℤ))) → AreSets box → FirstOf cs box ⊎ ((b : ℕ) → RefutesIfThere (slice_get cs b) box → ⊥)
first_failing [] box are = inr (λ b out. out)
first_failing (c ∷ cs) box are =
    elim (refutes c box are) [
      | inl out ↦ inl (record { constraint = 0; refuted = out; first = λ b less. absurd (omega (arith, less)) })
      | inr here ↦ elim (first_failing cs box are) [
        | inl later ↦ inl (record { constraint = suc later.constraint; refuted = later.refuted; first = none_at c cs box later.constraint here later.first })
        | inr rest ↦ inr (none_left c cs box here rest)
      ]
    ]

-- ---- the goal

all_from : (d : List (ℤ × ℤ)) (n : ℤ) → AreRanges d → Decided ((x : ℤ) → IsInSet d x → n ≤ℤ x)
all_from [] n are = inl (λ x i. absurd i)
all_from (r ∷ rs) n are =
    let first = least_member (r ∷ rs) (omega arith) are in
    by (λ low x i. let more = first.1 x i in omega (arith, ints, low, more)) (λ all. all (least (r ∷ rs)) first.0) (at_most n (least (r ∷ rs)))

all_to : (d : List (ℤ × ℤ)) (n : ℤ) → AreRanges d → Decided ((x : ℤ) → IsInSet d x → x ≤ℤ n)
all_to [] n are = inl (λ x i. absurd i)
all_to (r ∷ rs) n are =
    let last = greatest_member (r ∷ rs) (omega arith) are in
    by (λ high x i. let less = last.1 x i in omega (arith, ints, high, less)) (λ all. all (greatest (r ∷ rs)) last.0) (at_most (greatest (r ∷ rs)) n)

no_better : (goal : Goal) (box : List (List (ℤ × ℤ))) (a : List ℤ) → AreSets box → Decided (IsNoBetter goal box a)
no_better Satisfy box a are = never
no_better (Minimize t) box a are = all_from (set_of box t) (term_value a t) (ranges_of_term box t are)
no_better (Maximize t) box a are = all_to (set_of box t) (term_value a t) (ranges_of_term box t are)

pub worse : (goal : Goal) (box : List (List (ℤ × ℤ))) (head : Option (List ℤ)) → AreSets box → Decided (IsWorse goal box head)
worse goal box None are = never
worse goal box (Some a) are = no_better goal box a are
