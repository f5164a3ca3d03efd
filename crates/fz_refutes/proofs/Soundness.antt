-- A tree that refutes a box leaves no assignment in it that satisfies and is better.
use Rattle.std.proofs.Common.{◌≡◌, ℕ, zero, suc, ℤ, negsuc, ◌+ℤ◌, ◌≤ℤ◌, inl, inr, List, [], ◌∷◌, refl, sym, subst, arith}
use Rattle.std.specs.Prelude.{Option, Some, None, slice_get, ◌<ℤ◌, ◌*ℤ◌}
use Rattle.std.specs.List.{AllByRecursion}
use Rattle.std.proofs.lemmas.Int.{ints}
use Rattle.fz_sets.specs.Sets.{AreRanges, IsInSet}
use Rattle.fz_spec.specs.declared.shape.Relation.TheVariants.{AtMost, Equal}
use Rattle.fz_spec.specs.declared.shape.Shape.{Shape}
use Rattle.fz_spec.specs.declared.shape.Shape.TheVariants.{Linear}
use Rattle.fz_spec.specs.declared.term.Term.{Term}
use Rattle.fz_spec.specs.declared.term.Term.TheVariants.{Var}
use Rattle.fz_spec.specs.declared.goal.Goal.{Goal}
use Rattle.fz_spec.specs.declared.goal.Goal.TheVariants.{Satisfy, Minimize, Maximize}
use Rattle.fz_spec.specs.Truth.{weighted_sum}
use Rattle.fz_spec.specs.Constraints.{Argument, One, Numbers, Terms, Constraint, HoldsAs, IsTrueOf, term_value, term_values}
use Rattle.fz_spec.specs.Signatures.{shape_of}
use Rattle.fz_spec.specs.Instance.{Instance, Satisfies, Variable, score_of}
use Rattle.fz_spec.specs.declared.kind.Kind.{Kind}
use Rattle.fz_spec.specs.declared.kind.Kind.TheVariants as kinds
use Rattle.fz_model.specs.Kept.{IsModel, IsVariable, HasSetOf}
use Rattle.fz_refutes.specs.Boxes.{IsInBox, AreSets, declared_box, low_half, high_half}
use Rattle.fz_refutes.specs.Refuted.{IsSumOut, IsRefutedSum, IsEmptyAmong, Refutes, RefutesIfThere, IsAt, variables_of, IsNoBetter, IsWorse}
use Rattle.fz_refutes.specs.Trees.{Tree, Empty, Failing, Worse, Split, IsRefutedBy}
use Rattle.fz_refutes.specs.Texts.{ProvesHead}
use Rattle.fz_refutes.specs.Laws.{Betters, IsShown, RefutedHasNone, BestIsProved, NoneIsProved, ProvingShows}
use Rattle.fz_refutes.proofs.Insides.{of_empty, at_variable, at_term, in_half, low_sets, high_sets, declared_in}
use Rattle.fz_refutes.proofs.Sums.{sum_above, sum_below}

-- ---- constraints

-- what a sum is out of, between its bounds
sum_out : (shape : Shape) (low high : ℤ) (ks : List ℤ) (ts : List Term) (c : Term) (b : List ℤ) (whole : ℤ) → whole ≡ ((negsuc 0 *ℤ term_value b c) +ℤ weighted_sum ks (term_values b ts)) → low ≤ℤ whole → whole ≤ℤ high
    → IsSumOut shape low high → HoldsAs shape (Numbers ks ∷ Terms ts ∷ One c ∷ []) b → ⊥
sum_out (Linear AtMost) low high ks ts c b whole is above below out holds = omega (arith, ints, is, above, below, out, holds)
sum_out (Linear Equal) low high ks ts c b whole is above below (inl out) holds = omega (arith, ints, is, above, below, out, holds)
sum_out (Linear Equal) low high ks ts c b whole is above below (inr out) holds = omega (arith, ints, is, above, below, out, holds)
sum_out shape low high ks ts c b whole is above below out holds = out

refuted_sum : (shape : Shape) (arguments : List Argument) (box : List (List (ℤ × ℤ))) (b : List ℤ) → AreSets box → IsInBox box b → IsRefutedSum shape arguments box → HoldsAs shape arguments b → ⊥
refuted_sum shape (Numbers ks ∷ Terms ts ∷ One c ∷ []) box b are i out holds =
    sum_out shape _ _ ks ts c b (weighted_sum (negsuc 0 ∷ ks) (term_values b (c ∷ ts))) refl
    (sum_above box b (negsuc 0 ∷ ks) (c ∷ ts) are i) (sum_below box b (negsuc 0 ∷ ks) (c ∷ ts) are i) out holds
refuted_sum shape arguments box b are i out holds = out

all_variables : (box : List (List (ℤ × ℤ))) (b : List ℤ) (vs : List ℕ) → IsInBox box b → AllByRecursion (IsAt box b) vs
all_variables box b [] i = tt
all_variables box b (v ∷ vs) i = (at_variable box b v i, all_variables box b vs i)

empty_among : (box : List (List (ℤ × ℤ))) (b : List ℤ) (vs : List ℕ) → IsInBox box b → IsEmptyAmong box vs → ⊥
empty_among box b [] i none = none
empty_among box b (v ∷ vs) i (inl none) = subst (λ (s : List (ℤ × ℤ)). IsInSet s (term_value b (Var v))) none (at_variable box b v i)
empty_among box b (v ∷ vs) i (inr none) = empty_among box b vs i none

refuted : (c : Constraint) (box : List (List (ℤ × ℤ))) (b : List ℤ) → AreSets box → IsInBox box b → Refutes c box → IsTrueOf b c → ⊥
refuted c box b are i (inl out) holds = refuted_sum (shape_of c.name) c.arguments box b are i out holds
refuted c box b are i (inr (inl none)) holds = empty_among box b (variables_of c.arguments) i none
refuted c box b are i (inr (inr small)) holds = small.never b (all_variables box b (variables_of c.arguments) i) holds

some_refuted : (cs : List Constraint) (k : ℕ) (box : List (List (ℤ × ℤ))) (b : List ℤ) → AreSets box → IsInBox box b → RefutesIfThere (slice_get cs k) box → AllByRecursion (IsTrueOf b) cs → ⊥
some_refuted [] k box b are i out all = out
some_refuted (c ∷ cs) zero box b are i out all = refuted c box b are i out all.0
some_refuted (c ∷ cs) (suc k) box b are i out all = some_refuted cs k box b are i out all.1

-- ---- the goal

no_better : (goal : Goal) (box : List (List (ℤ × ℤ))) (a b : List ℤ) → IsInBox box b → IsNoBetter goal box a → score_of goal b <ℤ score_of goal a → ⊥
no_better Satisfy box a b i none less = none
no_better (Minimize t) box a b i none less = let bound = none (term_value b t) (at_term box b t i) in omega (arith, ints, bound, less)
no_better (Maximize t) box a b i none less = let bound = none (term_value b t) (at_term box b t i) in omega (arith, ints, bound, less)

worse : (m : Instance) (head : Option (List ℤ)) (box : List (List (ℤ × ℤ))) (b : List ℤ) → IsInBox box b → IsWorse m.goal box head → Betters m b head → ⊥
worse m None box b i out better = out
worse m (Some a) box b i out better = no_better m.goal box a b i out better.less

-- ---- trees

pub refuted_has_none : RefutedHasNone
refuted_has_none m head box Empty b are out i holds better = of_empty box b out i
refuted_has_none m head box (Failing c) b are out i holds better = some_refuted m.constraints c box b are i out holds.constraints
refuted_has_none m head box Worse b are out i holds better = worse m head box b i out better
refuted_has_none m head box (Split v n low high) b are out i holds better =
    elim (in_half box b v n i) [
      | inl j ↦ refuted_has_none m head (low_half v n box) low b (low_sets box v n are) out.1 j holds better
      | inr j ↦ refuted_has_none m head (high_half v n box) high b (high_sets box v n are) out.2 j holds better
    ]

-- ---- models

ranges_for : (kind : Kind) (set : List (ℤ × ℤ)) → HasSetOf kind set → AreRanges set
ranges_for kinds.Bool set is = subst AreRanges (sym is) (omega (arith, ints))
ranges_for kinds.Int set is = is.ranges

variable_ranges : (v : Variable) → IsVariable v → AreRanges v.set
variable_ranges v is = ranges_for v.kind v.set is

pub declared_sets : (vs : List Variable) → AllByRecursion IsVariable vs → AreSets (declared_box vs)
declared_sets [] all = tt
declared_sets (v ∷ vs) all = (variable_ranges v all.0, declared_sets vs all.1)

pub none_better : (m : Instance) (head : Option (List ℤ)) (tree : Tree) (b : List ℤ) → IsModel m → IsRefutedBy m head (declared_box m.variables) tree → Satisfies m b → Betters m b head → ⊥
none_better m head tree b is out holds better = refuted_has_none m head (declared_box m.variables) tree b (declared_sets m.variables is.sets) out (declared_in m.variables b holds.declared) holds better

pub best_is_proved : BestIsProved
best_is_proved m a output is proof = record {
  satisfies = proof.is_head.0;
  unbettered = λ b holds better. none_better m (Some a) proof.tree b is proof.refuted holds better;
}

pub none_is_proved : NoneIsProved
none_is_proved m a output is proof holds = none_better m None proof.tree a is proof.refuted holds tt

shown : (m : Instance) (head : Option (List ℤ)) (output : List ℕ) → IsModel m → ProvesHead m head output → IsShown m head
shown m None output is proof = λ a holds. none_is_proved m a output is proof holds
shown m (Some a) output is proof = best_is_proved m a output is proof

pub proving_shows : ProvingShows
proving_shows m output is proof = record { head = proof.0; proof = proof.1; shown = shown m proof.0 output is proof.1 }
