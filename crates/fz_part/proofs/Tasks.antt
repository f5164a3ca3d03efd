-- The task of a machine: it is a model, and what its bound says.
use Rattle.std.proofs.Common.{◌≡◌, ◌≢◌, ◌↔◌, ℕ, true, false, ◌≤◌, List, [], ◌∷◌, refl, sym, ap, subst, arith, length, map, Option, Some, None}
use Rattle.std.specs.Prelude.{ℤ, ◌<ℤ◌, ◌-ℤ◌, IsTrue, IfSome, unwrap_or}
use Rattle.std.specs.List.{AllByRecursion}
use Rattle.std.proofs.lemmas.Int.{ints}
use Rattle.fz_sets.specs.Sets.{IsWithinLimits, LEAST, GREATEST}
use Rattle.fz_sets.proofs.Lists.{all_left, all_right, all_both}
use Rattle.fz_spec.specs.declared.goal.Goal.{Goal}
use Rattle.fz_spec.specs.declared.goal.Goal.TheVariants.{Satisfy, Minimize, Maximize}
use Rattle.fz_spec.specs.declared.kind.Kind.{Kind}
use Rattle.fz_spec.specs.declared.kind.Kind.TheVariants as kinds
use Rattle.fz_spec.specs.declared.limits.TheConstants.{CONSTRAINT_LIMIT}
use Rattle.fz_spec.specs.declared.shape.Shape.{Shape}
use Rattle.fz_spec.specs.declared.term.Term.{Term}
use Rattle.fz_spec.specs.declared.term.Term.TheVariants.{Num, Var}
use Rattle.fz_spec.specs.declared.builtin.Builtin.TheVariants.{IntLt}
use Rattle.fz_spec.specs.Signatures.{shape_of}
use Rattle.fz_spec.specs.Constraints.{One, Constraint, HoldsAs, IsTrueOf, term_value}
use Rattle.fz_spec.specs.Instance.{Instance, Variable, Output, SearchPart, Satisfies, IsWhole, IsBetter, score_of}
use Rattle.fz_model.specs.Kept.{IsModel, IsConstraint, IsGoal, IsNumberOf, IsTermOf, FitsElement, kind_at}
use Rattle.fz_tree.specs.declared.decision.Comparison.{Comparison}
use Rattle.fz_tree.specs.declared.decision.Comparison.TheVariants.{Equal, NotEqual, AtMost, Above}
use Rattle.fz_tree.specs.declared.decision.Decision.{Decision}
use Rattle.fz_part.specs.Laws.{IsBetterThan, HasValue}
use Rattle.fz_part.specs.Parts.{IsDecisionOf, IsPartOf, is_in_part, name_of, arguments_of, constraint_of, with_part, bounds_of, with_bound, task_of}
use Rattle.fz_part.proofs.Meeting.{has_kind, shape_is, with_part_in}

-- ---- its constraints fit

compare_fits : (vs : List Variable) (k : Kind) (c : Comparison) (v : ℕ) (n : ℤ) → kind_at vs v ≡ Some k → IsNumberOf k n
    → IsConstraint vs (record { name = name_of k c; arguments = arguments_of c (Var v) (Num n); whole = false })
compare_fits vs kinds.Bool Equal v n k h = record { fit = ((refl, k), (h, tt)); lengths = refl }
compare_fits vs kinds.Bool NotEqual v n k h = record { fit = ((refl, k), (h, tt)); lengths = refl }
compare_fits vs kinds.Bool AtMost v n k h = record { fit = ((refl, k), (h, tt)); lengths = refl }
compare_fits vs kinds.Bool Above v n k h = record { fit = (h, ((refl, k), tt)); lengths = refl }
compare_fits vs kinds.Int Equal v n k h = record { fit = ((refl, k), (h, tt)); lengths = refl }
compare_fits vs kinds.Int NotEqual v n k h = record { fit = ((refl, k), (h, tt)); lengths = refl }
compare_fits vs kinds.Int AtMost v n k h = record { fit = ((refl, k), (h, tt)); lengths = refl }
compare_fits vs kinds.Int Above v n k h = record { fit = (h, ((refl, k), tt)); lengths = refl }

decision_fits : (vs : List Variable) (d : Decision) → IsDecisionOf vs d → IsConstraint vs (constraint_of vs d)
decision_fits vs d of_model =
    let k = has_kind (kind_at vs d.variable) d.value of_model in
    subst (λ (kind : Kind). IsConstraint vs (record { name = name_of kind d.comparison; arguments = arguments_of d.comparison (Var d.variable) (Num d.value); whole = false }))
    (sym (ap (λ (o : Option Kind). unwrap_or o kinds.Int) k.is)) (compare_fits vs k.kind d.comparison d.variable d.value k.is k.number)

decisions_fit : (vs : List Variable) (p : List Decision) → AllByRecursion (IsDecisionOf vs) p → AllByRecursion (IsConstraint vs) (map (constraint_of vs) p)
decisions_fit vs [] of_model = tt
decisions_fit vs (d ∷ ds) of_model = (decision_fits vs d of_model.0, decisions_fit vs ds of_model.1)

element_of : (vs : List Variable) (t : Term) → IsTermOf vs kinds.Int t → FitsElement vs (record { kind = kinds.Int; may_vary = true }) t
element_of vs (Num n) h = h
element_of vs (Var v) h = (refl, h)

bound_fits : (vs : List Variable) (g : Goal) (bound : Option ℤ) → IsGoal vs g → IfSome bound IsWithinLimits → AllByRecursion (IsConstraint vs) (bounds_of g bound)
bound_fits vs g None goal within = tt
bound_fits vs Satisfy (Some v) goal within = tt
bound_fits vs (Minimize t) (Some v) goal within = (record { fit = (element_of vs t goal, (within, tt)); lengths = refl }, tt)
bound_fits vs (Maximize t) (Some v) goal within = (record { fit = (within, (element_of vs t goal, tt)); lengths = refl }, tt)

-- ---- it is a model

task_is_model : (m : Instance) (p : List Decision) (bound : Option ℤ) → IsModel m → IsPartOf m p → IfSome bound IsWithinLimits → length (task_of m p bound).constraints ≤ CONSTRAINT_LIMIT → IsModel (task_of m p bound)
task_is_model m p bound kept of_model within few = record {
  few = kept.few;
  sets = kept.sets;
  few_constraints = few;
  constrained =
      all_both (IsConstraint m.variables) (with_part m p).constraints (bounds_of m.goal bound)
      (all_both (IsConstraint m.variables) m.constraints (map (constraint_of m.variables) p) kept.constrained (decisions_fit m.variables p of_model)) (bound_fits m.variables m.goal bound kept.goal within);
  goal = kept.goal;
  few_outputs = kept.few_outputs;
  shown = kept.shown;
  few_parts = kept.few_parts;
  searched = kept.searched;
}

-- as the code has it
pub tasked : (m : Instance) (p : List Decision) (bound : Option ℤ) (vs : List Variable) (cs : List Constraint) (g : Goal) (os : List Output) (ss : List SearchPart) → vs ≡ m.variables → cs ≡ (task_of m p bound).constraints → g ≡ m.goal → os ≡ m.outputs → ss ≡ m.search
    → record { variables = vs; constraints = cs; goal = g; outputs = os; search = ss } ≡ task_of m p bound
tasked m p bound vs cs g os ss variables constraints goal outputs search = λ i. record { variables = variables i; constraints = constraints i; goal = goal i; outputs = outputs i; search = search i }

pub tasked_is_model : (m t : Instance) (p : List Decision) (bound : Option ℤ) → t ≡ task_of m p bound → IsModel m → IsPartOf m p → IfSome bound IsWithinLimits → length t.constraints ≤ CONSTRAINT_LIMIT → IsModel t
tasked_is_model m t p bound is kept of_model within few =
    subst IsModel (sym is) (task_is_model m p bound kept of_model within (subst (λ (u : Instance). length u.constraints ≤ CONSTRAINT_LIMIT) is few))

-- ---- what the bound says

below_says : (a : List ℤ) (x y : Term) → HoldsAs (shape_of IntLt) (One x ∷ One y ∷ []) a ↔ (term_value a x <ℤ term_value a y)
below_says a x y = subst (λ (s : Shape). HoldsAs s (One x ∷ One y ∷ []) a ↔ (term_value a x <ℤ term_value a y)) (sym (shape_is kinds.Int Above)) (λ h. h, λ h. h)

bounded : (g : Goal) (bound : Option ℤ) (a : List ℤ) → AllByRecursion (IsTrueOf a) (bounds_of g bound) ↔ IfSome bound (IsBetterThan g a)
bounded g None a = (λ h. tt, λ h. tt)
bounded Satisfy (Some v) a = (λ h. tt, λ h. tt)
bounded (Minimize t) (Some v) a = let says = below_says a t (Num v) in (λ h. says.0 h.0, λ h. (says.1 h, tt))
bounded (Maximize t) (Some v) a = let says = below_says a (Num v) t in (λ h. says.0 h.0, λ h. (says.1 h, tt))

bound_in : (m : Instance) (bound : Option ℤ) (a : List ℤ) → Satisfies (with_bound m bound) a ↔ (Satisfies m a × IfSome bound (IsBetterThan m.goal a))
bound_in m bound a = (
  λ s. (
    record { declared = s.declared; constraints = all_left (IsTrueOf a) m.constraints (bounds_of m.goal bound) s.constraints },
    (bounded m.goal bound a).0 (all_right (IsTrueOf a) m.constraints (bounds_of m.goal bound) s.constraints),
  ),
  λ both. record { declared = both.0.declared; constraints = all_both (IsTrueOf a) m.constraints (bounds_of m.goal bound) both.0.constraints ((bounded m.goal bound a).1 both.1) },
)

pub better_is : (m : Instance) (v : ℤ) (a : List ℤ) → Satisfies (with_bound m (Some v)) a ↔ (Satisfies m a × IsBetterThan m.goal a v)
better_is m v a = bound_in m (Some v) a

pub task_in : (m : Instance) (p : List Decision) (bound : Option ℤ) (a : List ℤ) → IsPartOf m p → Satisfies (task_of m p bound) a ↔ (Satisfies m a × IsTrue (is_in_part a p) × IfSome bound (IsBetterThan m.goal a))
task_in m p bound a of_model =
    let part = with_part_in m p a of_model in
    let bounds = bound_in (with_part m p) bound a in (
      λ s. let both = bounds.0 s in let met = part.0 both.0 in (met.0, met.1, both.1),
      λ all. bounds.1 (part.1 (all.0, all.1), all.2),
    )

-- ---- better than a value, and than an assignment

nearer_least : (x y v k : ℤ) → y ≡ v → (x <ℤ v) ↔ ((x -ℤ k) <ℤ (y -ℤ k))
nearer_least x y v k is = (λ h. omega (arith, ints, is, h), λ h. omega (arith, ints, is, h))

nearer_greatest : (x y v k : ℤ) → y ≡ v → (v <ℤ x) ↔ ((k -ℤ x) <ℤ (k -ℤ y))
nearer_greatest x y v k is = (λ h. omega (arith, ints, is, h), λ h. omega (arith, ints, is, h))

-- by the goal
scored : (g : Goal) (a b : List ℤ) (v : ℤ) → HasValue g b v → (g ≢ Satisfy) × (IsBetterThan g a v ↔ (score_of g a <ℤ score_of g b))
scored Satisfy a b v value = absurd value
scored (Minimize t) a b v value = (λ is. cc is, nearer_least (term_value a t) (term_value b t) v LEAST value)
scored (Maximize t) a b v value = (λ is. cc is, nearer_greatest (term_value a t) (term_value b t) v GREATEST value)

pub better_than_is : (m : Instance) (a b : List ℤ) (v : ℤ) → IsWhole m a → IsWhole m b → HasValue m.goal b v → IsBetterThan m.goal a v ↔ IsBetter m a b
better_than_is m a b v whole other value =
    let s = scored m.goal a b v value in (
      λ h. record { goal = s.0; whole = whole; other_whole = other; less = s.1.0 h },
      λ better. s.1.1 better.less,
    )
