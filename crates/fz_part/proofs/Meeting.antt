-- A decision, as a constraint and as a test; and decisions of a model.
use Rattle.std.proofs.Common.{◌≡◌, ◌≢◌, ◌↔◌, ℕ, zero, suc, ◌<◌, ◌≤◌, List, [], ◌∷◌, refl, sym, subst, arith, length, map, get_or, not, inl, inr, Option, Some, None, MatchOption}
use Rattle.std.specs.Prelude.{ℤ, pos, ◌≤ℤ◌, ◌<ℤ◌, int_le, IsTrue, IsSomeAnd, unwrap_or}
use Rattle.std.specs.Ordering.{int_eq}
use Rattle.std.specs.List.{AllByRecursion, slice_get}
use Rattle.std.proofs.lemmas.Bool.{and_parts, and_from}
use Rattle.std.proofs.lemmas.Bool.Decides.{Decides-int_eq, Decides-not}
use Rattle.std.proofs.lemmas.Int.{ints}
use Rattle.std.proofs.lemmas.Option.{slice_get-get_or}
use Rattle.fz_sets.proofs.Lists.{all_left, all_right, all_both}
use Rattle.fz_sets.proofs.Numbers.{test_of_le, test_of_above}
use Rattle.fz_spec.specs.declared.kind.Kind.{Kind}
use Rattle.fz_spec.specs.declared.kind.Kind.TheVariants as kinds
use Rattle.fz_spec.specs.declared.limits.TheConstants.{VARIABLE_LIMIT}
use Rattle.fz_spec.specs.declared.shape.Relation.{Relation}
use Rattle.fz_spec.specs.declared.shape.Relation.TheVariants as relations
use Rattle.fz_spec.specs.declared.shape.Shape.{Shape}
use Rattle.fz_spec.specs.declared.shape.Shape.TheVariants.{Rel}
use Rattle.fz_spec.specs.declared.term.Term.TheVariants.{Num, Var}
use Rattle.fz_spec.specs.Signatures.{shape_of}
use Rattle.fz_spec.specs.Constraints.{HoldsAs, IsTrueOf, term_value}
use Rattle.fz_spec.specs.Instance.{Instance, Variable, Satisfies}
use Rattle.fz_spec.specs.Truth.{SomeByRecursion}
use Rattle.fz_model.specs.Kept.{IsModel, kind_at, IsNumberOf}
use Rattle.fz_tree.specs.declared.decision.Comparison.{Comparison}
use Rattle.fz_tree.specs.declared.decision.Comparison.TheVariants.{Equal, NotEqual, AtMost, Above}
use Rattle.fz_tree.specs.declared.decision.Decision.{Decision}
use Rattle.fz_tree.specs.Choice.{compares, compares_if_there, meets}
use Rattle.fz_tree.proofs.Orders.{declared_length}
use Rattle.fz_part.specs.Words.{IsWord}
use Rattle.fz_part.specs.Parts.{IsDecisionOf, IsPartOf, is_in_part, name_of, arguments_of, constraint_of, with_part}
use Rattle.fz_part.specs.Texts.{part_text, IsWritten, IsWrong, Refuses}
use Rattle.fz_part.specs.declared.refusal.Refusal.{Refusal}
use Rattle.fz_part.specs.declared.refusal.Refusal.TheVariants.{NotAPart, NoVariable, OutOfRange}

-- ---- what a comparison says

abbrev Compare : Comparison → ℤ → ℤ → Type 0
Compare Equal x n = x ≡ n
Compare NotEqual x n = x ≢ n
Compare AtMost x n = x ≤ℤ n
Compare Above x n = n <ℤ x

le_of_test : (x n : ℤ) → IsTrue (int_le x n) → x ≤ℤ n
le_of_test x n t = grind (arith, ints)

above_of_test : (x n : ℤ) → IsTrue (not (int_le x n)) → n <ℤ x
above_of_test x n t = grind (arith, ints)

decided : (c : Comparison) (x n : ℤ) → Compare c x n ↔ IsTrue (compares c x n)
decided Equal x n = ((Decides-int_eq x n).1, (Decides-int_eq x n).0)
decided NotEqual x n = let d = Decides-not (int_eq x n) (Decides-int_eq x n) in (d.1, d.0)
decided AtMost x n = (test_of_le x n, le_of_test x n)
decided Above x n = (test_of_above x n, above_of_test x n)

-- ---- as a constraint

abbrev pub relation_of : Comparison → Relation
relation_of Equal = relations.Equal
relation_of NotEqual = relations.NotEqual
relation_of AtMost = relations.AtMost
relation_of Above = relations.Below

pub shape_is : (k : Kind) (c : Comparison) → shape_of (name_of k c) ≡ Rel (relation_of c)
unfolding shape_of
shape_is kinds.Bool Equal = refl
shape_is kinds.Bool NotEqual = refl
shape_is kinds.Bool AtMost = refl
shape_is kinds.Bool Above = refl
shape_is kinds.Int Equal = refl
shape_is kinds.Int NotEqual = refl
shape_is kinds.Int AtMost = refl
shape_is kinds.Int Above = refl

says_as : (c : Comparison) (a : List ℤ) (v : ℕ) (n : ℤ) → HoldsAs (Rel (relation_of c)) (arguments_of c (Var v) (Num n)) a ↔ Compare c (term_value a (Var v)) n
says_as Equal a v n = (λ h. h, λ h. h)
says_as NotEqual a v n = (λ h. h, λ h. h)
says_as AtMost a v n = (λ h. h, λ h. h)
says_as Above a v n = (λ h. h, λ h. h)

says : (k : Kind) (c : Comparison) (a : List ℤ) (v : ℕ) (n : ℤ) → HoldsAs (shape_of (name_of k c)) (arguments_of c (Var v) (Num n)) a ↔ Compare c (term_value a (Var v)) n
says k c a v n = subst (λ (s : Shape). HoldsAs s (arguments_of c (Var v) (Num n)) a ↔ Compare c (term_value a (Var v)) n) (sym (shape_is k c)) (says_as c a v n)

meets_if : (c : Comparison) (n x : ℤ) (o : Option ℤ) → o ≡ Some x → Compare c (unwrap_or o (pos 0)) n ↔ IsTrue (compares_if_there o c n)
meets_if c n x o is = subst (λ (q : Option ℤ). Compare c (unwrap_or q (pos 0)) n ↔ IsTrue (compares_if_there q c n)) (sym is) (decided c x n)

both_ways : {P Q R : Type 0} → (P ↔ Q) → (Q ↔ R) → P ↔ R
both_ways f g = (λ p. g.0 (f.0 p), λ r. f.1 (g.1 r))

-- as a constraint it is true where it is met
true_is_met : (vs : List Variable) (a : List ℤ) (d : Decision) → d.variable < length a → IsTrueOf a (constraint_of vs d) ↔ IsTrue (meets a d)
true_is_met vs a d below =
    let there = slice_get-get_or a d.variable (pos 0) below in
    both_ways (says (unwrap_or (kind_at vs d.variable) kinds.Int) d.comparison a d.variable d.value) (meets_if d.comparison d.value (get_or a d.variable (pos 0)) (slice_get a d.variable) there)

-- ---- the variable of a decision

kind_there : (vs : List Variable) (v : ℕ) (k : Kind) → kind_at vs v ≡ Some k → v < length vs
kind_there [] v k is = cc
kind_there (u ∷ vs) zero k is = omega arith
kind_there (u ∷ vs) (suc v) k is = let h = kind_there vs v k is in omega (arith, h)

pub record HasKind (o : Option Kind) (z : ℤ) : Type 0 where
  pub kind : Kind
  pub is : o ≡ Some kind
  pub number : IsNumberOf kind z

pub has_kind : (o : Option Kind) (z : ℤ) → MatchOption o ⊥ (λ (kind : Kind). IsNumberOf kind z) → HasKind o z
has_kind None z h = absurd h
has_kind (Some k) z h = record { kind = k; is = refl; number = h }

pub variable_below : (vs : List Variable) (d : Decision) → IsDecisionOf vs d → d.variable < length vs
variable_below vs d of_model = let k = has_kind (kind_at vs d.variable) d.value of_model in kind_there vs d.variable k.kind k.is

number_word : (k : Kind) (z : ℤ) → IsNumberOf k z → IsWord z
number_word kinds.Bool z h = let low = h.0 in let high = h.1 in (omega (arith, ints, low, high), omega (arith, ints, low, high))
number_word kinds.Int z h = let low = h.0 in let high = h.1 in (omega (arith, ints, low, high), omega (arith, ints, low, high))

written_one : (vs : List Variable) (d : Decision) → length vs ≤ VARIABLE_LIMIT → IsDecisionOf vs d → IsWritten d
written_one vs d few of_model =
    let k = has_kind (kind_at vs d.variable) d.value of_model in
    let below = kind_there vs d.variable k.kind k.is in
    record { variable = omega (arith, few, below); value = number_word k.kind d.value k.number }

written_each : (vs : List Variable) (p : List Decision) → length vs ≤ VARIABLE_LIMIT → AllByRecursion (IsDecisionOf vs) p → AllByRecursion IsWritten p
written_each vs [] few of_model = tt
written_each vs (d ∷ ds) few of_model = (written_one vs d few of_model.0, written_each vs ds few of_model.1)

-- the decisions of a part of a model have numbers of 32 bits
pub written : (m : Instance) (p : List Decision) → IsModel m → IsPartOf m p → AllByRecursion IsWritten p
written m p kept of_model = written_each m.variables p kept.few of_model

-- ---- what is wrong isn't of the model

wrong_kind : (o : Option Kind) (z : ℤ) → IsSomeAnd o (λ (kind : Kind). IsNumberOf kind z → ⊥) → MatchOption o ⊥ (λ (kind : Kind). IsNumberOf kind z) → ⊥
wrong_kind None z wrong h = h
wrong_kind (Some k) z wrong h = wrong h

none_kind : (o : Option Kind) (z : ℤ) → o ≡ None → MatchOption o ⊥ (λ (kind : Kind). IsNumberOf kind z) → ⊥
none_kind o z none h = subst (λ (q : Option Kind). MatchOption q ⊥ (λ (kind : Kind). IsNumberOf kind z)) none h

wrong_one : (r : Refusal) (vs : List Variable) (d : Decision) → IsWrong r vs d → IsDecisionOf vs d → ⊥
wrong_one NotAPart vs d wrong h = wrong
wrong_one NoVariable vs d wrong h = none_kind (kind_at vs d.variable) d.value wrong h
wrong_one OutOfRange vs d wrong h = wrong_kind (kind_at vs d.variable) d.value wrong h

pub wrong_part : (r : Refusal) (vs : List Variable) (p : List Decision) → SomeByRecursion (IsWrong r vs) p → AllByRecursion (IsDecisionOf vs) p → ⊥
wrong_part r vs [] some all = some
wrong_part r vs (d ∷ ds) (inl here) all = wrong_one r vs d here all.0
wrong_part r vs (d ∷ ds) (inr there) all = wrong_part r vs ds there all.1

no_wrong : (vs : List Variable) (p : List Decision) → SomeByRecursion (IsWrong NotAPart vs) p → ⊥
no_wrong vs [] some = some
no_wrong vs (d ∷ ds) (inl here) = here
no_wrong vs (d ∷ ds) (inr there) = no_wrong vs ds there

pub some_at : (P : Decision → Type 0) (p : List Decision) (i : ℕ) (d : Decision) → i < length p → P (get_or p i d) → SomeByRecursion P p
some_at P [] i d within here = absurd (omega (arith, within))
some_at P (e ∷ ds) zero d within here = inl here
some_at P (e ∷ ds) (suc i) d within here = inr (some_at P ds i d (omega (arith, within)) here)

-- as the code says it: vs are the variables that it reads, read the decisions
pub not_wrong : (r : Refusal) (m : Instance) (vs : List Variable) (read p : List Decision) → vs ≡ m.variables → read ≡ p → SomeByRecursion (IsWrong r vs) read → IsPartOf m p → ⊥
not_wrong r m vs read p of_m same some of_model =
    wrong_part r m.variables p (subst (λ (ds : List Decision). SomeByRecursion (IsWrong r m.variables) ds) same (subst (λ (us : List Variable). SomeByRecursion (IsWrong r us) read) of_m some)) of_model

refuses_own : (r : Refusal) (m : Instance) (text : List ℕ) (p : List Decision) → part_text p ≡ text → SomeByRecursion (IsWrong r m.variables) p → Refuses r m text
refuses_own NotAPart m text p is some = absurd (no_wrong m.variables p some)
refuses_own NoVariable m text p is some = record { part = p; is = is; some = some }
refuses_own OutOfRange m text p is some = record { part = p; is = is; some = some }

pub refuses : (r : Refusal) (m : Instance) (vs : List Variable) (text : List ℕ) (p : List Decision) → vs ≡ m.variables → part_text p ≡ text → SomeByRecursion (IsWrong r vs) p → Refuses r m text
refuses r m vs text p of_m is some = refuses_own r m text p is (subst (λ (us : List Variable). SomeByRecursion (IsWrong r us) p) of_m some)

-- ---- a part as constraints

all_met : (vs : List Variable) (a : List ℤ) (p : List Decision) → AllByRecursion (λ (d : Decision). d.variable < length a) p → AllByRecursion (IsTrueOf a) (map (constraint_of vs) p) → IsTrue (is_in_part a p)
all_met vs a [] below all = refl
all_met vs a (d ∷ ds) below all = and_from (meets a d) (is_in_part a ds) ((true_is_met vs a d below.0).0 all.0) (all_met vs a ds below.1 all.1)

all_true : (vs : List Variable) (a : List ℤ) (p : List Decision) → AllByRecursion (λ (d : Decision). d.variable < length a) p → IsTrue (is_in_part a p) → AllByRecursion (IsTrueOf a) (map (constraint_of vs) p)
all_true vs a [] below met = tt
all_true vs a (d ∷ ds) below met = let both = and_parts (meets a d) (is_in_part a ds) met in ((true_is_met vs a d below.0).1 both.0, all_true vs a ds below.1 both.1)

below_each : (vs : List Variable) (a : List ℤ) (p : List Decision) → length a ≡ length vs → AllByRecursion (IsDecisionOf vs) p → AllByRecursion (λ (d : Decision). d.variable < length a) p
below_each vs a [] size of_model = tt
below_each vs a (d ∷ ds) size of_model = (let h = variable_below vs d of_model.0 in rw size h, below_each vs a ds size of_model.1)

pub with_part_in : (m : Instance) (p : List Decision) (a : List ℤ) → IsPartOf m p → Satisfies (with_part m p) a ↔ (Satisfies m a × IsTrue (is_in_part a p))
with_part_in m p a of_model = (
  λ s. (
      let below = below_each m.variables a p (declared_length m.variables a s.declared) of_model in (
        record { declared = s.declared; constraints = all_left (IsTrueOf a) m.constraints (map (constraint_of m.variables) p) s.constraints },
        all_met m.variables a p below (all_right (IsTrueOf a) m.constraints (map (constraint_of m.variables) p) s.constraints),
      )
      ),
  λ both. (
      let s = both.0 in
      let below = below_each m.variables a p (declared_length m.variables a s.declared) of_model in
      record {
        declared = s.declared;
        constraints = all_both (IsTrueOf a) m.constraints (map (constraint_of m.variables) p) s.constraints (all_true m.variables a p below both.1);
      }
      ),
)
