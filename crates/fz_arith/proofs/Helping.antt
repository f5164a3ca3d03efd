-- Keeping the terms of an equation between bounds that its line doesn't give.
use Rattle.std.proofs.Common.{◌≡◌, List, sym, subst, Result, arith}
use Rattle.std.specs.Prelude.{ℤ, IfOk}
use Rattle.std.proofs.lemmas.Result.{IfOk-weaker}
use Rattle.fz_dom.specs.declared.change.Change.{Change}
use Rattle.fz_dom.specs.declared.change.Change.TheVariants.{Same, Changed, Wiped}
use Rattle.fz_spec.specs.declared.term.Term.{Term}
use Rattle.fz_spec.specs.Constraints.{term_value}
use Rattle.fz_strength.specs.declared.bounds.Bounds.{Bounds}
use Rattle.fz_strength.specs.Domains.{Within}
use Rattle.fz_strength.specs.Operations.{Equation, EquationTruth, IsEquationLine, between}
use Rattle.fz_prop.specs.declared.answer.Answer.{Answer}
use Rattle.fz_prop.specs.declared.answer.Answer.TheVariants.{Fix, NoFix, Subsumed, Failed}
use Rattle.fz_prop.specs.Answers.{IsAnswerOf, IsCorrectOf}
use Rattle.fz_prop.specs.Outcomes.{IsOutcome}
use Rattle.fz_prop.specs.Stores.{Stored, Shrinks}
use Rattle.fz_prop.proofs.Answering.{answer_twice}
use Rattle.fz_prop.proofs.Twice.{room_after}
use Rattle.fz_ranges.specs.declared.ranges.Range.{Range}
use Rattle.fz_ranges.specs.Ranges.{IsIn}
use Rattle.fz_arith.specs.Narrowing.{LiesBetween, IsHelped, only_wiped, answer_after}

-- what is true of an equation has a property, within a store
abbrev pub IsNeeded : Equation → Stored → (List ℤ → Type 0) → Type 0
IsNeeded e r T = (a : List ℤ) → Within r.doms a → EquationTruth e a → T a

pub helped_by : (change : Change) (T : List ℤ → Type 0) (e : Equation) (r s : Stored) → IsNeeded e r T → IsOutcome change T r s → IsHelped change e r s
helped_by Same T e r s needs h = tt
helped_by Changed T e r s needs h = h
helped_by Wiped T e r s needs h = λ a within holds. h a within (needs a within holds)

pub helped_ok : {E : Type 0} (o : Result Change E) (T : List ℤ → Type 0) (e : Equation) (r s : Stored) → IsNeeded e r T → IfOk o (λ change. IsOutcome change T r s) → IfOk o (λ change. IsHelped change e r s)
helped_ok {E} o T e r s needs h = IfOk-weaker o (λ (change : Change). IsOutcome change T r s) (λ (change : Change). IsHelped change e r s) (λ change k. helped_by change T e r s needs k) h

pub wiped_only : (change : Change) (e : Equation) (r s : Stored) → IsHelped change e r s → IsHelped (only_wiped change) e r s
wiped_only Same e r s h = tt
wiped_only Changed e r s h = tt
wiped_only Wiped e r s h = h

pub correct_by : (T : List ℤ → Type 0) (e : Equation) (r s : Stored) → IsNeeded e r T → IsCorrectOf T r.doms s.doms → IsCorrectOf (EquationTruth e) r.doms s.doms
correct_by T e r s needs h = λ a holds within. h a (needs a within holds) within

-- ---- the line after it

pub answer_more : (change : Change) (answer : Answer) (e : Equation) (r s t : Stored) → IsHelped change e r s → Shrinks r s → IsCorrectOf (EquationTruth e) r.doms s.doms → Shrinks s t
    → IsAnswerOf answer (EquationTruth e) (IsEquationLine e) s.doms t.doms → IsAnswerOf (answer_after change answer) (EquationTruth e) (IsEquationLine e) r.doms t.doms
answer_more Changed Fix e r s t helped shrinks correct more h = (let after = room_after s t more in omega (arith, after, helped))
answer_more Changed NoFix e r s t helped shrinks correct more h = answer_twice NoFix (EquationTruth e) (IsEquationLine e) r s t shrinks correct h
answer_more Changed Subsumed e r s t helped shrinks correct more h = answer_twice Subsumed (EquationTruth e) (IsEquationLine e) r s t shrinks correct h
answer_more Changed Failed e r s t helped shrinks correct more h = answer_twice Failed (EquationTruth e) (IsEquationLine e) r s t shrinks correct h
answer_more Same answer e r s t helped shrinks correct more h = answer_twice answer (EquationTruth e) (IsEquationLine e) r s t shrinks correct h
answer_more Wiped answer e r s t helped shrinks correct more h = answer_twice answer (EquationTruth e) (IsEquationLine e) r s t shrinks correct h

-- ---- a term within a range

pub lie_within : (a : List ℤ) (b : Bounds) (t : Term) (r : Range) → b ≡ between t r.low r.high → IsIn r (term_value a t) → LiesBetween a b
lie_within a b t r is h = subst (LiesBetween a) (sym is) h
