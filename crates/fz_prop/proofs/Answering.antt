-- Answers of a run by one truth and line, and by another that say the same.
use Rattle.std.proofs.Common.{◌<◌, List, inl, inr, subst, arith}
use Rattle.std.specs.Prelude.{ℤ}
use Rattle.fz_strength.specs.Domains.{room}
use Rattle.fz_prop.specs.declared.answer.Answer.{Answer}
use Rattle.fz_prop.specs.declared.answer.Answer.TheVariants.{Fix, NoFix, Subsumed, Failed}
use Rattle.fz_prop.specs.Answers.{IsAnswerOf, IsCorrectOf}
use Rattle.fz_prop.specs.Stores.{Stored, Shrinks}
pub use Rattle.fz_prop.specs.Truths.{IsSame}

pub same_answer : (answer : Answer) (T U : List ℤ → Type 0) (R Q : List (List (ℤ × ℤ)) → Type 0) (ds es : List (List (ℤ × ℤ)))
    → IsSame T U R Q → IsAnswerOf answer T R ds es → IsAnswerOf answer U Q ds es
same_answer Fix T U R Q ds es same h = same.line es h
same_answer NoFix T U R Q ds es same h = h
same_answer Subsumed T U R Q ds es same h = ((λ a within. (same.truth a).0 (h.0 a within)), (λ fs domains narrower. same.line fs (h.1 fs domains narrower)))
same_answer Failed T U R Q ds es same h = λ a within holds. h a within ((same.truth a).1 holds)

pub same_correct : (T U : List ℤ → Type 0) (R Q : List (List (ℤ × ℤ)) → Type 0) (ds es : List (List (ℤ × ℤ))) → IsSame T U R Q → IsCorrectOf T ds es → IsCorrectOf U ds es
same_correct T U R Q ds es same h = λ a holds within. h a ((same.truth a).1 holds) within

-- ---- one run after the other

pub answer_twice : (answer : Answer) (T : List ℤ → Type 0) (R : List (List (ℤ × ℤ)) → Type 0) (r s t : Stored) → Shrinks r s → IsCorrectOf T r.doms s.doms
    → IsAnswerOf answer T R s.doms t.doms → IsAnswerOf answer T R r.doms t.doms
answer_twice Fix T R r s t shrinks correct h = h
answer_twice NoFix T R r s t shrinks correct h = elim shrinks.falls [ inl e ↦ subst (λ (u : Stored). room t.doms < room u.doms) e h | inr l ↦ omega (arith, h, l) ]
answer_twice Subsumed T R r s t shrinks correct h = h
answer_twice Failed T R r s t shrinks correct h = λ a within holds. h a (correct a holds within) holds

pub correct_twice : (T : List ℤ → Type 0) (ds es fs : List (List (ℤ × ℤ))) → IsCorrectOf T ds es → IsCorrectOf T es fs → IsCorrectOf T ds fs
correct_twice T ds es fs p q = λ a holds within. q a holds (p a holds within)
