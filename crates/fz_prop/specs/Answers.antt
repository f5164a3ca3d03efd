-- What a run of a propagator leaves, of the store before it and the one after it.
use Rattle.std.specs.Prelude.{◌<◌, ℤ, List, Result, IfOk}
use Rattle.fz_strength.specs.Domains.{room, AreDomains, Within, IsNarrower}
use Rattle.fz_prop.specs.declared.answer.Answer.{Answer}
use Rattle.fz_prop.specs.declared.answer.Answer.TheVariants.{Fix, NoFix, Subsumed, Failed}
use Rattle.fz_prop.specs.Stores.{Stored, Shrinks}

-- what each answer says, where T is what is to be true of an assignment, and R the line
abbrev pub IsAnswerOf : Answer → (List ℤ → Type 0) → (List (List (ℤ × ℤ)) → Type 0) → List (List (ℤ × ℤ)) → List (List (ℤ × ℤ)) → Type 0
IsAnswerOf Fix T R ds es = R es
IsAnswerOf NoFix T R ds es = room es < room ds
IsAnswerOf Subsumed T R ds es = ((a : List ℤ) → Within es a → T a) × ((fs : List (List (ℤ × ℤ))) → AreDomains fs → IsNarrower es fs → R fs)
IsAnswerOf Failed T R ds es = (a : List ℤ) → Within ds a → T a → ⊥

-- no assignment of this truth is lost
abbrev pub IsCorrectOf : (List ℤ → Type 0) → List (List (ℤ × ℤ)) → List (List (ℤ × ℤ)) → Type 0
IsCorrectOf T ds es = (a : List ℤ) → T a → Within ds a → Within es a

-- The store shrinks, no assignment is lost of which T is true, and the answer is right.
pub record Narrows {E : Type 0} (T : List ℤ → Type 0) (R : List (List (ℤ × ℤ)) → Type 0) (result : Result Answer E) (before after : Stored) : Type 0 where
  pub shrinks : Shrinks before after
  pub correct : IsCorrectOf T before.doms after.doms
  pub answer : IfOk result (λ r. IsAnswerOf r T R before.doms after.doms)
