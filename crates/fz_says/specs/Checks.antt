-- What a run answers where one number is left of each variable.
use Rattle.std.specs.Prelude.{ℤ, List, length}
use Rattle.std.specs.List.{AllByRecursion}
use Rattle.fz_strength.specs.Domains.{AreDomains, Alone, IsNarrower, IsTermOf}
use Rattle.fz_strength.specs.Sayings.{Saying, line_of, said_terms, truth_of}
use Rattle.fz_prop.specs.declared.answer.Answer.{Answer}
use Rattle.fz_prop.specs.declared.answer.Answer.TheVariants.{Fix, NoFix, Subsumed, Failed}
use Rattle.fz_prop.specs.Answers.{IsAnswerOf}

-- it has failed where something is false, and else it rests
abbrev pub IsVerdict : Answer → Type 0 → Type 0
IsVerdict Fix P = P
IsVerdict Subsumed P = P
IsVerdict NoFix P = ⊥
IsVerdict Failed P = P → ⊥

-- so a propagator checks: what it promises of a run tells there whether what it says is true
abbrev pub Checks : Type 0
Checks = (s : Saying) (answer : Answer) (ds es : List (List (ℤ × ℤ))) (a : List ℤ) → AllByRecursion (IsTermOf (length ds)) (said_terms s) → Alone ds a → AreDomains es → IsNarrower ds es
    → IsAnswerOf answer (truth_of s) (line_of s) ds es → IsVerdict answer (truth_of s a)
