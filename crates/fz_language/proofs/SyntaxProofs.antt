-- The laws of the grammar, from what holds of every grammar whose tables are fine.
use Rattle.std.proofs.Common.{◌≡◌, ℕ, List, [], ◌∷◌, true, refl}
use Rattle.fz_language.specs.Tokens.{Token}
use Rattle.fz_language.specs.Trees.{Program}
use Rattle.fz_grammar.specs.Grammar.{Rule}
use Rattle.fz_grammar.specs.Reading.{ReadsIn, StopsIn, IsOther}
use Rattle.fz_grammar.specs.Verdict.{IsAccepted, HasFault, IsTooDeep}
use Rattle.fz_grammar.proofs.Levels.{accepted, faulty, faulty_behind, too_deep_at}
use Rattle.fz_language.specs.Grammar.{flatzinc, level_limit, WholeProgram}
use Rattle.fz_language.specs.SyntaxLaws.{SpellingIsOne, FaultIsOne, DepthIsOne, VerdictIsOne, SomeVerdict}
use Rattle.fz_language.proofs.Tables.{tables, fine, even}
use Rattle.fz_language.proofs.Lefts.{lefts, finite}
use Rattle.fz_grammar.proofs.Some.{some_verdict}
use Rattle.fz_grammar.proofs.Fronts.{one_tree}
use Rattle.fz_grammar.proofs.One.{one_fault, one_level, not_both, no_fault, no_level}

pub spelling_is_one : SpellingIsOne
spelling_is_one ts p q h k = one_tree flatzinc tables fine WholeProgram refl ts p q h.spelt k.spelt

pub fault_is_one : FaultIsOne
fault_is_one ts b d h k = one_fault flatzinc level_limit WholeProgram ts b d h k

pub depth_is_one : DepthIsOne
depth_is_one ts b d h k = one_level flatzinc level_limit WholeProgram ts b d h k

pub verdict_is_one : VerdictIsOne
verdict_is_one = (
  λ ts b d h k. not_both flatzinc level_limit WholeProgram ts b d h k,
  λ ts p b h k. no_fault flatzinc level_limit WholeProgram ts p b h k,
  λ ts p b h k. no_level flatzinc level_limit WholeProgram ts p b h k,
)

pub some_verdict_is : SomeVerdict
some_verdict_is ts = some_verdict flatzinc lefts level_limit finite tables fine even refl WholeProgram refl ts

-- ---- what the outcomes of a reading say of a text

pub program_accepted : (ts : List Token) (p : Program) → ReadsIn flatzinc level_limit 0 (Rule WholeProgram ∷ []) ts [] (p, tt) → IsAccepted flatzinc level_limit WholeProgram ts p
program_accepted ts p r = accepted flatzinc tables fine even level_limit WholeProgram ts p r

pub program_faulty : (ts new : List Token) → StopsIn flatzinc level_limit IsOther 0 (Rule WholeProgram ∷ []) ts new → HasFault flatzinc level_limit WholeProgram ts new
program_faulty ts new r = faulty flatzinc tables fine even level_limit WholeProgram refl ts new r

pub program_faulty_behind : (ts : List Token) (t : Token) (new : List Token) (p : Program) → ReadsIn flatzinc level_limit 0 (Rule WholeProgram ∷ []) ts (t ∷ new) (p, tt) → HasFault flatzinc level_limit WholeProgram ts (t ∷ new)
program_faulty_behind ts t new p r = faulty_behind flatzinc tables fine even level_limit WholeProgram refl ts t new p r

pub program_too_deep : (P : ℕ → ℕ → ℕ → Type 0) → ((l k h : ℕ) → P l k h → (l ≡ level_limit) × (h ≡ k) × (flatzinc.opens k ≡ true)) → (ts new : List Token)
    → StopsIn flatzinc level_limit P 0 (Rule WholeProgram ∷ []) ts new → IsTooDeep flatzinc level_limit WholeProgram ts new
program_too_deep P says ts new r = too_deep_at flatzinc tables fine even P level_limit says refl WholeProgram ts new r
