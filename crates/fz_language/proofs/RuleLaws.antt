-- The first of a list of faults.
use Rattle.std.proofs.Common.{◌≡◌, ℕ, List, [], ◌∷◌, refl, sym, inl, inr, ◌∙◌}
use Rattle.std.specs.Prelude.{◌⊎◌}
use Rattle.fz_spec.specs.declared.code.Code.{Code}
use Rattle.fz_language.specs.Rules.{Fault}
use Rattle.fz_language.specs.Reads.{IsFirst, rule_code}

pub judged : (faults : List Fault) → (faults ≡ []) ⊎ ((c : Code) × (at : ℕ) × IsFirst faults c at)
judged [] = inl refl
judged (fault ∷ faults) = inr (rule_code fault.rule, fault.at, (refl, refl))

pub one_first : (faults : List Fault) (c d : Code) (a b : ℕ) → IsFirst faults c a → IsFirst faults d b → (c ≡ d) × (a ≡ b)
one_first [] c d a b h k = absurd h
one_first (fault ∷ faults) c d a b h k = (h.0 ∙ sym k.0, h.1 ∙ sym k.1)
