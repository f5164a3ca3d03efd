-- Paths for as many workers as are asked for.
use Rattle.std.proofs.Common.{◌≡◌, ◌∙◌, ℕ, List, [], ◌∷◌, ◌++◌, sym, ap, subst}
use Rattle.std.specs.Prelude.{All}
use Rattle.std.proofs.lemmas.List.Elements.{All-push}
use Rattle.fz_spec.specs.Instance.{Instance}
use Rattle.fz_tree.specs.declared.mode.Mode.{Mode}
use Rattle.fz_path.specs.Paths.{Walked, bare, idle_path}

abbrev pub are_idle : Instance → Mode → ℕ → ℕ → List Walked → Type 0
are_idle m mode commit adaptive paths = All (λ (p : Walked). bare p ≡ idle_path m mode commit adaptive) paths

-- one more, p, which stands beside an idle one
pub one_more_idle : (m : Instance) (mode : Mode) (commit adaptive : ℕ) (before after : List Walked) (first p q : Walked) → after ≡ before ++ q ∷ [] → q ≡ p
    → bare p ≡ bare first → bare first ≡ idle_path m mode commit adaptive → are_idle m mode commit adaptive before → are_idle m mode commit adaptive after
one_more_idle m mode commit adaptive before after first p q more same beside idle all =
    subst (are_idle m mode commit adaptive) (sym more)
    (All-push (λ (p : Walked). bare p ≡ idle_path m mode commit adaptive) before q all
    (ap bare same ∙ beside ∙ idle))
