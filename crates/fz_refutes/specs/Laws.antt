-- Laws that the definitions keep.
use Rattle.std.specs.Prelude.{◌≡◌, ℕ, ℤ, List, [], ◌∷◌, ◌++◌, Option, Some, None}
use Rattle.fz_spec.specs.Instance.{Instance, Satisfies, IsBetter, IsBest}
use Rattle.fz_model.specs.Kept.{IsModel}
use Rattle.fz_refutes.specs.Boxes.{IsInBox, AreSets}
use Rattle.fz_refutes.specs.Trees.{Tree, Line, IsRefutedBy, AreRefutedBy, lines_of}
use Rattle.fz_refutes.specs.Texts.{IsCert, IsHead, Proves, ProvesHead, front_text}

-- where nothing is known each is better
abbrev pub Betters : Instance → List ℤ → Option (List ℤ) → Type 0
Betters m b None = Unit {0}
Betters m b (Some a) = IsBetter m b a

abbrev pub RefutedHasNone : Type 0
RefutedHasNone = (m : Instance) (head : Option (List ℤ)) (box : List (List (ℤ × ℤ))) (tree : Tree) (b : List ℤ)
    → AreSets box → IsRefutedBy m head box tree → IsInBox box b → Satisfies m b → Betters m b head → ⊥

abbrev pub BestIsProved : Type 0
BestIsProved = (m : Instance) (a : List ℤ) (output : List ℕ) → IsModel m → ProvesHead m (Some a) output → IsBest m a

abbrev pub NoneIsProved : Type 0
NoneIsProved = (m : Instance) (a : List ℤ) (output : List ℕ) → IsModel m → ProvesHead m None output → Satisfies m a → ⊥

-- the assignment of the head is best, or none satisfies
abbrev pub IsShown : Instance → Option (List ℤ) → Type 0
IsShown m None = (a : List ℤ) → Satisfies m a → ⊥
IsShown m (Some a) = IsBest m a

-- what an output that proves shows
pub record Shows (m : Instance) (output : List ℕ) : Type 0 where
  pub head : Option (List ℤ)
  pub proof : ProvesHead m head output
  pub shown : IsShown m head

abbrev pub ProvingShows : Type 0
ProvingShows = (m : Instance) (output : List ℕ) → IsModel m → Proves m output → Shows m output

abbrev pub CertProves : Type 0
CertProves = (m : Instance) (head : Option (List ℤ)) (text : List ℕ) → IsHead m head → IsCert m head text → ProvesHead m head (front_text m head ++ text)

abbrev pub CertIsOne : Type 0
CertIsOne = (m : Instance) (head : Option (List ℤ)) (text other : List ℕ) → IsCert m head text → IsCert m head other → text ≡ other

abbrev pub LinesAreChecked : Type 0
LinesAreChecked = (m : Instance) (head : Option (List ℤ)) (box : List (List (ℤ × ℤ))) (tree : Tree)
    → IsRefutedBy m head box tree → AreRefutedBy m head (box ∷ []) (lines_of tree)

abbrev pub CheckedIsRefuted : Type 0
CheckedIsRefuted = (m : Instance) (head : Option (List ℤ)) (box : List (List (ℤ × ℤ))) (lines : List Line)
    → AreRefutedBy m head (box ∷ []) lines → (tree : Tree) × IsRefutedBy m head box tree × (lines ≡ lines_of tree)
