-- What a reader knows of the blocks that it passes on, within this crate.
use Rattle.std.specs.Prelude.{◌≡◌, ◌≢◌, ◌⊎◌, ◌↔◌, ℕ, zero, suc, ℤ, Bool, true, false, Option, Some, None, IsSomeAnd, IsTrue, List, [], ◌∷◌, ◌++◌}
use Rattle.fz_spec.specs.declared.goal.Goal.TheVariants.{Satisfy}
use Rattle.fz_spec.specs.Instance.{Instance, Output}
use Rattle.fz_shown.specs.Shown.{IsSolutionText, ShowsAll}
use Rattle.fz_join.specs.Joining.{AreBlocks, AreSolutions, BeginsWith, HasItems, IsLine}
use Rattle.fz_join.specs.Machine.{Reading, Section}
use Rattle.fz_join.specs.Tallies.{reading_of}
use Rattle.fz_join.specs.declared.reader.Reader.{Reader}

-- ---- what is read

-- the lines of the first items
abbrev pub AreLines : List Output → ℕ → List ℕ → Type 0
AreLines os zero text = text ≡ []
AreLines [] (suc n) text = ⊥
AreLines (o ∷ os) (suc n) text = BeginsWith o (AreLines os n) text

-- what is read of a part is lines of its block
abbrev pub HoldsLines : Instance → Option Section → Type 0
HoldsLines m None = Unit {0}
HoldsLines m (Some x) = AreLines m.outputs x.items x.block

-- nothing or a block
abbrev pub IsOut : Instance → List ℕ → Type 0
IsOut m out = (out ≡ []) ⊎ HasItems m.outputs out

-- no block is left to be passed on, and the line that is read isn't ended
pub record IsBetween (m : Instance) (x : Reading) : Type 0 where
  pub out : x.state.out ≡ []
  pub section : HoldsLines m x.state.section
  pub partial : IsLine x.partial

-- ---- what is passed on

-- A block of no solution was found: neither it nor one behind it is passed on.
pub record HasFalse (m : Instance) (found printed : List ℕ) : Type 0 where
  pub block : List ℕ
  pub items : HasItems m.outputs block
  pub other : IsSolutionText m block → ⊥
  pub later : List ℕ
  pub is : found ≡ printed ++ (block ++ later)

-- by whether such a block was found
abbrev pub ArePassed : Bool → Instance → List ℕ → List ℕ → Type 0
ArePassed false m found printed = printed ≡ found
ArePassed true m found printed = HasFalse m found printed

-- Solutions are checked where each variable is shown.
pub record Knows (m : Instance) (r : Reader) : Type 0 where
  pub checked : IsTrue r.is_checked ↔ ShowsAll m
  pub between : IsBetween m (reading_of r)
  pub blocks : AreBlocks m r.printed.bytes
  pub sound : ShowsAll m → AreSolutions m r.printed.bytes
  pub passed : ArePassed r.is_false m r.found.bytes r.printed.bytes

-- the block of a best one is of no solution
pub record IsFalseBest (m : Instance) (best : Option (ℤ × List ℕ)) : Type 0 where
  pub goal : m.goal ≢ Satisfy
  pub other : IsSomeAnd best (λ (b : ℤ × List ℕ). IsSolutionText m b.1 → ⊥)
