-- Laws that the definitions keep.
use Rattle.std.specs.Prelude.{◌≡◌, ℕ, ◌+◌, ◌<◌, ◌↔◌, ◌⊎◌, ℤ, true, false, cond, IsTrue, List, [], length, take, slice_index_or, Option}
use Rattle.std.specs.List.{AllByRecursion, list_any}
use Rattle.fz_spec.specs.Instance.{Instance, AreDeclared, Satisfies, Lists}
use Rattle.fz_tree.specs.declared.decision.Decision.{Decision}
use Rattle.fz_tree.specs.declared.mode.Mode.TheVariants.{All, Rows, Best}
use Rattle.fz_tree.specs.Choice.{meets, pair_of, IsChoice}
use Rattle.fz_tree.specs.Frontier.{Edge, Frontier, AreEdges, others, is_in, In, times_in, times_in_all, can_cut, closed, branched, moved, part_of, rest_of, AreParts}
use Rattle.fz_tree.specs.Proper.{MeetsTaken, IsReachable, Fits}
use Rattle.fz_tree.specs.Better.{Betters}
use Rattle.fz_tree.specs.Rows.{AreAbout, ListsRows, row_of}
use Rattle.fz_tree.specs.Account.{Account, AccountLaw, times_found}
use Rattle.fz_tree.specs.Book.{Book, BookLaw, incumbent}
use Rattle.fz_tree.specs.Measure.{weight}

-- a decision and its negation are a choice, and it fits every node where the variable is of the model
abbrev pub PairIsChoice : Type 0
PairIsChoice = (d : Decision) → IsChoice (pair_of d)

abbrev pub PairFits : Type 0
PairFits = (m : Instance) (es : List Edge) (known : Option (List ℤ)) (d : Decision) → d.variable < length m.variables → Fits m es known (pair_of d)

-- the open place below the edge at i, at one of its alternatives after the taken one
pub record IsAtOther (es : List Edge) (a : List ℤ) (i : ℕ) : Type 0 where
  pub within : i < length es
  pub taken : MeetsTaken (take i es) a
  pub other : (d : Edge) → IsTrue (list_any (meets a) (others (slice_index_or es i d)))

-- An assignment is in a frontier exactly where it meets all taken decisions and the place below is open, or for one edge meets
-- the taken decisions above it and one of its open alternatives after the taken one.
abbrev pub InIsAtOpenPlace : Type 0
InIsAtOpenPlace = (f : Frontier) (a : List ℤ) → In f a ↔ ((IsTrue f.current_open × MeetsTaken f.edges a) ⊎ ((i : ℕ) × IsAtOther f.edges a i))

-- Assignments of one row meet the same decisions about what is printed: they are in the same frontiers that are divided by it.
abbrev pub RowIsInAlike : Type 0
RowIsInAlike = (m : Instance) (f : Frontier) (a x : List ℤ) → AreAbout Rows m f.edges → AreDeclared m.variables a → AreDeclared m.variables x → row_of m a ≡ row_of m x → is_in f a ≡ is_in f x

-- It is in one open place then, and else in none.
abbrev pub InIsOnce : Type 0
InIsOnce = (f : Frontier) (a : List ℤ) → AreEdges f.edges → times_in f a ≡ cond (is_in f a) 1 0

abbrev pub CutIsInParts : Type 0
CutIsInParts = (f : Frontier) → AreEdges f.edges → can_cut f ≡ true → AreParts f (part_of f) (rest_of f)

-- moving to the next alternative changes nothing of what is in it
abbrev pub MovedIsSame : Type 0
MovedIsSame = (f : Frontier) (a : List ℤ) → f.current_open ≡ false → can_cut f ≡ true → times_in (moved f) a ≡ times_in f a

-- Of a lawful account each satisfying assignment that betters the witness is accounted for once where it was in the frontier, and
-- else not at all.
abbrev pub AccountIsExact : Type 0
AccountIsExact = (c : Account) (a : List ℤ) → AccountLaw c → AreAbout c.mode c.model c.before.edges → Satisfies c.model a → Betters c.model a c.witness
    → times_found c.mode c.model a c.found + times_in_all c.given a + times_in c.after a ≡ cond (is_in c.before a) 1 0

-- A lawful book with nothing open is complete: it records each satisfying assignment once, or each of their rows, or none betters its
-- incumbent.
abbrev pub ClosedListsAll : Type 0
ClosedListsAll = (b : Book) → BookLaw b → b.mode ≡ All → b.parts ≡ [] → Lists b.model b.recorded

abbrev pub ClosedListsRows : Type 0
ClosedListsRows = (b : Book) → BookLaw b → b.mode ≡ Rows → b.parts ≡ [] → ListsRows b.model b.recorded

abbrev pub ClosedIsBest : Type 0
ClosedIsBest = (b : Book) (a : List ℤ) → BookLaw b → b.mode ≡ Best → b.parts ≡ [] → Satisfies b.model a → Betters b.model a (incumbent b) → ⊥

-- The measure of what is left falls where the place below is closed, and where it is divided among alternatives that are each met
-- there; it stays at a move; and a cut divides it.
abbrev pub ClosingLowers : Type 0
ClosingLowers = (m : Instance) (f : Frontier) → f.current_open ≡ true → weight m (closed f) < weight m f

abbrev pub BranchingLowers : Type 0
BranchingLowers = (m : Instance) (f : Frontier) (ds : List Decision) → f.current_open ≡ true → IsChoice ds → AllByRecursion (IsReachable m.variables f.edges) ds → weight m (branched f ds) < weight m f

abbrev pub MovingKeeps : Type 0
MovingKeeps = (m : Instance) (f : Frontier) → AreEdges f.edges → f.current_open ≡ false → can_cut f ≡ true → weight m (moved f) ≡ weight m f

abbrev pub CuttingDivides : Type 0
CuttingDivides = (m : Instance) (f : Frontier) → AreEdges f.edges → can_cut f ≡ true → weight m f ≡ weight m (rest_of f) + weight m (part_of f)
