-- Several cores that search one model, each by its own plan, and tell each other of better solutions.
use Rattle.std.specs.Prelude.{◌≡◌, ◌≢◌, ◌⊎◌, ℕ, ◌≤◌, ◌<◌, ◌^◌, ℤ, List, [], ◌∷◌, length, map, Option, Some, slice_set}
use Rattle.std.specs.List.{AllByRecursion, slice_get, range_with_len}
use Rattle.fz_spec.specs.Instance.{Instance, Satisfies}
use Rattle.fz_tree.specs.declared.mode.Mode.{Mode}
use Rattle.fz_tree.specs.declared.mode.Mode.TheVariants.{Best, Rows}
use Rattle.fz_tree.specs.Better.{IsModeOf, Betters}
use Rattle.fz_tree.specs.Book.{Book, incumbent}
use Rattle.fz_branch.specs.Plans.{plan_asset}
use Rattle.fz_machine.specs.declared.event.Event.{Event}
use Rattle.fz_machine.specs.declared.event.Answer.{Answer}
use Rattle.fz_machine.specs.Cores.{Core, CoreLaw, starting_by, told}
use Rattle.fz_machine.specs.Events.{Refuses}
use Rattle.fz_machine.specs.Runs.{Answers}
use Rattle.fz_machine.specs.declared.shared.Shared.{Shared}
use Rattle.fz_machine.specs.declared.shared.Shared.TheVariants.{Better, NotBetter}

-- The model, what is sought, and the core of each asset, by its number.
pub record Portfolio : Type 0 where
  pub model : Instance
  pub mode : Mode
  pub cores : List Core

abbrev pub core_at : Portfolio → ℕ → Option Core
core_at p k = slice_get p.cores k

-- another core has this number
abbrev pub with_core : Portfolio → ℕ → Core → Portfolio
with_core p k s = record { model = p.model; mode = p.mode; cores = slice_set p.cores k s }

-- so many assets, each with that many idle workers that search by its plan, and a book of the whole tree
abbrev pub assets_of : Instance → Mode → ℕ → ℕ → ℕ → ℕ → List Core
assets_of m mode assets workers commit adaptive = map (λ k. starting_by m mode (plan_asset m k) workers commit adaptive) (range_with_len 0 assets)

abbrev pub gathered : Instance → Mode → ℕ → ℕ → ℕ → ℕ → Portfolio
gathered m mode assets workers commit adaptive = record { model = m; mode = mode; cores = assets_of m mode assets workers commit adaptive }

-- ---- the law

-- it keeps the law of cores, and is of this model and mode
pub record IsCoreOf (m : Instance) (sought : Mode) (s : Core) : Type 0 where
  pub law : CoreLaw s
  pub model : s.book.model ≡ m
  pub mode : s.book.mode ≡ sought

pub record PortfolioLaw (p : Portfolio) : Type 0 where
  pub several : 1 ≤ length p.cores
  pub few : length p.cores ≤ 8
  pub mode : p.mode ≢ Rows
  pub cores : AllByRecursion (IsCoreOf p.model p.mode) p.cores

-- Where a book in a search for the best one is closed, none betters its incumbent, and where it has none, none satisfies.
abbrev pub IsBestWhereClosed : Book → Type 0
IsBestWhereClosed b = b.mode ≡ Best → b.parts ≡ [] → (a : List ℤ) → Satisfies b.model a → Betters b.model a (incumbent b) → ⊥

-- ---- what the calls make of it

-- an event of one asset, which changes its core alone
pub record AppliesAt (k : ℕ) (event : Event) (answer : Answer) (old new : Portfolio) : Type 0 where
  pub core : Core
  pub at : core_at old k ≡ Some core
  pub changed : Core
  pub answers : Answers answer event core changed
  pub is : new ≡ with_core old k changed

-- the same, where there is no memory
pub record RefusesAt (k : ℕ) (event : Event) (old new : Portfolio) : Type 0 where
  pub core : Core
  pub at : core_at old k ≡ Some core
  pub changed : Core
  pub refuses : Refuses event core changed
  pub is : new ≡ with_core old k changed

-- what the book of an asset has as its incumbent
pub record IsIncumbentAt (k : ℕ) (p : Portfolio) (best : Option (List ℤ)) : Type 0 where
  pub core : Core
  pub at : core_at p k ≡ Some core
  pub is : incumbent core.book ≡ best

-- a book records an assignment that is better than its incumbent
abbrev pub IsOffered : Shared → List ℤ → Core → Core → Type 0
IsOffered Better a old new = Betters old.book.model a (incumbent old.book) × (new ≡ told old a)
IsOffered NotBetter a old new = (Betters old.book.model a (incumbent old.book) → ⊥) × (new ≡ old)

-- that of an asset
pub record IsOfferedAt (k : ℕ) (a : List ℤ) (shared : Shared) (old new : Portfolio) : Type 0 where
  pub core : Core
  pub at : core_at old k ≡ Some core
  pub changed : Core
  pub offered : IsOffered shared a core changed
  pub is : new ≡ with_core old k changed

-- The book of the j-th asset has an incumbent that is better than what the k-th's has.
pub record IsAhead (j k : ℕ) (p : Portfolio) (a : List ℤ) (to : Core) : Type 0 where
  pub from : Core
  pub at_from : core_at p j ≡ Some from
  pub at_to : core_at p k ≡ Some to
  pub known : incumbent from.book ≡ Some a
  pub better : Betters to.book.model a (incumbent to.book)

-- It is recorded there as well, and nothing else changes.
abbrev pub Shares : Shared → ℕ → ℕ → Portfolio → Portfolio → Type 0
Shares Better j k old new = (a : List ℤ) × (to : Core) × IsAhead j k old a to × (new ≡ with_core old k (told to a))
Shares NotBetter j k old new = ((a : List ℤ) (to : Core) → IsAhead j k old a to → ⊥) × (new ≡ old)

-- ---- many calls

-- an event of one asset, or a share from the first asset to the second
pub data Call : Type 0 where
  OnAsset : ℕ → Event → Call
  Between : ℕ → ℕ → Call

-- what one call makes of it, whether it answers or has no memory
abbrev pub Turns : Call → Portfolio → Portfolio → Type 0
Turns (OnAsset k event) old new = ((answer : Answer) × AppliesAt k event answer old new) ⊎ RefusesAt k event old new
Turns (Between j k) old new = ((shared : Shared) × Shares shared j k old new) ⊎ (new ≡ old)

-- what a list of calls makes of it, one after the other
abbrev pub Runs : List Call → Portfolio → Portfolio → Type 0
Runs [] old new = new ≡ old
Runs (call ∷ calls) old new = (between : Portfolio) × Turns call old between × Runs calls between new

-- what becomes of so many assets by some list of calls
pub record Reaches (p : Portfolio) : Type 0 where
  pub model : Instance
  pub mode : Mode
  pub assets : ℕ
  pub workers : ℕ
  pub commit_distance : ℕ
  pub adaptive_distance : ℕ
  pub own_mode : IsModeOf model.goal mode
  pub no_rows : mode ≢ Rows
  pub some : (1 ≤ assets) × (assets ≤ 8)
  pub several : 1 ≤ workers
  pub numbered : workers < 2 ^ 32
  pub distances : (1 ≤ commit_distance) × (1 ≤ adaptive_distance)
  pub calls : List Call
  pub runs : Runs calls (gathered model mode assets workers commit_distance adaptive_distance) p

-- Each core keeps its law, with all that follows from it.
abbrev pub CallsKeepLaw : Type 0
CallsKeepLaw = (p : Portfolio) → Reaches p → PortfolioLaw p

-- What any of the books records satisfies the model,
abbrev pub RecordedSatisfy : Type 0
RecordedSatisfy = (p : Portfolio) (k : ℕ) (s : Core) → Reaches p → core_at p k ≡ Some s → AllByRecursion (Satisfies p.model) s.book.recorded

-- and the first that is closed has the answer.
abbrev pub ClosedIsBest : Type 0
ClosedIsBest = (p : Portfolio) (k : ℕ) (s : Core) → Reaches p → core_at p k ≡ Some s → IsBestWhereClosed s.book
