-- What a search leaves of its book, and what is shown of it.
use Rattle.std.specs.Prelude.{◌≡◌, ℕ, ℤ, ◌%◌, ◌<◌, ◌≤◌, ◌⊎◌, All, Bool, true, false, length, take, slice_index_or, Option, Some, None, IsSomeAnd, List, []}
use Rattle.fz_spec.specs.Instance.{Instance, SearchPart}
use Rattle.fz_spec.specs.declared.goal.Goal.{Goal}
use Rattle.fz_spec.specs.declared.goal.Goal.TheVariants.{Satisfy, Minimize, Maximize}
use Rattle.fz_tree.specs.declared.mode.Mode.{Mode}
use Rattle.fz_tree.specs.declared.mode.Mode.TheVariants as modes
use Rattle.fz_branch.specs.Plans.{plan_asset, plan_rows}
use Rattle.fz_tree.specs.Book.{Book, BookLaw, opening}
use Rattle.fz_path.specs.Paths.{Pathed, Walked, bare, idle_path, idle_with}
use Rattle.fz_solo.specs.Searches.{Searches}
use Rattle.fz_printer.specs.declared.printer.Printer.{Printer}
use Rattle.fz_printer.specs.Printed.{book_of, as_found_of, wanted_of, printed_of, stopped_of, due_among, due_of, HasPrinted, IsReady}
use Rattle.fz_machine.specs.Cores.{Core, starting}
use Rattle.fz_machine.specs.Schedule.{HasGone}
use Rattle.fz_cmd.specs.Meaning.{Options}
use Rattle.fz_runs.specs.Runs.{AreSome, AreBest, ListsEach, wanted}
use Rattle.fz_runs.specs.Modes.{mode_for}

-- how many recorded solutions are enough: where a best one is sought, no number is
abbrev pub enough_for : Goal → Options → Option ℕ
enough_for Satisfy o = wanted o
enough_for (Minimize term) o = None
enough_for (Maximize term) o = None

-- whether all better ones are shown: none but the best of a generated model
abbrev pub shows_all : Option ℕ → Bool → Bool
shows_all None all = all
shows_all (Some items) all = false

-- whether each that the book records is shown: all that are found, and on the way to a best one where all better ones are to be shown
abbrev pub shows_found : Goal → Options → Bool
shows_found Satisfy o = true
shows_found (Minimize term) o = shows_all o.generate o.all
shows_found (Maximize term) o = shows_all o.generate o.all

-- the book of a search that has ended: it is closed, or has as many as are asked for
abbrev pub HasEnded : Option ℕ → Book → Type 0
HasEnded None b = b.parts ≡ []
HasEnded (Some n) b = (n ≤ length b.recorded) ⊎ (b.parts ≡ [])

-- a subject of the model, and of what is sought by the options
abbrev pub IsOfModel : Instance → Mode → Instance → Options → Type 0
IsOfModel subject mode m o = (subject ≡ m) × (mode ≡ mode_for m.goal o)

pub record IsSearched (m : Instance) (mode : Mode) (w : Option ℕ) (b : Book) : Type 0 where
  pub model : b.model ≡ m
  pub own_mode : b.mode ≡ mode
  pub law : BookLaw b
  pub ended : HasEnded w b

-- solutions are printed as they are found where each that is recorded is shown, up to as many as are asked for; or none is
abbrev pub PrintsAsAsked : Instance → Options → Printer → Type 0
PrintsAsAsked m o p = (as_found_of p ≡ false) ⊎ ((as_found_of p ≡ shows_found m.goal o) × (wanted_of p ≡ enough_for m.goal o))

-- What a search leaves of its printer: a book of the model, of what is sought, and its law, and what the sink took. Unless it stopped, all that is due is
-- printed, and the search has ended.
pub record IsPrinted (m : Instance) (o : Options) (p : Printer) (before after : Option (List ℕ)) : Type 0 where
  pub model : (book_of p).model ≡ m
  pub mode : (book_of p).mode ≡ mode_for m.goal o
  pub law : BookLaw (book_of p)
  pub prints : PrintsAsAsked m o p
  pub printed : HasPrinted p before after
  pub within : printed_of p ≤ due_of p
  pub ready : stopped_of p ≡ None → IsReady p
  pub ended : stopped_of p ≡ None → HasEnded (enough_for m.goal o) (book_of p)

-- ---- how a model is searched

-- By one worker that keeps copies at the distances that are asked for; the book is told each better one where all are to be shown.
pub record IsAlone (m : Instance) (o : Options) (b : Book) : Type 0 where
  pub path : Pathed
  pub searched : Searches (shows_found m.goal o) (opening m (mode_for m.goal o)) (idle_path m (mode_for m.goal o) o.commit_distance o.adaptive_distance) b path

-- By as many workers as are asked for, which keep copies at these distances and take turns by the schedule that the seed begins.
pub record IsByTurns (m : Instance) (o : Options) (seed : ℕ) (b : Book) : Type 0 where
  pub core : Core
  pub gone : HasGone (enough_for m.goal o) seed (starting m (mode_for m.goal o) o.workers o.commit_distance o.adaptive_distance) core
  pub is : b ≡ core.book

abbrev pub IsSearchedBy : Option ℕ → Instance → Options → Book → Type 0
IsSearchedBy None m o b = IsAlone m o b
IsSearchedBy (Some seed) m o b = IsByTurns m o seed b

-- by what an asset divides nodes; where rows are sought there is one plan
abbrev pub asset_plan : Mode → Instance → ℕ → List SearchPart
asset_plan modes.All m asset = plan_asset m asset
asset_plan modes.Rows m asset = plan_rows m
asset_plan modes.Best m asset = plan_asset m asset

-- how a path of an asset begins: it holds nothing, and keeps copies at the distances that are asked for
abbrev pub asset_path : Instance → Mode → Options → ℕ → Pathed
asset_path m mode o asset = idle_with m mode (asset_plan mode m asset) o.commit_distance o.adaptive_distance

-- path w is of asset w mod K
abbrev pub AreOfAssets : Instance → Mode → Options → List Walked → Type 0
AreOfAssets m mode o paths = (w : ℕ) (d : Walked) → w < length paths → bare (slice_index_or paths w d) ≡ asset_path m mode o (w % o.assets)

-- as many paths as workers are asked for, by the plans of as many assets as are
pub record AreOnAssets (m : Instance) (mode : Mode) (o : Options) (paths : List Walked) : Type 0 where
  pub count : length paths ≡ o.workers
  pub idle : AreOfAssets m mode o paths

-- as many paths as workers are asked for: each holds nothing, and keeps copies at the distances that are asked for
pub record AreWorkers (m : Instance) (mode : Mode) (o : Options) (paths : List Walked) : Type 0 where
  pub count : length paths ≡ o.workers
  pub idle : All (λ (p : Walked). bare p ≡ idle_path m mode o.commit_distance o.adaptive_distance) paths

-- ---- what is shown

-- what is shown of a book: all solutions, or each of their rows, and a closing line; or as many as are asked for and none
abbrev pub IsListing : Bool → Instance → Option ℕ → List (List ℤ) → Bool → Type 0
IsListing distinct m None l true = ListsEach distinct m l
IsListing distinct m None l false = ⊥
IsListing distinct m (Some n) l true = (length l < n) × ListsEach distinct m l
IsListing distinct m (Some n) l false = AreSome distinct m n l

-- the same by the goal: a best one comes with a closing line always
abbrev pub IsShown : Goal → Options → Instance → List (List ℤ) → Bool → Type 0
IsShown Satisfy o m l complete = IsListing o.distinct m (wanted o) l complete
IsShown (Minimize term) o m l complete = (complete ≡ true) × AreBest (shows_all o.generate o.all) m l
IsShown (Maximize term) o m l complete = (complete ≡ true) × AreBest (shows_all o.generate o.all) m l

-- as many as are wanted, of that many that are recorded; or all, where these are fewer
abbrev pub IsTally : Option ℕ → ℕ → ℕ → Bool → Type 0
IsTally w recorded count true = (count ≡ recorded) × ((n : ℕ) → w ≡ Some n → recorded < n)
IsTally w recorded count false = IsSomeAnd w (λ n. (n ≤ recorded) × (count ≡ n))

-- what is shown where each that is recorded is, up to as many as are asked for
abbrev pub first_shown : Options → Book → List (List ℤ)
first_shown o b = take (due_among true (enough_for b.model.goal o) (length b.recorded)) b.recorded
