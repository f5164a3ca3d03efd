-- What critical sections make of the values behind the locks that they hold.
use Rattle.std.specs.Prelude.{◌≡◌, false, Option, Some, None, IfOk}
use Rattle.fz_tree.specs.Account.{Account}
use Rattle.fz_tree.specs.Book.{Book, Takes, IsOpen}
use Rattle.fz_book.specs.Outcomes.{IsOwn}
use Rattle.fz_path.specs.Paths.{Pathed, Walked, bare, with_held, held_behind, can_cut_held}
use Rattle.fz_path.specs.declared.task.Cut.{Cut}
use Rattle.fz_path.specs.Cuts.{IsCutOf, held_behind_cut}
use Rattle.fz_team.specs.declared.section.Handed.{Handed}
use Rattle.fz_team.specs.declared.section.Handed.TheVariants.{Taken, Dropped}
use Rattle.fz_team.specs.declared.section.Reported.{Reported}
use Rattle.fz_team.specs.declared.section.CutOff.{CutOff}

-- an account of the book's model and mode, of what is open in it
abbrev pub IsOwnOf : Book → Account → Type 0
IsOwnOf b c = IsOwn b c × IsOpen b c.before

-- it is taken exactly where it is of the book's model and mode and of an open frontier; else the book is as before
abbrev pub HandsIn : Handed → Account → Book → Book → Type 0
HandsIn Taken c old new = Takes old c new
HandsIn Dropped c old new = (IsOwnOf old c → ⊥) × (new ≡ old)

-- the account of what the path holds is handed in and copied, and it goes on with what is left
pub record HasReported {T : Type 0} (reported : Reported T) (path : Pathed) (book : Book) (path' : Pathed) (book' : Book) : Type 0 where
  pub account : Account
  pub holds : path.held ≡ Some account
  pub path_is : path' ≡ with_held path (held_behind account)
  pub hands : HandsIn reported.handed account book book'
  pub copied : IfOk reported.copy (λ c. c ≡ account)

abbrev pub Reports : {T : Type 0} → Option (Reported T) → Pathed → Book → Pathed → Book → Type 0
Reports (Some reported) path book path' book' = HasReported reported path book path' book'
Reports None path book path' book' = (path.held ≡ None) × (path' ≡ path) × (book' ≡ book)

-- what is cut off the path is handed out, and the account that names it as given is handed in and copied
pub record HasCut {S T : Type 0} (off : CutOff S T) (path : Walked) (book : Book) (path' : Pathed) (book' : Book) : Type 0 where
  pub cut : Cut S
  pub is_cut : IsCutOf cut path
  pub task_is : off.task ≡ cut.task
  pub path_is : path' ≡ with_held (bare path) (held_behind_cut is_cut.account)
  pub hands : HandsIn off.handed cut.account book book'
  pub copied : IfOk off.copy (λ c. c ≡ cut.account)

abbrev pub Cuts : {S T : Type 0} → Option (CutOff S T) → Walked → Book → Pathed → Book → Type 0
Cuts (Some off) path book path' book' = HasCut off path book path' book'
Cuts None path book path' book' = (can_cut_held path.held ≡ false) × (path' ≡ bare path) × (book' ≡ book)
