-- What became of an account.
use Rattle.std.specs.Prelude.{◌≡◌}
use Rattle.fz_tree.specs.Account.{Account}
use Rattle.fz_tree.specs.Book.{Book}
use Rattle.fz_book.specs.declared.taken.Taken.{Taken}
use Rattle.fz_book.specs.declared.taken.Taken.TheVariants as taken

-- an account of the book's model and mode
abbrev pub IsOwn : Book → Account → Type 0
IsOwn b c = (b.model ≡ c.model) × (b.mode ≡ c.mode)

abbrev pub IsTaken : Taken → Type 0
IsTaken taken.Taken = Unit {0}
IsTaken (taken.Stranger c) = ⊥
IsTaken (taken.Foreign c) = ⊥
IsTaken (taken.NoMemory c) = ⊥

abbrev pub IsStranger : Taken → Type 0
IsStranger taken.Taken = ⊥
IsStranger (taken.Stranger c) = Unit {0}
IsStranger (taken.Foreign c) = ⊥
IsStranger (taken.NoMemory c) = ⊥

abbrev pub IsForeign : Taken → Type 0
IsForeign taken.Taken = ⊥
IsForeign (taken.Stranger c) = ⊥
IsForeign (taken.Foreign c) = Unit {0}
IsForeign (taken.NoMemory c) = ⊥

abbrev pub LacksMemory : Taken → Type 0
LacksMemory taken.Taken = ⊥
LacksMemory (taken.Stranger c) = ⊥
LacksMemory (taken.Foreign c) = ⊥
LacksMemory (taken.NoMemory c) = Unit {0}

-- what isn't taken is handed back
abbrev pub GivesBack : Taken → Account → Type 0
GivesBack taken.Taken account = Unit {0}
GivesBack (taken.Stranger c) account = c ≡ account
GivesBack (taken.Foreign c) account = c ≡ account
GivesBack (taken.NoMemory c) account = c ≡ account
