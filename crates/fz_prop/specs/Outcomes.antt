-- What became of a store, and what a run answers after which nothing else is to be done.
use Rattle.std.specs.Prelude.{◌≡◌, ◌<◌, Bool, true, false, ℤ, List}
use Rattle.fz_dom.specs.declared.change.Change.{Change}
use Rattle.fz_dom.specs.declared.change.Change.TheVariants.{Same, Changed, Wiped}
use Rattle.fz_strength.specs.Domains.{room, Within}
use Rattle.fz_prop.specs.declared.answer.Answer.{Answer}
use Rattle.fz_prop.specs.declared.answer.Answer.TheVariants.{Fix, Subsumed, Failed}
use Rattle.fz_prop.specs.Stores.{Stored}

-- where it changed one term, and no other matters
abbrev pub settled_by : Change → Answer
settled_by Wiped = Failed
settled_by Same = Subsumed
settled_by Changed = Subsumed

-- where the line holds, by whether it does for good
abbrev pub rested_by : Bool → Answer
rested_by true = Subsumed
rested_by false = Fix

-- What became of a store: nothing; some numbers left; or no assignment within it has the property.
abbrev pub IsOutcome : Change → (List ℤ → Type 0) → Stored → Stored → Type 0
IsOutcome Same T r s = s ≡ r
IsOutcome Changed T r s = room s.doms < room r.doms
IsOutcome Wiped T r s = (a : List ℤ) → Within r.doms a → T a → ⊥
