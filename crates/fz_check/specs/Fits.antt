-- What names stand for, as a model's variables allow it.
use Rattle.std.specs.Prelude.{◌≡◌, ℕ, ◌≤◌, List, Some, length, []}
use Rattle.std.specs.List.{AllByRecursion}
use Rattle.fz_spec.specs.declared.limits.TheConstants.{ELEMENT_LIMIT}
use Rattle.fz_spec.specs.Instance.{Variable}
use Rattle.fz_language.specs.Entries.{Environment, Entry}
use Rattle.fz_language.specs.Entries as entries
use Rattle.fz_language.specs.Trees.{Program}
use Rattle.fz_language.specs.Within.{ProgramFits}
use Rattle.fz_language.specs.Models.{model_of}
use Rattle.fz_language.specs.Reads.{program_faults}
use Rattle.fz_model.specs.Kept.{IsNumberOf, IsSet, IsTermOf, IsModel, kind_at}

-- a variable of its kind, a value of its kind, a set, lists of these
abbrev pub EntryFits : List Variable → Entry → Type 0
EntryFits vs (entries.Variable kind number) = kind_at vs number ≡ Some kind
EntryFits vs (entries.Value kind value) = IsNumberOf kind value
EntryFits vs (entries.Set set) = IsSet set
EntryFits vs (entries.Numbers kind ns) = (length ns ≤ ELEMENT_LIMIT) × AllByRecursion (IsNumberOf kind) ns
EntryFits vs (entries.Terms kind ts) = (length ts ≤ ELEMENT_LIMIT) × AllByRecursion (IsTermOf vs kind) ts
EntryFits vs entries.Sets = Unit {0}

abbrev pub Sound : List Variable → Environment → Type 0
Sound vs env = (name : List ℕ) (entry : Entry) → env name ≡ Some entry → EntryFits vs entry

-- the model of a program that keeps all rules is one
abbrev pub ModelsFit : Type 0
ModelsFit = (p : Program) → ProgramFits p → program_faults p ≡ [] → IsModel (model_of p)
