-- What names of parameters and arrays stand for.
use Rattle.std.specs.Prelude.{◌≡◌, ℕ, ℤ, List, [], Option, Some, None, Result, MatchResult, slice_get}
use Rattle.fz_spec.specs.declared.kind.Kind.{Kind}
use Rattle.fz_spec.specs.declared.term.Term.{Term}
use Rattle.fz_language.specs.Trees.{ArrayItem}
use Rattle.fz_language.specs.Entries.{Environment, number_of}
use Rattle.fz_language.specs.Entries as entries
use Rattle.fz_language.specs.Rules.{wrong_element}
use Rattle.fz_language.specs.Models.{array_entry}
use Rattle.fz_resolve.specs.declared.entry.Entry.{Entry}
use Rattle.fz_resolve.specs.Meant.{meant}

abbrev pub value_entry : Kind → Option Term → Option entries.Entry
value_entry kind o = elim o [ Some t ↦ Some (entries.Value kind (number_of t)) | None ↦ None ]

abbrev pub set_entry : Option (List (ℤ × ℤ)) → Option entries.Entry
set_entry o = elim o [ Some set ↦ Some (entries.Set set) | None ↦ None ]

-- what an array stands for, or else the place of its first element of a wrong type
abbrev pub IsArrayEntry : Environment → ArrayItem → Result Entry ℕ → Type 0
IsArrayEntry env a made =
    MatchResult made (λ entry. (wrong_element env a.variable a.value_type a.list ≡ []) × (meant entry ≡ array_entry env a a.variable a.value_type))
    (λ at. Some at ≡ slice_get (wrong_element env a.variable a.value_type a.list) 0)
