-- Texts that have names, and a place in one of them.
use Rattle.std.specs.Prelude.{ℕ, Bool, false, Option, Some, None, List, [], ◌∷◌, drop, slice_get, if◌then◌else◌, is_none, bytes_eq, string_bytes}
use Rattle.std.specs.Option.{option_map_or}
use Rattle.fz_io.specs.declared.texts.NamedText.{NamedText}
use Rattle.fz_io.specs.declared.texts.Texts.{Texts}

-- the text of the first of this name
abbrev pub text_of : List NamedText → List ℕ → Option (List ℕ)
text_of [] name = None
text_of (t ∷ ts) name = if bytes_eq (string_bytes t.name) name then Some t.bytes.items else text_of ts name

-- the text of the first of this name, the empty one where there is none
abbrev pub text_or_empty : List NamedText → List ℕ → Option (List ℕ)
text_or_empty ts name = Some (option_map_or (λ t. t) (text_of ts name) [])

-- the bytes of the text of this number; none where there is no such text
abbrev pub bytes_at : List NamedText → ℕ → List ℕ
bytes_at ts i = option_map_or (λ (t : NamedText). t.bytes.items) (slice_get ts i) []

-- the selected text; the empty one where none is selected
abbrev pub bytes_chosen : Texts → List ℕ
bytes_chosen t = option_map_or (λ i. bytes_at t.all.items i) t.selected []

-- whether the text of this number has this name
abbrev pub is_named : List NamedText → List ℕ → ℕ → Bool
is_named ts name i = option_map_or (λ (t : NamedText). bytes_eq (string_bytes t.name) name) (slice_get ts i) false

-- whether a text of this name is the selected one
abbrev pub is_chosen : Texts → List ℕ → Bool
is_chosen t name = option_map_or (is_named t.all.items name) t.selected false

-- the same, where a name that no text has stands for the one where none is selected
abbrev pub is_chosen_or_none : Texts → List ℕ → Bool
is_chosen_or_none t name = if is_none t.selected then is_none (text_of t.all.items name) else is_chosen t name

-- the bytes of the selected text that weren't read
abbrev pub bytes_left : Texts → List ℕ
bytes_left t = drop t.at (bytes_chosen t)
