-- What a source of files reads from.
use Rattle.std.specs.Prelude.{ℕ, Bool, true, false, not, Option, Some, List, [], bytes_eq, codes}
use Rattle.fz_io.specs.declared.file.FileSource.{FileSource}
use Rattle.fz_io.specs.declared.file.Opened.{Opened}
use Rattle.fz_io.specs.declared.file.Opened.TheVariants.{Nothing, File, Input}

-- the bytes left, where the file or the input tells them; none where nothing is opened
abbrev pub opened_left : {F I : Type 0} → (F → Option (List ℕ)) → (I → Option (List ℕ)) → Opened F I → Option (List ℕ)
opened_left of_file of_input Nothing = Some []
opened_left of_file of_input (File f) = of_file f
opened_left of_file of_input (Input i) = of_input i

-- whether nothing is opened
abbrev pub is_nothing : {F I : Type 0} → Opened F I → Bool
is_nothing Nothing = true
is_nothing (File f) = false
is_nothing (Input i) = false

-- what is opened for a name: standard input for `-`, and else a file
abbrev pub is_opened_for : {F I : Type 0} → Opened F I → List ℕ → Bool
is_opened_for Nothing name = false
is_opened_for (File f) name = not (bytes_eq name (codes "-"))
is_opened_for (Input i) name = bytes_eq name (codes "-")

-- what the source reads from
abbrev pub file_opened : {R F D I : Type 0} → FileSource R F D I → Opened F I
file_opened s = s.opened

-- the bytes that the source has left, where the file or the input tells them
abbrev pub file_left : {R F D I : Type 0} → (F → Option (List ℕ)) → (I → Option (List ℕ)) → FileSource R F D I → Option (List ℕ)
file_left of_file of_input s = opened_left of_file of_input s.opened

-- how often `select` was called
abbrev pub file_selections : {R F D I : Type 0} → FileSource R F D I → ℕ
file_selections s = s.selections

-- how often a call of the source failed
abbrev pub file_faults : {R F D I : Type 0} → FileSource R F D I → ℕ
file_faults s = s.faults
