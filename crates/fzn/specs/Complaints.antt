-- What the program says on standard error (fzn's own texts): a line for each answer but Done.
use Rattle.std.specs.Prelude.{ℕ, Option, Some, None, List, [], ◌++◌, codes, decimal, fold, bytes_eq, slice_get, unwrap_or, map, if◌then◌else◌}
use Rattle.fz_cmd.specs.Meaning.{Options, options_of}
use Rattle.fz_cmd.specs.declared.options.TheConstants.{OPTIONS}
use Rattle.fz_print.specs.declared.refusal.Refusal.{Refusal}
use Rattle.fzn.specs.declared.complaint.TheConstants.{FAULTS}
use Rattle.fzn.specs.declared.status.Status.{Status}
use Rattle.fzn.specs.declared.status.Status.TheVariants.{Done, Refused, Usage, SourceFault, SinkFault, NoMemory, NoTask}
use Rattle.fzn.specs.declared.status.Misfit.{Misfit}
use Rattle.fzn.specs.declared.status.Misfit.TheVariants.{NoPart, NoGoal, TooMany}
use Rattle.fz_part.specs.declared.refusal.Refusal.TheVariants.{NotAPart, NoVariable, OutOfRange}

-- the file by its name, or standard input
abbrev pub shown_name : List ℕ → List ℕ
shown_name file = if bytes_eq file (codes "-") then codes "standard input" else file

abbrev pub name_of : Option Options → List ℕ
name_of None = []
name_of (Some o) = shown_name o.file

-- what is wrong, by the number of the code
abbrev pub fault_text : ℕ → List ℕ
fault_text code = unwrap_or (slice_get (map (λ text. text.now) FAULTS) code) []

-- "model.fzn:1:19: unknown name"
abbrev pub refusal_line : List ℕ → Refusal → List ℕ
refusal_line name r = name ++ codes ":" ++ decimal r.line ++ codes ":" ++ decimal r.column ++ codes ": " ++ fault_text r.code

abbrev pub with_usage : List ℕ → List ℕ → List ℕ
with_usage text line = ((text ++ codes "  ") ++ line) ++ codes "\n"

-- how the program is called: a line for each option, in the order of the table
abbrev pub usage : List ℕ
usage = fold with_usage (codes "usage: fzn [options] [FILE]\n") (map (λ r. r.3.now) OPTIONS) ++ codes "  FILE                   the text; - is standard input, as is no FILE"

-- why the model has no such part
abbrev pub misfit_text : Misfit → List ℕ
misfit_text (NoPart NotAPart) = codes "--part: not of the form 0=3,5!=2,5<=7,9>4"
misfit_text (NoPart NoVariable) = codes "--part: a variable that the model lacks"
misfit_text (NoPart OutOfRange) = codes "--part: a value that its variable cannot have"
misfit_text NoGoal = codes "--better: the model has no goal"
misfit_text TooMany = codes "--part: too many decisions"

abbrev pub complaint_text : List ℕ → Status → Option (List ℕ)
complaint_text name Done = None
complaint_text name (Refused r) = Some (refusal_line name r)
complaint_text name Usage = Some usage
complaint_text name SourceFault = Some (name ++ codes ": cannot be opened or read")
complaint_text name SinkFault = Some (codes "standard output: a write failed")
complaint_text name NoMemory = Some (codes "fzn: out of memory")
complaint_text name (NoTask misfit) = Some (misfit_text misfit)

-- the complaint of a run of these words
abbrev pub complaint_of : List (List ℕ) → Status → Option (List ℕ)
complaint_of words status = complaint_text (name_of (options_of words)) status
