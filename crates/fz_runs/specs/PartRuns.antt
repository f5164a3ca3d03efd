-- What the run of a part prints. Each line that no whole run has begins with `%%%`: to whoever reads solutions it is a comment.
use Rattle.std.specs.Prelude.{◌≡◌, ℕ, ◌-◌, ℤ, Option, Some, None, List, [], ◌∷◌, ◌++◌, codes, length, slice_get}
use Rattle.std.specs.Fmt.{signed_decimal}
use Rattle.fz_spec.specs.Constraints.{term_value}
use Rattle.fz_spec.specs.declared.term.Term.{Term}
use Rattle.fz_spec.specs.declared.goal.Goal.{Goal}
use Rattle.fz_spec.specs.declared.goal.Goal.TheVariants.{Satisfy, Minimize, Maximize}
use Rattle.fz_spec.specs.Instance.{Instance}
use Rattle.fz_spec.specs.Run.{blocks}
use Rattle.fz_tree.specs.declared.decision.Decision.{Decision}
use Rattle.fz_part.specs.Parts.{task_of}
use Rattle.fz_part.specs.Texts.{part_text}
use Rattle.fz_cmd.specs.Meaning.{Options}
use Rattle.fz_runs.specs.Runs.{IsRunText}

abbrev pub bound_text : Option ℤ → List ℕ
bound_text None = []
bound_text (Some v) = codes " bound " ++ signed_decimal v

-- "%%%part 0=3,5!=2" or, where something better than a value is sought, "%%%part 0=3,5!=2 bound 17"
abbrev pub part_line : List Decision → Option ℤ → List ℕ
part_line p bound = codes "%%%part " ++ part_text p ++ bound_text bound ++ codes "\n"

-- "%%%value 17", by the last that is listed
abbrev pub value_text : Term → Option (List ℤ) → List ℕ
value_text goal None = []
value_text goal (Some a) = codes "%%%value " ++ signed_decimal (term_value a goal) ++ codes "\n"

abbrev pub value_line : Goal → List (List ℤ) → List ℕ
value_line Satisfy l = []
value_line (Minimize goal) l = value_text goal (slice_get l (length l - 1))
value_line (Maximize goal) l = value_text goal (slice_get l (length l - 1))

-- the line that ends a whole run behind `%%%`, or `%%%` alone where as many as are asked for are shown
abbrev pub ending_line : List ℕ → List ℕ
ending_line [] = codes "%%%\n"
ending_line (byte ∷ bytes) = codes "%%%" ++ byte ∷ bytes

-- The line of the part; the blocks of a run of it, as a model; the value of the last; and the ending.
pub record IsPartRun (m : Instance) (p : List Decision) (bound : Option ℤ) (o : Options) (l : List (List ℤ)) (printed : List ℕ) : Type 0 where
  pub ending : List ℕ
  pub run : IsRunText (task_of m p bound) o l (blocks m l ++ ending)
  pub text : printed ≡ part_line p bound ++ (blocks m l ++ (value_line m.goal l ++ ending_line ending))
