-- What a run prints, by what is asked for.
use Rattle.std.specs.Prelude.{◌≡◌, ◌⊎◌, ℕ, zero, suc, ◌<◌, ◌≤◌, ◌-◌, ℤ, Bool, true, false, Option, Some, None, List, [], ◌∷◌, ◌++◌, length, count_by, slice_get}
use Rattle.std.specs.List.{AllByRecursion}
use Rattle.fz_spec.specs.Constraints.{term_value}
use Rattle.fz_spec.specs.declared.term.Term.{Term}
use Rattle.fz_spec.specs.declared.goal.Goal.{Goal}
use Rattle.fz_spec.specs.declared.goal.Goal.TheVariants.{Satisfy, Minimize, Maximize}
use Rattle.fz_spec.specs.Instance.{Instance, Satisfies, Lists, AreImproving, IsBest, is_same, occurrences}
use Rattle.fz_spec.specs.Run.{blocks, closing}
use Rattle.fz_tree.specs.Rows.{row_of, ListsRows}
use Rattle.fz_refutes.specs.Texts.{IsCert}
use Rattle.fz_cmd.specs.Meaning.{Options}
use Rattle.fz_print.specs.Ending.{statistics_text, summary_text}

-- How many solutions are asked for, none where it is all of them. The number of `-n` decides where it is given, and 0 stands for
-- all; else `-a` asks for all; else one is asked for.
abbrev pub wanted_of : Bool → Option ℕ → Option ℕ
wanted_of all (Some zero) = None
wanted_of all (Some (suc n)) = Some (suc n)
wanted_of true None = None
wanted_of false None = Some 1

abbrev pub wanted : Options → Option ℕ
wanted o = wanted_of o.all o.limit

-- how often a solution is in a list: the same assignment, or under `--distinct` one of the same row
abbrev pub times_listed : Bool → Instance → List ℤ → List (List ℤ) → ℕ
times_listed false m a l = occurrences a l
times_listed true m a l = count_by (λ (x : List ℤ). is_same (row_of m a) (row_of m x)) l

-- all solutions, each once; or each of their rows once
abbrev pub ListsEach : Bool → Instance → List (List ℤ) → Type 0
ListsEach false m l = Lists m l
ListsEach true m l = ListsRows m l

-- that many satisfying assignments, no two of them the same, or with the same row
pub record AreSome (distinct : Bool) (m : Instance) (n : ℕ) (l : List (List ℤ)) : Type 0 where
  pub sound : AllByRecursion (Satisfies m) l
  pub different : (a : List ℤ) → Satisfies m a → times_listed distinct m a l ≤ 1
  pub count : length l ≡ n

-- all of them, in the order of this list, and the closing line
pub record PrintsEach (distinct : Bool) (m : Instance) (l : List (List ℤ)) (printed : List ℕ) : Type 0 where
  pub lists : ListsEach distinct m l
  pub text : printed ≡ blocks m l ++ closing l

-- that many solutions, in the order of this list, and no closing line
pub record PrintsSome (distinct : Bool) (m : Instance) (n : ℕ) (l : List (List ℤ)) (printed : List ℕ) : Type 0 where
  pub are : AreSome distinct m n l
  pub text : printed ≡ blocks m l

-- All solutions where all are asked for; else as many as are asked for; and all of them where there are fewer. Where each row is
-- asked for once, of the solutions of a row one is printed.
abbrev pub PrintsWanted : Bool → Option ℕ → Instance → List (List ℤ) → List ℕ → Type 0
PrintsWanted distinct None m l printed = PrintsEach distinct m l printed
PrintsWanted distinct (Some n) m l printed = PrintsSome distinct m n l printed ⊎ ((length l < n) × PrintsEach distinct m l printed)

-- the last of a list is a best solution; a list of none says that nothing satisfies
abbrev pub EndsBest : Instance → List (List ℤ) → Type 0
EndsBest m [] = (a : List ℤ) → Satisfies m a → ⊥
EndsBest m (x ∷ []) = IsBest m x
EndsBest m (x ∷ y ∷ ys) = EndsBest m (y ∷ ys)

-- Satisfying assignments, each better than the one before it, and the last one best. It stands alone unless all are to be shown.
pub record AreBest (all : Bool) (m : Instance) (l : List (List ℤ)) : Type 0 where
  pub sound : AllByRecursion (Satisfies m) l
  pub improving : AreImproving m l
  pub alone : all ≡ false → length l ≤ 1
  pub last : EndsBest m l

-- these in order, and the closing line
pub record PrintsBest (all : Bool) (m : Instance) (l : List (List ℤ)) (printed : List ℕ) : Type 0 where
  pub are : AreBest all m l
  pub text : printed ≡ blocks m l ++ closing l

-- in place of the block of a best one, and of the closing line, its value by the goal
abbrev pub summary_of : ℕ → Term → List (List ℤ) → List ℕ
summary_of items goal [] = closing []
summary_of items goal (a ∷ l) = summary_text items (term_value a goal)

-- a best one of a generated model of that many items, summed up
pub record PrintsSummary (items : ℕ) (goal : Term) (m : Instance) (l : List (List ℤ)) (printed : List ℕ) : Type 0 where
  pub are : AreBest false m l
  pub text : printed ≡ summary_of items goal l

-- a best one, by whether a model is generated and whether all better ones are to be shown
abbrev pub PrintsGoal : Option ℕ → Bool → Term → Instance → List (List ℤ) → List ℕ → Type 0
PrintsGoal None all goal m l printed = PrintsBest all m l printed
PrintsGoal (Some items) all goal m l printed = PrintsSummary items goal m l printed

-- By the goal: solutions, as many as are asked for; or a best one, where `-n` says nothing.
abbrev pub PrintsFor : Goal → Options → Instance → List (List ℤ) → List ℕ → Type 0
PrintsFor Satisfy o m l printed = PrintsWanted o.distinct (wanted o) m l printed
PrintsFor (Minimize goal) o m l printed = PrintsGoal o.generate o.all goal m l printed
PrintsFor (Maximize goal) o m l printed = PrintsGoal o.generate o.all goal m l printed

-- how many are listed, where statistics are asked for
abbrev pub counted : Bool → List (List ℤ) → Option ℕ
counted true l = Some (length l)
counted false l = None

-- What is certified where that is asked for: that the last of a list is best, or that nothing satisfies. Of a model without a goal solutions
-- speak for themselves.
abbrev pub certified : Bool → Goal → List (List ℤ) → Option (Option (List ℤ))
certified false goal l = None
certified true Satisfy [] = Some None
certified true Satisfy (a ∷ l) = None
certified true (Minimize goal) l = Some (slice_get l (length l - 1))
certified true (Maximize goal) l = Some (slice_get l (length l - 1))

-- the certificate of that, where there is something to certify
abbrev pub IsCertificate : Instance → Option (Option (List ℤ)) → List ℕ → Type 0
IsCertificate m None text = text ≡ []
IsCertificate m (Some head) text = IsCert m head text

-- the text of a whole run that lists these assignments, by the goal and the options
pub record IsRunText (m : Instance) (o : Options) (l : List (List ℤ)) (printed : List ℕ) : Type 0 where
  pub shown : List ℕ
  pub prints : PrintsFor m.goal o m l shown
  pub certificate : List ℕ
  pub certifies : IsCertificate m (certified o.certificate m.goal l) certificate
  pub text : printed ≡ (shown ++ statistics_text (counted o.stats l)) ++ certificate
