-- What the text of a whole run says of the model, whoever printed it: laws over its definition.
use Rattle.std.specs.Prelude.{◌≡◌, ◌≢◌, ◌↔◌, ℕ, ℤ, None, List, [], ◌∷◌, ◌++◌}
use Rattle.fz_spec.specs.declared.goal.Goal.TheVariants.{Satisfy}
use Rattle.fz_spec.specs.Instance.{Instance, AreDeclared, Satisfies, IsBest}
use Rattle.fz_spec.specs.Run.{block}
use Rattle.fz_model.specs.Kept.{IsModel}
use Rattle.fz_tree.specs.Rows.{key, row_of}
use Rattle.fz_cmd.specs.Meaning.{Options}
use Rattle.fz_runs.specs.Modes.{mode_of}
use Rattle.fz_runs.specs.Runs.{IsRunText, times_listed, wanted}

-- The unsatisfiable line, which stands where nothing is listed, stands exactly where nothing satisfies.
abbrev pub NothingExactly : Type 0
NothingExactly = (m : Instance) (o : Options) (l : List (List ℤ)) (printed : List ℕ) → IsRunText m o l printed
    → (l ≡ []) ↔ ((a : List ℤ) → Satisfies m a → ⊥)

-- Two runs for all list the same up to order: each assignment, or each row, as often.
abbrev pub AllAreOne : Type 0
AllAreOne = (m : Instance) (o : Options) (l k : List (List ℤ)) (printed other : List ℕ) → m.goal ≡ Satisfy → wanted o ≡ None
    → IsRunText m o l printed → IsRunText m o k other → (a : List ℤ) → times_listed o.distinct m a l ≡ times_listed o.distinct m a k

-- Of a model without a goal two blocks of one run are of two assignments, or of two rows.
abbrev pub BlocksDiffer : Type 0
BlocksDiffer = (m : Instance) (o : Options) (before between after : List (List ℤ)) (a b : List ℤ) (printed : List ℕ) → m.goal ≡ Satisfy
    → IsRunText m o (before ++ a ∷ (between ++ b ∷ after)) printed → key (mode_of o.distinct) m a ≢ key (mode_of o.distinct) m b

-- Each block is of an assignment that satisfies.
abbrev pub BlocksSatisfy : Type 0
BlocksSatisfy = (m : Instance) (o : Options) (before after : List (List ℤ)) (a : List ℤ) (printed : List ℕ)
    → IsRunText m o (before ++ a ∷ after) printed → Satisfies m a

-- The last block of a run for a best one is of an assignment that none betters.
abbrev pub LastIsBest : Type 0
LastIsBest = (m : Instance) (o : Options) (before : List (List ℤ)) (a : List ℤ) (printed : List ℕ) → m.goal ≢ Satisfy
    → IsRunText m o (before ++ a ∷ []) printed → IsBest m a

-- Of a model two declared assignments print the same block exactly where their rows are equal.
abbrev pub BlocksAreRows : Type 0
BlocksAreRows = (m : Instance) (a b : List ℤ) → IsModel m → AreDeclared m.variables a → AreDeclared m.variables b
    → (block m a ≡ block m b) ↔ (row_of m a ≡ row_of m b)
