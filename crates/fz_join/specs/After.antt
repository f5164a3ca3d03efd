-- What is known once runs are read, within this crate.
use Rattle.std.specs.Prelude.{ℕ, ◌-◌, ℤ, Bool, true, false, ◌||◌, Option, Some, None, option_map, List, [], ◌∷◌, ◌++◌, length, slice_get, take}
use Rattle.fz_spec.specs.declared.goal.Goal.{Goal}
use Rattle.fz_spec.specs.declared.goal.Goal.TheVariants.{Satisfy, Minimize, Maximize}
use Rattle.fz_spec.specs.Instance.{Instance}
use Rattle.fz_spec.specs.Run.{block, blocks}
use Rattle.fz_part.specs.Texts.{part_text}
use Rattle.fz_join.specs.Joins.{Ran, rank, rank_of_goal}
use Rattle.fz_join.specs.Machine.{Reading, State, better_of, counted, least_of}

-- the last of a list
abbrev pub last_of : List (List ℤ) → Option (List ℤ)
last_of l = slice_get l (length l - 1)

-- the rank of the value that a run tells
abbrev pub told_of : Goal → Option (List ℤ) → Option ℤ
told_of Satisfy last = None
told_of (Minimize term) last = option_map (rank_of_goal (Minimize term)) last
told_of (Maximize term) last = option_map (rank_of_goal (Maximize term)) last

-- its block
abbrev pub last_block : Instance → Option (List ℤ) → List ℕ
last_block m None = []
last_block m (Some a) = block m a

-- what is printed at once: each solution where all are asked for, else the first
abbrev pub shown_of : Bool → Bool → List (List ℤ) → List (List ℤ)
shown_of true shown l = l
shown_of false true l = []
shown_of false false l = take 1 l

abbrev pub shows : Goal → Bool → Bool → List (List ℤ) → List (List ℤ)
shows Satisfy all shown l = shown_of all shown l
shows (Minimize term) all shown l = []
shows (Maximize term) all shown l = []

-- whether something is listed
abbrev pub is_some_listed : List (List ℤ) → Bool
is_some_listed [] = false
is_some_listed (a ∷ l) = true

abbrev pub has_shown : Goal → Bool → List (List ℤ) → Bool
has_shown Satisfy shown l = shown || is_some_listed l
has_shown (Minimize term) shown l = shown
has_shown (Maximize term) shown l = shown

abbrev pub state_after : Instance → State → Ran → State
state_after m s r = record {
  times = counted (part_text r.part) s.times;
  section = None;
  best = better_of s.best (told_of m.goal (last_of r.list)) (last_block m (last_of r.list));
  bound = least_of s.bound (option_map (rank m.goal) r.bound);
  shown = has_shown m.goal s.shown r.list;
  wrong = false;
  out = [];
}

-- what is known once a run is read
abbrev pub after_run : Instance → Bool → Reading → Ran → Reading
after_run m all x r = record {
  state = state_after m x.state r;
  partial = [];
  printed = x.printed ++ blocks m (shows m.goal all x.state.shown r.list);
}

-- once these are read in order
abbrev pub after_runs : Instance → Bool → Reading → List Ran → Reading
after_runs m all x [] = x
after_runs m all x (r ∷ rs) = after_runs m all (after_run m all x r) rs
