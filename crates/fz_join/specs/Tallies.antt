-- What a tally, a state and a reader know, within this crate.
use Rattle.std.specs.Prelude.{◌≡◌, ℕ, Bool, true, false, Option, List, ◌++◌}
use Rattle.std.specs.Ordering.{nat_cmp}
use Rattle.std.specs.Cmp.Lexicographic.{slice_cmp}
use Rattle.std.specs.BTreeMap.{get_by}
use Rattle.fz_spec.specs.declared.goal.Goal.{Goal}
use Rattle.fz_spec.specs.declared.goal.Goal.TheVariants.{Satisfy}
use Rattle.fz_join.specs.Machine as machine
use Rattle.fz_join.specs.declared.machine.State.{State}
use Rattle.fz_join.specs.declared.reader.Reader.{Reader}
use Rattle.fz_join.specs.declared.tally.Tally.{Tally}

-- how often the part of this text has run, where there is one
abbrev pub times_of : Tally → List ℕ → Option ℕ
times_of t text = get_by (λ k. slice_cmp nat_cmp text k.items) t.times

abbrev pub state_of : State → machine.State
state_of s = record {
  times = times_of s.tally;
  section = s.section;
  best = s.best;
  bound = s.bound;
  shown = s.shown;
  wrong = s.wrong;
  out = s.out.items;
}

abbrev pub reading_of : Reader → machine.Reading
reading_of r = record { state = state_of r.state; partial = r.partial.items; printed = r.found.bytes }

-- what is appended to a text is what is told as printed
pub record IsAppended (printed_before printed_after text_before text_after : List ℕ) : Type 0 where
  pub more : List ℕ
  pub text : text_after ≡ text_before ++ more
  pub printed : printed_after ≡ printed_before ++ more

-- one solution is asked for, and one was shown
pub record IsShown (goal : Goal) (all : Bool) (s : machine.State) : Type 0 where
  pub satisfy : goal ≡ Satisfy
  pub one : all ≡ false
  pub shown : s.shown ≡ true
