-- What a book has recorded first is what a run may begin with.
use Rattle.std.proofs.Common.{◌≡◌, ◌≤◌, ◌+◌, ℕ, zero, suc, List, [], ◌∷◌, length, take, arith, Bool, true, false, Option, Some, None}
use Rattle.std.specs.Prelude.{ℤ}
use Rattle.std.proofs.lemmas.List.{length-take}
use Rattle.fz_spec.specs.Instance.{Instance, Satisfies, AreImproving}
use Rattle.fz_tree.specs.declared.mode.Mode.{Mode}
use Rattle.fz_tree.specs.declared.mode.Mode.TheVariants.{All, Rows, Best}
use Rattle.fz_tree.specs.Better.{Betters}
use Rattle.fz_tree.specs.Account.{times_found}
use Rattle.fz_tree.specs.Book.{Book, BookLaw, Part, SuitsRecord, incumbent_of, times_recorded_in, times_open}
use Rattle.fz_cmd.specs.Meaning.{Options}
use Rattle.fz_runs.specs.Modes.{mode_of}
use Rattle.fz_runs.proofs.Times.{times_are}
use Rattle.fzn.specs.Begun.{IsWithin, AreFound, AreBettered}
use Rattle.fzn.proofs.BegunEndings.{all_front, fewer}

first_within : (asked : Option ℕ) (l : List (List ℤ)) (n : ℕ) → IsWithin asked n → IsWithin asked (length (take n l))
first_within None l n h = tt
first_within (Some k) l n h = omega (arith, length-take n l, h)

improving_first : (m : Instance) (l : List (List ℤ)) (n : ℕ) → AreImproving m l → AreImproving m (take n l)
improving_first m l zero h = tt
improving_first m [] (suc n) h = tt
improving_first m (x ∷ []) (suc zero) h = tt
improving_first m (x ∷ []) (suc (suc n)) h = tt
improving_first m (x ∷ y ∷ ys) (suc zero) h = tt
improving_first m (x ∷ y ∷ ys) (suc (suc n)) h = (h.0, improving_first m (y ∷ ys) (suc n) h.1)

recorded_once : (mode : Mode) (d : Bool) (m : Instance) (a : List ℤ) (recorded : List (List ℤ)) (ps : List Part) → mode ≡ mode_of d
    → (Betters m a (incumbent_of mode recorded) → times_recorded_in mode m a recorded + times_open ps a ≡ 1) → times_found (mode_of d) m a recorded ≤ 1
recorded_once All false m a recorded ps is h = omega (arith, h tt)
recorded_once All true m a recorded ps is h = absurd (cc is)
recorded_once Rows true m a recorded ps is h = omega (arith, h tt)
recorded_once Rows false m a recorded ps is h = absurd (cc is)
recorded_once Best true m a recorded ps is h = absurd (cc is)
recorded_once Best false m a recorded ps is h = absurd (cc is)

bettering : (mode : Mode) (m : Instance) (recorded : List (List ℤ)) → mode ≡ Best → SuitsRecord mode m recorded → AreImproving m recorded
bettering Best m recorded is h = h
bettering All m recorded is h = absurd (cc is)
bettering Rows m recorded is h = absurd (cc is)

-- the first of those that are found, no more than are asked for
pub are_found : (d : Bool) (asked : Option ℕ) (b : Book) (n : ℕ) → BookLaw b → b.mode ≡ mode_of d → IsWithin asked n → AreFound d b.model asked (take n b.recorded)
are_found d asked b n law mode within = record {
  sound = all_front (Satisfies b.model) [] b.recorded n law.sound;
  different = λ a satisfies.
      let once = recorded_once b.mode d b.model a b.recorded b.parts mode (law.sums a satisfies) in
      let less : times_found (mode_of d) b.model a (take n b.recorded) ≤ times_found (mode_of d) b.model a b.recorded = fewer (mode_of d) b.model a [] b.recorded n in
      omega (arith, once, less, times_are d b.model a (take n b.recorded));
  within = first_within asked b.recorded n within;
}

-- the first of those that are better, where all better ones are shown
pub are_bettered : (o : Options) (b : Book) (n : ℕ) → BookLaw b → b.mode ≡ Best → o.all ≡ true → o.generate ≡ None → AreBettered o b.model (take n b.recorded)
are_bettered o b n law best all read = record {
  all = all;
  read = read;
  sound = all_front (Satisfies b.model) [] b.recorded n law.sound;
  improving = improving_first b.model b.recorded n (bettering b.mode b.model b.recorded best law.improving);
}
