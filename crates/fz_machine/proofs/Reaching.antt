-- The law holds at the start, and after any list of calls.
use Rattle.std.proofs.Common.{◌≡◌, ◌∙◌, ℕ, ◌<◌, ◌≤◌, ◌^◌, List, [], ◌∷◌, replicate, sym, subst, refl, arith, Some, inl, inr}
use Rattle.std.specs.Prelude.{ℤ}
use Rattle.std.specs.List.{AllByRecursion, slice_get}
use Rattle.std.proofs.lemmas.List.{length-replicate, get_or-replicate}
use Rattle.std.proofs.lemmas.List.Folds.{sum_by-replicate}
use Rattle.std.proofs.lemmas.Option.{slice_get_within, get_or_from_slice_get}
use Rattle.fz_sets.proofs.Lists.{all_of}
use Rattle.fz_spec.specs.Instance.{Instance, SearchPart, Satisfies}
use Rattle.fz_tree.specs.declared.mode.Mode.{Mode}
use Rattle.fz_tree.specs.declared.mode.Mode.TheVariants.{Best}
use Rattle.fz_tree.specs.Better.{IsModeOf, Betters}
use Rattle.fz_tree.specs.Book.{incumbent}
use Rattle.fz_tree.proofs.Books.{opens, offers}
use Rattle.fz_path.proofs.Paths.{suits_nothing}
use Rattle.fz_machine.specs.declared.event.Event.{Event}
use Rattle.fz_machine.specs.declared.event.Answer.{Answer}
use Rattle.fz_machine.specs.declared.event.Answer.TheVariants.{Applied, Unlawful}
use Rattle.fz_machine.specs.Cores.{Core, CoreLaw, IsWorkerOf, idle_by, starting_by, told, worker_adds}
use Rattle.fz_machine.specs.Runs.{Answers, Turns, Runs}
use Rattle.fz_machine.specs.Laws.{Reaches}
use Rattle.fz_machine.proofs.Keeping.{event_keeps, refusal_keeps}

idle_is : (m : Instance) (mode : Mode) (plan : List SearchPart) (commit adaptive : ℕ) → IsModeOf m.goal mode → 1 ≤ commit → 1 ≤ adaptive → IsWorkerOf m mode (idle_by m mode plan commit adaptive)
idle_is m mode plan commit adaptive own one two = record {
  model = refl;
  mode = refl;
  law = record { own_mode = own; distances = (one, two); held = tt; known = tt; suits = suits_nothing mode };
  account = tt;
  task = tt;
}

all_copies : {X : Type 0} (P : X → Type 0) (n : ℕ) (x : X) → P x → AllByRecursion P (replicate n x)
all_copies {X} P n x p = all_of P (replicate n x) (λ i y at. subst P (sym (copy i y at)) p)
  where
    copy : (i : ℕ) (y : X) → slice_get (replicate n x) i ≡ Some y → y ≡ x
    copy i y at =
        let within : i < n = omega (arith, slice_get_within (replicate n x) i y at, length-replicate n x) in
        sym (get_or_from_slice_get (replicate n x) i y y at) ∙ get_or-replicate n i x y within

pub start_law : (m : Instance) (mode : Mode) (plan : List SearchPart) (n commit adaptive : ℕ) → IsModeOf m.goal mode → 1 ≤ n → n < 2 ^ 32 → 1 ≤ commit → 1 ≤ adaptive → CoreLaw (starting_by m mode plan n commit adaptive)
start_law m mode plan n commit adaptive own several numbered one two =
    let w = idle_by m mode plan commit adaptive in
    record {
      several = rw (length-replicate n w) several;
      numbered = rw (length-replicate n w) numbered;
      book = opens m mode own;
      workers = all_copies (IsWorkerOf m mode) n w (idle_is m mode plan commit adaptive own one two);
      held = λ g. omega (arith, sum_by-replicate (worker_adds g) n w);
    }

pub answer_keeps : (a : Answer) (event : Event) (old new : Core) → CoreLaw old → Answers a event old new → CoreLaw new
answer_keeps (Applied outcome) event old new law h = event_keeps event outcome old new law h.1
answer_keeps (Unlawful e) event old new law h = subst CoreLaw (sym h.2) law

turn_keeps : (event : Event) (old new : Core) → CoreLaw old → Turns event old new → CoreLaw new
turn_keeps event old new law (inl answered) = answer_keeps answered.0 event old new law answered.1
turn_keeps event old new law (inr refused) = refusal_keeps event old new law refused

pub runs_keep : (events : List Event) (old new : Core) → CoreLaw old → Runs events old new → CoreLaw new
runs_keep [] old new law same = subst CoreLaw (sym same) law
runs_keep (event ∷ events) old new law runs = runs_keep events runs.0 new (turn_keeps event old runs.0 law runs.1) runs.2

pub reaches_law : (s : Core) → Reaches s → CoreLaw s
reaches_law s r =
    runs_keep r.events (starting_by r.model r.mode r.plan r.workers r.commit_distance r.adaptive_distance) s
    (start_law r.model r.mode r.plan r.workers r.commit_distance r.adaptive_distance r.own_mode r.several r.numbered r.distances.0 r.distances.1) r.runs

-- ---- offers

pub offer_keeps : (s : Core) (a : List ℤ) → CoreLaw s → s.book.mode ≡ Best → Satisfies s.book.model a → Betters s.book.model a (incumbent s.book) → CoreLaw (told s a)
offer_keeps s a law best satisfies better = record {
  several = law.several;
  numbered = law.numbered;
  book = offers s.book a law.book best satisfies better;
  workers = law.workers;
  held = law.held;
}
