-- The next event of a worker is lawful, and leaves less; where no worker has one, the book is closed.
use Rattle.std.proofs.Common.{◌≡◌, ◌∙◌, ℕ, suc, ◌+◌, ◌-◌, ◌<◌, ◌≤◌, List, [], ◌∷◌, Bool, true, false, cond, ◌&&◌, ◌||◌, not, length, ap, sym, subst, refl, arith, Option, Some, None, IfSome, ◌⊎◌, inl, inr}
use Rattle.std.specs.Prelude.{ℤ, if◌then◌else◌, ◌==◌, nat_lt, is_some, is_none, option_map, IsSomeAnd, MatchOption}
use Rattle.std.specs.List.{slice_get, list_all, position_from}
use Rattle.std.proofs.lemmas.Bool.{ltb-true, lt-ltb, ne_eqb, and_from, not_from_false, not-false, not-true}
use Rattle.std.proofs.lemmas.Option.{slice_get_within}
use Rattle.fz_sets.proofs.Lists.{some_is, all_at, all_of}
use Rattle.fz_spec.specs.Instance.{Instance, Satisfies}
use Rattle.fz_model.specs.Kept.{IsModel}
use Rattle.fz_tree.specs.declared.mode.Mode.{Mode}
use Rattle.fz_tree.specs.declared.mode.Mode.TheVariants.{All, Rows, Best}
use Rattle.fz_tree.specs.Better.{Betters}
use Rattle.fz_tree.specs.Frontier.{has_rest}
use Rattle.fz_tree.specs.Account.{Account}
use Rattle.fz_tree.specs.Book.{incumbent_of, is_claimed}
use Rattle.fz_path.specs.Paths.{Pathed, is_spent, can_cut_held, found_held}
use Rattle.fz_path.specs.Tasks.{Tasked}
use Rattle.fz_path.specs.Learns.{IsNews, Learns, held_with, with_known}
use Rattle.fz_account.specs.declared.account.Learned.{Learned}
use Rattle.fz_account.specs.declared.account.Learned.TheVariants as learned
use Rattle.fz_machine.specs.declared.event.Event.{Event}
use Rattle.fz_machine.specs.declared.event.Event.TheVariants.{Claim, Start, Step, Report, Steal, Learn}
use Rattle.fz_machine.specs.declared.event.Outcome.{Outcome}
use Rattle.fz_machine.specs.Cores.{Worker, Core, CoreLaw, IsOwn, worker_at}
use Rattle.fz_machine.specs.Lawfulness.{is_free, is_ready, is_busy, can_be_cut, has_unclaimed, improving, improving_in, is_lawful}
use Rattle.fz_machine.specs.Events.{LearnsAt, Happens}
use Rattle.fz_machine.specs.Laws.{IsIdle}
use Rattle.fz_machine.specs.Schedule.{is_to_report, HasNews, can, first_cut, IsNext, NoneActs}
use Rattle.fz_machine.specs.Measure.{score_left, path_left, core_left}
use Rattle.fz_machine.proofs.Tests.{is_there}
use Rattle.fz_machine.proofs.Scores.{better_less}
use Rattle.fz_machine.proofs.Ends.{closes}
use Rattle.fz_machine.proofs.Keeping.{worker_of}
use Rattle.fz_machine.proofs.Workers.{held_by}
use Rattle.fz_machine.proofs.Remaining.{replaced_less, known_sound, claim_less, start_less, step_less, report_less, steal_less}

-- ---- what is chosen, and why

-- an event of a worker by what it is asked, and what it gains where it does nothing else
abbrev gains : Bool → ℕ → Option ℕ → Option Event
gains unclaimed w first = if unclaimed then Some (Claim w) else option_map (λ v. Steal v w) first

abbrev choice : Bool → Bool → Bool → Bool → ℕ → ℕ → Option Event → Option Event
choice ready report busy news w i other =
    if ready then Some (Start w) else (if report then Some (Report w) else (if busy then Some (if news then Learn w i else Step w) else other))

abbrev Why : Event → Bool → Bool → Bool → Bool → ℕ → ℕ → Bool → Option ℕ → Type 0
Why (Claim v) ready report busy news w i unclaimed first = (v ≡ w) × (ready ≡ false) × (busy ≡ false) × (unclaimed ≡ true)
Why (Start v) ready report busy news w i unclaimed first = (v ≡ w) × (ready ≡ true)
Why (Step v) ready report busy news w i unclaimed first = (v ≡ w) × (report ≡ false) × (busy ≡ true)
Why (Report v) ready report busy news w i unclaimed first = (v ≡ w) × (report ≡ true)
Why (Steal u v) ready report busy news w i unclaimed first = (v ≡ w) × (ready ≡ false) × (busy ≡ false) × (first ≡ Some u)
Why (Learn v k) ready report busy news w i unclaimed first = (v ≡ w) × (k ≡ i) × (busy ≡ true) × (news ≡ true)

because : (ready report busy news : Bool) (w i : ℕ) (unclaimed : Bool) (first : Option ℕ)
    → MatchOption (choice ready report busy news w i (gains unclaimed w first)) ((ready ≡ false) × (busy ≡ false) × (unclaimed ≡ false)) (λ e. Why e ready report busy news w i unclaimed first)
because true report busy news w i unclaimed first = (refl, refl)
because false true busy news w i unclaimed first = (refl, refl)
because false false true true w i unclaimed first = (refl, refl, refl, refl)
because false false true false w i unclaimed first = (refl, refl, refl)
because false false false news w i true first = (refl, refl, refl, refl)
because false false false news w i false None = (refl, refl, refl)
because false false false news w i false (Some u) = (refl, refl, refl, refl)

-- the same of the next event of a worker
abbrev WhyNext : Core → Option ℕ → ℕ → Bool → Event → Type 0
WhyNext s enough w news event =
    Why event (is_ready (worker_at s w)) (is_to_report enough (worker_at s w)) (is_busy (worker_at s w)) news w (length (improving s.book) - 1) (has_unclaimed s.book) (first_cut s)

next_because : (s : Core) (enough : Option ℕ) (w : ℕ) (next : Option Event) → (n : IsNext s enough w next)
    → MatchOption next ((is_ready (worker_at s w) ≡ false) × (is_busy (worker_at s w) ≡ false) × (has_unclaimed s.book ≡ false)) (WhyNext s enough w n.news)
next_because s enough w next n =
    subst (λ (o : Option Event). MatchOption o ((is_ready (worker_at s w) ≡ false) × (is_busy (worker_at s w) ≡ false) × (has_unclaimed s.book ≡ false)) (WhyNext s enough w n.news)) (sym n.is)
    (because (is_ready (worker_at s w)) (is_to_report enough (worker_at s w)) (is_busy (worker_at s w)) n.news w (length (improving s.book) - 1) (has_unclaimed s.book) (first_cut s))

-- ---- workers

free_by : (held : Option Account) (hand : Bool) → (is_none held && hand) ≡ false → is_some held ≡ false → (is_none held && not hand) ≡ true
free_by None true ready busy = absurd (cc ready)
free_by None false ready busy = refl
free_by (Some c) hand ready busy = absurd (cc busy)

none_by : (hand : Option Tasked) → not (is_some hand) ≡ is_none hand
none_by None = refl
none_by (Some t) = refl

-- a worker that isn't ready and isn't busy is free
free_of : (o : Option Worker) → is_some o ≡ true → is_ready o ≡ false → is_busy o ≡ false → is_free o ≡ true
free_of None there ready busy = absurd (cc there)
free_of (Some w) there ready busy = subst (λ b. (is_none w.path.held && b) ≡ true) (none_by w.hand) (free_by w.path.held (is_some w.hand) ready busy)

found_by : (enough : Bool) (held : Option Account) → (is_spent held || (enough && nat_lt 0 (found_held held))) ≡ true → is_some held ≡ true
found_by true None some = absurd (cc some)
found_by false None some = absurd (cc some)
found_by enough (Some c) some = refl

reports_busy : (enough : Option ℕ) (o : Option Worker) → is_to_report enough o ≡ true → is_busy o ≡ true
reports_busy enough None some = absurd (cc some)
reports_busy enough (Some w) some = found_by (is_some enough) w.path.held some

cut_by : (held : Option Account) → can_cut_held held ≡ true → is_some held ≡ true
cut_by None can = absurd (cc can)
cut_by (Some c) can = refl

cut_busy : (o : Option Worker) → can_be_cut o ≡ true → is_busy o ≡ true
cut_busy None can = absurd (cc can)
cut_busy (Some w) can = cut_by w.path.held can

busy_there : (o : Option Worker) → is_busy o ≡ true → is_some o ≡ true
busy_there None busy = absurd (cc busy)
busy_there (Some w) busy = refl

-- the first of whom a part can be cut off is one
record IsCutFrom (i k : ℕ) (ws : List Worker) : Type 0 where
  pub behind : i ≤ k
  pub can : can_be_cut (slice_get ws (k - i)) ≡ true

cut_at : (w : Worker) (ws : List Worker) (i k : ℕ) (b : Bool) → can w ≡ b → cond b (Some i) (position_from can (i + 1) ws) ≡ Some k
    → (position_from can (i + 1) ws ≡ Some k → IsCutFrom (i + 1) k ws) → IsCutFrom i k (w ∷ ws)
cut_at w ws i k true is first below =
    let same : i ≡ k = some_is i k first in
    let none : k - i ≡ 0 = omega (arith, same) in
    record { behind = omega (arith, same); can = subst (λ n. can_be_cut (slice_get (w ∷ ws) n) ≡ true) (sym none) is }
cut_at w ws i k false is first below =
    let rest = below first in
    let next : k - i ≡ suc (k - (i + 1)) = omega (arith, rest.behind) in
    record { behind = omega (arith, rest.behind); can = subst (λ n. can_be_cut (slice_get (w ∷ ws) n) ≡ true) (sym next) rest.can }

cut_from : (i k : ℕ) (ws : List Worker) → position_from can i ws ≡ Some k → IsCutFrom i k ws
cut_from i k [] first = absurd (let bad : None ≡ Some k = first in cc)
cut_from i k (w ∷ ws) first = cut_at w ws i k (can w) refl first (λ f. cut_from (i + 1) k ws f)

first_can : (s : Core) (u : ℕ) → first_cut s ≡ Some u → can_be_cut (worker_at s u) ≡ true
first_can s u first =
    let same : u - 0 ≡ u = omega arith in
    subst (λ n. can_be_cut (slice_get s.workers n) ≡ true) same (cut_from 0 u s.workers first).can

-- ---- what is recorded

recorded_some : (mode : Mode) (recorded : List (List ℤ)) (P : List ℤ → Type 0) → IsSomeAnd (incumbent_of mode recorded) P → 0 < length (improving_in mode recorded)
recorded_some All recorded P some = absurd some
recorded_some Rows recorded P some = absurd some
recorded_some Best [] P some = absurd some
recorded_some Best (x ∷ xs) P some = omega arith

-- a number of the last better one is the incumbent's
record IsIncumbent (mode : Mode) (recorded : List (List ℤ)) (a : List ℤ) : Type 0 where
  pub best : mode ≡ Best
  pub incumbent : incumbent_of mode recorded ≡ Some a
  pub at : slice_get recorded (length recorded - 1) ≡ Some a

told_incumbent : (mode : Mode) (recorded : List (List ℤ)) (i : ℕ) (a : List ℤ) → i ≡ length (improving_in mode recorded) - 1 → slice_get (improving_in mode recorded) i ≡ Some a → IsIncumbent mode recorded a
told_incumbent All recorded i a is told = absurd (let bad : None ≡ Some a = told in cc)
told_incumbent Rows recorded i a is told = absurd (let bad : None ≡ Some a = told in cc)
told_incumbent Best recorded i a is told =
    let at : slice_get recorded (length recorded - 1) ≡ Some a = subst (λ n. slice_get recorded n ≡ Some a) is told in
    record { best = refl; incumbent = at; at = at }

-- ---- the next event is lawful

at_worker : (s : Core) (v w : ℕ) (P : Option Worker → Type 0) → v ≡ w → P (worker_at s w) → P (worker_at s v)
at_worker s v w P same h = subst (λ n. P (worker_at s n)) (sym same) h

other_than : (s : Core) (u v : ℕ) → is_busy (worker_at s u) ≡ true → is_busy (worker_at s v) ≡ false → (u == v) ≡ false
other_than s u v busy free = ne_eqb u v (λ same. let both : is_busy (worker_at s v) ≡ true = subst (λ n. is_busy (worker_at s n) ≡ true) same busy in cc)

news_of : (s : Core) (o : Option Worker) → HasNews s o → 0 < length (improving s.book)
news_of s None news = absurd news
news_of s (Some w) news = recorded_some s.book.mode s.book.recorded (λ (a : List ℤ). Betters s.book.model a w.path.known) news

pub next_lawful : (s : Core) (enough : Option ℕ) (w : ℕ) (event : Event) → w < length s.workers → IsNext s enough w (Some event) → is_lawful s event ≡ true
next_lawful s enough w (Claim v) within n =
    let y = next_because s enough w (Some (Claim v)) n in
    and_from (is_free (worker_at s v)) (has_unclaimed s.book) (at_worker s v w (λ o. is_free o ≡ true) y.0 (free_of (worker_at s w) (is_there s.workers w within) y.1 y.2)) y.3
next_lawful s enough w (Start v) within n =
    let y = next_because s enough w (Some (Start v)) n in
    at_worker s v w (λ o. is_ready o ≡ true) y.0 y.1
next_lawful s enough w (Step v) within n =
    let y = next_because s enough w (Some (Step v)) n in
    at_worker s v w (λ o. is_busy o ≡ true) y.0 y.2
next_lawful s enough w (Report v) within n =
    let y = next_because s enough w (Some (Report v)) n in
    at_worker s v w (λ o. is_busy o ≡ true) y.0 (reports_busy enough (worker_at s w) y.1)
next_lawful s enough w (Steal u v) within n =
    let y = next_because s enough w (Some (Steal u v)) n in
    let can_u = first_can s u y.3 in
    let busy_v = at_worker s v w (λ o. is_busy o ≡ false) y.0 y.2 in
    and_from (not (u == v)) (can_be_cut (worker_at s u) && is_free (worker_at s v)) (not_from_false (u == v) (other_than s u v (cut_busy (worker_at s u) can_u) busy_v))
    (and_from (can_be_cut (worker_at s u)) (is_free (worker_at s v)) can_u (at_worker s v w (λ o. is_free o ≡ true) y.0 (free_of (worker_at s w) (is_there s.workers w within) y.1 y.2)))
next_lawful s enough w (Learn v k) within n =
    let y = next_because s enough w (Some (Learn v k)) n in
    let some = news_of s (worker_at s w) (n.told.0 y.3) in
    and_from (is_some (worker_at s v)) (nat_lt k (length (improving s.book))) (at_worker s v w (λ o. is_some o ≡ true) y.0 (busy_there (worker_at s w) y.2))
    (lt-ltb k (length (improving s.book)) (omega (arith, y.1, some)))

-- ---- and leaves less

or_left : (a b : Bool) → (a || b) ≡ false → a ≡ false
or_left false b none = refl
or_left true b none = absurd (cc none)

or_cases : (a b : Bool) → (a || b) ≡ true → (a ≡ true) ⊎ (b ≡ true)
or_cases true b some = inl refl
or_cases false b some = inr some

and_right : (a b : Bool) → (a && b) ≡ true → b ≡ true
and_right true b both = both
and_right false b both = absurd (cc both)

-- what isn't to be reported has something left
rest_of : (enough : Option ℕ) (w : Worker) (c : Account) → w.path.held ≡ Some c → is_to_report enough (Some w) ≡ false → has_rest c.after ≡ true
rest_of enough w c holds none =
    let unspent : not (has_rest c.after) ≡ false = subst (λ (o : Option Account). is_spent o ≡ false) holds (or_left (is_spent w.path.held) (is_some enough && nat_lt 0 (found_held w.path.held)) none) in
    not-false (has_rest c.after) unspent

-- what is to be reported has nothing left, or has found something
report_of : (enough : Option ℕ) (w : Worker) (c : Account) → w.path.held ≡ Some c → is_to_report enough (Some w) ≡ true → (0 < length c.found) ⊎ (has_rest c.after ≡ false)
report_of enough w c holds some =
    elim (or_cases (is_spent w.path.held) (is_some enough && nat_lt 0 (found_held w.path.held)) some) [
      | inl spent ↦ inr (not-true (has_rest c.after) (subst (λ (o : Option Account). is_spent o ≡ true) holds spent))
      | inr found ↦ inl (ltb-true 0 (length c.found) (subst (λ (o : Option Account). nat_lt 0 (found_held o) ≡ true) holds (and_right (is_some enough) (nat_lt 0 (found_held w.path.held)) found)))
    ]

busy_holds : (w : Worker) (held : Option Account) → w.path.held ≡ held → is_some held ≡ true → (c : Account) × (w.path.held ≡ Some c)
busy_holds w None is busy = absurd (cc busy)
busy_holds w (Some c) is busy = (c, is)

-- a path that holds something learns what betters what it knows
learned_path : (m : Instance) (p : Pathed) (c : Account) (a : List ℤ) → p.held ≡ Some c → score_left m (Some a) < score_left m c.witness → path_left m (with_known p a).held < path_left m p.held
learned_path m p c a holds less = omega (arith, ap (λ (o : Option Account). path_left m (held_with a o)) holds, ap (path_left m) holds, less)

learned_less : (m : Instance) (l : Learned) (p path : Pathed) (c : Account) (a : List ℤ) → IsNews p a → p.held ≡ Some c → score_left m (Some a) < score_left m c.witness → Learns l p a path → path_left m path.held < path_left m p.held
learned_less m learned.Learned p path c a news holds less learns = subst (λ (q : Pathed). path_left m q.held < path_left m p.held) (sym learns.1) (learned_path m p c a holds less)
learned_less m learned.Ignored p path c a news holds less learns = absurd (learns.0 news)

learn_less : (w i : ℕ) (answer : Outcome) (old new : Core) → CoreLaw old → IsModel old.book.model → LearnsAt w i answer old new → i ≡ length (improving old.book) - 1
    → is_busy (worker_at old w) ≡ true → HasNews old (worker_at old w) → core_left new < core_left old
learn_less w i answer old new law model l last busy news =
    let m = old.book.model in
    let p = l.worker.path in
    let told = told_incumbent old.book.mode old.book.recorded i l.assignment last l.told in
    let of_w = worker_of old w l.worker law l.at in
    let holds = busy_holds l.worker p.held refl (subst (λ (o : Option Worker). is_busy o ≡ true) l.at busy) in
    let is = held_by m old.book.mode l.worker holds.0 of_w holds.1 in
    let known : holds.0.witness ≡ p.known = (subst (λ (o : Option Account). IfSome o (IsOwn p.known)) holds.1 of_w.account).witness in
    let better : Betters m l.assignment p.known =
    subst (λ (o : Option (List ℤ)). IsSomeAnd o (λ (a : List ℤ). Betters m a p.known)) told.incumbent (subst (HasNews old) l.at news) in
    let satisfies : Satisfies m l.assignment = all_at (Satisfies m) old.book.recorded (length old.book.recorded - 1) l.assignment law.book.sound told.at in
    let fresh : IsNews p l.assignment = record {
      best = of_w.mode ∙ told.best;
      satisfies = subst (λ (n : Instance). Satisfies n l.assignment) (sym of_w.model) satisfies;
      better = subst (λ (n : Instance). Betters n l.assignment p.known) (sym of_w.model) better;
    } in
    let less : score_left m (Some l.assignment) < score_left m holds.0.witness =
    subst (λ (o : Option (List ℤ)). score_left m (Some l.assignment) < score_left m o) (sym known) (better_less m l.assignment p.known model satisfies (known_sound old w l.worker law l.at) better) in
    replaced_less old new w l.worker (record { path = l.path; hand = l.worker.hand }) l.at l.is
    (omega (arith, learned_less m l.learned p l.path holds.0 l.assignment fresh holds.1 less l.learns))

pub next_leaves_less : (s t : Core) (enough : Option ℕ) (w : ℕ) (event : Event) (outcome : Outcome) → CoreLaw s → IsModel s.book.model → IsNext s enough w (Some event) → Happens event outcome s t → core_left t < core_left s
next_leaves_less s t enough w (Claim v) outcome law model n h = claim_less v s t h.1
next_leaves_less s t enough w (Start v) outcome law model n h = start_less v s t law model h.1
next_leaves_less s t enough w (Step v) outcome law model n h =
    let y = next_because s enough w (Some (Step v)) n in
    let none = at_worker s v w (λ o. is_to_report enough o ≡ false) y.0 y.1 in
    step_less v outcome s t law model h (rest_of enough h.worker h.account h.holds (subst (λ (o : Option Worker). is_to_report enough o ≡ false) h.at none))
next_leaves_less s t enough w (Report v) outcome law model n h =
    let y = next_because s enough w (Some (Report v)) n in
    let some = at_worker s v w (λ o. is_to_report enough o ≡ true) y.0 y.1 in
    report_less v s t law h.1 (report_of enough h.1.worker h.1.account h.1.holds (subst (λ (o : Option Worker). is_to_report enough o ≡ true) h.1.at some))
next_leaves_less s t enough w (Steal u v) outcome law model n h = steal_less u v s t law h.1
next_leaves_less s t enough w (Learn v k) outcome law model n h =
    let y = next_because s enough w (Some (Learn v k)) n in
    learn_less v k outcome s t law model h y.1 (at_worker s v w (λ o. is_busy o ≡ true) y.0 y.2) (at_worker s v w (HasNews s) y.0 (n.told.0 y.3))

-- ---- where nobody has a next event

idle_by : (w : Worker) (held : Option Account) (hand : Option Tasked) → w.path.held ≡ held → w.hand ≡ hand → (is_none held && is_some hand) ≡ false → is_some held ≡ false → IsIdle w
idle_by w None None holds has ready busy = record { holds = holds; hand = has }
idle_by w None (Some t) holds has ready busy = absurd (cc ready)
idle_by w (Some c) hand holds has ready busy = absurd (cc busy)

idle_of : (s : Core) (i : ℕ) (w : Worker) → slice_get s.workers i ≡ Some w → is_ready (worker_at s i) ≡ false → is_busy (worker_at s i) ≡ false → IsIdle w
idle_of s i w at ready busy =
    idle_by w w.path.held w.hand refl refl (subst (λ (o : Option Worker). is_ready o ≡ false) at ready) (subst (λ (o : Option Worker). is_busy o ≡ false) at busy)

pub nobody_closes : (s : Core) (enough : Option ℕ) → CoreLaw s → NoneActs s enough 0 (length s.workers) → s.book.parts ≡ []
nobody_closes s enough law none =
    closes s law (record {
      workers = all_of IsIdle s.workers (λ i w at.
          let y = next_because s enough i None (none i (omega arith) (slice_get_within s.workers i w at)) in
          idle_of s i w at y.0 y.1);
      claimed = not-false (list_all is_claimed s.book.parts) (next_because s enough 0 None (none 0 (omega arith) law.several)).2;
    })
