-- Events as the code says them: s is the machine by its fields, i the number of a worker, read the worker as it is read there.
use Rattle.std.proofs.Common.{◌≡◌, ◌∙◌, ℕ, ◌<◌, ◌≤◌, ◌^◌, replicate, List, length, set, get_or, Bool, true, false, not, ◌&&◌, eqb, ap, sym, subst, refl, arith, Option, Some, None, IfNone, IfSome, Result, Ok, Err}
use Rattle.std.specs.Prelude.{ℤ, is_some, IfOk, OnErr, nat_lt}
use Rattle.std.specs.List.{slice_get, list_all}
use Rattle.std.proofs.lemmas.List.{set-get_or}
use Rattle.std.proofs.lemmas.Option.{slice_get_within, get_or_from_slice_get, slice_get_read}
use Rattle.std.proofs.lemmas.Bool.{and_parts, ltb-true, ne_eqb}
use Rattle.std.proofs.lemmas.Bool.Decides.{Decides-eqb}
use Rattle.fz_tree.specs.declared.mode.Mode.{Mode}
use Rattle.fz_tree.specs.declared.mode.Mode.TheVariants.{All, Rows, Best}
use Rattle.fz_tree.specs.Frontier.{Frontier, part_of}
use Rattle.fz_tree.specs.Account.{Account, with_given}
use Rattle.fz_spec.specs.Instance.{Instance, SearchPart}
use Rattle.fz_tree.specs.Better.{IsModeOf}
use Rattle.fz_tree.specs.Book.{Book, Claims, Takes, opening, is_claimed}
use Rattle.fz_account.specs.declared.account.Learned.{Learned}
use Rattle.fz_path.specs.declared.step.Step as stepping
use Rattle.fz_path.specs.declared.step.Step.TheVariants as steps
use Rattle.fz_path.specs.Paths.{Pathed, held_behind, with_held, can_cut_held}
use Rattle.fz_path.specs.Tasks.{Tasked, bare_task}
use Rattle.fz_path.specs.Starts.{TakesUp}
use Rattle.fz_path.specs.Steps.{Steps, StepsTo, Falls, FallsFrom, Stays}
use Rattle.fz_path.specs.Cuts.{IsNearOf, held_behind_cut}
use Rattle.fz_path.specs.Learns.{Learns}
use Rattle.fz_machine.specs.declared.event.Event.{Event}
use Rattle.fz_machine.specs.declared.event.Event.TheVariants.{Claim, Start, Step, Report, Steal, Learn}
use Rattle.fz_machine.specs.declared.event.Outcome.{Outcome}
use Rattle.fz_machine.specs.Cores.{Worker, Core, CoreLaw, idle_by, worker_at}
use Rattle.fz_machine.specs.Lawfulness.{is_lawful, is_free, is_busy, can_be_cut, has_unclaimed, improving_in, improving}
use Rattle.fz_machine.specs.Events.{ClaimsAt, StartsAt, StepsAt, ReportsAt, StealsAt, LearnsAt, StaysAt, holding, step_outcome, learned_outcome}
use Rattle.fz_book.specs.Reports.{IsReportable}
use Rattle.fz_machine.proofs.Lawful.{IsFree, CanCut, free, ready, busy, cuttable, some_is_there}
use Rattle.fz_machine.proofs.Held.{held_is_claimed}
use Rattle.fz_machine.proofs.Workers.{held_by}
use Rattle.fz_machine.proofs.Reaching.{start_law}
use Rattle.fz_machine.proofs.Keeping.{worker_of, get_set_other, event_keeps, refusal_keeps}

pub on_err : {A E : Type 0} (r : Result A E) (P : Type 0) → P → OnErr r P
on_err (Ok x) P p = tt
on_err (Err e) P p = p

-- the worker that was read is the one that has the number
read_is : (s old : Core) (i : ℕ) (w read : Worker) → s ≡ old → worker_at old i ≡ Some w → read ≡ get_or s.workers i read → read ≡ w
read_is s old i w read view at is = is ∙ get_or_from_slice_get s.workers i w read (subst (λ (x : Core). worker_at x i ≡ Some w) (sym view) at)

-- a worker that is as it was stands in its place, and the book is as it was
pub unchanged_code : (s old : Core) (i : ℕ) (read now : Worker) (b : Book) → s ≡ old → read ≡ get_or s.workers i read → now ≡ read → b ≡ s.book → let new : Core = record { workers = set s.workers i now; book = b } in new ≡ old
unchanged_code s old i read now b view is same book =
    let made : List Worker → Book → Core = λ ws x. record { workers = ws; book = x } in
    ap (λ (ws : List Worker). made ws b) (ap (set s.workers i) (same ∙ is) ∙ set-get_or s.workers i read) ∙ ap (made s.workers) book ∙ view

-- ---- a claim

pub claim_code : (s old : Core) (i : ℕ) (read : Worker) (path : Pathed) (hand : Option Tasked) (handed : Option Frontier) (frontier : Frontier) (task : Tasked) (b : Book) → s ≡ old → is_lawful old (Claim i) ≡ true → read ≡ get_or s.workers i read
    → (let seen : Worker = record { path = path; hand = hand } in seen ≡ read) → handed ≡ Some frontier → IfSome handed (λ (f : Frontier). Claims s.book f b) → task ≡ bare_task frontier → ClaimsAt i old (record { workers = set s.workers i (record { path = path; hand = Some task }); book = b })
claim_code s old i read path hand handed frontier task b view lawful is seen some claims made =
    let f = free (worker_at old i) (and_parts (is_free (worker_at old i)) (has_unclaimed old.book) lawful).0 in
    let same : path ≡ f.worker.path = ap (λ (w : Worker). w.path) (seen ∙ read_is s old i f.worker read view f.at is) in
    let of_book : Claims s.book frontier b = subst (λ (o : Option Frontier). IfSome o (λ (x : Frontier). Claims s.book x b)) some claims in
    let holder : Pathed → Tasked → Worker = λ p t. record { path = p; hand = Some t } in
    record {
      worker = f.worker;
      at = f.at;
      idle = f.idle;
      empty = f.empty;
      frontier = frontier;
      claims = subst (λ (x : Core). Claims x.book frontier b) view of_book;
      workers = ap (λ (x : Core). set x.workers i (holder path task)) view ∙ ap (λ (p : Pathed). set old.workers i (holder p task)) same ∙ ap (λ (t : Tasked). set old.workers i (holder f.worker.path t)) made;
    }

-- ---- a start

pub start_ready : (s old : Core) (i : ℕ) (read : Worker) → s ≡ old → is_lawful old (Start i) ≡ true → read ≡ get_or s.workers i read → (read.path.held ≡ None) × (is_some read.hand ≡ true)
start_ready s old i read view lawful is =
    let r = ready (worker_at old i) lawful in
    let same = read_is s old i r.worker read view r.at is in
    (ap (λ (w : Worker). w.path.held) same ∙ r.idle, ap (λ (w : Worker). is_some w.hand) same ∙ r.full)

pub start_code : (s old : Core) (i : ℕ) (read now : Worker) → s ≡ old → is_lawful old (Start i) ≡ true → read ≡ get_or s.workers i read
    → ((task : Tasked) × (read.hand ≡ Some task) × TakesUp read.path now.path task × (now.hand ≡ None)) → StartsAt i old (record { workers = set s.workers i now; book = s.book })
start_code s old i read now view lawful is does =
    let r = ready (worker_at old i) lawful in
    let same = read_is s old i r.worker read view r.at is in
    let holder : Option Tasked → Worker = λ h. record { path = now.path; hand = h } in
    let made : Core → Worker → Core = λ x w. record { workers = set x.workers i w; book = x.book } in
    record {
      worker = r.worker;
      at = r.at;
      idle = r.idle;
      task = does.0;
      full = ap (λ (w : Worker). w.hand) (sym same) ∙ does.1;
      path = now.path;
      takes = subst (λ (w : Worker). TakesUp w.path now.path does.0) same does.2;
      is = ap (λ (x : Core). made x now) view ∙ ap (λ (h : Option Tasked). made old (holder h)) does.3;
    }

-- ---- a step

-- the worker that was read, with what it holds now
holds_now : (read w : Worker) (path new : Pathed) (hand : Option Tasked) → (let seen : Worker = record { path = path; hand = hand } in seen ≡ read) → read ≡ w → new ≡ with_held path new.held
    → (let now : Worker = record { path = new; hand = hand } in now ≡ holding w new.held)
holds_now read w path new hand seen same rest =
    let made : Pathed → Option Tasked → Worker = λ p h. record { path = p; hand = h } in
    ap (λ (p : Pathed). made p hand) rest ∙ ap (λ (x : Worker). holding x new.held) (seen ∙ same)

steps_held : (plan : List SearchPart) (step : stepping.Step) (c : Account) (held new : Option Account) → held ≡ Some c → Steps plan step held new → FallsFrom step held new → (d : Account) × (new ≡ Some d) × StepsTo plan step c d × Falls step c d
steps_held plan step c held new holds does falls =
    let from = subst (λ (o : Option Account). Steps plan step o new) holds does in
    let less : FallsFrom step (Some c) (Some from.account) = subst (λ (o : Option Account). FallsFrom step (Some c) o) from.holds (subst (λ (o : Option Account). FallsFrom step o new) holds falls) in
    (from.account, from.holds, from.steps, less)

pub step_code : (s old : Core) (i : ℕ) (read : Worker) (path new : Pathed) (hand : Option Tasked) (step : stepping.Step) (answer : Outcome) → s ≡ old → is_lawful old (Step i) ≡ true → read ≡ get_or s.workers i read
    → (let seen : Worker = record { path = path; hand = hand } in seen ≡ read) → Steps path.plan step path.held new.held → FallsFrom step path.held new.held → new ≡ with_held path new.held → step_outcome step ≡ Some answer
    → StepsAt i answer old (record { workers = set s.workers i (record { path = new; hand = hand }); book = s.book })
step_code s old i read path new hand step answer view lawful is seen does falls rest answers =
    let b = busy (worker_at old i) lawful in
    let same = read_is s old i b.worker read view b.at is in
    let holds : path.held ≡ Some b.account = ap (λ (w : Worker). w.path.held) (seen ∙ same) ∙ b.holds in
    let d = steps_held path.plan step b.account path.held new.held holds does falls in
    let made : Core → Worker → Core = λ x w. record { workers = set x.workers i w; book = x.book } in
    let now : Worker = record { path = new; hand = hand } in
    record {
      worker = b.worker;
      at = b.at;
      account = b.account;
      holds = b.holds;
      step = step;
      answers = answers;
      stepped = d.0;
      steps = subst (λ (plan : List SearchPart). StepsTo plan step b.account d.0) (ap (λ (w : Worker). w.path.plan) (seen ∙ same)) d.2;
      falls = d.3;
      is = ap (λ (x : Core). made x now) view ∙ ap (made old) (holds_now read b.worker path new hand seen same rest ∙ ap (holding b.worker) d.1);
    }

pub stay_code : (s old : Core) (i : ℕ) (read : Worker) (path new : Pathed) (hand : Option Tasked) → s ≡ old → is_lawful old (Step i) ≡ true → read ≡ get_or s.workers i read
    → (let seen : Worker = record { path = path; hand = hand } in seen ≡ read) → Stays path.held new.held → new ≡ with_held path new.held → StaysAt i old (record { workers = set s.workers i (record { path = new; hand = hand }); book = s.book })
stay_code s old i read path new hand view lawful is seen stays rest =
    let b = busy (worker_at old i) lawful in
    let same = read_is s old i b.worker read view b.at is in
    let holds : path.held ≡ Some b.account = ap (λ (w : Worker). w.path.held) (seen ∙ same) ∙ b.holds in
    let made : Core → Worker → Core = λ x w. record { workers = set x.workers i w; book = x.book } in
    let now : Worker = record { path = new; hand = hand } in
    record {
      worker = b.worker;
      at = b.at;
      account = b.account;
      holds = b.holds;
      held = new.held;
      stays = subst (λ (o : Option Account). Stays o new.held) holds stays;
      is = ap (λ (x : Core). made x now) view ∙ ap (made old) (holds_now read b.worker path new hand seen same rest);
    }

-- a worker that holds a frontier isn't idle at a step
pub never_idle : (s old : Core) (i : ℕ) (read : Worker) (path new : Pathed) (hand : Option Tasked) (step : stepping.Step) → s ≡ old → is_lawful old (Step i) ≡ true → read ≡ get_or s.workers i read
    → (let seen : Worker = record { path = path; hand = hand } in seen ≡ read) → Steps path.plan step path.held new.held → step_outcome step ≡ None → ⊥
never_idle s old i read path new hand step view lawful is seen does none =
    let b = busy (worker_at old i) lawful in
    let holds : path.held ≡ Some b.account = ap (λ (w : Worker). w.path.held) (seen ∙ read_is s old i b.worker read view b.at is) ∙ b.holds in
    let from = subst (λ (o : Option Account). Steps path.plan step o new.held) holds does in
    acts step b.account from.account from.steps none
  where
    acts : (x : stepping.Step) (a d : Account) → StepsTo path.plan x a d → step_outcome x ≡ None → ⊥
    acts steps.Expanded a d h bad = cc bad
    acts steps.Found a d h bad = cc bad
    acts steps.Closed a d h bad = cc bad
    acts steps.Idle a d h bad = h

-- ---- a report

-- what a worker holds, the book can take
reportable : (s : Core) (i : ℕ) (w : Worker) (held : Option Account) → CoreLaw s → worker_at s i ≡ Some w → w.path.held ≡ held → IfSome held (IsReportable s.book)
reportable s i w None law at holds = tt
reportable s i w (Some c) law at holds =
    let of_w = worker_of s i w law at in
    let is = held_by s.book.model s.book.mode w c of_w holds in
    let k = held_is_claimed s.book.parts s.workers i w c law.held at holds in
    record { model = sym (is.model ∙ of_w.model); mode = sym (is.mode ∙ of_w.mode); is_open = (k.place, k.at); given = is.given }

-- the same of the worker as it is read
reportable_read : (s old : Core) (i : ℕ) (w read : Worker) → CoreLaw s → s ≡ old → worker_at old i ≡ Some w → read ≡ get_or s.workers i read → IfSome read.path.held (IsReportable s.book)
reportable_read s old i w read law view at is =
    let here : worker_at s i ≡ Some w = subst (λ (x : Core). worker_at x i ≡ Some w) (sym view) at in
    subst (λ (x : Worker). IfSome x.path.held (IsReportable s.book)) (sym (read_is s old i w read view at is)) (reportable s i w w.path.held law here refl)

pub report_holds : (s old : Core) (i : ℕ) (read : Worker) → s ≡ old → is_lawful old (Report i) ≡ true → read ≡ get_or s.workers i read → is_some read.path.held ≡ true
report_holds s old i read view lawful is =
    let b = busy (worker_at old i) lawful in
    ap (λ (w : Worker). is_some w.path.held) (read_is s old i b.worker read view b.at is) ∙ ap (λ (o : Option Account). is_some o) b.holds

pub report_can : (s old : Core) (i : ℕ) (read : Worker) → CoreLaw s → s ≡ old → is_lawful old (Report i) ≡ true → read ≡ get_or s.workers i read → IfSome read.path.held (IsReportable s.book)
report_can s old i read law view lawful is = let b = busy (worker_at old i) lawful in reportable_read s old i b.worker read law view b.at is

pub report_code : (s old : Core) (i : ℕ) (read now : Worker) (b : Book) → s ≡ old → is_lawful old (Report i) ≡ true → read ≡ get_or s.workers i read
    → ((c : Account) × (read.path.held ≡ Some c) × Takes s.book c b × (now ≡ holding read (held_behind c))) → ReportsAt i old (record { workers = set s.workers i now; book = b })
report_code s old i read now b view lawful is does =
    let w = busy (worker_at old i) lawful in
    let same = read_is s old i w.worker read view w.at is in
    record {
      worker = w.worker;
      at = w.at;
      account = does.0;
      holds = ap (λ (x : Worker). x.path.held) (sym same) ∙ does.1;
      takes = subst (λ (x : Core). Takes x.book does.0 b) view does.2;
      workers = ap (λ (x : Core). set x.workers i now) view ∙ ap (set old.workers i) (does.3 ∙ ap (λ (x : Worker). holding x (held_behind does.0)) same);
    }

-- ---- a steal

record IsSteal (old : Core) (v w : ℕ) : Type 0 where
  pub other : v ≡ w → ⊥
  pub victim : CanCut (worker_at old v)
  pub thief : IsFree (worker_at old w)

steal_of : (old : Core) (v w : ℕ) → is_lawful old (Steal v w) ≡ true → IsSteal old v w
steal_of old v w lawful =
    let all = and_parts (not (eqb v w)) (can_be_cut (worker_at old v) && is_free (worker_at old w)) lawful in
    let workers = and_parts (can_be_cut (worker_at old v)) (is_free (worker_at old w)) all.1 in
    record {
      other = λ same. differs (eqb v w) ((Decides-eqb v w).1 same) all.0;
      victim = cuttable (worker_at old v) workers.0;
      thief = free (worker_at old w) workers.1;
    }
  where
    differs : (b : Bool) → b ≡ true → not b ≡ true → ⊥
    differs true h n = cc n
    differs false h n = cc h

pub steal_within : (s old : Core) (v w : ℕ) → s ≡ old → is_lawful old (Steal v w) ≡ true → v < length s.workers
steal_within s old v w view lawful =
    let h = steal_of old v w lawful in
    slice_get_within s.workers v h.victim.worker (subst (λ (x : Core). worker_at x v ≡ Some h.victim.worker) (sym view) h.victim.at)

pub thief_within : (s old : Core) (v w : ℕ) → s ≡ old → is_lawful old (Steal v w) ≡ true → w < length s.workers
thief_within s old v w view lawful =
    let h = steal_of old v w lawful in
    slice_get_within s.workers w h.thief.worker (subst (λ (x : Core). worker_at x w ≡ Some h.thief.worker) (sym view) h.thief.at)

pub steal_can : (s old : Core) (v w : ℕ) (read : Worker) → s ≡ old → is_lawful old (Steal v w) ≡ true → read ≡ get_or s.workers v read → can_cut_held read.path.held ≡ true
steal_can s old v w read view lawful is =
    let h = (steal_of old v w lawful).victim in
    ap (λ (x : Worker). can_cut_held x.path.held) (read_is s old v h.worker read view h.at is) ∙ ap can_cut_held h.holds ∙ h.can

pub steal_reports : (s old : Core) (v w : ℕ) (read : Worker) → CoreLaw s → s ≡ old → is_lawful old (Steal v w) ≡ true → read ≡ get_or s.workers v read → IfSome read.path.held (IsReportable s.book)
steal_reports s old v w read law view lawful is = let h = (steal_of old v w lawful).victim in reportable_read s old v h.worker read law view h.at is

pub steal_code : (s old : Core) (v w : ℕ) (read now other : Worker) (path : Pathed) (hand : Option Tasked) (task : Tasked) (b : Book) → s ≡ old → is_lawful old (Steal v w) ≡ true → read ≡ get_or s.workers v read
    → ((c : Account) × (read.path.held ≡ Some c) × (task.frontier ≡ part_of c.after) × IfSome task.near (IsNearOf read.path) × Takes s.book (with_given c) b × (now ≡ holding read (held_behind_cut c)))
    → other ≡ get_or (set s.workers v now) w other → (let seen : Worker = record { path = path; hand = hand } in seen ≡ other) → StealsAt v w old (record { workers = set (set s.workers v now) w (record { path = path; hand = Some task }); book = b })
steal_code s old v w read now other path hand task b view lawful is does at seen =
    let h = steal_of old v w lawful in
    let c = does.0 in
    let same = read_is s old v h.victim.worker read view h.victim.at is in
    let at_thief : slice_get s.workers w ≡ Some h.thief.worker = subst (λ (x : Core). worker_at x w ≡ Some h.thief.worker) (sym view) h.thief.at in
    let behind : slice_get (set s.workers v now) w ≡ Some h.thief.worker = get_set_other s.workers v w now (λ e. h.other (sym e)) ∙ at_thief in
    let same_path : path ≡ h.thief.worker.path = ap (λ (x : Worker). x.path) (seen ∙ at ∙ get_or_from_slice_get (set s.workers v now) w h.thief.worker other behind) in
    let thief : Pathed → Worker = λ p. record { path = p; hand = Some task } in
    let both : Core → Worker → Worker → List Worker = λ x y z. set (set x.workers v y) w z in
    record {
      victim = h.victim.worker;
      at_victim = h.victim.at;
      account = c;
      holds = ap (λ (x : Worker). x.path.held) (sym same) ∙ does.1;
      can = ap can_cut_held (sym does.1) ∙ steal_can s old v w read view lawful is;
      other = h.other;
      thief = h.thief.worker;
      at_thief = h.thief.at;
      idle = h.thief.idle;
      empty = h.thief.empty;
      takes = subst (λ (x : Core). Takes x.book (with_given c) b) view does.4;
      task = task;
      part = does.2;
      near = subst (λ (x : Worker). IfSome task.near (IsNearOf x.path)) same does.3;
      workers = ap (λ (x : Core). both x now (thief path)) view ∙ ap (λ (y : Worker). both old y (thief path)) (does.5 ∙ ap (λ (x : Worker). holding x (held_behind_cut c)) same)
          ∙ ap (λ (p : Pathed). both old (holding h.victim.worker (held_behind_cut c)) (thief p)) same_path;
    }

-- ---- what is learnt

told_in : (mode : Mode) (recorded : List (List ℤ)) (i : ℕ) (a : List ℤ) → nat_lt i (length (improving_in mode recorded)) ≡ true → a ≡ get_or recorded i a → slice_get (improving_in mode recorded) i ≡ Some a
told_in All recorded i a within is = absurd (omega (arith, ltb-true i 0 within))
told_in Rows recorded i a within is = absurd (omega (arith, ltb-true i 0 within))
told_in Best recorded i a within is = slice_get_read recorded (length recorded) i a refl (ltb-true i (length recorded) within) is

pub learn_code : (s old : Core) (i number : ℕ) (read : Worker) (path new : Pathed) (hand : Option Tasked) (recorded : List (List ℤ)) (a : List ℤ) (learned : Learned) (answer : Outcome) → s ≡ old → is_lawful old (Learn i number) ≡ true → read ≡ get_or s.workers i read
    → (let seen : Worker = record { path = path; hand = hand } in seen ≡ read) → recorded ≡ s.book.recorded → a ≡ get_or recorded number a → Learns learned path a new → learned_outcome learned ≡ answer
    → LearnsAt i number answer old (record { workers = set s.workers i (record { path = new; hand = hand }); book = s.book })
learn_code s old i number read path new hand recorded a learned answer view lawful is seen reads at learns answers =
    let parts = and_parts (is_some (worker_at old i)) (nat_lt number (length (improving old.book))) lawful in
    let w = some_is_there (worker_at old i) parts.0 in
    let same : record { path = path; hand = hand } ≡ w.0 = seen ∙ read_is s old i w.0 read view w.1 is in
    let list : recorded ≡ old.book.recorded = reads ∙ ap (λ (x : Core). x.book.recorded) view in
    let made : Core → Option Tasked → Core = λ x h. record { workers = set x.workers i (record { path = new; hand = h }); book = x.book } in
    record {
      worker = w.0;
      at = w.1;
      assignment = a;
      told = told_in old.book.mode old.book.recorded number a parts.1 (subst (λ (l : List (List ℤ)). a ≡ get_or l number a) list at);
      learned = learned;
      answers = answers;
      path = new;
      learns = subst (λ (p : Pathed). Learns learned p a new) (ap (λ (x : Worker). x.path) same) learns;
      is = ap (λ (x : Core). made x hand) view ∙ ap (made old) (ap (λ (x : Worker). x.hand) same);
    }

pub unlearned_code : (s old : Core) (i : ℕ) (read : Worker) (path new : Pathed) (hand : Option Tasked) → s ≡ old → read ≡ get_or s.workers i read → (let seen : Worker = record { path = path; hand = hand } in seen ≡ read) → new ≡ path
    → (let now : Core = record { workers = set s.workers i (record { path = new; hand = hand }); book = s.book } in now ≡ old)
unlearned_code s old i read path new hand view is seen same =
    let made : Pathed → Worker = λ p. record { path = p; hand = hand } in
    unchanged_code s old i read (made new) s.book view is (ap made same ∙ seen) refl

-- a step keeps the law, whatever it answered
pub step_law : {E : Type 0} (s old : Core) (i : ℕ) (read : Worker) (path new : Pathed) (hand : Option Tasked) (r : Result stepping.Step E) → CoreLaw s → s ≡ old → is_lawful old (Step i) ≡ true → read ≡ get_or s.workers i read
    → (let seen : Worker = record { path = path; hand = hand } in seen ≡ read) → IfOk r (λ step. Steps path.plan step path.held new.held) → IfOk r (λ step. FallsFrom step path.held new.held) → OnErr r (Stays path.held new.held) → new ≡ with_held path new.held
    → CoreLaw (record { workers = set s.workers i (record { path = new; hand = hand }); book = s.book })
step_law s old i read path new hand (Ok step) law view lawful is seen does falls err rest =
    answered (step_outcome step) refl
  where
    answered : (o : Option Outcome) → step_outcome step ≡ o → CoreLaw (record { workers = set s.workers i (record { path = new; hand = hand }); book = s.book })
    answered (Some answer) answers =
        event_keeps (Step i) answer old (record { workers = set s.workers i (record { path = new; hand = hand }); book = s.book }) (subst CoreLaw view law) (step_code s old i read path new hand step answer view lawful is seen does falls rest answers)
    answered None none = absurd (never_idle s old i read path new hand step view lawful is seen does none)
step_law s old i read path new hand (Err e) law view lawful is seen does falls err rest =
    refusal_keeps (Step i) old (record { workers = set s.workers i (record { path = new; hand = hand }); book = s.book }) (subst CoreLaw view law) (stay_code s old i read path new hand view lawful is seen err rest)

-- ---- the start

-- slots are the workers that were made, and made the number of the one that would come next
pub new_law : (m : Instance) (mode : Mode) (plan : List SearchPart) (n commit adaptive : ℕ) (slots : List Worker) (b : Book) → IsModeOf m.goal mode → 1 ≤ n → n < 2 ^ 32 → 1 ≤ commit → 1 ≤ adaptive → slots ≡ replicate n (idle_by m mode plan commit adaptive) → b ≡ opening m mode
    → CoreLaw (record { workers = slots; book = b })
new_law m mode plan n commit adaptive slots b own several numbered one two is book =
    let core : List Worker → Book → Core = λ ws x. record { workers = ws; book = x } in
    subst CoreLaw (sym (ap (λ (ws : List Worker). core ws b) is ∙ ap (core (replicate n (idle_by m mode plan commit adaptive))) book)) (start_law m mode plan n commit adaptive own several numbered one two)

-- ---- where lawful events look

-- a claim finds one that nobody has claimed
pub some_unclaimed : (s old : Core) (i : ℕ) (o : Option Frontier) → s ≡ old → is_lawful old (Claim i) ≡ true → o ≡ None → IfNone o (list_all is_claimed s.book.parts ≡ true) → ⊥
some_unclaimed s old i o view lawful is all =
    let open_part : has_unclaimed old.book ≡ true = (and_parts (is_free (worker_at old i)) (has_unclaimed old.book) lawful).1 in
    let closed : list_all is_claimed s.book.parts ≡ true = subst (λ (p : Option Frontier). IfNone p (list_all is_claimed s.book.parts ≡ true)) is all in
    let bad : not true ≡ true = subst (λ (b : Bool). not b ≡ true) closed (subst (λ (x : Core). has_unclaimed x.book ≡ true) (sym view) open_part) in cc

-- by a worker that there is
pub claims_within : (s old : Core) (i : ℕ) → s ≡ old → is_lawful old (Claim i) ≡ true → i < length s.workers
claims_within s old i view lawful =
    let f = free (worker_at old i) (and_parts (is_free (worker_at old i)) (has_unclaimed old.book) lawful).0 in
    slice_get_within s.workers i f.worker (subst (λ (x : Core). worker_at x i ≡ Some f.worker) (sym view) f.at)

pub learns_within : (s old : Core) (w i : ℕ) → s ≡ old → is_lawful old (Learn w i) ≡ true → w < length s.workers
learns_within s old w i view lawful =
    let at = some_is_there (worker_at old w) (and_parts (is_some (worker_at old w)) (nat_lt i (length (improving old.book))) lawful).0 in
    slice_get_within s.workers w at.0 (subst (λ (x : Core). worker_at x w ≡ Some at.0) (sym view) at.1)

improving_within : (mode : Mode) (recorded : List (List ℤ)) (i : ℕ) → i < length (improving_in mode recorded) → i < length recorded
improving_within All recorded i h = absurd (omega (arith, h))
improving_within Rows recorded i h = absurd (omega (arith, h))
improving_within Best recorded i h = h

-- of a number that is recorded
pub learns_recorded : (s old : Core) (w i : ℕ) (recorded : List (List ℤ)) → s ≡ old → is_lawful old (Learn w i) ≡ true → recorded ≡ s.book.recorded → i < length recorded
learns_recorded s old w i recorded view lawful is =
    let low = ltb-true i (length (improving old.book)) (and_parts (is_some (worker_at old w)) (nat_lt i (length (improving old.book))) lawful).1 in
    rw is (improving_within s.book.mode s.book.recorded i (subst (λ (x : Core). i < length (improving x.book)) (sym view) low))

pub starts_within : (s old : Core) (i : ℕ) → s ≡ old → is_lawful old (Start i) ≡ true → i < length s.workers
starts_within s old i view lawful =
    let r = ready (worker_at old i) lawful in
    slice_get_within s.workers i r.worker (subst (λ (x : Core). worker_at x i ≡ Some r.worker) (sym view) r.at)

busy_within : (s old : Core) (i : ℕ) → s ≡ old → is_busy (worker_at old i) ≡ true → i < length s.workers
busy_within s old i view lawful =
    let b = busy (worker_at old i) lawful in
    slice_get_within s.workers i b.worker (subst (λ (x : Core). worker_at x i ≡ Some b.worker) (sym view) b.at)

pub steps_within : (s old : Core) (i : ℕ) → s ≡ old → is_lawful old (Step i) ≡ true → i < length s.workers
steps_within s old i view lawful = busy_within s old i view lawful

pub reports_within : (s old : Core) (i : ℕ) → s ≡ old → is_lawful old (Report i) ≡ true → i < length s.workers
reports_within s old i view lawful = busy_within s old i view lawful

-- ---- whether a part can be stolen

steal_by : (s old : Core) (event : Event) (v w : ℕ) (answer : Bool) → s ≡ old → event ≡ Steal v w → (v ≡ w → ⊥) → (can_be_cut (worker_at s v) && is_free (worker_at s w)) ≡ answer → answer ≡ is_lawful old event
steal_by s old event v w answer view is other both =
    let differ : eqb v w ≡ false = ne_eqb v w other in
    let lawful : is_lawful s (Steal v w) ≡ answer = ap (λ b. not b && (can_be_cut (worker_at s v) && is_free (worker_at s w))) differ ∙ both in
    sym lawful ∙ ap (λ (x : Core). is_lawful x (Steal v w)) view ∙ sym (ap (is_lawful old) is)

pub steal_lawful : (s old : Core) (event : Event) (v w : ℕ) (ws us : List Worker) (cut free : Bool) → s ≡ old → event ≡ Steal v w → (v ≡ w → ⊥) → ws ≡ s.workers → cut ≡ can_be_cut (slice_get ws v) → cut ≡ true → us ≡ s.workers → free ≡ is_free (slice_get us w)
    → free ≡ is_lawful old event
steal_lawful s old event v w ws us cut free view is other one can cuts_off two frees =
    let cuts : can_be_cut (worker_at s v) ≡ true = sym (ap (λ (l : List Worker). can_be_cut (slice_get l v)) one) ∙ sym can ∙ cuts_off in
    steal_by s old event v w free view is other (ap (λ b. b && is_free (worker_at s w)) cuts ∙ sym (frees ∙ ap (λ (l : List Worker). is_free (slice_get l w)) two))

pub steal_unlawful : (s old : Core) (event : Event) (v w : ℕ) (ws : List Worker) (cut : Bool) → s ≡ old → event ≡ Steal v w → (v ≡ w → ⊥) → ws ≡ s.workers → cut ≡ can_be_cut (slice_get ws v) → cut ≡ false → cut ≡ is_lawful old event
steal_unlawful s old event v w ws cut view is other one can uncut =
    let cuts : can_be_cut (worker_at s v) ≡ false = sym (ap (λ (l : List Worker). can_be_cut (slice_get l v)) one) ∙ sym can ∙ uncut in
    steal_by s old event v w cut view is other (ap (λ b. b && is_free (worker_at s w)) cuts ∙ sym uncut)
