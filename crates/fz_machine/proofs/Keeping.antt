-- Each event keeps the law.
use Rattle.std.proofs.Common.{◌≡◌, ◌∙◌, ℕ, zero, suc, ◌+◌, ◌++◌, ◌∷◌, List, [], Bool, true, false, cond, length, set, get_or, ap, sym, subst, refl, arith, Option, Some, None, sum_by}
use Rattle.std.specs.Prelude.{ℤ, if◌then◌else◌}
use Rattle.std.specs.List.{AllByRecursion, slice_get}
use Rattle.std.proofs.lemmas.List.{length-set}
use Rattle.std.proofs.lemmas.List.Sums.{sum_by-cons}
use Rattle.fz_sets.proofs.Lists.{all_at, all_get, all_right}
use Rattle.fz_tree.specs.Frontier.{Frontier, AreEdges, has_rest, part_of}
use Rattle.fz_tree.specs.Rows.{AreAbout}
use Rattle.fz_tree.specs.Account.{Account, rest_begun, with_given}
use Rattle.fz_tree.specs.Book.{Part, Book, BookLaw, IsAt, Takes, claimed_part, parts_after}
use Rattle.fz_tree.proofs.Accounts.{gives}
use Rattle.fz_tree.proofs.Books.{claims, takes, all_set}
use Rattle.fz_path.specs.Paths.{Pathed, held_behind}
use Rattle.fz_path.specs.Tasks.{Tasked, bare_task}
use Rattle.fz_path.specs.Learns.{Learns, held_with}
use Rattle.fz_account.specs.declared.account.Learned.{Learned}
use Rattle.fz_account.specs.declared.account.Learned.TheVariants as learned
use Rattle.fz_machine.specs.declared.event.Event.{Event}
use Rattle.fz_machine.specs.declared.event.Event.TheVariants.{Claim, Start, Step, Report, Steal, Learn}
use Rattle.fz_machine.specs.declared.event.Outcome.{Outcome}
use Rattle.fz_machine.specs.Cores.{Worker, Core, CoreLaw, IsTaskOf, IsWorkerOf, AreHeld, path_adds, hand_adds, worker_adds, claimed_adds, with_worker}
use Rattle.fz_machine.specs.Events.{ClaimsAt, StartsAt, StepsAt, ReportsAt, StealsAt, LearnsAt, StaysAt, Happens, Refuses, holding}
use Rattle.fz_machine.proofs.Sums.{set_adds, claimed_more, claimed_after, left_adds}
use Rattle.fz_machine.proofs.Held.{IsClaimedIn, held_is_claimed}
use Rattle.fz_machine.proofs.Workers.{FollowsTo, held_by, takes_up, start_worker, follow_worker, steps_to, stays_to, report_worker, victim_worker, learn_worker}

-- ---- lists

pub get_set_other : {X : Type 0} (xs : List X) (i k : ℕ) (y : X) → (k ≡ i → ⊥) → slice_get (set xs i y) k ≡ slice_get xs k
get_set_other [] i k y other = refl
get_set_other (x ∷ xs) zero zero y other = absurd (other refl)
get_set_other (x ∷ xs) zero (suc k) y other = refl
get_set_other (x ∷ xs) (suc i) zero y other = refl
get_set_other (x ∷ xs) (suc i) (suc k) y other = get_set_other xs i k y (λ same. other (ap suc same))

-- ---- the law

pub worker_of : (s : Core) (i : ℕ) (w : Worker) → CoreLaw s → slice_get s.workers i ≡ Some w → IsWorkerOf s.book.model s.book.mode w
worker_of s i w law at = all_at (IsWorkerOf s.book.model s.book.mode) s.workers i w law.workers at

-- the law by what is known of new workers and a new book
law_of : (old : Core) (ws : List Worker) (b : Book) (new : Core) → CoreLaw old → new.workers ≡ ws → new.book ≡ b → length ws ≡ length old.workers → BookLaw b → b.model ≡ old.book.model → b.mode ≡ old.book.mode
    → AllByRecursion (IsWorkerOf old.book.model old.book.mode) ws → AreHeld b.parts ws → CoreLaw new
law_of old ws b new law is_workers is_book size of_book model mode workers held =
    let made : CoreLaw (record { workers = ws; book = b }) = record {
      several = rw size law.several;
      numbered = rw size law.numbered;
      book = of_book;
      workers = rw (model, mode) workers;
      held = held;
    } in
    subst (λ (x : Book). CoreLaw (record { workers = new.workers; book = x })) (sym is_book) (subst (λ (x : List Worker). CoreLaw (record { workers = x; book = b })) (sym is_workers) made)

-- ---- one worker is another one, and counts the same

-- what a worker counts stays
abbrev CountsAs : Worker → Worker → Type 0
CountsAs w v = (g : Frontier → ℕ) → worker_adds g v ≡ worker_adds g w

replaced : (old new : Core) (i : ℕ) (w v : Worker) → CoreLaw old → slice_get old.workers i ≡ Some w → IsWorkerOf old.book.model old.book.mode v → CountsAs w v → new ≡ with_worker old i v → CoreLaw new
replaced old new i w v law at of_m same is =
    subst CoreLaw (sym is) (record {
      several = rw (length-set old.workers i v) law.several;
      numbered = rw (length-set old.workers i v) law.numbered;
      book = law.book;
      workers = all_set (IsWorkerOf old.book.model old.book.mode) old.workers i v law.workers of_m;
      held = λ g. omega (arith, law.held g, same g, set_adds (worker_adds g) old.workers i w v at);
    })

start_keeps : (w : ℕ) (old new : Core) → CoreLaw old → StartsAt w old new → CoreLaw new
start_keeps w old new law s =
    replaced old new w s.worker (record { path = s.path; hand = None }) law s.at (start_worker old.book.model old.book.mode s.worker s.task s.path (worker_of old w s.worker law s.at) s.full s.takes)
    (λ g. omega (arith, ap (λ (p : Pathed). path_adds g p.held) s.takes.is, ap (path_adds g) s.idle, ap (hand_adds g) s.full)) s.is

-- an account that follows counts the same
follows_adds : (c : Account) (old held : Option Account) (hand : Option Tasked) → old ≡ Some c → FollowsTo c held → (g : Frontier → ℕ) → path_adds g held + hand_adds g hand ≡ path_adds g old + hand_adds g hand
follows_adds c old held hand holds follows = λ g.
    ap (λ n. n + hand_adds g hand) (ap (path_adds g) follows.1 ∙ ap g follows.2.before ∙ sym (ap (path_adds g) holds))

followed : (old new : Core) (i : ℕ) (w : Worker) (c : Account) (held : Option Account) → CoreLaw old → slice_get old.workers i ≡ Some w → w.path.held ≡ Some c → FollowsTo c held → new ≡ with_worker old i (holding w held) → CoreLaw new
followed old new i w c held law at holds follows is =
    replaced old new i w (holding w held) law at (follow_worker old.book.model old.book.mode w c held (worker_of old i w law at) holds follows) (follows_adds c w.path.held held w.hand holds follows) is

step_keeps : (w : ℕ) (answer : Outcome) (old new : Core) → CoreLaw old → StepsAt w answer old new → CoreLaw new
step_keeps w answer old new law s =
    let is = held_by old.book.model old.book.mode s.worker s.account (worker_of old w s.worker law s.at) s.holds in
    followed old new w s.worker s.account (Some s.stepped) law s.at s.holds (steps_to s.worker.path.plan s.step s.account s.stepped is.law s.steps) s.is

stay_keeps : (w : ℕ) (old new : Core) → CoreLaw old → StaysAt w old new → CoreLaw new
stay_keeps w old new law s =
    let is = held_by old.book.model old.book.mode s.worker s.account (worker_of old w s.worker law s.at) s.holds in
    followed old new w s.worker s.account s.held law s.at s.holds (stays_to s.account s.held is.law s.stays) s.is

learned_adds : (l : Learned) (p : Pathed) (a : List ℤ) (path : Pathed) → Learns l p a path → (g : Frontier → ℕ) → path_adds g path.held ≡ path_adds g p.held
learned_adds learned.Learned p a path learns = λ g. ap (λ (q : Pathed). path_adds g q.held) learns.1 ∙ with_adds g p.held
  where
    with_adds : (g : Frontier → ℕ) (held : Option Account) → path_adds g (held_with a held) ≡ path_adds g held
    with_adds g None = refl
    with_adds g (Some c) = refl
learned_adds learned.Ignored p a path learns = λ g. ap (λ (q : Pathed). path_adds g q.held) learns.1

learn_keeps : (w i : ℕ) (answer : Outcome) (old new : Core) → CoreLaw old → LearnsAt w i answer old new → CoreLaw new
learn_keeps w i answer old new law l =
    replaced old new w l.worker (record { path = l.path; hand = l.worker.hand }) law l.at (learn_worker old.book.model old.book.mode l.worker l.learned l.assignment l.path (worker_of old w l.worker law l.at) l.learns)
    (λ g. ap (λ n. n + hand_adds g l.worker.hand) (learned_adds l.learned l.worker.path l.assignment l.path l.learns g)) l.is

-- ---- a claim

open_task : (b : Book) (f : Frontier) (i : ℕ) → BookLaw b → IsAt b.parts f i → IsTaskOf b.model b.mode (bare_task f)
open_task b f i law at =
    let d = claimed_part f in record {
      edges = subst (λ (g : Frontier). AreEdges g.edges) (at.is d) (all_get (λ (p : Part). AreEdges p.frontier.edges) b.parts i d at.within law.edges);
      about = subst (λ (g : Frontier). AreAbout b.mode b.model g.edges) (at.is d) (all_get (λ (p : Part). AreAbout b.mode b.model p.frontier.edges) b.parts i d at.within law.about);
    }

claim_keeps : (w : ℕ) (old new : Core) → CoreLaw old → ClaimsAt w old new → CoreLaw new
claim_keeps w old new law s =
    let f = s.frontier in
    let v : Worker = record { path = s.worker.path; hand = Some (bare_task f) } in
    let task : IsTaskOf old.book.model old.book.mode (bare_task f) = open_task old.book f s.claims.place law.book s.claims.open_at in
    let parts : new.book.parts ≡ set old.book.parts s.claims.place (claimed_part f) = ap (λ (b : Book). b.parts) s.claims.is in
    law_of old (set old.workers w v) new.book new law s.workers refl (length-set old.workers w v) (claims old.book f new.book law.book s.claims) (ap (λ (b : Book). b.model) s.claims.is) (ap (λ (b : Book). b.mode) s.claims.is)
    (all_set (IsWorkerOf old.book.model old.book.mode) old.workers w v law.workers (takes_up old.book.model old.book.mode s.worker (bare_task f) (worker_of old w s.worker law s.at) task))
    (λ g. omega (
      arith,
      law.held g,
      ap (λ (ps : List Part). sum_by (claimed_adds g) ps) parts,
      claimed_more g old.book.parts f s.claims.place s.claims.open_at s.claims.first.unclaimed,
      set_adds (worker_adds g) old.workers w s.worker v s.at,
      ap (path_adds g) s.idle,
      ap (hand_adds g) s.empty,
    ))

-- ---- what the book takes

-- the place where an account is taken is of a claimed part, since its frontier is held
pub taken_claimed : (old : Core) (i : ℕ) (w : Worker) (c taken : Account) (b : Book) → CoreLaw old → slice_get old.workers i ≡ Some w → w.path.held ≡ Some c → taken.before ≡ c.before → (t : Takes old.book taken b) → (d : Part)
    → (get_or old.book.parts t.place d).claimed ≡ true
taken_claimed old i w c taken b law at holds before t =
    let k : IsClaimedIn old.book.parts taken.before = subst (IsClaimedIn old.book.parts) (sym before) (held_is_claimed old.book.parts old.workers i w c law.held at holds) in
    t.prefers k.place k.at k.claimed

taken_adds : (old : Core) (i : ℕ) (w : Worker) (c taken : Account) (b : Book) → CoreLaw old → slice_get old.workers i ≡ Some w → w.path.held ≡ Some c → taken.before ≡ c.before → Takes old.book taken b → (g : Frontier → ℕ)
    → sum_by (claimed_adds g) b.parts + g taken.before ≡ sum_by (claimed_adds g) old.book.parts + sum_by g taken.given + left_adds g taken.after
taken_adds old i w c taken b law at holds before t g =
    let parts : b.parts ≡ parts_after old.book.parts t.place taken = ap (λ (x : Book). x.parts) t.is in
    ap (λ (ps : List Part). sum_by (claimed_adds g) ps + g taken.before) parts ∙ claimed_after g old.book.parts t.place taken t.open_at (taken_claimed old i w c taken b law at holds before t)

-- what is held after an account counts as what is left of it
behind_at : (g : Frontier → ℕ) (c : Account) (b : Bool) → path_adds g (if b then Some (rest_begun c) else None) ≡ cond b (g c.after) 0
behind_at g c true = refl
behind_at g c false = refl

behind_adds : (g : Frontier → ℕ) (c : Account) → path_adds g (held_behind c) ≡ left_adds g c.after
behind_adds g c = behind_at g c (has_rest c.after)

report_keeps : (w : ℕ) (old new : Core) → CoreLaw old → ReportsAt w old new → CoreLaw new
report_keeps w old new law s =
    let v = holding s.worker (held_behind s.account) in
    let of_w = worker_of old w s.worker law s.at in
    let is = held_by old.book.model old.book.mode s.worker s.account of_w s.holds in
    let model : old.book.model ≡ s.account.model = sym (is.model ∙ of_w.model) in
    let mode : old.book.mode ≡ s.account.mode = sym (is.mode ∙ of_w.mode) in
    law_of old (set old.workers w v) new.book new law s.workers refl (length-set old.workers w v) (takes old.book s.account new.book law.book is.law model mode s.takes) (ap (λ (b : Book). b.model) s.takes.is) (ap (λ (b : Book). b.mode) s.takes.is)
    (all_set (IsWorkerOf old.book.model old.book.mode) old.workers w v law.workers (report_worker old.book.model old.book.mode s.worker s.account of_w s.holds))
    (λ g. omega (
      arith,
      law.held g,
      taken_adds old w s.worker s.account s.account new.book law s.at s.holds refl s.takes g,
      ap (sum_by g) is.given,
      behind_adds g s.account,
      set_adds (worker_adds g) old.workers w s.worker v s.at,
      ap (path_adds g) s.holds,
    ))

-- ---- a steal

-- the account that names the part as given names nothing else
part_adds : (g : Frontier → ℕ) (c : Account) → c.given ≡ [] → sum_by g (with_given c).given ≡ g (part_of c.after)
part_adds g c none = ap (λ (fs : List Frontier). sum_by g (fs ++ part_of c.after ∷ [])) none ∙ sum_by-cons g (part_of c.after) [] ∙ omega arith

steal_keeps : (v w : ℕ) (old new : Core) → CoreLaw old → StealsAt v w old new → CoreLaw new
steal_keeps v w old new law s =
    let taken = with_given s.account in
    let left = holding s.victim (held_behind taken) in
    let thief : Worker = record { path = s.thief.path; hand = Some s.task } in
    let between = set old.workers v left in
    let of_v = worker_of old v s.victim law s.at_victim in
    let is = held_by old.book.model old.book.mode s.victim s.account of_v s.holds in
    let model : old.book.model ≡ s.account.model = sym (is.model ∙ of_v.model) in
    let mode : old.book.mode ≡ s.account.mode = sym (is.mode ∙ of_v.mode) in
    let of_taken = gives s.account is.law s.can in
    let at_thief : slice_get between w ≡ Some s.thief = get_set_other old.workers v w left (λ same. s.other (sym same)) ∙ s.at_thief in
    let part : AreEdges (part_of s.account.after).edges = (all_right (λ (f : Frontier). AreEdges f.edges) s.account.given (part_of s.account.after ∷ []) of_taken.edges.1).0 in
    let shown = (all_right (λ (f : Frontier). AreAbout s.account.mode s.account.model f.edges) s.account.given (part_of s.account.after ∷ []) (of_taken.about is.about).0).0 in
    let task : IsTaskOf old.book.model old.book.mode s.task = record { edges = rw s.part part; about = rw (s.part, model, mode) shown } in
    law_of old (set between w thief) new.book new law s.workers refl (length-set between w thief ∙ length-set old.workers v left) (takes old.book taken new.book law.book of_taken model mode s.takes) (ap (λ (b : Book). b.model) s.takes.is) (ap (λ (b : Book). b.mode) s.takes.is)
    (all_set (IsWorkerOf old.book.model old.book.mode) between w thief (all_set (IsWorkerOf old.book.model old.book.mode) old.workers v left law.workers (victim_worker old.book.model old.book.mode s.victim s.account of_v s.holds s.can))
    (takes_up old.book.model old.book.mode s.thief s.task (worker_of old w s.thief law s.at_thief) task))
    (λ g. omega (
      arith,
      law.held g,
      taken_adds old v s.victim s.account taken new.book law s.at_victim s.holds refl s.takes g,
      part_adds g s.account is.given,
      ap g s.part,
      behind_adds g taken,
      set_adds (worker_adds g) old.workers v s.victim left s.at_victim,
      set_adds (worker_adds g) between w s.thief thief at_thief,
      ap (path_adds g) s.holds,
      ap (path_adds g) s.idle,
      ap (hand_adds g) s.empty,
    ))

-- ---- all events

pub event_keeps : (event : Event) (answer : Outcome) (old new : Core) → CoreLaw old → Happens event answer old new → CoreLaw new
event_keeps (Claim w) answer old new law h = claim_keeps w old new law h.1
event_keeps (Start w) answer old new law h = start_keeps w old new law h.1
event_keeps (Step w) answer old new law h = step_keeps w answer old new law h
event_keeps (Report w) answer old new law h = report_keeps w old new law h.1
event_keeps (Steal v w) answer old new law h = steal_keeps v w old new law h.1
event_keeps (Learn w i) answer old new law h = learn_keeps w i answer old new law h

pub refusal_keeps : (event : Event) (old new : Core) → CoreLaw old → Refuses event old new → CoreLaw new
refusal_keeps (Claim w) old new law same = subst CoreLaw (sym same) law
refusal_keeps (Start w) old new law same = subst CoreLaw (sym same) law
refusal_keeps (Step w) old new law stays = stay_keeps w old new law stays
refusal_keeps (Report w) old new law same = subst CoreLaw (sym same) law
refusal_keeps (Steal v w) old new law same = subst CoreLaw (sym same) law
refusal_keeps (Learn w i) old new law same = subst CoreLaw (sym same) law
