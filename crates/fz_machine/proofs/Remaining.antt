-- Each event of the schedule leaves less.
use Rattle.std.proofs.Common.{◌≡◌, ◌∙◌, ℕ, ◌+◌, ◌<◌, ◌≤◌, ◌++◌, ◌∷◌, List, [], Bool, true, false, cond, length, map, set, get_or, ap, sym, subst, refl, arith, Option, Some, None, IfSome, sum_by, ◌⊎◌, inl, inr}
use Rattle.std.specs.Prelude.{ℤ, if◌then◌else◌}
use Rattle.std.specs.List.{slice_get, remove}
use Rattle.std.proofs.lemmas.List.{length-append}
use Rattle.std.proofs.lemmas.List.Sums.{sum_by-set, sum_by-cons, sum_by-append, sum_by-remove}
use Rattle.fz_spec.specs.Instance.{Instance, Satisfies, SearchPart}
use Rattle.fz_model.specs.Kept.{IsModel}
use Rattle.fz_tree.specs.declared.mode.Mode.{Mode}
use Rattle.fz_tree.specs.declared.mode.Mode.TheVariants.{All, Rows, Best}
use Rattle.fz_tree.specs.Better.{Betters}
use Rattle.fz_tree.specs.Frontier.{Frontier, AreEdges, has_rest, can_cut, part_of, rest_of, moved}
use Rattle.fz_tree.specs.Account.{Account, rest_begun, with_after, with_given}
use Rattle.fz_tree.specs.Book.{Book, Part, IsAt, Takes, claimed_part, left_of, parts_after}
use Rattle.fz_tree.specs.Measure.{weight}
use Rattle.fz_tree.proofs.Measures.{closed_lowers, cut_adds_up}
use Rattle.fz_path.specs.declared.step.Step.{Step}
use Rattle.fz_path.specs.declared.step.Step.TheVariants.{Expanded, Found, Closed, Idle}
use Rattle.fz_path.specs.Paths.{Pathed, held_behind}
use Rattle.fz_path.specs.Tasks.{bare_task}
use Rattle.fz_path.specs.Steps.{at_node, added, NodeTo, StepsTo, Falls}
use Rattle.fz_machine.specs.declared.event.Outcome.{Outcome}
use Rattle.fz_machine.specs.Cores.{Worker, Core, CoreLaw}
use Rattle.fz_machine.specs.Events.{ClaimsAt, StartsAt, StepsAt, ReportsAt, StealsAt, holding}
use Rattle.fz_machine.specs.Measure.{SCORES, score_left, frontier_left, path_left, hand_left, worker_left, part_left, core_left}
use Rattle.fz_machine.proofs.Scores.{score_most, better_less}
use Rattle.fz_machine.proofs.Sums.{set_adds}
use Rattle.fz_machine.proofs.Steps.{step_follows}
use Rattle.fz_machine.proofs.Keeping.{worker_of, get_set_other, taken_claimed}
use Rattle.fz_machine.proofs.Workers.{held_by, taking_worker}

-- ---- frontiers

abbrev open_counts : Frontier → ℕ
open_counts f = if f.current_open then 1 else 0

open_at : (m : Instance) (f : Frontier) (b : Bool) → f.current_open ≡ b → cond b 1 0 ≤ weight m f
open_at m f true is = omega (arith, closed_lowers m f is)
open_at m f false is = omega arith

-- an open place weighs something
open_weighs : (m : Instance) (f : Frontier) → open_counts f ≤ weight m f
open_weighs m f = open_at m f f.current_open refl

at_most_one : (b : Bool) → cond b 1 0 ≤ 1
at_most_one true = omega arith
at_most_one false = omega arith

-- where it weighs less, two less are left
weighs_less : (m : Instance) (f g : Frontier) → weight m g < weight m f → frontier_left m g + 2 ≤ frontier_left m f
weighs_less m f g less = omega (arith, less, at_most_one f.current_open)

-- a part that is cut off and what is left count less than the whole, by more than a task does
cut_leaves : (m : Instance) (f : Frontier) → AreEdges f.edges → can_cut f ≡ true → frontier_left m (part_of f) + frontier_left m (rest_of f) + (SCORES + 3) ≤ frontier_left m f
cut_leaves m f edges can = omega (arith, cut_adds_up m f edges can, open_weighs m (part_of f), open_weighs m (rest_of f))

-- ---- the book

-- a claimed part counts nothing
claimed_less : (m : Instance) (ps : List Part) (f : Frontier) (i : ℕ) → IsAt ps f i → ((d : Part) → (get_or ps i d).claimed ≡ false)
    → sum_by (part_left m) (set ps i (claimed_part f)) + (SCORES + 3 + frontier_left m f) ≡ sum_by (part_left m) ps
claimed_less m ps f i at unclaimed =
    let d = claimed_part f in
    let was : part_left m (get_or ps i d) ≡ SCORES + 3 + frontier_left m f =
    ap (λ b. cond b 0 (SCORES + 3 + frontier_left m (get_or ps i d).frontier)) (unclaimed d) ∙ ap (λ (g : Frontier). SCORES + 3 + frontier_left m g) (at.is d) in
    omega (arith, was, sum_by-set (part_left m) ps i d d at.within)

none_given : (m : Instance) (fs : List Frontier) → sum_by (part_left m) (map claimed_part fs) ≡ 0
none_given m [] = refl
none_given m (f ∷ fs) = omega (arith, sum_by-cons (part_left m) (claimed_part f) (map claimed_part fs), none_given m fs)

none_left : (m : Instance) (f : Frontier) (b : Bool) → sum_by (part_left m) (cond b (claimed_part f ∷ []) []) ≡ 0
none_left m f true = refl
none_left m f false = refl

-- a claimed part goes, and claimed ones come
taken_same : (m : Instance) (ps : List Part) (i : ℕ) (c : Account) → i < length ps → ((d : Part) → (get_or ps i d).claimed ≡ true) → sum_by (part_left m) (parts_after ps i c) ≡ sum_by (part_left m) ps
taken_same m ps i c within claimed =
    let d = claimed_part c.before in
    let none : part_left m (get_or ps i d) ≡ 0 = ap (λ b. cond b 0 (SCORES + 3 + frontier_left m (get_or ps i d).frontier)) (claimed d) in
    omega (
      arith,
      none,
      sum_by-append (part_left m) (remove ps i) (map claimed_part c.given ++ left_of c.after),
      sum_by-append (part_left m) (map claimed_part c.given) (left_of c.after),
      none_given m c.given,
      none_left m c.after (has_rest c.after),
      sum_by-remove (part_left m) ps i d within,
    )

-- the same of the book that takes the account of a worker
takes_same : (old : Core) (i : ℕ) (w : Worker) (c taken : Account) (b : Book) → CoreLaw old → slice_get old.workers i ≡ Some w → w.path.held ≡ Some c → taken.before ≡ c.before → Takes old.book taken b
    → (b.model ≡ old.book.model) × (sum_by (part_left old.book.model) b.parts ≡ sum_by (part_left old.book.model) old.book.parts)
takes_same old i w c taken b law at holds before t =
    let parts : b.parts ≡ parts_after old.book.parts t.place taken = ap (λ (x : Book). x.parts) t.is in (
      ap (λ (x : Book). x.model) t.is,
      ap (λ (ps : List Part). sum_by (part_left old.book.model) ps) parts ∙ taken_same old.book.model old.book.parts t.place taken t.open_at.within (taken_claimed old i w c taken b law at holds before t),
    )

-- ---- cores

-- what is left, by other workers and another book of the model
left_by : (old new : Core) (ws : List Worker) → new.workers ≡ ws → new.book.model ≡ old.book.model
    → core_left new ≡ sum_by (worker_left old.book.model) ws + sum_by (part_left old.book.model) new.book.parts
left_by old new ws workers model =
    subst (λ (m : Instance). core_left new ≡ sum_by (worker_left m) ws + sum_by (part_left m) new.book.parts) model
    (ap (λ (xs : List Worker). sum_by (worker_left new.book.model) xs + sum_by (part_left new.book.model) new.book.parts) workers)

-- one worker has less left, and the book is the same
pub replaced_less : (old new : Core) (i : ℕ) (w v : Worker) → slice_get old.workers i ≡ Some w → new ≡ record { workers = set old.workers i v; book = old.book } → worker_left old.book.model v < worker_left old.book.model w → core_left new < core_left old
replaced_less old new i w v at is less =
    subst (λ (s : Core). core_left s < core_left old) (sym is) (omega (arith, less, set_adds (worker_left old.book.model) old.workers i w v at))

-- ---- claims and starts

pub claim_less : (w : ℕ) (old new : Core) → ClaimsAt w old new → core_left new < core_left old
claim_less w old new s =
    let m = old.book.model in
    let v : Worker = record { path = s.worker.path; hand = Some (bare_task s.frontier) } in
    let parts : new.book.parts ≡ set old.book.parts s.claims.place (claimed_part s.frontier) = ap (λ (b : Book). b.parts) s.claims.is in
    omega (
      arith,
      left_by old new (set old.workers w v) s.workers (ap (λ (b : Book). b.model) s.claims.is),
      ap (λ (ps : List Part). sum_by (part_left m) ps) parts,
      claimed_less m old.book.parts s.frontier s.claims.place s.claims.open_at s.claims.first.unclaimed,
      set_adds (worker_left m) old.workers w s.worker v s.at,
      ap (hand_left m) s.empty,
    )

pub known_sound : (s : Core) (i : ℕ) (w : Worker) → CoreLaw s → slice_get s.workers i ≡ Some w → IfSome w.path.known (Satisfies s.book.model)
known_sound s i w law at =
    let of_w = worker_of s i w law at in
    subst (λ (m : Instance). IfSome w.path.known (Satisfies m)) of_w.model of_w.law.known

pub start_less : (w : ℕ) (old new : Core) → CoreLaw old → IsModel old.book.model → StartsAt w old new → core_left new < core_left old
start_less w old new law model s =
    let m = old.book.model in
    let of_t = taking_worker m old.book.mode s.worker s.task s.path (worker_of old w s.worker law s.at) s.takes in
    let sound : IfSome s.takes.path.known (Satisfies m) = subst (λ (n : Instance). IfSome s.takes.path.known (Satisfies n)) of_t.model of_t.law.known in
    replaced_less old new w s.worker (record { path = s.path; hand = None }) s.at s.is
    (omega (arith, ap (λ (p : Pathed). path_left m p.held) s.takes.is, ap (path_left m) s.idle, ap (hand_left m) s.full, score_most m s.takes.path.known model sound))

-- ---- steps

-- what a step finds: no more than one, and it knows no worse
record LearnsBy (m : Instance) (c new : Account) : Type 0 where
  pub found : length new.found ≤ length c.found + 1
  pub witness : score_left m new.witness ≤ score_left m c.witness

node_same : (c : Account) (b : Bool) → ((if b then c else with_after c (moved c.after)).found ≡ c.found) × ((if b then c else with_after c (moved c.after)).witness ≡ c.witness)
node_same c true = (refl, refl)
node_same c false = (refl, refl)

added_learns : (m : Instance) (mode : Mode) (c : Account) (x : List ℤ) → score_left m (Some x) ≤ score_left m c.witness → LearnsBy m c (added mode c x)
added_learns m All c x less = record { found = omega (arith, length-append c.found (x ∷ [])); witness = omega arith }
added_learns m Rows c x less = record { found = omega (arith, length-append c.found (x ∷ [])); witness = omega arith }
added_learns m Best c x less = record { found = omega arith; witness = less }

node_learns : (plan : List SearchPart) (m : Instance) (step : Step) (c new : Account) → IsModel m → c.model ≡ m → IfSome c.witness (Satisfies m) → NodeTo plan step c new → LearnsBy m c new
node_learns plan m Expanded c new model is sound (inl f) = subst (LearnsBy m c) (sym f.is) (record { found = omega arith; witness = omega arith })
node_learns plan m Expanded c new model is sound (inr d) = subst (LearnsBy m c) (sym d.is) (record { found = omega arith; witness = omega arith })
node_learns plan m Found c new model is sound f =
    let satisfies : Satisfies m f.assignment = subst (λ (n : Instance). Satisfies n f.assignment) is f.only.satisfies in
    let better : Betters m f.assignment c.witness = subst (λ (n : Instance). Betters n f.assignment c.witness) is f.better in
    subst (LearnsBy m c) (sym f.is) (added_learns m c.mode c f.assignment (omega (arith, better_less m f.assignment c.witness model satisfies sound better)))
node_learns plan m Closed c new model is sound none = absurd none
node_learns plan m Idle c new model is sound none = absurd none

from_node : (m : Instance) (c node new : Account) → (node.found ≡ c.found) × (node.witness ≡ c.witness) → LearnsBy m node new → LearnsBy m c new
from_node m c node new same learns = record {
  found = omega (arith, learns.found, ap length same.0);
  witness = omega (arith, learns.witness, ap (score_left m) same.1);
}

at_node_model : (c : Account) (b : Bool) → (if b then c else with_after c (moved c.after)).model ≡ c.model
at_node_model c true = refl
at_node_model c false = refl

-- a step where something is left
step_path : (plan : List SearchPart) (m : Instance) (step : Step) (c new : Account) → IsModel m → c.model ≡ m → new.model ≡ m → IfSome c.witness (Satisfies m) → has_rest c.after ≡ true → StepsTo plan step c new → Falls step c new
    → path_left m (Some new) < path_left m (Some c)
step_path plan m Expanded c new model is new_is sound rest steps falls =
    let same = node_same c c.after.current_open in
    let node_sound : IfSome (at_node c).witness (Satisfies m) = subst (λ (o : Option (List ℤ)). IfSome o (Satisfies m)) (sym same.1) sound in
    let learns = from_node m c (at_node c) new same (node_learns plan m Expanded (at_node c) new model (at_node_model c c.after.current_open ∙ is) node_sound steps.1) in
    let less : weight m new.after < weight m c.after = rw (← is) (subst (λ (n : Instance). weight n new.after < weight c.model c.after) (new_is ∙ sym is) falls) in
    omega (arith, learns.found, learns.witness, weighs_less m c.after new.after less)
step_path plan m Found c new model is new_is sound rest steps falls =
    let same = node_same c c.after.current_open in
    let node_sound : IfSome (at_node c).witness (Satisfies m) = subst (λ (o : Option (List ℤ)). IfSome o (Satisfies m)) (sym same.1) sound in
    let learns = from_node m c (at_node c) new same (node_learns plan m Found (at_node c) new model (at_node_model c c.after.current_open ∙ is) node_sound steps.1) in
    let less : weight m new.after < weight m c.after = rw (← is) (subst (λ (n : Instance). weight n new.after < weight c.model c.after) (new_is ∙ sym is) falls) in
    omega (arith, learns.found, learns.witness, weighs_less m c.after new.after less)
step_path plan m Closed c new model is new_is sound rest steps falls = absurd (let bad : true ≡ false = sym rest ∙ steps.0 in cc)
step_path plan m Idle c new model is new_is sound rest steps falls = absurd steps

pub step_less : (w : ℕ) (answer : Outcome) (old new : Core) → CoreLaw old → IsModel old.book.model → (s : StepsAt w answer old new) → has_rest s.account.after ≡ true → core_left new < core_left old
step_less w answer old new law model s rest =
    let m = old.book.model in
    let of_w = worker_of old w s.worker law s.at in
    let is = held_by m old.book.mode s.worker s.account of_w s.holds in
    let follows = step_follows s.worker.path.plan s.step s.account s.stepped is.law s.steps in
    let of_m : s.account.model ≡ m = is.model ∙ of_w.model in
    let sound : IfSome s.account.witness (Satisfies m) = subst (λ (n : Instance). IfSome s.account.witness (Satisfies n)) of_m is.law.witness in
    replaced_less old new w s.worker (holding s.worker (Some s.stepped)) s.at s.is
    (omega (arith, ap (path_left m) s.holds, step_path s.worker.path.plan m s.step s.account s.stepped model of_m (follows.model ∙ of_m) sound rest s.steps s.falls))

-- ---- reports

behind_at : (m : Instance) (c : Account) (b : Bool) → path_left m (if b then Some (rest_begun c) else None) + length c.found ≤ path_left m (Some c)
behind_at m c true = omega arith
behind_at m c false = omega arith

spent_at : (m : Instance) (c : Account) (b : Bool) → b ≡ false → path_left m (if b then Some (rest_begun c) else None) < path_left m (Some c)
spent_at m c true is = absurd (cc is)
spent_at m c false is = omega arith

-- what is left after a report is less where something was found or nothing is left
behind_less : (m : Instance) (c : Account) → (0 < length c.found) ⊎ (has_rest c.after ≡ false) → path_left m (held_behind c) < path_left m (Some c)
behind_less m c (inl some) = omega (arith, some, behind_at m c (has_rest c.after))
behind_less m c (inr none) = spent_at m c (has_rest c.after) none

pub report_less : (w : ℕ) (old new : Core) → CoreLaw old → (s : ReportsAt w old new) → (0 < length s.account.found) ⊎ (has_rest s.account.after ≡ false) → core_left new < core_left old
report_less w old new law s why =
    let m = old.book.model in
    let v = holding s.worker (held_behind s.account) in
    let same = takes_same old w s.worker s.account s.account new.book law s.at s.holds refl s.takes in
    omega (
      arith,
      left_by old new (set old.workers w v) s.workers same.0,
      same.1,
      set_adds (worker_left m) old.workers w s.worker v s.at,
      ap (path_left m) s.holds,
      behind_less m s.account why,
    )

-- ---- steals

pub steal_less : (v w : ℕ) (old new : Core) → CoreLaw old → StealsAt v w old new → core_left new < core_left old
steal_less v w old new law s =
    let m = old.book.model in
    let taken = with_given s.account in
    let left = holding s.victim (held_behind taken) in
    let thief : Worker = record { path = s.thief.path; hand = Some s.task } in
    let between = set old.workers v left in
    let is = held_by m old.book.mode s.victim s.account (worker_of old v s.victim law s.at_victim) s.holds in
    let same = takes_same old v s.victim s.account taken new.book law s.at_victim s.holds refl s.takes in
    let at_thief : slice_get between w ≡ Some s.thief = get_set_other old.workers v w left (λ same. s.other (sym same)) ∙ s.at_thief in
    omega (
      arith,
      left_by old new (set between w thief) s.workers same.0,
      same.1,
      set_adds (worker_left m) old.workers v s.victim left s.at_victim,
      set_adds (worker_left m) between w s.thief thief at_thief,
      behind_at m taken (has_rest taken.after),
      cut_leaves m s.account.after is.law.edges.2 s.can,
      ap (frontier_left m) s.part,
      ap (path_left m) s.holds,
      ap (path_left m) s.idle,
      ap (hand_left m) s.empty,
    )
