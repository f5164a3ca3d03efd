-- Where all are sought, or their rows, each satisfying assignment is recorded, found or open, once in all.
use Rattle.std.proofs.Common.{◌≡◌, ◌∙◌, ℕ, ◌+◌, List, [], ◌∷◌, Bool, true, false, cond, ap, sym, subst, refl, arith, Option, Some, None, IfSome, sum_by}
use Rattle.std.specs.Prelude.{◌≢◌, ℤ}
use Rattle.std.specs.List.{AllByRecursion}
use Rattle.std.proofs.lemmas.List.Sums.{sum_by-cons}
use Rattle.fz_spec.specs.Instance.{Instance, Satisfies}
use Rattle.fz_tree.specs.declared.mode.Mode.{Mode}
use Rattle.fz_tree.specs.declared.mode.Mode.TheVariants.{All, Rows, Best}
use Rattle.fz_tree.specs.Frontier.{Frontier, times_in, times_in_all}
use Rattle.fz_tree.specs.Better.{Betters}
use Rattle.fz_tree.specs.Account.{Account, SuitsMode, times_found}
use Rattle.fz_tree.specs.Book.{Part, incumbent_of, incumbent, times_open, times_recorded}
use Rattle.fz_path.specs.Paths.{Pathed}
use Rattle.fz_machine.specs.Cores.{Worker, Core, CoreLaw, IsOwn, IsWorkerOf, path_adds, worker_adds, claimed_adds}
use Rattle.fz_machine.specs.Laws.{path_has, worker_has, unclaimed_has}

abbrev open_in : List ℤ → Frontier → ℕ
open_in a f = times_in f a

no_witness : (mode : Mode) (found : List (List ℤ)) (witness : Option (List ℤ)) → mode ≢ Best → SuitsMode mode found witness → witness ≡ None
no_witness All found witness is suits = suits
no_witness Rows found witness is suits = suits
no_witness Best found witness is suits = absurd (is refl)

no_incumbent : (mode : Mode) (recorded : List (List ℤ)) → mode ≢ Best → incumbent_of mode recorded ≡ None
no_incumbent All recorded is = refl
no_incumbent Rows recorded is = refl
no_incumbent Best recorded is = absurd (is refl)

abbrev IsOfBoth : Instance → Mode → Account → Type 0
IsOfBoth m mode c = (c.model ≡ m) × (c.mode ≡ mode)

account_has : (known : Option (List ℤ)) (m : Instance) (a : List ℤ) (c : Account) → IsOwn known c → c.model ≡ m → c.mode ≢ Best → Satisfies m a → times_found c.mode m a c.found + times_in c.after a ≡ times_in c.before a
account_has known m a c own model collects satisfies =
    let better : Betters c.model a c.witness = subst (λ (o : Option (List ℤ)). Betters c.model a o) (sym (no_witness c.mode c.found c.witness collects own.law.suits)) tt in
    let gave : times_in_all c.given a ≡ 0 = ap (λ (fs : List Frontier). times_in_all fs a) own.given in
    let found : times_found c.mode m a c.found ≡ times_found c.mode c.model a c.found = ap (λ (n : Instance). times_found c.mode n a c.found) (sym model) in
    omega (arith, gave, found, own.law.sums own.about a (subst (λ (x : Instance). Satisfies x a) (sym model) satisfies) better)

path_same : (m : Instance) (mode : Mode) (a : List ℤ) (known : Option (List ℤ)) (o : Option Account) → mode ≢ Best → Satisfies m a → IfSome o (IsOwn known) → IfSome o (IsOfBoth m mode) → path_has m a o ≡ path_adds (open_in a) o
path_same m mode a known None collects satisfies own both = refl
path_same m mode a known (Some c) collects satisfies own both = account_has known m a c own both.0 (λ best. collects (sym both.1 ∙ best)) satisfies

held_both : (m : Instance) (mode : Mode) (p : Pathed) → p.model ≡ m → p.mode ≡ mode → (o : Option Account) → IfSome o (λ (c : Account). (c.model ≡ p.model) × (c.mode ≡ p.mode) × (c.given ≡ [])) → IfSome o (IsOfBoth m mode)
held_both m mode p model same None held = tt
held_both m mode p model same (Some c) held = (held.0 ∙ model, held.1 ∙ same)

workers_same : (m : Instance) (mode : Mode) (a : List ℤ) (ws : List Worker) → mode ≢ Best → Satisfies m a → AllByRecursion (IsWorkerOf m mode) ws → sum_by (worker_has m a) ws ≡ sum_by (worker_adds (open_in a)) ws
workers_same m mode a [] collects satisfies of_m = refl
workers_same m mode a (w ∷ ws) collects satisfies of_m =
    let both = held_both m mode w.path of_m.0.model of_m.0.mode w.path.held of_m.0.law.held in
    omega (
      arith,
      sum_by-cons (worker_has m a) w ws,
      sum_by-cons (worker_adds (open_in a)) w ws,
      path_same m mode a w.path.known w.path.held collects satisfies of_m.0.account both,
      workers_same m mode a ws collects satisfies of_m.1,
    )

open_at : (n : ℕ) (claimed : Bool) → n ≡ cond claimed n 0 + cond claimed 0 n
open_at n true = omega arith
open_at n false = omega arith

open_sum : (a : List ℤ) (ps : List Part) → times_open ps a ≡ sum_by (claimed_adds (open_in a)) ps + sum_by (unclaimed_has a) ps
open_sum a [] = refl
open_sum a (p ∷ ps) =
    omega (
      arith,
      sum_by-cons (λ (q : Part). times_in q.frontier a) p ps,
      sum_by-cons (claimed_adds (open_in a)) p ps,
      sum_by-cons (unclaimed_has a) p ps,
      open_at (times_in p.frontier a) p.claimed,
      open_sum a ps,
    )

pub each_is_once : (s : Core) (a : List ℤ) → CoreLaw s → s.book.mode ≢ Best → Satisfies s.book.model a → times_recorded s.book a + sum_by (worker_has s.book.model a) s.workers + sum_by (unclaimed_has a) s.book.parts ≡ 1
each_is_once s a law collects satisfies =
    let better : Betters s.book.model a (incumbent s.book) = subst (λ (o : Option (List ℤ)). Betters s.book.model a o) (sym (no_incumbent s.book.mode s.book.recorded collects)) tt in
    omega (
      arith,
      law.book.sums a satisfies better,
      open_sum a s.book.parts,
      law.held (open_in a),
      workers_same s.book.model s.book.mode a s.workers collects satisfies law.workers,
    )
