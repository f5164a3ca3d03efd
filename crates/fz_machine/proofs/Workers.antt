-- What each event makes of a worker is a worker.
use Rattle.std.proofs.Common.{◌≡◌, ◌∙◌, List, [], Bool, true, false, sym, subst, refl, Option, Some, None, IfSome, inl, inr}
use Rattle.std.specs.Prelude.{ℤ, if◌then◌else◌}
use Rattle.fz_spec.specs.Instance.{Instance, Satisfies, SearchPart}
use Rattle.fz_tree.specs.declared.mode.Mode.{Mode}
use Rattle.fz_tree.specs.declared.mode.Mode.TheVariants.{Best}
use Rattle.fz_tree.specs.Frontier.{has_rest, can_cut}
use Rattle.fz_tree.specs.Better.{Betters}
use Rattle.fz_tree.specs.Rows.{AreAbout}
use Rattle.fz_tree.specs.Account.{Account, AccountLaw, SuitsMode, begun, rest_begun, with_given}
use Rattle.fz_tree.proofs.Accounts.{begins, gives, hands_out, learns}
use Rattle.fz_account.specs.declared.account.Learned.{Learned}
use Rattle.fz_account.specs.declared.account.Learned.TheVariants as learned
use Rattle.fz_path.specs.declared.step.Step.{Step}
use Rattle.fz_path.specs.Paths.{Pathed, PathLaw, with_held, started, held_behind}
use Rattle.fz_path.specs.Steps.{StepsTo, Stays, at_node}
use Rattle.fz_path.specs.Tasks.{Neared, Tasked}
use Rattle.fz_path.specs.Starts.{LearnsNear, TakesUp}
use Rattle.fz_path.specs.Cuts.{held_behind_cut}
use Rattle.fz_path.specs.Learns.{IsNews, Learns, held_with, with_known}
use Rattle.fz_machine.specs.Cores.{Worker, IsOwn, IsTaskOf, IsWorkerOf}
use Rattle.fz_machine.specs.Events.{holding}
use Rattle.fz_machine.proofs.Steps.{Follows, step_follows, node_follows_from}

-- an account that a path of this model may hold
pub record IsHeldBy (p : Pathed) (c : Account) : Type 0 where
  pub law : AccountLaw c
  pub about : AreAbout c.mode c.model c.before.edges
  pub model : c.model ≡ p.model
  pub mode : c.mode ≡ p.mode
  pub given : c.given ≡ []

suits_in : (mode other : Mode) (known : Option (List ℤ)) → mode ≡ other → SuitsMode mode [] known → SuitsMode other [] known
suits_in mode other known is h = subst (λ (o : Mode). SuitsMode o [] known) is h

held_law : (p : Pathed) (held : Option Account) → PathLaw p → IfSome held (IsHeldBy p) → PathLaw (with_held p held)
held_law p None law is = record { own_mode = law.own_mode; distances = law.distances; held = tt; known = law.known; suits = law.suits }
held_law p (Some c) law is = record {
  own_mode = law.own_mode;
  distances = law.distances;
  held = (is.model, is.mode, is.given);
  known = subst (λ (m : Instance). IfSome c.witness (Satisfies m)) is.model is.law.witness;
  suits = suits_in c.mode p.mode c.witness is.mode (hands_out c is.law).suits;
}

held_own : (p : Pathed) (held : Option Account) → IfSome held (IsHeldBy p) → IfSome held (IsOwn (with_held p held).known)
held_own p None is = tt
held_own p (Some c) is = record { law = is.law; about = is.about; witness = refl; given = is.given }

-- it holds something else
holds_other : (m : Instance) (mode : Mode) (w : Worker) (held : Option Account) (hand : Option Tasked) → IsWorkerOf m mode w → IfSome held (IsHeldBy w.path) → IfSome hand (IsTaskOf m mode) → IsWorkerOf m mode (record { path = with_held w.path held; hand = hand })
holds_other m mode w held hand of_m is task = record {
  model = of_m.model;
  mode = of_m.mode;
  law = held_law w.path held of_m.law is;
  account = held_own w.path held is;
  task = task;
}

-- what it holds, where that is known
pub held_by : (m : Instance) (mode : Mode) (w : Worker) (c : Account) → IsWorkerOf m mode w → w.path.held ≡ Some c → IsHeldBy w.path c
held_by m mode w c of_m holds =
    let own : IsOwn w.path.known c = subst (λ (o : Option Account). IfSome o (IsOwn w.path.known)) holds of_m.account in
    let same = subst (λ (o : Option Account). IfSome o (λ (x : Account). (x.model ≡ w.path.model) × (x.mode ≡ w.path.mode) × (x.given ≡ []))) holds of_m.law.held in
    record { law = own.law; about = own.about; model = same.0; mode = same.1; given = own.given }

-- ---- hands

pub takes_up : (m : Instance) (mode : Mode) (w : Worker) (t : Tasked) → IsWorkerOf m mode w → IsTaskOf m mode t → IsWorkerOf m mode (record { path = w.path; hand = Some t })
takes_up m mode w t of_m task = record { model = of_m.model; mode = of_m.mode; law = of_m.law; account = of_m.account; task = task }

-- ---- steps

follows_held : (p : Pathed) (c new : Account) → IsHeldBy p c → Follows c new → IsHeldBy p new
follows_held p c new is follows = record {
  law = follows.law;
  about = rw (follows.mode, follows.model, follows.before) is.about;
  model = follows.model ∙ is.model;
  mode = follows.mode ∙ is.mode;
  given = follows.given ∙ is.given;
}

-- an account follows, by whatever is held
abbrev pub FollowsTo : Account → Option Account → Type 0
FollowsTo c new = (d : Account) × (new ≡ Some d) × Follows c d

pub follow_worker : (m : Instance) (mode : Mode) (w : Worker) (c : Account) (held : Option Account) → IsWorkerOf m mode w → w.path.held ≡ Some c → FollowsTo c held → IsWorkerOf m mode (holding w held)
follow_worker m mode w c held of_m holds follows =
    let is = follows_held w.path c follows.0 (held_by m mode w c of_m holds) follows.2 in
    holds_other m mode w held w.hand of_m (subst (λ (o : Option Account). IfSome o (IsHeldBy w.path)) (sym follows.1) is) of_m.task

pub steps_to : (plan : List SearchPart) (step : Step) (c new : Account) → AccountLaw c → StepsTo plan step c new → FollowsTo c (Some new)
steps_to plan step c new law steps = (new, refl, step_follows plan step c new law steps)

pub stays_to : (c : Account) (held : Option Account) → AccountLaw c → Stays (Some c) held → FollowsTo c held
stays_to c held law (inl same) = (c, same, record { law = law; model = refl; mode = refl; before = refl; given = refl })
stays_to c held law (inr moved) = (at_node c, moved.1, node_follows_from c law moved.0)

-- ---- reports

behind_at : (p : Pathed) (c : Account) (b : Bool) → IsHeldBy p (rest_begun c) → IfSome (if b then Some (rest_begun c) else None) (IsHeldBy p)
behind_at p c true is = is
behind_at p c false is = tt

behind : (p : Pathed) (c : Account) → AccountLaw c → AreAbout c.mode c.model c.before.edges → c.model ≡ p.model → c.mode ≡ p.mode → IfSome (held_behind c) (IsHeldBy p)
behind p c law about model mode = behind_at p c (has_rest c.after) (record { law = hands_out c law; about = (law.about about).1; model = model; mode = mode; given = refl })

pub report_worker : (m : Instance) (mode : Mode) (w : Worker) (c : Account) → IsWorkerOf m mode w → w.path.held ≡ Some c → IsWorkerOf m mode (holding w (held_behind c))
report_worker m mode w c of_m holds =
    let is = held_by m mode w c of_m holds in
    holds_other m mode w (held_behind c) w.hand of_m (behind w.path c is.law is.about is.model is.mode) of_m.task

pub victim_worker : (m : Instance) (mode : Mode) (w : Worker) (c : Account) → IsWorkerOf m mode w → w.path.held ≡ Some c → can_cut c.after ≡ true → IsWorkerOf m mode (holding w (held_behind_cut c))
victim_worker m mode w c of_m holds can =
    let is = held_by m mode w c of_m holds in
    holds_other m mode w (held_behind_cut c) w.hand of_m (behind w.path (with_given c) (gives c is.law can) is.about is.model is.mode) of_m.task

-- ---- learning

learned_held : (m : Instance) (mode : Mode) (a : List ℤ) (held : Option Account) → IfSome held (λ (c : Account). (c.model ≡ m) × (c.mode ≡ mode) × (c.given ≡ [])) → IfSome (held_with a held) (λ (c : Account). (c.model ≡ m) × (c.mode ≡ mode) × (c.given ≡ []))
learned_held m mode a None same = tt
learned_held m mode a (Some c) same = same

learned_own : (p : Pathed) (a : List ℤ) (held : Option Account) → IsNews p a → IfSome held (λ (c : Account). (c.model ≡ p.model) × (c.mode ≡ p.mode) × (c.given ≡ [])) → IfSome held (IsOwn p.known) → IfSome (held_with a held) (IsOwn (Some a))
learned_own p a None news same own = tt
learned_own p a (Some c) news same own = record {
  law = learns c a own.law (same.1 ∙ news.best) (subst (λ (m : Instance). Satisfies m a) (sym same.0) news.satisfies)
      (subst (λ (m : Instance). Betters m a c.witness) (sym same.0) (subst (λ (o : Option (List ℤ)). Betters p.model a o) (sym own.witness) news.better));
  about = own.about;
  witness = refl;
  given = own.given;
}

learned_worker : (m : Instance) (mode : Mode) (w : Worker) (a : List ℤ) → IsWorkerOf m mode w → IsNews w.path a → IsWorkerOf m mode (record { path = with_known w.path a; hand = w.hand })
learned_worker m mode w a of_m news = record {
  model = of_m.model;
  mode = of_m.mode;
  law = record {
    own_mode = of_m.law.own_mode;
    distances = of_m.law.distances;
    held = learned_held w.path.model w.path.mode a w.path.held of_m.law.held;
    known = news.satisfies;
    suits = suits_in Best w.path.mode (Some a) (sym news.best) refl;
  };
  account = learned_own w.path a w.path.held news of_m.law.held of_m.account;
  task = of_m.task;
}

pub learn_worker : (m : Instance) (mode : Mode) (w : Worker) (l : Learned) (a : List ℤ) (path : Pathed) → IsWorkerOf m mode w → Learns l w.path a path → IsWorkerOf m mode (record { path = path; hand = w.hand })
learn_worker m mode w learned.Learned a path of_m learns =
    subst (λ (p : Pathed). IsWorkerOf m mode (record { path = p; hand = w.hand })) (sym learns.1) (learned_worker m mode w a of_m learns.0)
learn_worker m mode w learned.Ignored a path of_m learns =
    subst (λ (p : Pathed). IsWorkerOf m mode (record { path = p; hand = w.hand })) (sym learns.1) of_m

-- ---- starting

begun_worker : (m : Instance) (mode : Mode) (w : Worker) (t : Tasked) → IsWorkerOf m mode w → w.hand ≡ Some t → IsWorkerOf m mode (record { path = started w.path t.frontier; hand = None })
begun_worker m mode w t of_m full =
    let f = t.frontier in
    let task : IsTaskOf m mode t = subst (λ (o : Option Tasked). IfSome o (IsTaskOf m mode)) full of_m.task in
    let is : IsHeldBy w.path (begun w.path.model w.path.mode f w.path.known) = record {
      law = begins w.path.model w.path.mode f w.path.known of_m.law.own_mode task.edges of_m.law.suits of_m.law.known;
      about = rw (of_m.mode, of_m.model) task.about;
      model = refl;
      mode = refl;
      given = refl;
    } in
    holds_other m mode w (Some (begun w.path.model w.path.mode f w.path.known)) None of_m is tt

-- the path that takes up a task may have learned what comes with it
told_worker : (m : Instance) (mode : Mode) (w : Worker) (near : Option Neared) (p : Pathed) → IsWorkerOf m mode w → LearnsNear w.path near p → IsWorkerOf m mode (record { path = p; hand = w.hand })
told_worker m mode w near p of_m (inl news) = subst (λ (q : Pathed). IsWorkerOf m mode (record { path = q; hand = w.hand })) (sym news.2) (learned_worker m mode w news.0 of_m news.1.1)
told_worker m mode w near p of_m (inr same) = subst (λ (q : Pathed). IsWorkerOf m mode (record { path = q; hand = w.hand })) (sym same.1) of_m

pub taking_worker : (m : Instance) (mode : Mode) (w : Worker) (t : Tasked) (new : Pathed) → IsWorkerOf m mode w → (takes : TakesUp w.path new t) → IsWorkerOf m mode (record { path = takes.path; hand = w.hand })
taking_worker m mode w t new of_m takes = told_worker m mode w t.near takes.path of_m takes.learns

pub start_worker : (m : Instance) (mode : Mode) (w : Worker) (t : Tasked) (new : Pathed) → IsWorkerOf m mode w → w.hand ≡ Some t → TakesUp w.path new t → IsWorkerOf m mode (record { path = new; hand = None })
start_worker m mode w t new of_m full takes =
    subst (λ (q : Pathed). IsWorkerOf m mode (record { path = q; hand = None })) (sym takes.is) (begun_worker m mode (record { path = takes.path; hand = w.hand }) t (taking_worker m mode w t new of_m takes) full)
