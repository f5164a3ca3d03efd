-- A step keeps the law of the account that it is on, and the account is still one of the same frontier.
use Rattle.std.proofs.Common.{◌≡◌, ◌∙◌, ◌||◌, Bool, true, false, sym, subst, refl, inl, inr}
use Rattle.std.specs.Prelude.{◌≢◌, ℤ, List, if◌then◌else◌}
use Rattle.fz_spec.specs.Instance.{SearchPart}
use Rattle.fz_tree.specs.declared.mode.Mode.{Mode}
use Rattle.fz_tree.specs.declared.mode.Mode.TheVariants.{All, Rows, Best}
use Rattle.fz_tree.specs.Frontier.{can_cut, moved}
use Rattle.fz_tree.specs.Account.{Account, AccountLaw, with_after, with_found, with_witness}
use Rattle.fz_tree.proofs.Accounts.{branches, fails, moves, adds, learns}
use Rattle.fz_tree.proofs.Onlies.{none_better}
use Rattle.fz_path.specs.declared.step.Step.{Step}
use Rattle.fz_path.specs.declared.step.Step.TheVariants.{Expanded, Found, Closed, Idle}
use Rattle.fz_path.specs.Steps.{at_node, added, IsOnlyAt, Fails, Divides, Finds, NodeTo, StepsTo}

-- a lawful account of the same frontier, which gave the same away
pub record Follows (c new : Account) : Type 0 where
  pub law : AccountLaw new
  pub model : new.model ≡ c.model
  pub mode : new.mode ≡ c.mode
  pub before : new.before ≡ c.before
  pub given : new.given ≡ c.given

pub follows_itself : (c : Account) → AccountLaw c → Follows c c
follows_itself c law = record { law = law; model = refl; mode = refl; before = refl; given = refl }

follows_both : (c between new : Account) → Follows c between → Follows between new → Follows c new
follows_both c between new first second = record {
  law = second.law;
  model = second.model ∙ first.model;
  mode = second.mode ∙ first.mode;
  before = second.before ∙ first.before;
  given = second.given ∙ first.given;
}

-- ---- at a node

fails_follows : (c new : Account) → AccountLaw c → c.after.current_open ≡ true → Fails c new → Follows c new
fails_follows c new law current f = subst (Follows c) (sym f.is) (record { law = fails c law current f.hopeless; model = refl; mode = refl; before = refl; given = refl })

divides_follows : (plan : List SearchPart) (c new : Account) → AccountLaw c → c.after.current_open ≡ true → Divides plan c new → Follows c new
divides_follows plan c new law current d =
    subst (Follows c) (sym d.is) (record { law = branches c d.choice law current d.chooses d.reachable d.fits d.about; model = refl; mode = refl; before = refl; given = refl })

finds_one : (c : Account) (x : List ℤ) → AccountLaw c → c.mode ≢ Best → c.after.current_open ≡ true → IsOnlyAt c x → Follows c (with_found c x)
finds_one c x law finds current only = record { law = adds c x law finds current only; model = refl; mode = refl; before = refl; given = refl }

added_follows : (mode : Mode) (c new : Account) → c.mode ≡ mode → AccountLaw c → c.after.current_open ≡ true → (f : Finds c new) → Follows c (added mode c f.assignment)
added_follows All c new is law current f = finds_one c f.assignment law (λ best. let bad : All ≡ Best = sym is ∙ best in cc) current f.only
added_follows Rows c new is law current f = finds_one c f.assignment law (λ best. let bad : Rows ≡ Best = sym is ∙ best in cc) current f.only
added_follows Best c new is law current f = record {
  law = fails (with_witness c f.assignment) (learns c f.assignment law is f.only.satisfies f.better) current (none_better c.mode c.model c.after.edges c.witness f.assignment is f.only f.better);
  model = refl;
  mode = refl;
  before = refl;
  given = refl;
}

finds_follows : (c new : Account) → AccountLaw c → c.after.current_open ≡ true → Finds c new → Follows c new
finds_follows c new law current f = subst (Follows c) (sym f.is) (added_follows c.mode c new refl law current f)

node_follows : (plan : List SearchPart) (step : Step) (c new : Account) → AccountLaw c → c.after.current_open ≡ true → NodeTo plan step c new → Follows c new
node_follows plan Expanded c new law current (inl f) = fails_follows c new law current f
node_follows plan Expanded c new law current (inr d) = divides_follows plan c new law current d
node_follows plan Found c new law current f = finds_follows c new law current f
node_follows plan Closed c new law current none = absurd none
node_follows plan Idle c new law current none = absurd none

-- ---- from where it was

-- the account moved to an open node
record IsAtNode (c node : Account) : Type 0 where
  pub follows : Follows c node
  pub current : node.after.current_open ≡ true

moves_at : (c : Account) (b : Bool) → AccountLaw c → c.after.current_open ≡ b → (b || can_cut c.after) ≡ true → IsAtNode c (if b then c else with_after c (moved c.after))
moves_at c true law is rest = record { follows = follows_itself c law; current = is }
moves_at c false law is rest = record { follows = record { law = moves c law is rest; model = refl; mode = refl; before = refl; given = refl }; current = refl }

node_at : (c : Account) → AccountLaw c → (c.after.current_open || can_cut c.after) ≡ true → IsAtNode c (at_node c)
node_at c law rest = moves_at c c.after.current_open law refl rest

pub node_follows_from : (c : Account) → AccountLaw c → (c.after.current_open || can_cut c.after) ≡ true → Follows c (at_node c)
node_follows_from c law rest = (node_at c law rest).follows

pub step_follows : (plan : List SearchPart) (step : Step) (c new : Account) → AccountLaw c → StepsTo plan step c new → Follows c new
step_follows plan Expanded c new law steps =
    let node = node_at c law steps.0 in
    follows_both c (at_node c) new node.follows (node_follows plan Expanded (at_node c) new node.follows.law node.current steps.1)
step_follows plan Found c new law steps =
    let node = node_at c law steps.0 in
    follows_both c (at_node c) new node.follows (node_follows plan Found (at_node c) new node.follows.law node.current steps.1)
step_follows plan Closed c new law steps = subst (Follows c) (sym steps.1) (follows_itself c law)
step_follows plan Idle c new law none = absurd none
