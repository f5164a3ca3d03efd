-- How a node is divided.
use Rattle.std.specs.Prelude.{◌≡◌, ℕ, ℤ, ◌<◌, ◌≤ℤ◌, List, length, IsTrue}
use Rattle.std.specs.List.{AllByRecursion, list_any}
use Rattle.fz_dom.specs.Shape.{least, greatest}
use Rattle.fz_tree.specs.declared.decision.Decision.{Decision}
use Rattle.fz_tree.specs.Choice.{meets}
use Rattle.fz_branch.specs.Keeping.{KeepsValue}
use Rattle.fz_search_space.specs.Spaces.{Within, dom_at}

-- its value is at least the least of the domain, and at most the greatest
abbrev pub IsBetween : List (ℤ × ℤ) → Decision → Type 0
IsBetween d decision = (least d ≤ℤ decision.value) × (decision.value ≤ℤ greatest d)

-- Decisions on one variable, each with a value between the ends of its domain. Each keeps a value of it, and one of them is met by each
-- assignment within the domains.
pub record IsDivision (ds : List (List (ℤ × ℤ))) (choice : List Decision) : Type 0 where
  pub variable : ℕ
  pub below : variable < length ds
  pub on_it : AllByRecursion (λ (d : Decision). d.variable ≡ variable) choice
  pub keeps : AllByRecursion (KeepsValue (dom_at ds variable)) choice
  pub between : AllByRecursion (IsBetween (dom_at ds variable)) choice
  pub one_is_met : (a : List ℤ) → Within ds a → IsTrue (list_any (meets a) choice)
