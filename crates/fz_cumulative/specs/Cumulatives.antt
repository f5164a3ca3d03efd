-- Tasks of three lists of terms that share a resource: the truth and the line, and what the propagator is made of.
use Rattle.std.specs.Prelude.{ℕ, ℤ, List}
use Rattle.std.specs.List.{AllByRecursion}
use Rattle.fz_dom.specs.Shape.{least, greatest}
use Rattle.fz_spec.specs.declared.term.Term.{Term}
use Rattle.fz_spec.specs.Constraints.{term_value, term_values}
use Rattle.fz_spec.specs.Truth.{tasks_of, IsCumulative}
use Rattle.fz_strength.specs.Cumulatives.{open_tasks, terms_of_tasks, RestsCumulative}
use Rattle.fz_strength.specs.Domains.{term_set, IsTermOf}

-- an assignment makes it true
abbrev pub TasksShare : List Term → List Term → List Term → Term → List ℤ → Type 0
TasksShare ss dd us b a = IsCumulative (tasks_of (term_values a ss) (term_values a dd) (term_values a us)) (term_value a b)

-- its line
abbrev pub TasksRest : List Term → List Term → List Term → Term → List (List (ℤ × ℤ)) → Type 0
TasksRest ss dd us b ds = RestsCumulative (open_tasks ds ss dd us) (least (term_set ds b)) (greatest (term_set ds b))

-- the terms are of a store
abbrev pub AreTermsOf : ℕ → List Term → List Term → List Term → Term → Type 0
AreTermsOf n ss dd us b = AllByRecursion (IsTermOf n) (terms_of_tasks ss dd us b)
