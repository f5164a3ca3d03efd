-- What there is to know of what is said, shape by shape: each has a record of it in the file of its line.
use Rattle.std.specs.Prelude.{ℕ, ℤ, List, length}
use Rattle.std.specs.List.{AllByRecursion}
use Rattle.fz_spec.specs.declared.term.Term.{Term}
use Rattle.fz_strength.specs.declared.cost.Cost.{Cost}
use Rattle.fz_strength.specs.Domains.{AreDomains, Alone, IsNarrower, IsTermOf}
use Rattle.fz_strength.specs.Events.{Wait, AreQuiet, AreBelow}

-- When an assignment makes it true; the line where its propagator rests; its variables, with the changes that may break the line; its
-- terms, and those that it takes for 0 or 1; and the class of its cost.
pub record Meaning : Type 1 where
  pub truth : List ℤ → Type 0
  pub line : List (List (ℤ × ℤ)) → Type 0
  pub waits : List Wait
  pub terms : List Term
  pub truths : List Term
  pub cost : Cost

-- The line lasts as domains get narrower, while none of the changes happens that may break it; where one number is left of each
-- variable it is the truth; and what is waited for are variables of its terms.
pub record IsLawful (m : Meaning) : Type 0 where
  pub kept : (ds es : List (List (ℤ × ℤ))) → AreDomains es → IsNarrower ds es → AreQuiet m.waits ds es → m.line ds → m.line es
  pub alone : (ds : List (List (ℤ × ℤ))) (a : List ℤ) → AreBelow m.waits (length ds) → Alone ds a → m.line ds → m.truth a
  pub below : (n : ℕ) → AllByRecursion (IsTermOf n) m.terms → AreBelow m.waits n
