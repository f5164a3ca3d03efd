-- When a constraint is refuted in a box, and when the goal is.
use Rattle.std.specs.Prelude.{◌≡◌, ◌⊎◌, ℕ, ◌*◌, ◌≤◌, ℤ, pos, negsuc, ◌+ℤ◌, ◌*ℤ◌, ◌<ℤ◌, ◌≤ℤ◌, List, [], ◌∷◌, ◌++◌, Option, Some, None, if◌then◌else◌, ◌==◌, flat_map, nat_lt}
use Rattle.std.specs.List.{AllByRecursion, list_any}
use Rattle.fz_sets.specs.Sets.{IsInSet, set_size}
use Rattle.fz_dom.specs.Shape.{least, greatest}
use Rattle.fz_spec.specs.declared.shape.Relation.TheVariants.{AtMost, Equal}
use Rattle.fz_spec.specs.declared.shape.Shape.{Shape}
use Rattle.fz_spec.specs.declared.shape.Shape.TheVariants.{Linear}
use Rattle.fz_spec.specs.Signatures.{shape_of}
use Rattle.fz_spec.specs.declared.term.Term.{Term}
use Rattle.fz_spec.specs.declared.term.Term.TheVariants.{Num, Var}
use Rattle.fz_spec.specs.declared.goal.Goal.{Goal}
use Rattle.fz_spec.specs.declared.goal.Goal.TheVariants.{Satisfy, Minimize, Maximize}
use Rattle.fz_spec.specs.Constraints.{Argument, One, Numbers, Terms, Constraint, IsTrueOf, term_value, terms_among}
use Rattle.fz_refutes.specs.Boxes.{set_at, set_of}

-- ---- sums

-- the least and the greatest of a set times a factor
abbrev pub least_product : ℤ → List (ℤ × ℤ) → ℤ
least_product (pos n) d = pos n *ℤ least d
least_product (negsuc n) d = negsuc n *ℤ greatest d

abbrev pub greatest_product : ℤ → List (ℤ × ℤ) → ℤ
greatest_product (pos n) d = pos n *ℤ greatest d
greatest_product (negsuc n) d = negsuc n *ℤ least d

-- the least and the greatest of a weighted sum
abbrev pub least_sum : List (List (ℤ × ℤ)) → List ℤ → List Term → ℤ
least_sum box [] ts = pos 0
least_sum box (k ∷ ks) [] = pos 0
least_sum box (k ∷ ks) (t ∷ ts) = least_product k (set_of box t) +ℤ least_sum box ks ts

abbrev pub greatest_sum : List (List (ℤ × ℤ)) → List ℤ → List Term → ℤ
greatest_sum box [] ts = pos 0
greatest_sum box (k ∷ ks) [] = pos 0
greatest_sum box (k ∷ ks) (t ∷ ts) = greatest_product k (set_of box t) +ℤ greatest_sum box ks ts

-- The least sum is above 0; or, of an equation, the greatest is below it.
abbrev pub IsSumOut : Shape → ℤ → ℤ → Type 0
IsSumOut (Linear AtMost) low high = pos 0 <ℤ low
IsSumOut (Linear Equal) low high = (pos 0 <ℤ low) ⊎ (high <ℤ pos 0)
IsSumOut shape low high = ⊥

-- a sum and what it is compared with, as one sum that is compared with 0
abbrev pub IsRefutedSum : Shape → List Argument → List (List (ℤ × ℤ)) → Type 0
IsRefutedSum shape (Numbers ks ∷ Terms ts ∷ One c ∷ []) box = IsSumOut shape (least_sum box (negsuc 0 ∷ ks) (c ∷ ts)) (greatest_sum box (negsuc 0 ∷ ks) (c ∷ ts))
IsRefutedSum shape arguments box = ⊥

-- ---- small boxes

-- the variables among terms
abbrev pub variable_of : Term → List ℕ
variable_of (Num n) = []
variable_of (Var v) = v ∷ []

abbrev pub variables_among : List Term → List ℕ
variables_among ts = flat_map variable_of ts

-- the variables of arguments
abbrev pub variables_of : List Argument → List ℕ
variables_of arguments = variables_among (terms_among arguments)

-- the set of one of these variables is empty
abbrev pub IsEmptyAmong : List (List (ℤ × ℤ)) → List ℕ → Type 0
IsEmptyAmong box [] = ⊥
IsEmptyAmong box (v ∷ vs) = (set_at box v ≡ []) ⊎ IsEmptyAmong box vs

-- a variable after others, where more than one number is left of it and it isn't among them
abbrev pub with_open : List (List (ℤ × ℤ)) → List ℕ → ℕ → List ℕ
with_open box found v = if nat_lt 1 (set_size (set_at box v)) then (if list_any (λ w. w == v) found then found else found ++ v ∷ []) else found

-- the variables of which more than one number is left, each once
abbrev pub open_after : List (List (ℤ × ℤ)) → List ℕ → List ℕ → List ℕ
open_after box found [] = found
open_after box found (v ∷ vs) = open_after box (with_open box found v) vs

-- how many values variables have together
abbrev pub choices_of : List (List (ℤ × ℤ)) → List ℕ → ℕ
choices_of box [] = 1
choices_of box (v ∷ vs) = set_size (set_at box v) * choices_of box vs

-- its number lies in the set of the variable
abbrev pub IsAt : List (List (ℤ × ℤ)) → List ℤ → ℕ → Type 0
IsAt box a v = IsInSet (set_at box v) (term_value a (Var v))

-- at most 256 choices, where those of a variable with one number count 1, and none of them makes it true
pub record IsRefutedSmall (c : Constraint) (box : List (List (ℤ × ℤ))) : Type 0 where
  pub few : choices_of box (open_after box [] (variables_of c.arguments)) ≤ 256
  pub never : (a : List ℤ) → AllByRecursion (IsAt box a) (variables_of c.arguments) → IsTrueOf a c → ⊥

-- Its sum is out of reach; or there is no choice of its variables' values, or there are few and none makes it true.
abbrev pub Refutes : Constraint → List (List (ℤ × ℤ)) → Type 0
Refutes c box = IsRefutedSum (shape_of c.name) c.arguments box ⊎ (IsEmptyAmong box (variables_of c.arguments) ⊎ IsRefutedSmall c box)

-- the constraint of this number
abbrev pub RefutesIfThere : Option Constraint → List (List (ℤ × ℤ)) → Type 0
RefutesIfThere None box = ⊥
RefutesIfThere (Some c) box = Refutes c box

-- ---- the goal

-- no value of the goal's term is better than that of the assignment
abbrev pub IsNoBetter : Goal → List (List (ℤ × ℤ)) → List ℤ → Type 0
IsNoBetter Satisfy box a = ⊥
IsNoBetter (Minimize t) box a = (x : ℤ) → IsInSet (set_of box t) x → term_value a t ≤ℤ x
IsNoBetter (Maximize t) box a = (x : ℤ) → IsInSet (set_of box t) x → x ≤ℤ term_value a t

abbrev pub IsWorse : Goal → List (List (ℤ × ℤ)) → Option (List ℤ) → Type 0
IsWorse goal box None = ⊥
IsWorse goal box (Some a) = IsNoBetter goal box a
