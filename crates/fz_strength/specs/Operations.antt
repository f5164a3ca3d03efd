-- A term that is what an operation makes of other terms, and the bounds that the ends of all of them give to each
-- (Apt, Zoeteweij: "An Analysis of Arithmetic Constraints on Integer Intervals").
use Rattle.std.specs.Prelude.{ℤ, pos, neg_ℤ, ◌+ℤ◌, ◌-ℤ◌, ◌*ℤ◌, ◌≤ℤ◌, int_div, int_lt, List, [], ◌∷◌, ◌++◌, map, if◌then◌else◌, ◌&&◌, length}
use Rattle.std.specs.Int.{int_min, int_max}
use Rattle.std.specs.List.{AllByRecursion, fold}
use Rattle.std.specs.Ordering.{int_eq}
use Rattle.fz_sets.specs.Sets.{IsInSet}
use Rattle.fz_dom.specs.Shape.{least, greatest}
use Rattle.fz_spec.specs.declared.term.Term.{Term}
use Rattle.fz_spec.specs.Constraints.{term_value, term_values}
use Rattle.fz_spec.specs.Truth.{IsResult, remainder}
use Rattle.fz_spec.specs.declared.shape.Operation.{Operation}
use Rattle.fz_spec.specs.declared.shape.Operation.TheVariants.{Plus, Times, Quotient, Remainder, Abs, Min, Max}
use Rattle.fz_strength.specs.declared.bounds.Bounds.{Bounds}
use Rattle.fz_strength.specs.declared.event.Event.{Event}
use Rattle.fz_strength.specs.declared.event.Event.TheVariants.{Any, Bound}
use Rattle.fz_strength.specs.Domains.{term_set}
use Rattle.fz_strength.specs.Events.{Wait, wait_for, waits_for}
use Rattle.fz_strength.specs.Costs.{cost_of_operands}
use Rattle.fz_strength.specs.Meanings.{Meaning}

-- ---- equations

-- A term that is what an operation makes of others.
pub record Equation : Type 0 where
  pub operation : Operation
  pub operands : List Term
  pub result : Term

abbrev pub equation : Operation → List Term → Term → Equation
equation operation xs z = record { operation = operation; operands = xs; result = z }

-- its terms, the result first
abbrev pub equation_terms : Equation → List Term
equation_terms e = e.result ∷ e.operands

-- the changes of its operands that may break its line: a size may lie within
abbrev pub operand_event : Operation → Event
operand_event Abs = Any
operand_event operation = Bound

abbrev pub equation_waits : Equation → List Wait
equation_waits e = wait_for Bound e.result ++ waits_for (operand_event e.operation) e.operands

-- an assignment makes it true
abbrev pub EquationTruth : Equation → List ℤ → Type 0
EquationTruth e a = IsResult e.operation (term_values a e.operands) (term_value a e.result)

-- ---- bounds

-- the least and the greatest number that is left of a term
abbrev pub low_of : List (List (ℤ × ℤ)) → Term → ℤ
low_of ds t = least (term_set ds t)

abbrev pub high_of : List (List (ℤ × ℤ)) → Term → ℤ
high_of ds t = greatest (term_set ds t)

abbrev pub between : Term → ℤ → ℤ → Bounds
between t low high = record { term = t; low = low; high = high }

-- no number lies between these
abbrev pub no_bounds : Term → Bounds
no_bounds t = between t (pos 1) (pos 0)

-- between the least and the greatest of what a function makes of an end of x and an end of y
abbrev pub corner_bounds : (ℤ → ℤ → ℤ) → Term → Term → Term → List (List (ℤ × ℤ)) → Bounds
corner_bounds f x y z ds =
    let a = f (low_of ds x) (low_of ds y) in
    let b = f (low_of ds x) (high_of ds y) in
    let c = f (high_of ds x) (low_of ds y) in
    let d = f (high_of ds x) (high_of ds y) in
    between z (fold int_min a (b ∷ c ∷ d ∷ [])) (fold int_max a (b ∷ c ∷ d ∷ []))

-- its own ends
abbrev pub own_bounds : Term → List (List (ℤ × ℤ)) → Bounds
own_bounds t ds = between t (low_of ds t) (high_of ds t)

-- of x, where it times y is z, or where it is the quotient of z by y: its own ends unless all numbers of y have one sign
abbrev pub quotient_bounds : Term → Term → Term → List (List (ℤ × ℤ)) → Bounds
quotient_bounds x y z ds =
    if int_lt (pos 0) (low_of ds y) then corner_bounds int_div z y x ds
    else (if int_lt (high_of ds y) (pos 0) then corner_bounds int_div z y x ds else own_bounds x ds)

-- of what the quotient of x by y leaves: its own ends unless both are fixed
abbrev pub remainder_bounds : Term → Term → Term → List (List (ℤ × ℤ)) → Bounds
remainder_bounds x y z ds =
    if int_eq (low_of ds x) (high_of ds x) && int_eq (low_of ds y) (high_of ds y)
    then between z (remainder (low_of ds x) (low_of ds y)) (remainder (low_of ds x) (low_of ds y)) else own_bounds z ds

-- the least size of a number between two, and of one in a set
abbrev pub size_between : (ℤ × ℤ) → ℤ
size_between r = int_max (pos 0) (int_max r.0 (neg_ℤ r.1))

abbrev pub least_size : List (ℤ × ℤ) → ℤ
least_size [] = pos 0
least_size (r ∷ rs) = fold int_min (size_between r) (map size_between rs)

-- the greatest is that of an end
abbrev pub greatest_size : List (ℤ × ℤ) → ℤ
greatest_size d = int_max (greatest d) (neg_ℤ (least d))

-- of the result
abbrev pub result_bounds : Operation → List Term → Term → List (List (ℤ × ℤ)) → Bounds
result_bounds Plus (x ∷ y ∷ []) z ds = between z (low_of ds x +ℤ low_of ds y) (high_of ds x +ℤ high_of ds y)
result_bounds Times (x ∷ y ∷ []) z ds = corner_bounds (λ u w. u *ℤ w) x y z ds
result_bounds Quotient (x ∷ y ∷ []) z ds = quotient_bounds z y x ds
result_bounds Remainder (x ∷ y ∷ []) z ds = remainder_bounds x y z ds
result_bounds Abs (x ∷ []) z ds = between z (least_size (term_set ds x)) (greatest_size (term_set ds x))
result_bounds Min (x ∷ xs) z ds = between z (fold int_min (low_of ds x) (map (low_of ds) xs)) (fold int_min (high_of ds x) (map (high_of ds) xs))
result_bounds Max (x ∷ xs) z ds = between z (fold int_max (low_of ds x) (map (low_of ds) xs)) (fold int_max (high_of ds x) (map (high_of ds) xs))
result_bounds operation xs z ds = no_bounds z

-- of the one summand, by the other
abbrev pub difference_bounds : Term → Term → Term → List (List (ℤ × ℤ)) → Bounds
difference_bounds x y z ds = between x (low_of ds z -ℤ high_of ds y) (high_of ds z -ℤ low_of ds y)

-- of the number whose absolute value z is: where all that is left of it is above the greatest negative one, it is positive, and
-- the other way round
abbrev pub signed_bounds : Term → Term → List (List (ℤ × ℤ)) → Bounds
signed_bounds x z ds =
    between x (if int_lt (neg_ℤ (low_of ds z)) (low_of ds x) then low_of ds z else neg_ℤ (high_of ds z))
    (if int_lt (high_of ds x) (low_of ds z) then neg_ℤ (low_of ds z) else high_of ds z)

-- of each operand
abbrev pub operand_bounds : Operation → List Term → Term → List (List (ℤ × ℤ)) → List Bounds
operand_bounds Plus (x ∷ y ∷ []) z ds = difference_bounds x y z ds ∷ difference_bounds y x z ds ∷ []
operand_bounds Times (x ∷ y ∷ []) z ds = quotient_bounds x y z ds ∷ quotient_bounds y x z ds ∷ []
operand_bounds Quotient (x ∷ y ∷ []) z ds = own_bounds x ds ∷ own_bounds y ds ∷ []
operand_bounds Remainder (x ∷ y ∷ []) z ds = own_bounds x ds ∷ own_bounds y ds ∷ []
operand_bounds Abs (x ∷ []) z ds = signed_bounds x z ds ∷ []
operand_bounds Min xs z ds = map (λ x. between x (low_of ds z) (high_of ds x)) xs
operand_bounds Max xs z ds = map (λ x. between x (low_of ds x) (high_of ds z)) xs
operand_bounds operation xs z ds = map no_bounds xs

-- of each term, the result first
abbrev pub bounds_of : Equation → List (List (ℤ × ℤ)) → List Bounds
bounds_of e ds = result_bounds e.operation e.operands e.result ds ∷ operand_bounds e.operation e.operands e.result ds

-- ---- the line

-- all that is left of its term lies between
abbrev pub IsBounded : List (List (ℤ × ℤ)) → Bounds → Type 0
IsBounded ds b = (b.low ≤ℤ low_of ds b.term) × (high_of ds b.term ≤ℤ b.high)

-- what must not be 0
abbrev pub divisors_of : Operation → List Term → List Term
divisors_of Quotient (x ∷ y ∷ []) = y ∷ []
divisors_of Remainder (x ∷ y ∷ []) = y ∷ []
divisors_of operation xs = []

abbrev pub LacksZero : List (List (ℤ × ℤ)) → Term → Type 0
LacksZero ds t = IsInSet (term_set ds t) (pos 0) → ⊥

-- All that is left of each term lies between its bounds, and 0 isn't left of a divisor.
pub record IsEquationLine (e : Equation) (ds : List (List (ℤ × ℤ))) : Type 0 where
  pub bounded : AllByRecursion (IsBounded ds) (bounds_of e ds)
  pub divides : AllByRecursion (LacksZero ds) (divisors_of e.operation e.operands)

-- that a term is what an operation makes of others
abbrev pub arithmetic : Equation → Meaning
arithmetic e = record {
  truth = λ a. EquationTruth e a;
  line = λ ds. IsEquationLine e ds;
  waits = equation_waits e;
  terms = equation_terms e;
  truths = [];
  cost = cost_of_operands (length e.operands);
}
