-- What is said once more of a constraint, to a propagator that looks at more.
use Rattle.std.specs.Prelude.{◌&&◌, ◌||◌, not, Bool, true, false, if◌then◌else◌, ℤ, pos, negsuc, ◌+ℤ◌, int_le, int_lt, nat_eq, nat_le, nat_lt, List, [], ◌∷◌, length, replicate, slice_get, Option, Some, None}
use Rattle.std.specs.List.{list_all}
use Rattle.std.specs.Ordering.{int_eq}
use Rattle.fz_dom.specs.Shape.{least, greatest}
use Rattle.fz_spec.specs.declared.limits.TheConstants.{ELEMENT_LIMIT}
use Rattle.fz_spec.specs.declared.term.Term.{Term}
use Rattle.fz_spec.specs.declared.term.Term.TheVariants.{Num, Var}
use Rattle.fz_spec.specs.Constraints.{Constraint}
use Rattle.fz_spec.specs.Instance.{Variable}
use Rattle.fz_spec.specs.declared.shape.Relation.TheVariants.{Equal}
use Rattle.fz_strength.specs.Sayings.{Saying, Count, Differ, DifferByBounds, Inverse, Sum, SumByNumbers, saying_of}
use Rattle.fz_says.specs.Said.{said_by}
use Rattle.fz_engine.specs.declared.stronger.More.{More}
use Rattle.fz_engine.specs.declared.stronger.More.TheVariants as more

-- a variable, and one that is declared with a set that is at most 64 wide
abbrev pub is_variable : Term → Bool
is_variable (Num n) = false
is_variable (Var v) = true

abbrev pub is_narrow_set : Option Variable → Bool
is_narrow_set None = false
is_narrow_set (Some variable) = int_le (greatest variable.set) (least variable.set +ℤ pos 63)

abbrev pub is_narrow : List Variable → Term → Bool
is_narrow vs (Num n) = false
is_narrow vs (Var v) = is_narrow_set (slice_get vs v)

-- 1 and -1, in this order or the other
abbrev pub are_opposite : ℤ → ℤ → Bool
are_opposite k l = (int_eq k (pos 1) && int_eq l (negsuc 0)) || (int_eq k (negsuc 0) && int_eq l (pos 1))

-- farther from 0 than 1, and not too far
abbrev pub is_steep : ℤ → Bool
is_steep k = (int_le (pos 2) k && int_le k (pos 255)) || (int_le (negsuc 254) k && int_le k (negsuc 1))

-- The difference of two variables is a multiple of a third one, where that one and one of the two are narrow.
abbrev pub is_near_plane : List Variable → ℤ → Term → ℤ → Term → ℤ → Term → Bool
is_near_plane vs k s l t m u = (is_steep k && are_opposite l m) && (is_narrow vs s && ((is_narrow vs t && is_variable u) || (is_variable t && is_narrow vs u)))

-- the propagator of an equation of two or three terms keeps whole domains anyway
abbrev pub is_kept_whole : List Variable → List ℤ → List Term → Bool
is_kept_whole vs (k ∷ l ∷ []) (s ∷ t ∷ []) = are_opposite k l && (is_variable s && is_variable t)
is_kept_whole vs (k ∷ l ∷ m ∷ []) (s ∷ t ∷ u ∷ []) = is_near_plane vs k s l t m u || (is_near_plane vs l t k s m u || is_near_plane vs m u k s l t)
is_kept_whole vs ks ts = false

abbrev pub is_short : List Term → Bool
is_short ts = nat_eq (length ts) 2 || nat_eq (length ts) 3

-- numbers one after the other, from a first one on
abbrev pub are_from : ℤ → List ℤ → Bool
are_from first [] = true
are_from first (value ∷ values) = int_eq value first && are_from (first +ℤ pos 1) values

-- A term has numbers from a first one on, and before an end: it is such a number, or declared with a set of such numbers.
abbrev pub is_set_from : ℤ → ℤ → Option Variable → Bool
is_set_from first end None = false
is_set_from first end (Some variable) = nat_lt 0 (length variable.set) && (int_le first (least variable.set) && int_lt (greatest variable.set) end)

abbrev pub is_term_from : List Variable → ℤ → ℤ → Term → Bool
is_term_from vs first end (Num value) = int_le first value && int_lt value end
is_term_from vs first end (Var v) = is_set_from first end (slice_get vs v)

-- the number behind so many from a first one on
abbrev pub end_of : ℤ → List ℤ → ℤ
end_of first values = first +ℤ pos (length values)

-- a cover has its values one after the other, and terms have no others
abbrev pub is_closed : List Variable → List Term → List ℤ → Bool
is_closed vs xs [] = false
is_closed vs xs (first ∷ cover) = are_from first (first ∷ cover) && list_all (is_term_from vs first (end_of first (first ∷ cover))) xs

-- as many as a list of a model may have
abbrev pub are_few : List Term → Bool
are_few ts = nat_le (length ts) ELEMENT_LIMIT

-- that terms add up to a number
abbrev pub total : List Term → ℤ → Saying
total ts n = Sum Equal (replicate (length ts) (pos 1)) ts n

-- That terms differ, by their bounds: of inverses the terms of both lists. That a sum of two or three terms is a number, by the numbers of
-- its terms, where the constraint asks for whole domains, and the sum's own propagator doesn't keep them. And that the counts of a closed
-- cover add up to the number of places.
abbrev pub said_once_more : List Variable → Bool → Saying → List Saying
said_once_more vs whole (Differ xs) = DifferByBounds xs ∷ []
said_once_more vs whole (Inverse fs gs) = DifferByBounds fs ∷ DifferByBounds gs ∷ []
said_once_more vs whole (Sum Equal ks ts c) = if whole && (is_short ts && not (is_kept_whole vs ks ts)) then SumByNumbers ks ts c ∷ [] else []
said_once_more vs whole (Count xs cover counts) = if are_few xs && (are_few counts && is_closed vs xs cover) then total counts (pos (length xs)) ∷ [] else []
said_once_more vs whole saying = []

abbrev pub stronger_of : List Variable → Constraint → List Saying
stronger_of vs c = said_once_more vs c.whole (saying_of c)

-- what code says once more
abbrev pub more_by : More → List Saying
more_by more.Nothing = []
more_by (more.One saying) = said_by saying ∷ []
more_by (more.Two first second) = said_by first ∷ said_by second ∷ []
more_by (more.Total ts n) = total ts.now n ∷ []
