-- All counts of a cover together: how the places lie to its values, and what the sum of the counts says.
use Rattle.std.specs.Prelude.{◌≡◌, ◌↔◌, ℕ, ◌+◌, ◌≤◌, ℤ, pos, ◌+ℤ◌, ◌-ℤ◌, neg_ℤ, ◌^◌, ◌≤ℤ◌, ◌<ℤ◌, List, [], ◌∷◌, ◌⊎◌, count_by}
use Rattle.std.specs.Ordering.{int_eq}
use Rattle.std.specs.List.{AllByRecursion}
use Rattle.fz_bits.specs.declared.window.Window.{Window}
use Rattle.fz_bits.specs.Windows.{IsBit}
use Rattle.fz_sets.specs.Sets.{IsInSet, LEAST, GREATEST}
use Rattle.fz_dom.specs.Changes.{IsFromTo}
use Rattle.fz_dom.specs.Shape.{least, greatest}
use Rattle.fz_spec.specs.declared.term.Term.{Term}
use Rattle.fz_spec.specs.Constraints.{term_value}
use Rattle.fz_strength.specs.Domains.{term_set}
use Rattle.fz_counts.specs.declared.cover.Cover.{Cover}
use Rattle.fz_counts.specs.declared.ends.Slack.{Slack}
use Rattle.fz_counts.specs.declared.places.Choice.{Choice}
use Rattle.fz_counts.specs.declared.places.Choice.TheVariants.{Without, With}
use Rattle.fz_counts.specs.declared.standing.Standing.{Standing}
use Rattle.fz_counts.specs.declared.standing.Standing.TheVariants.{Outside, Mixed, Inside}

-- ---- covers

-- a number is one of a window's
abbrev pub IsOf : Window → ℤ → Type 0
IsOf w x = IsBit w.base w.bits x

-- the numbers of a window are within the limits
abbrev pub IsWithin : Window → Type 0
IsWithin w = (LEAST ≤ℤ w.base) × ((w.base +ℤ pos 63) ≤ℤ GREATEST)

-- Each number stands in a list at most once, and those of the window do.
pub record IsWindowOf (w : Window) (values : List ℤ) : Type 0 where
  pub once : (x : ℤ) → count_by (int_eq x) values ≤ 1
  pub numbers : (x : ℤ) → IsOf w x ↔ (count_by (int_eq x) values ≡ 1)

-- All numbers from a window's base to the one before this are numbers of it.
abbrev pub IsGap : Window → ℤ → Type 0
IsGap w gap = (x : ℤ) → w.base ≤ℤ x → x <ℤ gap → IsOf w x

pub record IsSound (c : Cover) : Type 0 where
  pub within : IsWithin c.window
  pub gap : IsGap c.window c.gap

pub record IsCoverOf (c : Cover) (values : List ℤ) : Type 0 where
  pub sound : IsSound c
  pub holds : IsWindowOf c.window values

-- ---- terms

-- all that is left of a term are values of the cover; none is
abbrev pub IsInside : Cover → List (List (ℤ × ℤ)) → Term → Type 0
IsInside c ds t = (x : ℤ) → IsInSet (term_set ds t) x → IsOf c.window x

abbrev pub IsOutside : Cover → List (List (ℤ × ℤ)) → Term → Type 0
IsOutside c ds t = (x : ℤ) → IsInSet (term_set ds t) x → IsOf c.window x → ⊥

-- some are
abbrev pub MayCount : Cover → List (List (ℤ × ℤ)) → Term → Type 0
MayCount c ds t = IsOutside c ds t → ⊥

abbrev pub IsMixed : Cover → List (List (ℤ × ℤ)) → Term → Type 0
IsMixed c ds t = (IsInside c ds t → ⊥) × MayCount c ds t

abbrev pub Stands : Standing → Cover → List (List (ℤ × ℤ)) → Term → Type 0
Stands Outside c ds t = (IsInside c ds t → ⊥) × IsOutside c ds t
Stands Mixed c ds t = IsMixed c ds t
Stands Inside c ds t = IsInside c ds t × MayCount c ds t

-- so many terms have a property
abbrev pub AreSoMany : (Term → Type 0) → List Term → ℕ → Type 0
AreSoMany P [] n = n ≡ 0
AreSoMany P (t ∷ ts) n = (P t × ((m : ℕ) × (n ≡ m + 1) × AreSoMany P ts m)) ⊎ ((P t → ⊥) × AreSoMany P ts n)

-- an assignment lets a mixed term have a value of the cover, or none, and all terms that are
abbrev pub Takes : Choice → Cover → ℤ → Type 0
Takes Without c x = IsOf c.window x → ⊥
Takes With c x = IsOf c.window x

abbrev pub Sides : Choice → Cover → List (List (ℤ × ℤ)) → List ℤ → Term → Type 0
Sides choice c ds a t = IsMixed c ds t → Takes choice c (term_value a t)

abbrev pub AllSide : Choice → Cover → List Term → List (List (ℤ × ℤ)) → List ℤ → Type 0
AllSide choice c xs ds a = AllByRecursion (Sides choice c ds a) xs

-- ---- sums

abbrev pub sum_of : (Term → ℤ) → List Term → ℤ
sum_of f [] = pos 0
sum_of f (t ∷ ts) = f t +ℤ sum_of f ts

abbrev pub lowest : List (List (ℤ × ℤ)) → List Term → ℤ
lowest ds ts = sum_of (λ t. least (term_set ds t)) ts

abbrev pub highest : List (List (ℤ × ℤ)) → List Term → ℤ
highest ds ts = sum_of (λ t. greatest (term_set ds t)) ts

-- what a sum of numbers of 32 bits can be, if 64 bits tell how many there are
abbrev pub IsSum : ℤ → Type 0
IsSum n = (neg_ℤ (pos (2 ^ 96)) ≤ℤ n) × (n ≤ℤ pos (2 ^ 96))

-- a number lies at most so far above the least that is left of a term, and at most so far below the greatest
abbrev pub IsNearEnds : Slack → List (ℤ × ℤ) → ℤ → Type 0
IsNearEnds slack d x = IsFromTo (greatest d -ℤ slack.below) (least d +ℤ slack.above) x

-- an assignment gives each term such a number
abbrev pub AllNear : Slack → List Term → List (List (ℤ × ℤ)) → List ℤ → Type 0
AllNear slack ts ds a = AllByRecursion (λ (t : Term). IsNearEnds slack (term_set ds t) (term_value a t)) ts
