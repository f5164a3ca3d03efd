-- How a domain is kept: its head, and the ranges themselves only where there are several and they are more than 64 wide.
use Rattle.std.specs.Prelude.{◌≡◌, pos, ℤ, ◌+ℤ◌, ◌<ℤ◌, ◌≤◌, ◌⊎◌, List, [], ◌∷◌, length}
use Rattle.fz_dom.specs.Heads.{head_set, IsHeadOf}
use Rattle.fz_dom.specs.declared.head.Head.{Head}

-- the ranges of a domain that is kept as these
abbrev pub kept_ranges : Head → List (ℤ × ℤ) → List (ℤ × ℤ)
kept_ranges h [] = head_set h
kept_ranges h (r ∷ rs) = r ∷ rs

pub record IsKept (h : Head) (rest : List (ℤ × ℤ)) : Type 0 where
  pub head : IsHeadOf h (kept_ranges h rest)
  pub wide : (rest ≡ []) ⊎ ((2 ≤ length rest) × ((h.low +ℤ pos 63) <ℤ h.high))
