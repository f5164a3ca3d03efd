use Rattle.std.proofs.Common.{◌≡◌, ◌<◌, ◌↔◌, ◌⊎◌, ℕ, length, take}
use Rattle.std.specs.Prelude.{IsTrue}
use Rattle.std.specs.List.{list_any}
use Rattle.fz_bits.specs.Members.{HasMember}
use Rattle.fz_tree.specs.Rows.{is_term}
use Rattle.fz_branch.proofs.shown.mark.Given as goal

-- those among the terms so far
abbrev pub invariant-loop-term : goal.invariant-loop-term
invariant-loop-term l =
    ((v : ℕ) → v < l.size → HasMember l.shown v ↔ (HasMember l.initial.shown v ⊎ IsTrue (list_any (is_term v) (take l.term-index l.terms))))
    × (length l.shown ≡ length l.initial.shown)
