use Rattle.std.proofs.Common.{◌≡◌, ◌<◌, ◌↔◌, ℕ, length, take}
use Rattle.std.specs.Prelude.{IsTrue}
use Rattle.std.specs.List.{list_any}
use Rattle.fz_spec.specs.Instance.{Output}
use Rattle.fz_bits.specs.Members.{HasMember, words_for}
use Rattle.fz_tree.specs.Rows.{is_term}
use Rattle.fz_branch.proofs.shown.shown_in.Given as goal

-- those of the output items so far
abbrev pub invariant-loop-output : goal.invariant-loop-output
invariant-loop-output l =
    ((v : ℕ) → v < l.size → HasMember l.shown v ↔ IsTrue (list_any (λ (o : Output). list_any (is_term v) o.terms) (take l.output-index l.outputs)))
    × (length l.shown ≡ words_for l.size)
