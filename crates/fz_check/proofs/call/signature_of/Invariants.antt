use Rattle.std.proofs.Common.{◌≡◌, take, map, length, List, None}
use Rattle.std.specs.Prelude.{find, ◌==◌}
use Rattle.fz_spec.specs.declared.asked.Asked.{Asked}
use Rattle.fz_check.proofs.call.signature_of.Given as goal

-- none so far has the length
abbrev pub invariant-loop-signature : goal.invariant-loop-signature
invariant-loop-signature l = find (λ (asked : List Asked). length asked == l.arity) (map (λ s. s.now) (take l.signature-index l.signatures)) ≡ None
