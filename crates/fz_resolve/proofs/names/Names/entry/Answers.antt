use Rattle.std.proofs.Common.{ℕ, List, ap, ap₂, ◌∙◌}
use Rattle.std.specs.Prelude.{option_map}
use Rattle.std.specs.Ordering.{nat_cmp, ordering_then}
use Rattle.std.specs.Cmp.Lexicographic.{slice_cmp}
use Rattle.std.specs.BTreeMap.{get_by}
use Rattle.fz_resolve.specs.Meant.{meant}
use Rattle.fz_resolve.proofs.names.Names.entry.Goals as goal

pub returns : goal.returns
returns c =
    ap (option_map meant)
    (c.get.ensures.value ∙ ap₂ (λ (t : ℕ) (ks : List ℕ). get_by (λ k. ordering_then (nat_cmp t k.0) (slice_cmp nat_cmp ks k.1.now)) c.args.self.now.known) c.key_of.ensures.tail c.key_of.ensures.bytes)
