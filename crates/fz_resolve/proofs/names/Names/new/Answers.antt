use Rattle.std.proofs.Common.{ap}
use Rattle.std.specs.Prelude.{option_map}
use Rattle.std.specs.Ordering.{nat_cmp, ordering_then}
use Rattle.std.specs.Cmp.Lexicographic.{slice_cmp}
use Rattle.std.specs.BTreeMap.{is_at}
use Rattle.std.specs.Map.{lookup}
use Rattle.fz_resolve.specs.Meant.{meant, tail_from}
use Rattle.fz_resolve.proofs.names.Names.new.Goals as goal

pub returns : goal.returns
returns c = λ i name. ap (λ es. option_map meant (lookup (is_at (λ k. ordering_then (nat_cmp (tail_from 0 name) k.0) (slice_cmp nat_cmp name k.1.now))) es)) c.new.ensures.empty i
