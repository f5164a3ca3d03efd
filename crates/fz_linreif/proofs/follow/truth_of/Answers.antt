use Rattle.std.proofs.Common.{rules, ◌≡◌}
use Rattle.std.specs.Prelude.{pos}
use Rattle.fz_prop.proofs.Reifying.{zero_left}
use Rattle.fz_linreif.proofs.follow.truth_of.Goals as goal

pub returns-in-Some : goal.returns-in-Some
returns-in-Some c =
    let other : c.in-Some.field-0 ≡ pos 1 → ⊥ = search rules in
    zero_left c.args.store.now.doms c.args.r c.in-Some.field-0 c.requires.truth c.in-Some.ensures other
