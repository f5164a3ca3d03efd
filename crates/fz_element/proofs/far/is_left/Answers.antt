use Rattle.std.proofs.Common.{rules}
use Rattle.std.proofs.Math.Facts.{to_z-of_z}
use mir.Val.{SFits}
use mir.Syntax.{w32}
use Rattle.fz_sets.specs.Sets.{IsInSet}
use Rattle.fz_sets.proofs.Lists.{all_at}
use Rattle.fz_strength.specs.Domains.{term_set}
use Rattle.fz_element.specs.Selecting.{IsSeen}
use Rattle.fz_element.proofs.far.is_left.Goals as goal

pub returns-in-Some : goal.returns-in-Some
returns-in-Some c =
    let fits : SFits w32 c.args.number = search rules in
    let found = rw (to_z-of_z fits) at c.in-Some.ensures in
    let has = rw (to_z-of_z fits) at c.has.ensures in
    let seen = all_at (IsSeen (λ x. IsInSet (term_set c.args.store.now.doms c.args.term) x)) c.args.windows.now found.0.0 c.in-Some.window c.requires.windows found.0.1 c.args.number found.1 found.2 in
    (λ yes. seen.0 (has.0 yes), λ is. has.1 (seen.1 is))
