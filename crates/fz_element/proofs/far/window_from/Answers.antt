use Rattle.std.proofs.Common.{rules}
use Rattle.fz_sets.specs.Sets.{IsInSet}
use Rattle.fz_strength.specs.Domains.{term_set}
use Rattle.std.proofs.Math.Facts.{to_z-of_z}
use mir.Val.{SFits}
use mir.Syntax.{w32}
use Rattle.fz_element.proofs.Pairing.{seen_from}
use Rattle.fz_element.proofs.far.window_from.Goals as goal

pub returns : goal.returns
returns c =
    let fits : SFits w32 c.args.base = search rules in
    let ones = rw (to_z-of_z fits) at c.word_of-bits.ensures in
    rw (to_z-of_z fits) (seen_from (λ x. IsInSet (term_set c.args.store.now.doms c.args.term) x) c.args.base c.word_of-bits.result ones)
