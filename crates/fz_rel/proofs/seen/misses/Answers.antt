use Rattle.std.proofs.Common.{◌<◌, ◌^◌, rules, w32}
use Rattle.std.proofs.Math.Facts.{to_z-of_z}
use Rattle.std.proofs.lemmas.Bool.{eq-eqb, eqb-true}
use mir.Val.{SFits}
use Rattle.fz_sets.specs.Sets.{IsInSet}
use Rattle.fz_strength.specs.Domains.{term_set}
use Rattle.fz_rel.proofs.Missing.{none_if_zero, zero_if_none}
use Rattle.fz_rel.proofs.seen.misses.Goals as goal

pub returns : goal.returns
returns c =
    let left = IsInSet (term_set c.args.store.now.doms c.args.term) in
    let fits : SFits w32 c.args.window.base = search rules in
    let small : c.common.result < 2 ^ 64 = search rules in
    let word = rw (to_z-of_z fits) at c.word_of.ensures in (
      (λ is. none_if_zero c.args.window.base c.args.window.bits c.word_of.result c.common.result left word c.common.ensures (eqb-true c.common.result 0 is)),
      (λ none. eq-eqb c.common.result 0 (zero_if_none c.args.window.base c.args.window.bits c.word_of.result c.common.result left word c.common.ensures small none)),
    )
