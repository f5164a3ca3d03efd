use Rattle.fz_sets.proofs.Lists.{all_left, all_right}
use Rattle.fz_inverse.proofs.Lines.{rested_answer}
use Rattle.fz_inverse.proofs.keep.at_rest.Goals as goal

pub returns : goal.returns
returns c = λ ds.
    let fs = c.args.firsts.now in
    let gs = c.args.seconds.now in
    rw c.rested.ensures
    (rested_answer c.are_all_fixed.result fs gs ds c.args.store.now.doms (all_left _ fs gs c.requires.terms) (all_right _ fs gs c.requires.terms) c.are_all_fixed.ensures.firsts c.are_all_fixed.ensures.seconds
    c.requires.line)
