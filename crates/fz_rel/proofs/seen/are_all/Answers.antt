use Rattle.fz_strength.specs.Domains.{term_set}
use Rattle.fz_prop.proofs.Filled.{term_ranges}
use Rattle.fz_rel.proofs.Shown.{shown_true}
use Rattle.fz_rel.proofs.seen.are_all.Goals as goal

pub returns-in_default-clause-all : goal.returns-in_default-clause-all
returns-in_default-clause-all c = λ is u w in_x in_y.
    let ds = c.args.store.now.doms in
    let has_x = term_ranges ds c.args.x c.requires.x c.doms.ensures.store.domains in
    let has_y = term_ranges ds c.args.y c.requires.y c.doms.ensures.store.domains in
    shown_true c.args.relation (term_set ds c.args.x) (term_set ds c.args.y) u w has_x has_y
    ((c.is_shown.ensures (term_set ds c.args.x) (term_set ds c.args.y) c.ends_of.ensures c.ends_of-in_default.ensures).0 is) in_x in_y
