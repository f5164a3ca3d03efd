use Rattle.std.proofs.Common.{rules}
use Rattle.fz_strength.specs.Domains.{term_set}
use Rattle.fz_strength.specs.Memberships.{LiesOutside}
use Rattle.fz_rel.proofs.Shown.{shown_outside}
use Rattle.fz_rel.proofs.seen.are_apart.Goals as goal

pub returns-in-Some-clause-shown : goal.returns-in-Some-clause-shown
returns-in-Some-clause-shown c = λ shown.
    let ds = c.args.store.now.doms in
    let outside : LiesOutside (term_set ds c.args.x) (term_set ds c.args.y) = shown_outside c.args.x c.args.y ds c.requires.x c.requires.y c.doms.ensures.store.domains shown in
    search rules

pub returns-in-Some-window_of-clause-shown : goal.returns-in-Some-window_of-clause-shown
returns-in-Some-window_of-clause-shown c = λ shown.
    let ds = c.args.store.now.doms in
    let outside : LiesOutside (term_set ds c.args.x) (term_set ds c.args.y) = shown_outside c.args.x c.args.y ds c.requires.x c.requires.y c.doms.ensures.store.domains shown in
    c.misses.ensures.1 (λ z bit i. outside z ((c.in-Some-window_of.ensures.numbers z).0 bit) i)

pub returns-in-Some-window_of-2-clause-shown : goal.returns-in-Some-window_of-2-clause-shown
returns-in-Some-window_of-2-clause-shown c = λ shown.
    let ds = c.args.store.now.doms in
    let outside : LiesOutside (term_set ds c.args.x) (term_set ds c.args.y) = shown_outside c.args.x c.args.y ds c.requires.x c.requires.y c.doms.ensures.store.domains shown in
    c.misses-in-Some-window_of-2.ensures.1 (λ z bit i. outside z i ((c.in-Some-window_of-2.ensures.numbers z).0 bit))

pub returns-in-None-clause-apart : goal.returns-in-None-clause-apart
returns-in-None-clause-apart c = λ is.
    let ds = c.args.store.now.doms in
    shown_outside c.args.x c.args.y ds c.requires.x c.requires.y c.doms.ensures.store.domains
    ((c.is_shown.ensures (term_set ds c.args.x) (term_set ds c.args.y) c.ends_of.ensures c.ends_of-in-None.ensures).0 is)
