use Rattle.std.proofs.Common.{◌<◌, ◌^◌, refl, arith, rules}
use Rattle.std.proofs.lemmas.Int.{ints}
use Rattle.fz_dom.proofs.Heads.{whole_word, is_of_word, lowest_bit, highest_bit}
use Rattle.fz_dom.proofs.head.Head.from_word.Goals as goal

pub returns-clause-whole : goal.returns-clause-whole
returns-clause-whole c =
    let q : c.args.bits < 2 ^ 64 = search rules in
    let a = lowest_bit c.args.bits c.requires.some q in
    let b = highest_bit c.args.bits c.requires.some q in
    let l = a.0 in
    let e = b.1 in
    let f = c.requires.floor in
    let g = c.requires.ceiling in
    whole_word _ c.requires.some
    (is_of_word _ (search rules) (search rules) c.requires.some q (omega (arith, ints)) (omega (arith, ints)) refl)
