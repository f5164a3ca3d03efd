use Rattle.std.proofs.Common.{◌+◌, pos, arith, refl, rules}
use Rattle.std.proofs.lemmas.Int.{ints}
use Rattle.std.proofs.Math.Facts.{to_z-of_z}
use mir.Val.{SFits}
use mir.Syntax.{w32}
use Rattle.fz_sets.specs.Sets.{IsInSet}
use Rattle.fz_strength.specs.Domains.{term_set}
use Rattle.fz_prop.proofs.Grown.{term_limits}
use Rattle.fz_inverse.specs.Pointing.{IsLeft}
use Rattle.fz_inverse.proofs.numbers.number_at.Goals as goal

pub returns-in-None : goal.returns-in-None
returns-in-None c = λ member.
    let above = c.in-None.ensures in
    let within = term_limits c.args.store.now.doms c.args.term (pos (c.args.place + 1)) c.requires.term c.doms.ensures.store.domains c.requires.fits member in
    let to = within.1 in
    omega (arith, ints, above, to)

pub returns-in-Some : goal.returns-in-Some
returns-in-Some c =
    let n = c.in-Some.number in
    let ds = c.args.store.now.doms in
    let fits : SFits w32 n = search rules in
    let here : IsInSet (term_set ds c.args.term) n = rw (to_z-of_z fits) at (c.if-has.ensures.0 refl) in
    let left : IsLeft c.args.place n (term_set ds c.args.term) = record {
      is_place = c.in-Some.ensures;
      left = here;
      within = term_limits ds c.args.term n c.requires.term c.doms.ensures.store.domains c.requires.fits here;
    } in
    rw (to_z-of_z fits) left
