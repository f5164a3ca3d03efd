use Rattle.std.proofs.Common.{◌≡◌, ◌+ℤ◌, pos, rules, arith, w32, to_z, of_z}
use Rattle.std.proofs.lemmas.Int.{ints}
use Rattle.fz_sets.specs.Sets.{set_size}
use Rattle.fz_dom.specs.Shape.{IsDomain, greatest}
use Rattle.fz_dom.proofs.Ranges.{upper_bound, none_of_size}
use mir.Val.{SFits}
use Rattle.fz_dom.proofs.Kept.{above_next}
use Rattle.fz_dom.proofs.domain.Dom.next_above.Goals as goal
use Rattle.fz_dom.proofs.domain.Dom.next_above.Goals.{then-self-eq0-via-then-self-eq0, then-self-eq0-via-else-self-eq0+then-value-self}

pub returns-then-self-eq0-clause-next : goal.returns-then-self-eq0-clause-next
returns-then-self-eq0-clause-next c = λ z i.
    let d : IsDomain c.args.self.now = search rules in
    let n : c.self.inside.head.size ≡ set_size c.args.self.now = search rules in
    let e : to_z w32 (of_z w32 c.self.inside.head.high) ≡ greatest c.args.self.now = search rules in
    let none = none_of_size c.args.self.now d.0 in
    let u = upper_bound c.args.self.now z d.0 i in
    elim c.then-self-eq0.branch [
      | then-self-eq0-via-then-self-eq0 w ↦ (let t = w.if-self-eq0.true in absurd (none.0 (omega arith) z i))
      | then-self-eq0-via-else-self-eq0+then-value-self w ↦ (let t = w.if-value-self.true in omega (arith, ints))
    ]

pub returns-clause-next : goal.returns-clause-next
returns-clause-next c =
    let s : SFits w32 (c.args.value +ℤ pos 1) = (let t = c.if-value-self.false in omega (arith, ints)) in
    above_next c.next_from.result c.args.self.now c.args.value _ c.next_from.ensures.next (search rules)
