use Rattle.std.proofs.Common.{◌≡◌, ◌∙◌, sym, [], ◌<◌, ◌≤ℤ◌, rules, arith, w32, to_z, of_z}
use Rattle.std.proofs.lemmas.Int.{ints}
use Rattle.fz_sets.specs.Sets.{set_size}
use Rattle.fz_dom.specs.Shape.{IsDomain, least, greatest}
use Rattle.fz_dom.proofs.Ranges.{upper_bound, none_of_size, least_member, nonempty_of_size}
use Rattle.std.proofs.lemmas.Bool.Decides.{nat_tests}
use Rattle.fz_dom.specs.Heads.{head_set}
use Rattle.fz_dom.proofs.Kept.{nil_of, small_whole, small_ranges, next_as}
use Rattle.fz_dom.proofs.domain.Dom.next_from.Goals as goal
use Rattle.fz_dom.proofs.domain.Dom.next_from.Goals.{then-self-eq0-via-then-self-eq0, then-self-eq0-via-else-self-eq0+then-value-self}

pub returns-then-self-eq0-clause-next : goal.returns-then-self-eq0-clause-next
returns-then-self-eq0-clause-next c = λ z i.
    let d : IsDomain c.args.self.now = search rules in
    let n : c.self.inside.head.size ≡ set_size c.args.self.now = search rules in
    let e : to_z w32 (of_z w32 c.self.inside.head.high) ≡ greatest c.args.self.now = search rules in
    let none = none_of_size c.args.self.now d.0 in
    let u = upper_bound c.args.self.now z d.0 i in
    elim c.then-self-eq0.branch [
      | then-self-eq0-via-then-self-eq0 w ↦ (let t = w.if-self-eq0.true in absurd (none.0 (omega arith) z i))
      | then-self-eq0-via-else-self-eq0+then-value-self w ↦ (let t = w.if-value-self.true in omega (arith, ints))
    ]

pub returns-then-value-self-2-clause-next : goal.returns-then-value-self-2-clause-next
returns-then-value-self-2-clause-next c =
    let d : IsDomain c.args.self.now = search rules in
    let n : c.self.inside.head.size ≡ set_size c.args.self.now = search rules in
    let e : to_z w32 (of_z w32 c.self.inside.head.low) ≡ least c.args.self.now = search rules in
    let some : 0 < set_size c.args.self.now = omega arith in
    let m = least_member c.args.self.now (nonempty_of_size c.args.self.now some) d.0 in
    let le : c.args.value ≤ℤ least c.args.self.now = grind (arith, ints) in
    rw e (m.0, le, λ z i _. m.1 z i)

pub next_from-requires-clause-whole : goal.next_from-requires-clause-whole
next_from-requires-clause-whole c =
    let rest = c.self.inside.rest.items in
    let e : rest ≡ [] = nil_of rest (let t = c.if-is_empty.true in grind (arith, nat_tests)) in
    small_whole c.self.inside.head rest e c.self.invariant

pub returns-then-is_empty-clause-next : goal.returns-then-is_empty-clause-next
returns-then-is_empty-clause-next c =
    let h = c.self.inside.head in
    let rest = c.self.inside.rest.items in
    let e : rest ≡ [] = nil_of rest (let t = c.if-is_empty.true in grind (arith, nat_tests)) in
    let g : head_set h ≡ c.args.self.now = sym (small_ranges h rest e) ∙ c.self.view_is in
    next_as c.args.self.now (head_set h) c.args.value _ _ _ c.next_from.ensures g (search rules) (search rules)
