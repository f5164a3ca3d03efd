use Rattle.std.proofs.Common.{arith, rules, ◌<◌}
use Rattle.std.proofs.lemmas.Int.{ints}
use Rattle.std.proofs.lemmas.Bool.{false≢true}
use Rattle.fz_dom.proofs.Changes.{inside, none_of_zero, bit_member}
use Rattle.fz_dom.proofs.head.Head.contains.Goals as goal
use Rattle.fz_dom.proofs.head.Head.contains.Goals.{then-value-self-via-then-value-self, then-value-self-via-else-value-self+then-self-value, then-value-self-via-else-value-self+else-self-value+then-self-eq0}

pub returns-then-value-self : goal.returns-then-value-self
returns-then-value-self c = (
  λ t. absurd (false≢true t),
  λ i. absurd (
      let h = c.args.self.now in
      let p = inside h c.requires c.args.value i in
      let a = p.0 in let b = p.1 in
      elim c.then-value-self.branch [
        | then-value-self-via-then-value-self w ↦ (let t = w.if-value-self.true in omega (arith, ints))
        | then-value-self-via-else-value-self+then-self-value w ↦ (let t = w.if-self-value.true in omega (arith, ints))
        | then-value-self-via-else-value-self+else-self-value+then-self-eq0 w ↦ none_of_zero h c.requires (let t = w.if-self-eq0.true in omega arith) c.args.value i
      ]),
)

pub returns-else-self-eq0-2 : goal.returns-else-self-eq0-2
returns-else-self-eq0-2 c =
    let h = c.args.self.now in
    let some : 0 < h.bits = (let t = c.if-self-eq0-2.false in omega arith) in
    let m = bit_member h c.args.value c.place.result c.requires some (search rules) c.place.ensures.below in
    let b = c.has_bit.ensures in
    (λ t. m.0 (b.0 t), λ i. b.1 (m.1 i))
