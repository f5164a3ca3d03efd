use Rattle.std.proofs.Common.{refl, arith, inl, inr, rules}
use Rattle.std.proofs.lemmas.Int.{ints, clamps}
use Rattle.fz_dom.proofs.Changes.{inside, some_of_size, none_of_zero, ends_in, part_from_to}
use Rattle.fz_dom.proofs.head.Head.keep_range.Goals as goal
use Rattle.fz_dom.proofs.head.Head.keep_range.Goals.{then-high-self-via-then-high-self, then-high-self-via-else-high-self+then-self-low, then-high-self-via-else-high-self+else-self-low+then-high-low, then-high-self-via-else-high-self+else-self-low+else-high-low+then-self-eq0, else-low-self-via-then-low-self+else-self-high, else-low-self-via-else-low-self}

pub returns-then-high-self-clause-change : goal.returns-then-high-self-clause-change
returns-then-high-self-clause-change c = (
  refl,
  λ x i m.
      let h = c.args.self.now in
      let p = inside h c.requires.whole x i in
      let a = p.0 in let b = p.1 in let d = m.0 in let e = m.1 in
      elim c.then-high-self.branch [
        | then-high-self-via-then-high-self w ↦ (let t = w.if-high-self.true in omega (arith, ints))
        | then-high-self-via-else-high-self+then-self-low w ↦ (let t = w.if-self-low.true in omega (arith, ints))
        | then-high-self-via-else-high-self+else-self-low+then-high-low w ↦ (let t = w.if-high-low.true in omega (arith, ints))
        | then-high-self-via-else-high-self+else-self-low+else-high-low+then-self-eq0 w ↦ none_of_zero h c.requires.whole (let t = w.if-self-eq0.true in omega arith) x i
      ],
)

pub returns-then-self-high-clause-change : goal.returns-then-self-high-clause-change
returns-then-self-high-clause-change c =
    let h = c.args.self.now in (
      refl,
      λ x i. (let p = inside h c.requires.whole x i in let a = p.0 in let b = p.1 in let t = c.if-low-self.true in let u = c.if-self-high.true in (omega (arith, ints), omega (arith, ints))),
      some_of_size h c.requires.whole (let t = c.if-self-eq0.false in omega arith),
    )

pub keep_part-requires-clause-order : goal.keep_part-requires-clause-order
keep_part-requires-clause-order c =
    let h = c.args.self.now in
    let p = inside h c.requires.whole h.low (ends_in h c.requires.whole (let t = c.if-self-eq0.false in omega arith)).0 in
    let b = p.1 in
    let t = c.if-high-self.false in let u = c.if-self-low.false in let v = c.if-high-low.false in
    omega (arith, ints, clamps)

pub keep_part-requires-clause-part : goal.keep_part-requires-clause-part
keep_part-requires-clause-part c = elim c.else-low-self.branch [
  | else-low-self-via-then-low-self+else-self-high w ↦ inr (let t = w.if-self-high.false in omega (arith, ints, clamps))
  | else-low-self-via-else-low-self w ↦ inl (let t = w.if-low-self.false in omega (arith, ints, clamps))
]

pub returns-clause-change : goal.returns-clause-change
returns-clause-change c =
    part_from_to c.args.self.now c.keep_part.new.self c.keep_part.result c.args.low c.args.high _ _ c.requires.whole (search rules) (search rules) c.keep_part.ensures.change
