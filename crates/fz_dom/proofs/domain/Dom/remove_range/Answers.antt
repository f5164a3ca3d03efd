use Rattle.std.proofs.Common.{◌<ℤ◌, ◌+ℤ◌, ◌-ℤ◌, pos, to_z, of_z, w32, refl, arith, rules}
use Rattle.std.proofs.lemmas.Int.{ints}
use Rattle.fz_dom.specs.Changes.{IsFromTo, IsChange}
use Rattle.fz_dom.proofs.Changes.{change_as, cut_as}
use Rattle.fz_dom.proofs.Kept.{seen, bounds_of, none_seen, some_seen, kept_below, kept_above, fits_below, fits_above}
use Rattle.std.proofs.lemmas.Result.{IfOk-weaker}
use mir.Val.{SFits}
use Rattle.fz_dom.proofs.domain.Dom.remove_range.Goals as goal
use Rattle.fz_dom.proofs.domain.Dom.remove_range.Goals.{then-high-low-via-then-high-low, then-high-low-via-else-high-low+then-high-self, then-high-low-via-else-high-low+else-high-self+then-self-low, then-self-eq0, else-self-eq0}

pub returns-then-high-low-clause-change : goal.returns-then-high-low-clause-change
returns-then-high-low-clause-change c =
    let d = c.args.self.now in
    let h = c.self.inside.head in
    let rest = c.self.inside.rest.items in
    let k = c.self.invariant in
    let f = seen h rest d k c.self.view_is in
    let li = f.low_is in let hi = f.high_is in
    let e = bounds_of h d f in
    elim c.if-self-eq0.branch [
      | then-self-eq0 w ↦ rw w.result-is (refl, λ x i p. none_seen h d f (let t = w.if-self-eq0.true in omega arith) x i)
      | else-self-eq0 w ↦ rw w.result-is (
        refl,
        (λ x i m. let o = e x i in let o0 = o.0 in let o1 = o.1 in let m0 = m.0 in let m1 = m.1 in
            elim c.then-high-low.branch [
              | then-high-low-via-then-high-low w ↦ (let t = w.if-high-low.true in omega (arith, ints))
              | then-high-low-via-else-high-low+then-high-self w ↦ (let t = w.if-high-self.true in omega (arith, ints))
              | then-high-low-via-else-high-low+else-high-self+then-self-low w ↦ (let t = w.if-self-low.true in omega (arith, ints))
            ]),
        some_seen h d f (let t = w.if-self-eq0.false in omega arith),
      )
    ]

pub returns-then-low-self-clause-change : goal.returns-then-low-self-clause-change
returns-then-low-self-clause-change c =
    let d = c.args.self.now in
    let h = c.self.inside.head in
    let rest = c.self.inside.rest.items in
    let k = c.self.invariant in
    let f = seen h rest d k c.self.view_is in
    let li = f.low_is in let hi = f.high_is in
    let e = bounds_of h d f in
    (refl, λ x i p. p (let o = e x i in let o0 = o.0 in let o1 = o.1 in let t = c.if-low-self.true in let u = c.if-self-high.true in (omega (arith, ints), omega (arith, ints))))

pub returns-then-self-high-clause-change : goal.returns-then-self-high-clause-change
returns-then-self-high-clause-change c =
    let d = c.args.self.now in
    let h = c.self.inside.head in
    let rest = c.self.inside.rest.items in
    let k = c.self.invariant in
    let f = seen h rest d k c.self.view_is in
    let l : h.low <ℤ c.args.low = (let t = c.if-low-self.false in omega (arith, ints)) in
    let s : SFits w32 (c.args.low -ℤ pos 1) = fits_below h.low c.args.low l c.ranges.low (search rules) in
    change_as c.keep_range.result (λ x. IsFromTo (to_z w32 (of_z w32 h.low)) (to_z w32 (of_z w32 (to_z w32 (of_z w32 c.args.low) -ℤ pos 1))) x) (λ x. IsFromTo c.args.low c.args.high x → ⊥) d c.keep_range.new.self
    (λ x i. kept_below h d c.args.low c.args.high _ _ x f i (search rules) (search rules) (let t = c.if-self-high.true in omega (arith, ints))) c.keep_range.ensures.change

pub returns-then-low-self-2-clause-change : goal.returns-then-low-self-2-clause-change
returns-then-low-self-2-clause-change c =
    let d = c.args.self.now in
    let h = c.self.inside.head in
    let rest = c.self.inside.rest.items in
    let k = c.self.invariant in
    let f = seen h rest d k c.self.view_is in
    let l : c.args.high <ℤ h.high = (let t = c.if-self-high.false in omega (arith, ints)) in
    let s : SFits w32 (c.args.high +ℤ pos 1) = fits_above h.high c.args.high l c.ranges.high (search rules) in
    change_as c.keep_range-then-low-self-2.result (λ x. IsFromTo (to_z w32 (of_z w32 (to_z w32 (of_z w32 c.args.high) +ℤ pos 1))) (to_z w32 (of_z w32 h.high)) x) (λ x. IsFromTo c.args.low c.args.high x → ⊥) d c.keep_range-then-low-self-2.new.self
    (λ x i. kept_above h d c.args.low c.args.high _ _ x f i (search rules) (search rules) (let t = c.if-low-self-2.true in omega (arith, ints))) c.keep_range-then-low-self-2.ensures.change

pub returns-clause-change : goal.returns-clause-change
returns-clause-change c =
    IfOk-weaker c.cut.result (λ r. IsChange r (λ x. IsFromTo (to_z w32 (of_z w32 c.args.low)) (to_z w32 (of_z w32 c.args.high)) x → ⊥) c.args.self.now c.cut.new.self)
    (λ r. IsChange r (λ x. IsFromTo c.args.low c.args.high x → ⊥) c.args.self.now c.cut.new.self)
    (λ r p. cut_as r c.args.low c.args.high _ _ c.args.self.now c.cut.new.self p (search rules) (search rules)) c.cut.ensures.change
