use Rattle.std.proofs.Common.{◌≡◌, ◌<◌, pos, get_or, length, inl, inr, refl, subst, to_z, of_z, w32, arith, rules}
use Rattle.std.specs.Prelude.{ℤ, ◌-ℤ◌}
use Rattle.std.proofs.lemmas.Int.{ints}
use Rattle.std.proofs.Math.Facts.{to_z-of_z}
use Rattle.fz_sets.specs.Sets.{IsInSet}
use Rattle.fz_dom.specs.Wide.{IsPart}
use Rattle.fz_dom.proofs.Shared.{sharing_start, is_moved, step_mine, step_theirs, sharing_done}
use Rattle.fz_dom.proofs.meet.shared.Goals as goal

pub merge-init : goal.merge-init
merge-init c = rw c.new-kept.ensures.items (sharing_start _ c.args.mine.now c.args.theirs.now c.requires.mine c.requires.within c.requires.theirs)

pub merge-preserved-then-range-other : goal.merge-preserved-then-range-other
merge-preserved-then-range-other c =
    let ms = c.args.mine.now in
    let ts = c.args.theirs.now in
    let i = c.merge.i in
    let j = c.merge.j in
    let li : i < length ms = (let t = c.merge-test.true in omega arith) in
    let lj : j < length ts = (let t = c.if-j-theirs.false in omega arith) in
    let a = get_or ms i (pos 0, pos 0) in
    let b = get_or ts j (pos 0, pos 0) in
    let a0 = to_z w32 (of_z w32 a.0) in
    let a1 = to_z w32 (of_z w32 a.1) in
    let m0 = to_z w32 (of_z w32 c.moved.result) in
    let m1 = to_z w32 (of_z w32 c.moved-in-merge.result) in
    let e0 : a0 ≡ a.0 = search rules in
    let e1 : a1 ≡ a.1 = search rules in
    let f0 : m0 ≡ c.moved.result = search rules in
    let f1 : m1 ≡ c.moved-in-merge.result = search rules in
    let g0 : to_z w32 (of_z w32 b.0) ≡ b.0 = search rules in
    let g1 : to_z w32 (of_z w32 b.1) ≡ b.1 = search rules in
    step_mine _ c.merge.kept.items c.push_overlap.new.kept.items ms ts i j a.0 a.1 m0 m1 li lj c.merge.invariant refl refl
    (is_moved _ b m0 m1 _ _ _ _ _ _ f0 f1 g0 g1 refl refl c.moved.ensures.low c.moved-in-merge.ensures.high)
    c.in_ok-push_overlap.ensures (let t = c.if-range-other.true in omega (arith, ints))

pub merge-preserved : goal.merge-preserved
merge-preserved c =
    let ms = c.args.mine.now in
    let ts = c.args.theirs.now in
    let i = c.merge.i in
    let j = c.merge.j in
    let li : i < length ms = (let t = c.merge-test.true in omega arith) in
    let lj : j < length ts = (let t = c.if-j-theirs.false in omega arith) in
    let a = get_or ms i (pos 0, pos 0) in
    let b = get_or ts j (pos 0, pos 0) in
    let a0 = to_z w32 (of_z w32 a.0) in
    let a1 = to_z w32 (of_z w32 a.1) in
    let m0 = to_z w32 (of_z w32 c.moved.result) in
    let m1 = to_z w32 (of_z w32 c.moved-in-merge.result) in
    let e0 : a0 ≡ a.0 = search rules in
    let e1 : a1 ≡ a.1 = search rules in
    let f0 : m0 ≡ c.moved.result = search rules in
    let f1 : m1 ≡ c.moved-in-merge.result = search rules in
    let g0 : to_z w32 (of_z w32 b.0) ≡ b.0 = search rules in
    let g1 : to_z w32 (of_z w32 b.1) ≡ b.1 = search rules in
    step_theirs _ c.merge.kept.items c.push_overlap.new.kept.items ms ts i j a.0 a.1 m0 m1 li lj c.merge.invariant refl refl
    (is_moved _ b m0 m1 _ _ _ _ _ _ f0 f1 g0 g1 refl refl c.moved.ensures.low c.moved-in-merge.ensures.high)
    c.in_ok-push_overlap.ensures (let t = c.if-range-other.false in omega (arith, ints))

pub returns-then-j-theirs : goal.returns-then-j-theirs
returns-then-j-theirs c =
    let fits = c.ranges.shift in
    subst (λ (s : ℤ). IsPart (λ x. IsInSet c.args.theirs.now (x -ℤ s)) c.args.mine.now c.merge.kept.items) (to_z-of_z fits)
    (sharing_done _ c.merge.kept.items c.args.mine.now c.args.theirs.now c.merge.i c.merge.j c.merge.invariant c.requires.within
    (inr (let t = c.if-j-theirs.true in omega arith)))

pub returns : goal.returns
returns c =
    let fits = c.ranges.shift in
    subst (λ (s : ℤ). IsPart (λ x. IsInSet c.args.theirs.now (x -ℤ s)) c.args.mine.now c.merge.kept.items) (to_z-of_z fits)
    (sharing_done _ c.merge.kept.items c.args.mine.now c.args.theirs.now c.merge.i c.merge.j c.merge.invariant c.requires.within
    (inl (let t = c.merge-test.false in omega arith)))
