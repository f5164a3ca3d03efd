use Rattle.std.proofs.Common.{◌≡◌, ◌<◌, ◌≤ℤ◌, ◌+ℤ◌, ℕ, pos, length, ◌-◌, get_or, to_z, of_z, w32, inl, inr, lit<, arith, rules}
use Rattle.std.specs.Prelude.{◌↔◌}
use Rattle.std.proofs.lemmas.Int.{ints, clamps}
use Rattle.std.specs.Int.{bit_at, int_min}
use Rattle.fz_sets.specs.Sets.{IsInSet}
use Rattle.fz_dom.specs.declared.head.Head.{Head}
use Rattle.fz_dom.specs.Heads.{head_set, IsHeadOf}
use Rattle.fz_dom.proofs.Kept.{of_list, of_narrow, list_ends}
use Rattle.fz_dom.proofs.head.Head.of.Goals as goal
use Rattle.fz_dom.proofs.head.Head.of.Goals.{then-ranges-eq1-via-then-ranges-eq1, then-ranges-eq1-via-else-ranges-eq1+then-abs_diff-ge64}

pub returns-then-ranges-eq1-clause-head : goal.returns-then-ranges-eq1-clause-head
returns-then-ranges-eq1-clause-head c =
    let r = c.requires in
    of_list _ c.args.ranges.now r.ranges r.within r.some (search rules) (search rules) c.size_of-size.ensures (omega (arith, ints)) (omega (arith, ints)) (lit< tt)

pub returns-then-ranges-eq1-clause-wide : goal.returns-then-ranges-eq1-clause-wide
returns-then-ranges-eq1-clause-wide c = inr (elim c.then-ranges-eq1.branch [
  | then-ranges-eq1-via-then-ranges-eq1 w ↦ inl (let t = w.if-ranges-eq1.true in omega arith)
  | then-ranges-eq1-via-else-ranges-eq1+then-abs_diff-ge64 w ↦ inr (let r = c.requires in let e = list_ends c.args.ranges.now r.ranges r.within r.some in let e0 = e.0 in let t = w.if-abs_diff-ge64.true in omega (arith, ints))
])

abbrev made : goal.After-word_of-bits → Head
made c =
    let rs = c.args.ranges.now in
    record {
      low = to_z w32 (of_z w32 (get_or rs 0 (pos 0, pos 0)).0);
      high = to_z w32 (of_z w32 (get_or rs (length rs - 1) (pos 0, pos 0)).1);
      base = to_z w32 (of_z w32 c.min-base.result);
      size = c.size_of-size.result;
      bits = c.word_of-bits.result;
    }

headed : (c : goal.After-word_of-bits) → IsHeadOf (made c) c.args.ranges.now
headed c =
    let r = c.requires in
    let rs = c.args.ranges.now in
    let e = list_ends rs r.ranges r.within r.some in
    let e0 = e.0 in let e1 = e.1 in let e2 = e.2 in
    of_list (made c) rs r.ranges r.within r.some (search rules) (search rules) c.size_of-size.ensures (omega (arith, ints, clamps)) (omega (arith, ints, clamps)) (search rules)

narrowed : (c : goal.After-word_of-bits) → (head_set (made c) ≡ c.args.ranges.now) × (0 < c.word_of-bits.result)
narrowed c =
    let r = c.requires in
    let rs = c.args.ranges.now in
    let e = list_ends rs r.ranges r.within r.some in
    let e0 = e.0 in let e1 = e.1 in let e2 = e.2 in
    let h : Head = made c in
    let t = c.if-abs_diff-ge64.false in
    let n : h.high ≤ℤ (h.low +ℤ pos 63) = omega (arith, ints) in
    let b : h.base ≡ int_min h.low (pos 2147483583) = omega (arith, ints, clamps) in
    let g : (i : ℕ) → i < 64 → (bit_at h.bits i ≡ 1) ↔ IsInSet rs (h.base +ℤ pos i) = search (rules, c.word_of-bits.ensures) in
    of_narrow h rs (headed c) r.some b n g

pub returns-clause-head : goal.returns-clause-head
returns-clause-head c = headed c

pub returns-clause-word : goal.returns-clause-word
returns-clause-word c = λ p. (narrowed c).0

pub returns-clause-wide : goal.returns-clause-wide
returns-clause-wide c = inl (narrowed c).1
