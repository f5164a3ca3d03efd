use Rattle.std.proofs.Common.{◌≡◌, ◌∙◌, ◌<◌, ◌-◌, ◌++◌, ◌∷◌, [], ℤ, ap, sym, arith, length, pos, ◌<ℤ◌, ◌-ℤ◌, rules, to_z, of_z, w32}
use Rattle.std.proofs.Math.Facts.{to_z-of_z}
use Rattle.std.specs.Prelude.{slice_get, Some}
use Rattle.std.proofs.lemmas.Option.{slice_get-get_or}
use Rattle.fz_column.proofs.Growing.{more_filled, more_in, grown_filled, grown_in}
use Rattle.fz_column.proofs.spans.Spans.push.Goals as goal

pub invariant_of-self : goal.invariant_of-self
invariant_of-self c =
    let ranges = c.self.inside.ranges.items in
    let k = c.len-count.result - 1 in
    let r = c.index.result.now in
    let long : c.len-count.result ≡ length ranges = search rules in
    let some : 0 < c.len-count.result = c.if-count-gt0.true in
    let at : slice_get ranges k ≡ Some r = slice_get-get_or ranges k r (omega (arith, long, some)) ∙ ap (λ (q : ℤ × ℤ). Some q) (sym c.index.ensures) in
    let above : r.1 <ℤ c.args.number = search rules in
    let kept : to_z w32 (of_z w32 r.0) ≡ r.0 = search rules in
    rw (kept, to_z-of_z c.ranges.number) (grown_filled ranges k r c.args.number at above c.self.invariant)

pub returns-then-number-high : goal.returns-then-number-high
returns-then-number-high c = λ n.
    let ranges = c.self.inside.ranges.items in
    let k = c.len-count.result - 1 in
    let r = c.index.result.now in
    let long : c.len-count.result ≡ length ranges = search rules in
    let some : 0 < c.len-count.result = c.if-count-gt0.true in
    let at : slice_get ranges k ≡ Some r = slice_get-get_or ranges k r (omega (arith, long, some)) ∙ ap (λ (q : ℤ × ℤ). Some q) (sym c.index.ensures) in
    let above : r.1 <ℤ c.args.number = search rules in
    let kept : to_z w32 (of_z w32 r.0) ≡ r.0 = search rules in
    let next : (c.args.number -ℤ pos 1) ≡ r.1 = search rules in
    rw (← c.self.view_is, kept, to_z-of_z c.ranges.number) (grown_in ranges k r c.args.number n at above next c.self.invariant)

pub invariant_of-self-2 : goal.invariant_of-self-2
invariant_of-self-2 c =
    let old = c.self.inside.ranges.items in
    let now : c.push.new.self.items ≡ old ++ (c.args.number, c.args.number) ∷ [] = search rules in
    rw now (more_filled old c.args.number c.self.invariant)

pub returns : goal.returns
returns c = λ n.
    let old = c.self.inside.ranges.items in
    let now : c.push.new.self.items ≡ old ++ (c.args.number, c.args.number) ∷ [] = search rules in
    rw (← c.self.view_is, now) (more_in old c.args.number n)
