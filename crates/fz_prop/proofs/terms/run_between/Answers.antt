use Rattle.std.proofs.Common.{◌≤ℤ◌, ◌-ℤ◌, refl, pos, arith, rules, inl, inr, w64}
use mir.Val.{SFits}
use Rattle.std.proofs.lemmas.Int.{ints}
use Rattle.fz_dom.proofs.Nearest.{window_none, window_some}
use Rattle.fz_prop.proofs.terms.run_between.Goals as goal
use Rattle.fz_prop.proofs.terms.run_between.Goals.{then-last-lt0-via-then-last-lt0, then-last-lt0-via-else-last-lt0+then-first-gt63}

pub returns-then-last-lt0 : goal.returns-then-last-lt0
returns-then-last-lt0 c = λ i l. window_none c.args.low c.args.high c.args.base i l (elim c.then-last-lt0.branch [
  | then-last-lt0-via-then-last-lt0 w ↦ inl (let t = w.if-last-lt0.true in omega (arith, ints))
  | then-last-lt0-via-else-last-lt0+then-first-gt63 w ↦ inr (let t = w.if-first-gt63.true in omega (arith, ints))
])

pub returns : goal.returns
returns c =
    let f = c.args.low -ℤ c.args.base in
    let l = c.args.high -ℤ c.args.base in
    let ff : SFits w64 f = omega (arith, ints) in
    let lf : SFits w64 l = omega (arith, ints) in
    let a : pos 0 ≤ℤ l = search rules in
    let b : f ≤ℤ pos 63 = search rules in
    window_some c.args.low c.args.high c.args.base f l c.place_of.result c.place_of-2.result c.run_of.result refl refl a b
    (search rules) (search rules) (search rules) (search rules) c.run_of.ensures
