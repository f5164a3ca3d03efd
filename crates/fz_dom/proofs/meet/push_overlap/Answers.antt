use Rattle.std.proofs.Common.{ℤ, List, ◌++◌, append-nil, sym, ap, ◌∙◌, arith, rules}
use Rattle.std.proofs.lemmas.Int.{ints, clamps}
use Rattle.std.specs.Int.{int_max, int_min}
use Rattle.fz_dom.proofs.Shared.{overlap_some, overlap_none}
use Rattle.fz_dom.proofs.meet.push_overlap.Goals as goal

pub returns-then-low-high : goal.returns-then-low-high
returns-then-low-high c =
    let l = int_max c.args.range.0 c.args.other.0 in
    let u = int_min c.args.range.1 c.args.other.1 in
    sym (append-nil c.args.kept.now.items) ∙ ap (λ (t : List (ℤ × ℤ)). c.args.kept.now.items ++ t)
    (overlap_none l u (let t = c.if-low-high.true in omega (arith, ints, clamps)))

pub returns : goal.returns
returns c =
    let l = int_max c.args.range.0 c.args.other.0 in
    let u = int_min c.args.range.1 c.args.other.1 in
    c.in_ok-push.ensures.ok ∙ ap (λ (t : List (ℤ × ℤ)). c.args.kept.now.items ++ t)
    (overlap_some l u _ _ (let t = c.if-low-high.false in omega (arith, ints, clamps)) (search rules) (search rules))
