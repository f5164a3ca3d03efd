use Rattle.std.proofs.Common.{◌≡◌, ℤ, pos, List, ◌++◌, get_or, sym, ap, ◌∙◌, append-nil, to_z, of_z, w32, rules}
use Rattle.fz_dom.specs.Wide.{below, above}
use Rattle.fz_dom.proofs.Lists.{cut_more, below_some, below_none, above_some, above_none}
use Rattle.fz_dom.proofs.rising.cut.Goals as goal
use Rattle.fz_dom.proofs.rising.cut.Goals.{then-r-low+in_ok-push, else-r-low, then-high-r+in_ok-push-2, else-high-r}

pub loop-r-preserved : goal.loop-r-preserved
loop-r-preserved c =
    let rs = c.args.ranges.now in
    let l : ℤ = to_z w32 (of_z w32 c.args.low) in
    let u : ℤ = to_z w32 (of_z w32 c.args.high) in
    let i = c.loop-r.r-index in
    let r : ℤ × ℤ = get_or rs i (pos 0, pos 0) in
    let first : c.if-r-low.kept.items ≡ c.loop-r.kept.items ++ below l r = elim c.if-r-low.branch [
      | then-r-low+in_ok-push w ↦ rw (w.kept-is, w.in_ok-push.ensures.ok) (ap (λ (t : List (ℤ × ℤ)). c.loop-r.kept.items ++ t) (below_some l _ _ r (search rules) (search rules) (search rules)))
      | else-r-low w ↦ rw w.kept-is (sym (append-nil c.loop-r.kept.items) ∙ ap (λ (t : List (ℤ × ℤ)). c.loop-r.kept.items ++ t) (below_none l r (search rules)))
    ] in
    let second : c.if-high-r.kept.items ≡ c.if-r-low.kept.items ++ above u r = elim c.if-high-r.branch [
      | then-high-r+in_ok-push-2 w ↦ rw (w.kept-is, w.in_ok-push-2.ensures.ok) (ap (λ (t : List (ℤ × ℤ)). c.if-r-low.kept.items ++ t) (above_some u _ _ r (search rules) (search rules) (search rules)))
      | else-high-r w ↦ rw w.kept-is (sym (append-nil c.if-r-low.kept.items) ∙ ap (λ (t : List (ℤ × ℤ)). c.if-r-low.kept.items ++ t) (above_none u r (search rules)))
    ] in
    cut_more l u rs i c.loop-r.kept.items c.if-r-low.kept.items c.if-high-r.kept.items c.loop-r-test.true first second c.loop-r.invariant
