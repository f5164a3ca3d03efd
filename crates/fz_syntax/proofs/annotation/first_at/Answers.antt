use Rattle.std.proofs.Common.{◌≡◌, ◌+◌, ◌-◌, ◌∷◌, take, drop, length, ap, ap₂, sym, ◌∙◌, arith}
use Rattle.std.proofs.lemmas.List.{take_all, length-drop}
use Rattle.fz_syntax.specs.Reaches.{reached}
use Rattle.fz_syntax.specs.Trees.{trees_of, count_of, with_inside}
use Rattle.fz_syntax.proofs.Arguments.{parted_at}
use Rattle.fz_syntax.proofs.annotation.first_at.Goals as goal

pub returns-clause-first : goal.returns-clause-first
returns-clause-first c =
    let xs = c.args.arguments.now in
    let place = c.args.place in
    let first = c.in_ok-first.first.now in
    let rest = c.in_ok-first.rest.now in
    let end : c.reach-end.result ≡ reached rest (count_of first) = c.reach-end.ensures.reached ∙ ap (reached rest) c.count.ensures in
    let left : take (length xs - place) (drop place xs) ≡ drop place xs = take_all (length xs - place) (drop place xs) (omega (arith, length-drop place xs)) in
    parted_at xs rest first place (sym left ∙ c.in_ok-first.ensures.cases.0)
    ∙ sym (ap₂ (λ inside n. inside ∷ trees_of (drop (place + 1 + n) xs)) (c.whole.ensures.tree ∙ ap (λ n. with_inside first (trees_of (take n rest))) end) end)
