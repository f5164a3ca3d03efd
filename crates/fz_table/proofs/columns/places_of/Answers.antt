use Rattle.std.proofs.Common.{◌≡◌, ◌+◌, ◌*◌, ◌/◌, ℕ, subst, length, arith, rules, pos, get_or, ◌++◌, ◌∷◌, []}
use Rattle.std.proofs.lemmas.Option.{slice_get-get_or}
use Rattle.fz_table.proofs.Building.{ArePlacedBelow, placed_more, number_inside}
use Rattle.fz_table.proofs.columns.places_of.Goals as goal

pub loop-row-preserved : goal.loop-row-preserved
loop-row-preserved c =
    let table = c.args.table.now in
    let width = c.args.width in
    let row = c.loop-row.row in
    let at = row * width + c.args.place in
    let n = get_or table at (pos 0) in
    let there = slice_get-get_or table at (pos 0) (number_inside table width c.args.place row c.requires c.loop-row-test.true) in
    let now : c.push.new.self.items ≡ c.loop-row.places.items ++ (n, row) ∷ [] = search rules in
    rw now (placed_more table width c.args.place row c.loop-row.places.items n there c.loop-row.invariant)

pub returns : goal.returns
returns c =
    let table = c.args.table.now in
    let past = c.loop-row-test.false in
    let most = c.loop-row.auto.row-end in
    let end : c.loop-row.row ≡ length table / c.args.width = omega (arith, past, most) in
    subst (λ (row : ℕ). ArePlacedBelow table c.args.width c.args.place c.loop-row.places.items row) end c.loop-row.invariant
