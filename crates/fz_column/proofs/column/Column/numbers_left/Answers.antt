use Rattle.std.proofs.Common.{◌≡◌, rules, to_z, of_z, w32}
use Rattle.fz_strength.specs.Domains.{dom_at}
use Rattle.fz_column.proofs.ByPlaces.{dense_numbers, window_numbers}
use Rattle.fz_column.proofs.column.Column.numbers_left.Goals as goal

pub returns-in-Some-clause-numbers : goal.returns-in-Some-clause-numbers
returns-in-Some-clause-numbers c =
    let dense = c.in-Some.dense.now in
    let kept : to_z w32 (of_z w32 dense.base) ≡ dense.base = search rules in
    rw kept
    (dense_numbers dense c.args.self.now (dom_at c.args.store.now.doms c.args.variable) c.places_of.result c.numbers_of-bits.result c.args.rows.now c.in-Some.ensures
    (rw kept at c.places_of.ensures) c.numbers_of-bits.ensures)

pub returns-clause-numbers : goal.returns-clause-numbers
returns-clause-numbers c =
    rw c.numbers_near.ensures.base
    (window_numbers c.args.self.now (dom_at c.args.store.now.doms c.args.variable) c.in_ok-window.window c.numbers_near.result.bits c.args.rows.now c.in_ok-window.ensures.numbers
    c.numbers_near.ensures.numbers)
