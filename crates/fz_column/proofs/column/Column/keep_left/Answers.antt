use Rattle.std.proofs.Common.{◌≡◌, rules, to_z, of_z, w32}
use Rattle.fz_strength.specs.Domains.{term_set}
use Rattle.fz_column.proofs.ByPlaces.{dense_each, dense_left}
use Rattle.fz_column.proofs.column.Column.keep_left.Goals as goal

pub keep-requires-clause-each : goal.keep-requires-clause-each
keep-requires-clause-each c = λ i has. dense_each c.in-Some.dense.now c.args.self.now i c.in-Some.ensures (c.requires.each i has)

pub returns-in-Some-clause-rows : goal.returns-in-Some-clause-rows
returns-in-Some-clause-rows c =
    let dense = c.in-Some.dense.now in
    let kept : to_z w32 (of_z w32 dense.base) ≡ dense.base = search rules in
    dense_left dense c.args.self.now (term_set c.args.store.now.doms c.args.term) c.places_of.result c.args.rows.now c.keep.new.rows c.in-Some.ensures
    (rw kept at c.places_of.ensures) c.keep.ensures.rows
