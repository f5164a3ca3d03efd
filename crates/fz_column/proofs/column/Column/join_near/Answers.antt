use Rattle.std.proofs.Common.{List, length, sym, subst, ◌∙◌}
use Rattle.fz_bits.specs.Windows.{IsBit}
use Rattle.fz_column.specs.declared.supports.Support.{Support}
use Rattle.fz_column.specs.Supports.{AreSized}
use Rattle.fz_column.specs.Packed.{ArePacked}
use Rattle.fz_column.proofs.Packing.{rows_of_column}
use Rattle.fz_column.proofs.column.Column.join_near.Goals as goal

pub join_window-requires-clause-whole : goal.join_window-requires-clause-whole
join_window-requires-clause-whole c =
    let are : ArePacked c.args.self.now c.in-Some.packed.now = c.in-Some.ensures in
    are.whole

pub join_window-requires-clause-width : goal.join_window-requires-clause-width
join_window-requires-clause-width c =
    let are : ArePacked c.args.self.now c.in-Some.packed.now = c.in-Some.ensures in
    are.width (length c.args.rows.now) c.requires

pub returns-in-Some-clause-rows : goal.returns-in-Some-clause-rows
returns-in-Some-clause-rows c =
    rows_of_column c.args.self.now c.in-Some.packed.now (λ n. IsBit c.args.window.base c.args.window.bits n) c.args.rows.now c.join_window.new.rows c.in-Some.ensures c.join_window.ensures.rows

pub join_near-requires-clause-sized : goal.join_near-requires-clause-sized
join_near-requires-clause-sized c =
    subst (λ (xs : List Support). AreSized xs (length c.args.rows.now)) (sym (c.deref.ensures.value ∙ c.self.view_is)) c.requires
