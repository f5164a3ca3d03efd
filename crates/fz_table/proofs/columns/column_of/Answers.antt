use Rattle.std.proofs.Common.{◌≡◌, List}
use Rattle.std.proofs.lemmas.Result.{IfOk-weaker}
use Rattle.fz_column.specs.declared.supports.Support.{Support}
use Rattle.fz_column.specs.Supports.{IsColumnOf}
use Rattle.fz_table.proofs.Building.{column_is}
use Rattle.fz_table.proofs.columns.column_of.Goals as goal

pub returns : goal.returns
returns c =
    let table = c.args.table.now in
    let supports = c.in_ok-supports.supports.items in
    let places = c.in_ok-places.places.items in
    let made : IsColumnOf table c.args.width c.args.place supports = column_is table c.args.width c.args.place places supports c.in_ok-places.ensures.places
    (rw c.deref.ensures.value at c.in_ok-supports.ensures.rows) (rw c.deref.ensures.value at c.in_ok-supports.ensures.words) in
    IfOk-weaker c.new.result (λ (column : List Support). column ≡ supports) (λ (column : List Support). IsColumnOf table c.args.width c.args.place column)
    (λ column e. rw e made) c.new.ensures
