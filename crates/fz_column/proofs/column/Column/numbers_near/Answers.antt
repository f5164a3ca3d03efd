use Rattle.std.proofs.Common.{◌≡◌, List, length, sym, subst, ◌∙◌}
use Rattle.fz_bits.specs.Windows.{IsBit}
use Rattle.fz_column.specs.declared.supports.Support.{Support}
use Rattle.fz_column.specs.Supports.{AreSized}
use Rattle.fz_column.specs.Packed.{ArePacked}
use Rattle.fz_column.proofs.Packing.{numbers_of_column}
use Rattle.fz_column.proofs.column.Column.numbers_near.Goals as goal

pub numbers_within-requires-clause-whole : goal.numbers_within-requires-clause-whole
numbers_within-requires-clause-whole c =
    let are : ArePacked c.args.self.now c.in-Some.packed.now = c.in-Some.ensures in
    are.whole

pub numbers_within-requires-clause-width : goal.numbers_within-requires-clause-width
numbers_within-requires-clause-width c =
    let are : ArePacked c.args.self.now c.in-Some.packed.now = c.in-Some.ensures in
    are.width (length c.args.rows.now) c.requires

pub returns-in-Some-clause-numbers : goal.returns-in-Some-clause-numbers
returns-in-Some-clause-numbers c =
    numbers_of_column c.args.self.now c.in-Some.packed.now c.args.rows.now (λ n. IsBit c.args.window.base c.args.window.bits n) (λ n. IsBit c.args.window.base c.numbers_within.result.bits n)
    c.in-Some.ensures c.numbers_within.ensures.numbers

pub numbers_near-requires-clause-sized : goal.numbers_near-requires-clause-sized
numbers_near-requires-clause-sized c =
    subst (λ (xs : List Support). AreSized xs (length c.args.rows.now)) (sym (c.deref.ensures.value ∙ c.self.view_is)) c.requires

pub returns-in-None-clause-numbers : goal.returns-in-None-clause-numbers
returns-in-None-clause-numbers c =
    let there : c.deref.result.now ≡ c.args.self.now = c.deref.ensures.value ∙ c.self.view_is in
    rw there at c.numbers_near.ensures.numbers
