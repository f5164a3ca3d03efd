use Rattle.std.proofs.Common.{ap}
use Rattle.fz_syntax.specs.Trees as trees
use Rattle.fz_resolve.specs.Meant.{environment_of}
use Rattle.fz_check.proofs.EntryLaws.{terms_are, numbers_are, sets_are}
use Rattle.fz_check.proofs.entered.array_entry.Goals as goal

pub returns-then-item : goal.returns-then-item
returns-then-item c =
    terms_are (environment_of c.args.names.now) (trees.array_item_of c.args.item.now) c.kind_of-kind.result c.in_ok-entry.entry c.kind_of-kind.ensures c.if-item.true c.in_ok-entry.ensures

pub returns-in_ok-number_list-in-One : goal.returns-in_ok-number_list-in-One
returns-in_ok-number_list-in-One c =
    numbers_are (environment_of c.args.names.now) (trees.array_item_of c.args.item.now) c.kind_of-kind.result (trees.plain_of c.in-One.field-0) c.in_ok-number_list-in-One.field-0 c.kind_of-kind.ensures
    c.if-item.false (ap trees.type_of c.in-One.is) c.in_ok-number_list-in-One.ensures

pub returns-in_ok-set_list-in-SetOf : goal.returns-in_ok-set_list-in-SetOf
returns-in_ok-set_list-in-SetOf c =
    sets_are (environment_of c.args.names.now) (trees.array_item_of c.args.item.now) c.in-SetOf.at (trees.plain_of c.in-SetOf.plain) c.in_ok-set_list-in-SetOf.field-0
    c.if-item.false (ap trees.type_of c.in-SetOf.is) c.in_ok-set_list-in-SetOf.ensures
