-- The account that the fields are.
use Rattle.std.specs.Arc.{arc_value}
use Rattle.fz_tree.specs.Account.{Account}
use Rattle.fz_account.specs.declared.account.Account.TheInside.{Inside}

abbrev pub account_of : Inside → Account
account_of a = record { model = arc_value a.model; mode = a.mode; before = a.before; found = a.found.items; witness = a.witness; given = a.given.items; after = a.after }
