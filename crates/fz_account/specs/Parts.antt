-- What an account is taken apart into.
use Rattle.std.specs.Prelude.{◌≡◌}
use Rattle.fz_tree.specs.Account.{Account}
use Rattle.fz_account.specs.declared.account.Parts.{Parts}

pub record AreParts (c : Account) (p : Parts) : Type 0 where
  pub found : p.found.items ≡ c.found
  pub witness : p.witness ≡ c.witness
  pub given : p.given.items ≡ c.given
  pub after : p.after ≡ c.after
