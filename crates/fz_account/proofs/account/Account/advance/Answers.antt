use Rattle.std.proofs.Common.{sym, ◌∙◌}
use Rattle.fz_account.proofs.Calls.{move_code}
use Rattle.fz_account.proofs.account.Account.advance.Goals as goal

pub invariant_of-self-2 : goal.invariant_of-self-2
invariant_of-self-2 c = move_code c.args.self.now _ c.advance.new.self c.self.view_is c.self.invariant c.requires (sym c.advance.ensures.some ∙ c.if-not-advance.false) c.if-not-advance.ensures.moved
