use Rattle.fz_account.proofs.Calls.{fail_code}
use Rattle.fz_account.proofs.account.Account.fail.Goals as goal

pub invariant_of-self : goal.invariant_of-self
invariant_of-self c = fail_code c.args.self.now _ c.close.new.self c.self.view_is c.self.invariant c.requires.current c.requires.hopeless c.close.ensures
