use Rattle.fz_account.proofs.Calls.{add_code}
use Rattle.fz_account.proofs.account.Account.add_found.Goals as goal

pub invariant_of-self-2 : goal.invariant_of-self-2
invariant_of-self-2 c = add_code c.args.self.now _ c.args.assignment c.push.new.self.items c.close.new.self c.self.view_is c.self.invariant c.requires.mode c.requires.current c.requires.only c.in_ok-push.ensures.items c.close.ensures
