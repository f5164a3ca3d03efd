use Rattle.std.proofs.Common.{refl}
use Rattle.fz_account.proofs.Calls.{learn_code}
use Rattle.fz_account.proofs.account.Account.learn_found.Goals as goal

pub invariant_of-self : goal.invariant_of-self
invariant_of-self c = learn_code c.args.self.now _ c.args.assignment.now c.in_ok-witness.witness c.self.view_is c.self.invariant (c.if-not-is_news.ensures.0 refl) c.in_ok-witness.ensures
