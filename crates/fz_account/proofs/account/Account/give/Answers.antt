use Rattle.fz_account.proofs.Calls.{give_code}
use Rattle.fz_account.proofs.account.Account.give.Goals as goal

pub invariant_of-self-2 : goal.invariant_of-self-2
invariant_of-self-2 c = give_code _ c.in-Some.part c.in_ok-copy.field-0 c.in_ok-part.field-0 c.push.new.self.items c.drop_part.new.self c.self.invariant c.in-Some.is c.in_ok-part.ensures.some c.in_ok-part.ensures.part c.in_ok-copy.ensures.copy
    c.in_ok-push.ensures.items c.drop_part.ensures
