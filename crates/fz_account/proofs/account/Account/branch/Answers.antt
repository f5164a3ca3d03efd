use Rattle.std.proofs.Common.{◌∙◌, ◌++◌, ◌∷◌, ◌-◌, [], ap}
use Rattle.fz_tree.specs.Frontier.{Frontier}
use Rattle.fz_account.proofs.Calls.{branch_code}
use Rattle.fz_account.proofs.account.Account.branch.Goals as goal

pub invariant_of-self-2 : goal.invariant_of-self-2
invariant_of-self-2 c =
    let after : Frontier = c.self.inside.after in
    branch_code c.args.self.now _ c.args.choice c.push.new.self c.self.view_is c.self.invariant c.requires.current c.len-last.ensures.choice c.requires.reachable c.requires.fits c.requires.about
    (c.in_ok-push.ensures.ok
    ∙ ap (λ n. let f : Frontier = record { edges = after.edges ++ record { choice = c.args.choice; taken = 0; last = n - 1 } ∷ []; current_open = after.current_open } in f) c.len-last.ensures.len)
