use Rattle.fz_engine.specs.Networks.{sayings_of}
use Rattle.fz_engine.proofs.Posting.{network_of}
use Rattle.fz_engine.proofs.network.Network.new.Goals as goal

pub invariant_of-result : goal.invariant_of-result
invariant_of-result c =
    let posted = c.in_ok-propagators.field-0 in
    rw (← c.deref.ensures) (network_of c.deref.result.now (sayings_of posted.propagators.items) posted.wakes c.in_ok-propagators.ensures.kept c.in_ok-propagators.ensures.said c.in_ok-propagators.ensures.listing)
