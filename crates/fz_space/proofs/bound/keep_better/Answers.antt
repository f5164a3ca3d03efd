use Rattle.std.proofs.Common.{Option, Some, subst}
use Rattle.std.proofs.lemmas.Result.{on_ok_weaker}
use Rattle.fz_spec.specs.Instance.{Instance}
use Rattle.fz_tree.specs.declared.decision.Decision.{Decision}
use Rattle.fz_space.specs.Alive.{IsBound}
use Rattle.fz_space.proofs.Bounds.{covers_bound, all_better}
use Rattle.fz_space.proofs.bound.keep_better.Goals as goal

pub returns-in-Some-clause-covers : goal.returns-in-Some-clause-covers
returns-in-Some-clause-covers c =
    let n = c.args.network.now in
    let known = c.args.known.now in
    let d = c.in-Some.decision in
    let bound : IsBound n.model known (Some d) = subst (λ (m : Instance). IsBound m known (Some d)) c.model.ensures.model (subst (λ (o : Option Decision). IsBound c.model.result.now known o) c.in-Some.is c.bound_of.ensures) in
    on_ok_weaker c.take.result
    (λ covers ds before. covers_bound n.model known d ds c.args.store.now c.take.new.store c.args.failed.now c.take.new.failed bound (covers n.model (Some known) ds) before)
    c.take.ensures.covers

pub returns-in-Some-clause-better : goal.returns-in-Some-clause-better
returns-in-Some-clause-better c =
    let n = c.args.network.now in
    let known = c.args.known.now in
    let d = c.in-Some.decision in
    let bound : IsBound n.model known (Some d) = subst (λ (m : Instance). IsBound m known (Some d)) c.model.ensures.model (subst (λ (o : Option Decision). IsBound c.model.result.now known o) c.in-Some.is c.bound_of.ensures) in
    on_ok_weaker c.take.result
    (λ met states alive. all_better n known d states c.take.new.store c.take.new.failed bound (c.take.ensures.alive n states alive) met)
    c.take.ensures.met
