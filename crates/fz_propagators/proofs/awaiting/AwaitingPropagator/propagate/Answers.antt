use Rattle.std.proofs.Common.{refl, length}
use Rattle.std.specs.List.{AllByRecursion}
use Rattle.fz_spec.specs.Signatures.{shape_of}
use Rattle.fz_strength.specs.Events.{AllFixed}
use Rattle.fz_spec.specs.Constraints.{terms_among}
use Rattle.fz_strength.specs.Domains.{IsTermOf}
use Rattle.fz_prop.proofs.Steps.{same_shrinks}
use Rattle.fz_propagators.proofs.Waiting.{always_true, never_true}
use Rattle.fz_propagators.proofs.awaiting.AwaitingPropagator.propagate.Goals as goal

pub returns-then-is_true : goal.returns-then-is_true
returns-then-is_true c =
    let k = c.self.inside.constraint in
    let ds = c.args.store.now.doms in
    let terms : AllByRecursion (IsTermOf (length ds)) (terms_among k.arguments) = rw (← c.self.view_is) at c.requires.terms in
    let fixed : AllFixed ds (terms_among k.arguments) = rw (c.deref.ensures.value, c.self.invariant) at (c.if-not-are_fixed.ensures.0 refl) in
    let holds = rw (c.deref-2.ensures.value) at (c.if-is_true.ensures.0 refl) in
    rw (← c.self.view_is)
    (record { shrinks = same_shrinks c.args.store.now; correct = λ a truth within. within; answer = always_true (shape_of k.name) k.arguments ds c.in_ok-numbers.numbers.items terms fixed c.in_ok-numbers.ensures holds })

pub returns : goal.returns
returns c =
    let k = c.self.inside.constraint in
    let ds = c.args.store.now.doms in
    let terms : AllByRecursion (IsTermOf (length ds)) (terms_among k.arguments) = rw (← c.self.view_is) at c.requires.terms in
    let fixed : AllFixed ds (terms_among k.arguments) = rw (c.deref.ensures.value, c.self.invariant) at (c.if-not-are_fixed.ensures.0 refl) in
    rw (← c.self.view_is)
    (record {
      shrinks = same_shrinks c.args.store.now;
      correct = λ a truth within. within;
      answer = never_true (shape_of k.name) k.arguments ds c.in_ok-numbers.numbers.items terms fixed c.in_ok-numbers.ensures (λ holds. cc (c.if-is_true.ensures.1 (rw c.deref-2.ensures.value holds)));
    })
