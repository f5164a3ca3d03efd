use Rattle.std.proofs.Common.{subst, ℕ, List, false}
use Rattle.std.specs.Prelude.{not}
use Rattle.fz_agenda.proofs.StateBits.{IsIdleTest, within_words, not_within, idle_is, never_idle}
use Rattle.fz_agenda.proofs.states.States.is_idle.Goals as goal

pub has-requires : goal.has-requires
has-requires c =
    let now = c.self.inside in
    within_words now.alive now.count c.args.place c.self.invariant.alive c.if-place-self.false

pub has-requires-then-has : goal.has-requires-then-has
has-requires-then-has c =
    let now = c.self.inside in
    within_words now.queued now.count c.args.place c.self.invariant.queued c.if-place-self.false

pub returns-then-place-self : goal.returns-then-place-self
returns-then-place-self c =
    let now = c.self.inside in
    subst (λ (xs : List ℕ). IsIdleTest false xs c.args.place) c.self.view_is (not_within now.alive now.queued now.count c.args.place c.if-place-self.true)

pub returns-then-has : goal.returns-then-has
returns-then-has c =
    let now = c.self.inside in
    subst (λ (xs : List ℕ). IsIdleTest (not c.has-then-has.result) xs c.args.place) c.self.view_is
    (idle_is now.alive now.queued now.count c.args.place c.has-then-has.result c.if-place-self.false (c.has.ensures.0 c.if-has.true) c.has-then-has.ensures)

pub returns-else-has : goal.returns-else-has
returns-else-has c =
    let now = c.self.inside in
    subst (λ (xs : List ℕ). IsIdleTest c.has.result xs c.args.place) c.self.view_is
    (never_idle now.alive now.queued now.count c.args.place c.has.result c.if-place-self.false c.has.ensures c.if-has.false)
