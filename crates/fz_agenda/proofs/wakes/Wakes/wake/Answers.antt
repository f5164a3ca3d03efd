use Rattle.std.proofs.Common.{◌≡◌, ◌∙◌, ◌<◌, ◌≤◌, [], ap, length, rules}
use Rattle.fz_sets.proofs.Lists.{same_at}
use Rattle.fz_agenda.specs.Wakes.{Waking, watches_at, AreWatchersAwake, WaitsFor}
use Rattle.fz_agenda.proofs.Looking.{still_watching, then_waiting, watching_heeds}
use Rattle.fz_agenda.proofs.Waking.{whatever}
use Rattle.fz_agenda.proofs.wakes.Wakes.wake.Goals as goal

pub returns-in_err-wake_watching-clause-woken : goal.returns-in_err-wake_watching-clause-woken
returns-in_err-wake_watching-clause-woken c =
    let lists = c.self.inside.watches.items in
    let v = c.args.variable in
    let within : v < length lists = search rules in
    let at : c.watches-watches.result.now ≡ watches_at c.args.self.now v =
    c.watches-watches.ensures ∙ (c.index.ensures ∙ same_at lists v c.index.result.now [] within) ∙ ap (λ (w : Waking). watches_at w v) c.self.view_is in
    let some : 1 ≤ c.args.level = search rules in
    watching_heeds c.args.self.now c.args.store.now.doms v c.args.level c.watches-watches.result.now c.deref.result.now c.args.agenda.now c.wake_watching.new.agenda at
    (c.deref.ensures.value ∙ ap (λ (w : Waking). w.costs) c.self.view_is) some c.wake_watching.ensures.woken

pub returns-clause-woken : goal.returns-clause-woken
returns-clause-woken c =
    let lists = c.self.inside.watches.items in
    let v = c.args.variable in
    let within : v < length lists = search rules in
    let at : c.watches-watches.result.now ≡ watches_at c.args.self.now v =
    c.watches-watches.ensures ∙ (c.index.ensures ∙ same_at lists v c.index.result.now [] within) ∙ ap (λ (w : Waking). watches_at w v) c.self.view_is in
    let some : 1 ≤ c.args.level = search rules in
    then_waiting c.args.self.now c.args.store.now.doms v c.args.level c.args.agenda.now c.wake_watching.new.agenda c.wake_waiting.new.agenda
    (watching_heeds c.args.self.now c.args.store.now.doms v c.args.level c.watches-watches.result.now c.deref.result.now c.args.agenda.now c.wake_watching.new.agenda at
    (c.deref.ensures.value ∙ ap (λ (w : Waking). w.costs) c.self.view_is) some c.wake_watching.ensures.woken) c.wake_waiting.ensures.woken

pub returns-clause-watching : goal.returns-clause-watching
returns-clause-watching c =
    let lists = c.self.inside.watches.items in
    let v = c.args.variable in
    let ds = c.args.store.now.doms in
    let within : v < length lists = search rules in
    let at : c.watches-watches.result.now ≡ watches_at c.args.self.now v =
    c.watches-watches.ensures ∙ (c.index.ensures ∙ same_at lists v c.index.result.now [] within) ∙ ap (λ (w : Waking). watches_at w v) c.self.view_is in
    whatever c.wake_waiting.result (1 ≤ c.args.level → AreWatchersAwake ds c.wake_waiting.new.agenda.states (watches_at c.args.self.now v))
    (λ some. still_watching ds (WaitsFor c.args.self.now v c.args.level) c.args.self.now.costs c.wake_watching.new.agenda c.wake_waiting.new.agenda (watches_at c.args.self.now v) c.wake_waiting.ensures.woken
    (rw (← at) c.in_ok-wake_watching.ensures.awake))
