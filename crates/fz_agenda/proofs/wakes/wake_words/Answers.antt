use Rattle.std.proofs.Common.{◌≡◌, ◌∙◌, ap, [], ℕ, List, subst, rules, length, take}
use Rattle.std.specs.List.{AllByRecursion}
use Rattle.fz_sets.proofs.Lists.{same_at, take_whole}
use Rattle.fz_agenda.specs.Queues.{AreAwake}
use Rattle.fz_agenda.proofs.Waking.{words_woken, words_awake, awake_concat}
use Rattle.fz_agenda.proofs.wakes.wake_words.Goals as goal

pub returns-in_err-wake_members-clause-woken : goal.returns-in_err-wake_members-clause-woken
returns-in_err-wake_members-clause-woken c =
    let words = c.args.words.now in
    let k = c.loop-members.members-index in
    words_woken words k c.members-item.result c.args.costs.now c.args.agenda.now c.loop-members.agenda c.wake_members.new.agenda c.loop-members-test.true
    (c.members-item.is ∙ same_at words k c.members-item.result [] c.loop-members-test.true) c.loop-members.invariant.woken c.wake_members.ensures.woken

pub loop-members-preserved : goal.loop-members-preserved
loop-members-preserved c =
    let words = c.args.words.now in
    let k = c.loop-members.members-index in
    record {
      woken = words_woken words k c.members-item.result c.args.costs.now c.args.agenda.now c.loop-members.agenda c.wake_members.new.agenda c.loop-members-test.true
          (c.members-item.is ∙ same_at words k c.members-item.result [] c.loop-members-test.true) c.loop-members.invariant.woken c.wake_members.ensures.woken;
      awake = words_awake words k c.members-item.result c.args.costs.now c.loop-members.agenda c.wake_members.new.agenda c.loop-members-test.true c.members-item.is c.wake_members.ensures.woken
          c.loop-members.invariant.awake c.in_ok-wake_members.ensures.awake;
    }

pub returns-clause-awake : goal.returns-clause-awake
returns-clause-awake c =
    let words = c.args.words.now in
    let k = c.loop-members.members-index in
    let ended : k ≡ length words = search rules in
    awake_concat c.loop-members.agenda.states words (subst (λ (ws : List (List ℕ)). AllByRecursion (AreAwake c.loop-members.agenda.states) ws) (ap (λ (n : ℕ). take n words) ended ∙ take_whole words) c.loop-members.invariant.awake)
