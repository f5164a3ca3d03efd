use Rattle.std.proofs.Common.{rules, ◌≡◌, subst}
use Rattle.std.specs.Prelude.{pos}
use Rattle.fz_strength.specs.Domains.{term_set}
use Rattle.fz_strength.specs.Events.{IsOnly}
use Rattle.fz_prop.proofs.Reifying.{one_correct, zero_correct, one_answer, zero_answer, zero_left}
use Rattle.fz_rel.specs.Truths.{TruthOf}
use Rattle.fz_rel.specs.Reified.{sides_of}
use Rattle.fz_rel.proofs.Shown.{are_sides}
use Rattle.fz_rel.proofs.reified.keep_reified.Goals.{in-Some-eq1+in_ok-answer-in-Some-eq1, in-Some+in_ok-answer-in-Some, in-None+in_ok-answer-in-None}
use Rattle.fz_rel.proofs.reified.keep_reified.Goals as goal

pub returns-clause-correct : goal.returns-clause-correct
returns-clause-correct c =
    let ds = c.args.store.now.doms in
    let truth = TruthOf c.args.relation c.args.x c.args.y in
    elim c.match-value_of.branch [
      | in-Some-eq1+in_ok-answer-in-Some-eq1 w ↦
          let one : w.in-Some-eq1.field-0 ≡ pos 1 = search rules in
          rw w.store-is (one_correct truth c.args.r ds w.relate.new.store.doms c.requires.r (subst (IsOnly (term_set ds c.args.r)) one w.in-Some-eq1.ensures) w.in_ok-answer-in-Some-eq1.ensures.correct)
      | in-Some+in_ok-answer-in-Some w ↦
          let other : w.in-Some.field-0 ≡ pos 1 → ⊥ = search rules in
          rw w.store-is (zero_correct truth c.args.r ds w.relate_against.new.store.doms c.requires.r (zero_left ds c.args.r w.in-Some.field-0 c.requires.truth w.in-Some.ensures other) w.in_ok-answer-in-Some.ensures.correct)
      | in-None+in_ok-answer-in-None w ↦ rw w.store-is w.in_ok-answer-in-None.ensures.correct
    ]

pub returns-clause-answer : goal.returns-clause-answer
returns-clause-answer c =
    let ds = c.args.store.now.doms in
    let truth = TruthOf c.args.relation c.args.x c.args.y in
    let sides = sides_of c.args.relation c.args.x c.args.y in
    let are = are_sides c.args.relation c.args.x c.args.y ds c.requires.x c.requires.y in
    elim c.match-value_of.branch [
      | in-Some-eq1+in_ok-answer-in-Some-eq1 w ↦
          let one : w.in-Some-eq1.field-0 ≡ pos 1 = search rules in
          let domains = rw w.store-is at c.doms.ensures.store.domains in
          rw (w.answer-is, w.store-is)
          (one_answer w.in_ok-answer-in-Some-eq1.answer truth sides c.args.r ds w.relate.new.store.doms c.requires.r (subst (IsOnly (term_set ds c.args.r)) one w.in-Some-eq1.ensures) are domains w.in_ok-answer-in-Some-eq1.ensures.shrinks.narrower
          w.in_ok-answer-in-Some-eq1.ensures.answer)
      | in-Some+in_ok-answer-in-Some w ↦
          let other : w.in-Some.field-0 ≡ pos 1 → ⊥ = search rules in
          let domains = rw w.store-is at c.doms.ensures.store.domains in
          rw (w.answer-is, w.store-is)
          (zero_answer w.in_ok-answer-in-Some.answer truth sides c.args.r ds w.relate_against.new.store.doms c.requires.r (zero_left ds c.args.r w.in-Some.field-0 c.requires.truth w.in-Some.ensures other) are domains
          w.in_ok-answer-in-Some.ensures.shrinks.narrower w.in_ok-answer-in-Some.ensures.answer)
      | in-None+in_ok-answer-in-None w ↦ rw (w.answer-is, w.store-is) w.in_ok-answer-in-None.ensures.answer
    ]
