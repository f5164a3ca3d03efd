use Rattle.std.specs.Prelude.{ℤ, List}
use Rattle.std.proofs.lemmas.Result.{IfOk-weaker}
use Rattle.fz_strength.specs.Sayings.{MemberIf, truth_of, line_of}
use Rattle.fz_prop.specs.declared.answer.Answer.{Answer}
use Rattle.fz_prop.specs.Answers.{IsAnswerOf, Narrows}
use Rattle.fz_prop.specs.Truths.{TruthWith}
use Rattle.fz_rel.specs.Members.{IsMember}
use Rattle.fz_rel.specs.Reified.{ReifiedMemberLine, AreOthers}
use Rattle.fz_rel.proofs.reified_member.ReifiedMembershipPropagator.propagate.Goals as goal

pub returns-in-Some : goal.returns-in-Some
returns-in-Some c =
    let p = c.self.inside in
    let before = c.args.store.now in
    let after = c.keep_outside.new.store in
    let narrows : Narrows (truth_of (MemberIf p.x p.set.value p.r)) (line_of (MemberIf p.x p.set.value p.r)) c.keep_outside.result before after = record {
      shrinks = c.keep_outside.ensures.shrinks;
      correct = c.keep_outside.ensures.correct p.set.value c.self.invariant.0;
      answer = IfOk-weaker c.keep_outside.result
          (λ (a : Answer). (set : List (ℤ × ℤ)) → AreOthers set p.others → IsAnswerOf a (TruthWith (IsMember p.x set) p.r) (ReifiedMemberLine p.x set p.r) before.doms after.doms)
          (λ (a : Answer). IsAnswerOf a (TruthWith (IsMember p.x p.set.value) p.r) (ReifiedMemberLine p.x p.set.value p.r) before.doms after.doms) (λ a h. h p.set.value c.self.invariant.0) c.keep_outside.ensures.answer;
    } in
    rw (← c.self.view_is) narrows

pub returns-in-Some-eq1 : goal.returns-in-Some-eq1
returns-in-Some-eq1 c =
    let p = c.self.inside in
    let narrows : Narrows (truth_of (MemberIf p.x p.set.value p.r)) (line_of (MemberIf p.x p.set.value p.r)) c.keep_inside.result c.args.store.now c.keep_inside.new.store = record {
      shrinks = c.keep_inside.ensures.shrinks;
      correct = rw c.deref.ensures at c.keep_inside.ensures.correct;
      answer = rw c.deref.ensures at c.keep_inside.ensures.answer;
    } in
    rw (← c.self.view_is) narrows

pub returns-in-None : goal.returns-in-None
returns-in-None c =
    let p = c.self.inside in
    let narrows : Narrows (truth_of (MemberIf p.x p.set.value p.r)) (line_of (MemberIf p.x p.set.value p.r)) c.decide.result c.args.store.now c.decide.new.store = record {
      shrinks = c.decide.ensures.shrinks;
      correct = rw c.deref-in-None.ensures at c.decide.ensures.correct;
      answer = rw c.deref-in-None.ensures at c.decide.ensures.answer;
    } in
    rw (← c.self.view_is) narrows
