use Rattle.fz_strength.specs.Sayings.{Member, truth_of, line_of}
use Rattle.fz_prop.specs.Answers.{Narrows}
use Rattle.fz_rel.proofs.member.MembershipPropagator.propagate.Goals as goal

pub returns : goal.returns
returns c =
    let p = c.self.inside in
    let narrows : Narrows (truth_of (Member p.x p.set.value)) (line_of (Member p.x p.set.value)) c.keep_member.result c.args.store.now c.keep_member.new.store = record {
      shrinks = c.keep_member.ensures.shrinks;
      correct = rw c.deref.ensures at c.keep_member.ensures.correct;
      answer = rw c.deref.ensures at c.keep_member.ensures.answer;
    } in
    rw (← c.self.view_is) narrows
