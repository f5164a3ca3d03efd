use Rattle.std.proofs.Common.{subst, sym}
use Rattle.fz_book.specs.Outcomes.{IsStranger, IsTaken}
use Rattle.fz_team.specs.declared.section.Handed.{Handed}
use Rattle.fz_team.specs.Sections.{HandsIn}
use Rattle.fz_team.proofs.section.hand_in.Goals.{in-Taken, in-Stranger}
use Rattle.fz_team.proofs.section.hand_in.Goals as goal

pub returns : goal.returns
returns g c =
    elim c.match-take.branch [
      | in-Taken w ↦ subst (λ (h : Handed). HandsIn h c.args.account c.args.book.now.book c.take.new.self.book) (sym w.result-is) (c.take.ensures.taken (subst IsTaken (sym w.in-Taken.is) tt))
      | in-Stranger w ↦ subst (λ (h : Handed). HandsIn h c.args.account c.args.book.now.book c.take.new.self.book) (sym w.result-is)
          ((λ own. c.take.ensures.stranger.0 (subst IsStranger (sym w.in-Stranger.is) tt) own.1), c.take.ensures.same (λ t. subst IsTaken w.in-Stranger.is t))
    ]
