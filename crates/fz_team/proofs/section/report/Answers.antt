use Rattle.fz_team.proofs.Cutting.{handed_in}
use Rattle.fz_team.proofs.section.report.Goals as goal

pub returns-clause-reported : goal.returns-clause-reported
returns-clause-reported g c =
    handed_in c.in_ok-account.field-0 c.in-Some.account c.args.path.now c.report.new.self c.args.book.now.book c.make_room.new.book.book c.hand_in.new.book.book c.hand_in.result c.copy-copy.result
    c.in-Some.is c.in_ok-account.ensures.account c.in_ok-account.ensures.rest c.make_room.ensures.book c.hand_in.ensures c.copy-copy.ensures
