use Rattle.fz_team.proofs.Cutting.{cut_off}
use Rattle.fz_team.proofs.section.cut.Goals as goal

pub returns-clause-cut : goal.returns-clause-cut
returns-clause-cut g c =
    cut_off c.in_ok-cut.field-0 c.in-Some.cut c.args.path.now c.cut.new.self c.args.book.now.book c.make_room.new.book.book c.hand_in-handed.new.book.book c.hand_in-handed.result c.copy-copy.result
    c.in-Some.is c.in_ok-cut.ensures.cut c.in_ok-cut.ensures.rest c.make_room.ensures.book c.hand_in-handed.ensures c.copy-copy.ensures
