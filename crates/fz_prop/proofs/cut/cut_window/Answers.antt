use Rattle.std.proofs.Common.{◌≡◌, rules}
use Rattle.fz_dom.specs.Shape.{least, greatest}
use Rattle.fz_prop.specs.Cuts.{change_level}
use Rattle.fz_prop.proofs.cut.cut_window.Goals as goal

pub returns-in-Changed-clause-cut : goal.returns-in-Changed-clause-cut
returns-in-Changed-clause-cut c =
    let level : c.level_since.result ≡ change_level (least c.args.dom.now) (greatest c.args.dom.now) c.keep_window.new.self = search rules in
    (rw c.in-Changed.is at c.keep_window.ensures.change, level)
