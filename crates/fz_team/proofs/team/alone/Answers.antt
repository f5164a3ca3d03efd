use Rattle.fz_team.proofs.Words.{ends_alone}
use Rattle.fz_team.proofs.team.alone.Goals as goal

pub returns-clause-end : goal.returns-clause-end
returns-clause-end g c = λ enough ends.
    ends_alone c.args.left.end enough g.T.Subject.model g.T.Subject.mode c.args.left.books.items c.args.left.books.len c.pop.result c.in-Some.book c.into_book.result c.args.left.books.ok.0 c.requires c.in-Some.is c.pop.ensures.value c.into_book.ensures.book ends
