use Rattle.std.proofs.Common.{sym}
use Rattle.fz_lex.proofs.Aheads.{place_is}
use Rattle.fz_lex.proofs.lexer.Lexer.place.Goals as goal

pub returns : goal.returns
returns c = rw (← c.self.view_is) (sym (place_is c.self.inside.text.now c.self.inside.at c.self.inside.head c.self.invariant))
