use Rattle.fz_lex.proofs.Founds.{identifier_found, keyword_found}
use Rattle.fz_lex.proofs.reading.word_at.Goals as goal

pub returns-in-Some : goal.returns-in-Some
returns-in-Some c = keyword_found c.args.text.now c.args.at c.word_end-stop.result c.in-Some.keyword c.requires.first c.word_end-stop.ensures c.in-Some.ensures

pub returns-in-None : goal.returns-in-None
returns-in-None c = identifier_found c.args.text.now c.args.at c.word_end-stop.result c.requires.within c.requires.first c.word_end-stop.ensures c.in-None.ensures
