use Rattle.std.proofs.Common.{◌∙◌, sym, ap, Some}
use Rattle.fz_spec.specs.Constraints as meaning
use Rattle.fz_language.specs.Trees.{basic_at}
use Rattle.fz_language.specs.Entries.{term_in}
use Rattle.fz_syntax.specs.Trees.{basic_of}
use Rattle.fz_resolve.specs.Meant.{environment_of}
use Rattle.fz_check.proofs.PlaceLaws.{right, wrong}
use Rattle.fz_check.proofs.declared.wrong_term.Goals as goal

pub returns-in-Some : goal.returns-in-Some
returns-in-Some c = right meaning.One (term_in (environment_of c.args.names.now) c.args.asked (basic_of c.args.basic.now)) (basic_at (basic_of c.args.basic.now)) c.in-Some.field-0 (sym c.in-Some.ensures)

pub returns-in-None : goal.returns-in-None
returns-in-None c = ap Some c.at.ensures ∙ wrong meaning.One (term_in (environment_of c.args.names.now) c.args.asked (basic_of c.args.basic.now)) (basic_at (basic_of c.args.basic.now)) (sym c.in-None.ensures)
