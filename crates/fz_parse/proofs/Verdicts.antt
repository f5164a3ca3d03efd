-- What the outcomes of the reading say of the tokens.
use Rattle.std.proofs.Common.{◌≡◌, List, [], ◌∷◌, refl, arith}
use Rattle.fz_language.specs.declared.fault.SyntaxFault.{SyntaxFault}
use Rattle.fz_language.specs.declared.fault.SyntaxFault.TheVariants.{Unexpected, TooDeep}
use Rattle.fz_language.specs.Tokens.{Token}
use Rattle.fz_language.specs.Trees.{Program}
use Rattle.fz_language.specs.Grammar.{flatzinc, WholeProgram, Spells, Breaks}
use Rattle.fz_language.proofs.SyntaxProofs.{program_accepted, program_faulty, program_faulty_behind, program_too_deep}
use Rattle.fz_grammar.specs.Grammar.{Rule}
use Rattle.fz_grammar.specs.Reading.{head}
use Rattle.fz_parse.specs.declared.stop.Stop.TheVariants as stop
use Rattle.fz_parse.specs.Steps.{Read, Halts, IsOver}
use Rattle.fz_parse.specs.declared.stop.Stop.{Stop}
use Rattle.fz_parse.specs.Parsed.{IsAtFault, Blames}
use Rattle.fz_parse.proofs.Takes.{kind_positive}

pub accepts : (ts new : List Token) (p : Program) → Read 0 (Rule WholeProgram ∷ []) (p, tt) ts new → head flatzinc new ≡ 0 → Spells ts p
accepts ts [] p r e = program_accepted ts p r
accepts ts (t ∷ new) p r e = let l = kind_positive t.lexeme in absurd (omega (arith, l, e))

pub breaks_behind_program : (ts new : List Token) (p : Program) → Read 0 (Rule WholeProgram ∷ []) (p, tt) ts new → (head flatzinc new ≡ 0 → ⊥) → Breaks ts new
breaks_behind_program ts [] p r e = absurd (e refl)
breaks_behind_program ts (t ∷ new) p r e = program_faulty_behind ts t new p r

pub fails : (cause : SyntaxFault) (ts new : List Token) → Halts 0 (Rule WholeProgram ∷ []) ts new (stop.Fault cause) → IsAtFault ts cause new
fails Unexpected ts new h = program_faulty ts new h.is
fails TooDeep ts new h = program_too_deep IsOver (λ l k n o. o) ts new h.is

pub blames : (why : Stop) (ts new : List Token) → Halts 0 (Rule WholeProgram ∷ []) ts new why → Blames ts why new
blames stop.Memory ts new h = tt
blames (stop.Fault cause) ts new h = fails cause ts new h
