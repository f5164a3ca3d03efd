use Rattle.std.proofs.Common.{ℕ, ◌+◌, slice_index, subst, sym}
use Rattle.fz_lex.specs.declared.lexeme.Lexeme.TheVariants as found
use Rattle.fz_lex.specs.Steps.{FitsSign, FitsNoSign, IsFoundAt}
use Rattle.fz_lex.proofs.Founds.{sign_found, none_found}
use Rattle.fz_lex.proofs.reading.sign_at.Goals as goal

pub returns-in-Some : goal.returns-in-Some
returns-in-Some c =
    let text = c.args.text.now in
    let at = c.args.at in
    let s = c.in-Some.sign in
    let fits : FitsSign s (slice_index text at) (slice_index text (at + 1)) =
    subst (λ (b : ℕ). FitsSign s (slice_index text at) b) c.byte_at.ensures c.in-Some.ensures in
    subst (λ (n : ℕ). IsFoundAt text at (record { lexeme = found.Sign s; stop = at + n })) (sym c.sign_length.ensures) (sign_found s text at c.requires.within fits)

pub returns-in-None : goal.returns-in-None
returns-in-None c =
    let text = c.args.text.now in
    let at = c.args.at in
    let fits : FitsNoSign (slice_index text at) (slice_index text (at + 1)) =
    subst (λ (b : ℕ). FitsNoSign (slice_index text at) b) c.byte_at.ensures c.in-None.ensures in
    none_found text at c.requires.within c.requires.visible c.requires.no_word c.requires.no_number c.requires.no_minus c.requires.no_quote fits
