use Rattle.std.proofs.Common.{◌≡◌, ◌+◌, ℕ, false, slice_index, MatchOption, sym, ap, subst, ◌∙◌, arith}
use Rattle.fz_lex.specs.declared.run.Radix.TheVariants.{Hexadecimal, Octal}
use Rattle.fz_lex.specs.Steps.{AreDigitsAt, is_digit_of}
use Rattle.fz_lex.proofs.Numbers.{no_zero, no_base_letter, no_hex, no_octal, hex_found, octal_found, match_map}
use Rattle.fz_lex.proofs.number.based.Goals as goal

pub returns-then-whole-from : goal.returns-then-whole-from
returns-then-whole-from c = no_zero c.args.text.now c.args.from c.args.whole c.requires.run (λ e z. c.if-whole-from.true e)

pub returns-then-byte_at-ne48 : goal.returns-then-byte_at-ne48
returns-then-byte_at-ne48 c = no_zero c.args.text.now c.args.from c.args.whole c.requires.run (λ e z. c.if-byte_at-ne48.true (c.byte_at.ensures ∙ z))

pub returns-then-letter-eq120 : goal.returns-then-letter-eq120
returns-then-letter-eq120 c =
    let text = c.args.text.now in
    let from = c.args.from in
    let q : c.args.whole + 1 ≡ from + 2 = omega (arith, c.if-whole-from.false) in
    let l : slice_index text (from + 1) ≡ 120 = ap (λ (n : ℕ). slice_index text n) (sym c.if-whole-from.false) ∙ sym c.byte_at-letter.ensures ∙ c.if-letter-eq120.true in
    let z : slice_index text from ≡ 48 = sym c.byte_at.ensures ∙ c.if-byte_at-ne48.false in
    match_map c.some_digits.result (no_hex text from l) (λ run d. hex_found text from run z l d.are d.first d.value)
    (subst (λ (n : ℕ). MatchOption c.some_digits.result (is_digit_of Hexadecimal (slice_index text n) ≡ false) (AreDigitsAt Hexadecimal text n)) q c.some_digits.ensures)

pub returns-then-letter-eq111 : goal.returns-then-letter-eq111
returns-then-letter-eq111 c =
    let text = c.args.text.now in
    let from = c.args.from in
    let q : c.args.whole + 1 ≡ from + 2 = omega (arith, c.if-whole-from.false) in
    let l : slice_index text (from + 1) ≡ 111 = ap (λ (n : ℕ). slice_index text n) (sym c.if-whole-from.false) ∙ sym c.byte_at-letter.ensures ∙ c.if-letter-eq111.true in
    let z : slice_index text from ≡ 48 = sym c.byte_at.ensures ∙ c.if-byte_at-ne48.false in
    match_map c.some_digits-then-letter-eq111.result (no_octal text from l) (λ run d. octal_found text from run z l d.are d.first d.value)
    (subst (λ (n : ℕ). MatchOption c.some_digits-then-letter-eq111.result (is_digit_of Octal (slice_index text n) ≡ false) (AreDigitsAt Octal text n)) q c.some_digits-then-letter-eq111.ensures)

pub returns : goal.returns
returns c =
    let l : slice_index c.args.text.now (c.args.from + 1) ≡ c.byte_at-letter.result = ap (λ (n : ℕ). slice_index c.args.text.now n) (sym c.if-whole-from.false) ∙ sym c.byte_at-letter.ensures in
    no_base_letter c.args.text.now c.args.from (λ e. c.if-letter-eq120.false (sym l ∙ e)) (λ e. c.if-letter-eq111.false (sym l ∙ e))
