use Rattle.std.proofs.Common.{◌≡◌, ◌||◌, ◌==◌, true, false, ℕ, slice_index, sym, ap, ◌∙◌}
use Rattle.fz_lex.proofs.Numbers.{no_letter, no_exponent, longest_exponent, letter_from, no_letter_from}
use Rattle.fz_lex.proofs.number.exponent_end.Goals as goal

pub returns-then-not-is_exponent_letter : goal.returns-then-not-is_exponent_letter
returns-then-not-is_exponent_letter c =
    let e : ((slice_index c.args.text.now c.args.at == 101) || (slice_index c.args.text.now c.args.at == 69)) ≡ false =
    ap (λ (b : ℕ). (b == 101) || (b == 69)) (sym c.byte_at.ensures) ∙ sym c.is_exponent_letter.ensures ∙ c.if-not-is_exponent_letter.true in
    let n = no_letter_from (slice_index c.args.text.now c.args.at) e in
    no_letter c.args.text.now c.args.at n.0 n.1

pub returns-in-Some : goal.returns-in-Some
returns-in-Some c =
    let e : ((slice_index c.args.text.now c.args.at == 101) || (slice_index c.args.text.now c.args.at == 69)) ≡ true =
    ap (λ (b : ℕ). (b == 101) || (b == 69)) (sym c.byte_at.ensures) ∙ sym c.is_exponent_letter.ensures ∙ c.if-not-is_exponent_letter.false in
    longest_exponent c.args.text.now c.args.at c.behind_sign.result _ (letter_from (slice_index c.args.text.now c.args.at) e) c.behind_sign.ensures c.in-Some.ensures.first c.in-Some.ensures.are

pub returns-in-None : goal.returns-in-None
returns-in-None c = no_exponent c.args.text.now c.args.at c.behind_sign.result c.behind_sign.ensures c.in-None.ensures
