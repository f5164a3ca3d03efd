use Rattle.std.proofs.Common.{ℕ, ◌+◌, ◌*◌, ◌∙◌, min, slice_index, ap, sym}
use Rattle.fz_language.specs.Tokens.{digit_value}
use Rattle.fz_lex.specs.Steps.{is_digit_of, radix_of}
use Rattle.fz_lex.proofs.Runs.{passes_more, value_more, bases}
use Rattle.fz_lex.specs.declared.run.TheConstants.{OVER}
use Rattle.fz_lex.proofs.run.digits.Goals as goal

pub digits-preserved : goal.digits-preserved
digits-preserved c =
    let text = c.args.text.now in
    let radix = c.args.radix in
    let pass = c.digits.invariant.0 in (
      passes_more (is_digit_of radix) text c.args.from c.digits.stop c.digits-test.true (sym c.is_digit.ensures ∙ c.if-is_digit.true) pass,
      c.min-value.ensures
          ∙ ap (λ (d : ℕ). min (c.match-radix.base * c.digits.value + d) OVER) (c.from-digit.ensures ∙ c.value_of.ensures)
          ∙ ap (λ (b : ℕ). min (b * c.digits.value + digit_value (slice_index text c.digits.stop)) OVER) c.digits.invariant.2
          ∙ value_more (radix_of radix) text c.args.from c.digits.stop c.digits.value OVER (bases radix) pass.ordered c.digits-test.true c.digits.invariant.1,
      c.digits.invariant.2,
    )
