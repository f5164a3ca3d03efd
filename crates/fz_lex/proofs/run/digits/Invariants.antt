use Rattle.std.proofs.Common.{length, ◌-◌, ◌≡◌, slice_range, min}
use Rattle.fz_language.specs.Tokens.{digits_value}
use Rattle.fz_lex.specs.Steps.{Passes, is_digit_of, radix_of}
use Rattle.fz_lex.specs.declared.run.TheConstants.{OVER}
use Rattle.fz_lex.proofs.run.digits.Given as goal

abbrev pub invariant-digits : goal.invariant-digits
invariant-digits l =
    Passes (is_digit_of l.radix) l.text l.from l.stop × (l.value ≡ min (digits_value (radix_of l.radix) (slice_range l.text l.from l.stop)) OVER) × (l.base ≡ radix_of l.radix)

abbrev pub decreases-digits : goal.decreases-digits
decreases-digits l = length l.text - l.stop
