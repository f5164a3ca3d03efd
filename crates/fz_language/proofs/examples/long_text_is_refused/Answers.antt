use Rattle.std.proofs.Common.{inl, refl}
use Rattle.fz_spec.specs.declared.limits.TheConstants.{TEXT_LIMIT}
use Rattle.fz_language.proofs.examples.long_text_is_refused.Goals as goal

pub returns : goal.returns
returns c = λ text long. record { at = TEXT_LIMIT; refused = inl (record { long = long; code = refl; place = refl }); line_is = refl; column_is = refl }
