use Rattle.std.proofs.Common.{sym, arith, length-take}
use Rattle.std.proofs.lemmas.List.{length-take-le}
use Rattle.fz_spec.specs.declared.limits.TheConstants.{TEXT_LIMIT}
use Rattle.fz_reader.proofs.Readings.{long_refusal}
use Rattle.fz_reader.proofs.reader.too_long.Goals as goal

pub slice_bounds-refusal_of-end : goal.slice_bounds-refusal_of-end
slice_bounds-refusal_of-end c = let long = c.requires.long in sym (length-take-le TEXT_LIMIT c.args.text.now (omega (arith, long)))

pub refusal_of-requires : goal.refusal_of-requires
refusal_of-requires c = record { short = (let e = length-take TEXT_LIMIT c.args.text.now in omega (arith, e)) }

pub returns : goal.returns
returns c = long_refusal c.args.text.now c.refusal_of.result c.requires.long c.refusal_of.ensures.code c.refusal_of.ensures.line c.refusal_of.ensures.column
