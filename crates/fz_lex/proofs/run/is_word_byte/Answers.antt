use Rattle.std.proofs.Common.{◌≡◌, ◌<◌, ◌+◌, false, List, Bool, map, get_or, refl, ap, arith, ◌∙◌}
use Rattle.std.specs.List.{range_with_len}
use Rattle.std.proofs.lemmas.List.FromFn.{get_or-map-range_with_len}
use Rattle.fz_language.specs.Tokens.{is_word_byte}
use Rattle.fz_lex.specs.declared.run.TheConstants.{WORD_BYTES}
use Rattle.fz_lex.proofs.run.is_word_byte.Goals as goal

-- the table has an entry for each byte
table : WORD_BYTES ≡ map is_word_byte (range_with_len 0 256)
table = refl

pub returns : goal.returns
returns c =
    let few : c.from.result < 256 = omega (arith, c.from.ensures, c.ranges.byte.fits) in
    let same : 0 + c.from.result ≡ c.args.byte = omega (arith, c.from.ensures) in
    ap (λ (bytes : List Bool). get_or bytes c.from.result false) table ∙ get_or-map-range_with_len is_word_byte 0 256 c.from.result c.args.byte false few same
