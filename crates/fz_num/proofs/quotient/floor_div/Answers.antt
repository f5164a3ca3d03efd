use Rattle.std.proofs.Common.{rules, arith, inl, inr, pos, ◌<ℤ◌, ◌≢◌, ◌≡◌}
use Rattle.std.specs.Int.{int_div_euclid, int_rem_euclid}
use Rattle.std.proofs.lemmas.Int.{ints}
use Rattle.fz_num.proofs.Euclid.{floor_at, floor_below, fits_near}
use Rattle.fz_num.proofs.quotient.floor_div.Goals as goal
use Rattle.fz_num.proofs.quotient.floor_div.Goals.{else-b-lt0-via-then-b-lt0+else-rem_euclid-ne0, else-b-lt0-via-else-b-lt0}

pub returns-then-rem_euclid-ne0 : goal.returns-then-rem_euclid-ne0
returns-then-rem_euclid-ne0 c =
    let a = c.args.a in
    let b = c.args.b in
    let lt : b <ℤ pos 0 = grind (arith, ints) in
    let q : c.div_euclid-quotient.result ≡ int_div_euclid a b = search rules in
    let r : c.rem_euclid.result ≡ int_rem_euclid a b = search rules in
    let fits = fits_near a b c.requires.low c.requires.high in
    let f = fits.0 in let g = fits.1 in
    let n : int_rem_euclid a b ≢ pos 0 = (λ z. let t = c.if-rem_euclid-ne0.true in grind (arith, ints)) in
    floor_below a b _ lt (rw q (search rules)) n

pub returns-else-b-lt0 : goal.returns-else-b-lt0
returns-else-b-lt0 c =
    let a = c.args.a in
    let b = c.args.b in
    let q : c.div_euclid-quotient.result ≡ int_div_euclid a b = search rules in
    floor_at a b _ c.requires.nonzero (omega (arith, ints))
    (elim c.else-b-lt0.branch [
      | else-b-lt0-via-then-b-lt0+else-rem_euclid-ne0 w ↦ (let r : w.rem_euclid.result ≡ int_rem_euclid a b = search rules in inr (grind (arith, ints)))
      | else-b-lt0-via-else-b-lt0 w ↦ inl (grind (arith, ints))
    ])
