use Rattle.std.proofs.Common.{rules}
use Rattle.std.proofs.lemmas.Fn.{always_returns_same}
use Rattle.std.specs.Ordering.{nat_cmp}
use Rattle.std.specs.Cmp.Lexicographic.{slice_cmp}
use Rattle.fz_check.specs.Rows.{row_of}
use Rattle.fz_check.proofs.Halves.{found_row, no_row}
use Rattle.fz_check.proofs.rows.row_among.Goals as goal

pub returns-in-Ok : goal.returns-in-Ok
returns-in-Ok c =
    found_row row_of c.args.rows.now c.args.name.now c.in-Ok.place _ c.requires c.in-Ok.ensures.bound
    (c.in-Ok.ensures.position (λ row. slice_cmp nat_cmp (row_of row).name c.args.name.now) (always_returns_same _ _ _ (λ a r g k. search rules)))

pub returns-in-Err : goal.returns-in-Err
returns-in-Err c =
    no_row row_of c.args.rows.now c.args.name.now c.in-Err.field-0 c.requires
    (c.in-Err.ensures.position (λ row. slice_cmp nat_cmp (row_of row).name c.args.name.now) (always_returns_same _ _ _ (λ a r g k. search rules)))
