use Rattle.std.proofs.Common.{◌∙◌, ap, rules, arith, ℕ, ◌+◌, length}
use Rattle.std.proofs.lemmas.List.{length-take}
use Rattle.std.proofs.lemmas.Result.{err_from_is_err_and}
use Rattle.fz_io.specs.Outside.{without}
use Rattle.fz_io.proofs.Pieces.{read_end, without_two, moved}
use Rattle.fz_io.proofs.whole.read_all.Goals as goal

pub returns-in-Ok-eq0-clause-whole : goal.returns-in-Ok-eq0-clause-whole
returns-in-Ok-eq0-clause-whole g c =
    let left0 = g.R.Source.left c.args.source.now in
    let m = rw (c.in-Ok-eq0.field-0-test, c.pieces.invariant.left) at c.in-Ok-eq0.ensures.moves in
    read_end c.args.limit left0 (g.R.Source.left c.read.new.self) c.pieces.bytes.items _ (search rules) c.pieces.invariant.front m

pub returns-in_err-extend_from_slice-in-Ok-clause-memory_left : goal.returns-in_err-extend_from_slice-in-Ok-clause-memory_left
returns-in_err-extend_from_slice-in-Ok-clause-memory_left g c =
    let p = err_from_is_err_and c.from_residual.result c.from_residual.ensures.1 in
    let left0 = g.R.Source.left c.args.source.now in
    rw p.1 (
      length c.pieces.bytes.items + c.in-Ok.count,
      omega (arith, c.in-Ok.ensures.within, length-take {A = ℕ}),
      moved c.in-Ok.count _ (g.R.Source.left c.read.new.self) _ c.in-Ok.ensures.moves ∙ ap (λ u. without u c.in-Ok.count) c.pieces.invariant.left
          ∙ without_two left0 (length c.pieces.bytes.items) c.in-Ok.count,
    )
