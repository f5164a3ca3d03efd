use Rattle.std.proofs.Common.{◌∙◌, ap, sym, take, length}
use Rattle.std.proofs.lemmas.Slice.Eq.{slice_eq-Decides}
use Rattle.std.proofs.lemmas.Bool.Decides.{Decides-int_eq}
use Rattle.fz_space.proofs.settled.Settled.shared_count.Goals as goal

pub returns-then-eq-clause-same : goal.returns-then-eq-clause-same
returns-then-eq-clause-same c =
    let same = (slice_eq-Decides Decides-int_eq c.numbers.result.now c.numbers-2.result.now c.eq.result c.eq.ensures).0 c.if-eq.true in
    ap (take (length c.numbers-then-eq.result.now)) (sym c.numbers.ensures ∙ same ∙ c.numbers-2.ensures)
