use Rattle.fz_regular.specs.BitRows.{Has, HaveBoth}
use Rattle.fz_regular.proofs.Words.{next_as}
use Rattle.fz_regular.proofs.bit_rows.BitRows.next.Goals as goal

pub returns : goal.returns
returns c =
    let b = c.args.self.now in
    let row = c.args.row in
    next_as (HaveBoth b row b row) (Has b row) c.args.from c.next_common.result (λ k. ((λ h. h.0), (λ h. (h, h)))) c.next_common.ensures
