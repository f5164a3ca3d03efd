use Rattle.std.proofs.Common.{◌∙◌, ◌-◌, ◌^◌, ap, replicate}
use Rattle.fz_bits.proofs.Members.{all_members}
use Rattle.fz_column.proofs.row_set.fill.Goals as goal

pub returns-clause-members : goal.returns-clause-members
returns-clause-members c =
    let words = c.args.rows.now in
    let full = c.fill.ensures.after (λ y e. e) ∙ ap (λ n. replicate n (2 ^ 64 - 1)) c.requires in
    rw full (all_members c.args.count)
