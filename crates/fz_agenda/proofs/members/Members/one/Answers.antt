use Rattle.std.proofs.Common.{◌≡◌, ℕ}
use Rattle.fz_agenda.proofs.Chunks.{listed_are}
use Rattle.fz_agenda.proofs.members.Members.one.Goals as goal

pub returns : goal.returns
returns c = listed_are c.one.result (λ (i : ℕ). i ≡ c.args.place) c.one.ensures.numbers
