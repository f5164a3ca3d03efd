use Rattle.std.proofs.Common.{◌≡◌, ◌+◌, ◌*◌, ◌∙◌, ℕ, List, sym, ap, subst, arith, length}
use Rattle.std.specs.Prelude.{◌↔◌, slice_index}
use Rattle.std.specs.Int.{bit_at}
use Rattle.fz_agenda.proofs.StateBits.{states_length, idle_bit}
use Rattle.fz_agenda.proofs.states.States.idle_in.Goals as goal

pub returns : goal.returns
returns c = λ k small within.
    let now = c.self.inside in
    let size : length c.args.self.now ≡ now.count = ap length (sym c.self.view_is) ∙ states_length now.alive now.queued now.count in
    subst (λ (xs : List ℕ). (bit_at c.without.result k ≡ 1) ↔ (slice_index xs (c.args.word * 64 + k) ≡ 0)) c.self.view_is
    (idle_bit now.alive now.queued now.count c.args.word k c.word.result c.word-2.result c.without.result small (omega (arith, within, size))
    c.word.ensures c.word-2.ensures (c.without.ensures k small))
