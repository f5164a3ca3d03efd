use Rattle.std.proofs.Common.{◌≡◌, ◌∙◌, sym, ap, ℕ, List, arith, length}
use Rattle.std.specs.Prelude.{slice_index}
use Rattle.fz_agenda.proofs.StateBits.{states_length, within_words, queue_one, inserted}
use Rattle.fz_agenda.proofs.states.States.queue.Goals as goal

pub insert-requires : goal.insert-requires
insert-requires c =
    let now = c.self.inside in
    let size : length c.args.self.now ≡ now.count = ap length (sym c.self.view_is) ∙ states_length now.alive now.queued now.count in
    within_words now.queued now.count c.args.place c.self.invariant.queued (omega (arith, size, c.requires.within))

pub returns : goal.returns
returns c =
    let now = c.self.inside in
    let size : length c.args.self.now ≡ now.count = ap length (sym c.self.view_is) ∙ states_length now.alive now.queued now.count in
    rw (← c.self.view_is) (queue_one now.alive now.queued c.insert.new.self now.count c.args.place 0 (omega (arith, size, c.requires.within))
    (ap (λ (xs : List ℕ). slice_index xs c.args.place) c.self.view_is ∙ c.requires.idle) (omega arith) 1 (inserted c.args.place now.queued c.insert.new.self c.insert.ensures.members))
