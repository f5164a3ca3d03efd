use Rattle.std.proofs.Common.{◌∙◌, ap, ℕ, List, arith}
use Rattle.std.specs.Prelude.{slice_index}
use Rattle.fz_agenda.proofs.StateBits.{within_states, within_words, states_gone, removed}
use Rattle.fz_agenda.proofs.states.States.retire.Goals as goal

pub remove-requires : goal.remove-requires
remove-requires c =
    let now = c.self.inside in
    let is = ap (λ (xs : List ℕ). slice_index xs c.args.place) c.self.view_is ∙ c.requires in
    within_words now.alive now.count c.args.place c.self.invariant.alive (within_states now.alive now.queued now.count c.args.place 1 is (omega arith))

pub returns : goal.returns
returns c =
    let now = c.self.inside in
    let is = ap (λ (xs : List ℕ). slice_index xs c.args.place) c.self.view_is ∙ c.requires in
    rw (← c.self.view_is) (states_gone now.alive now.queued c.remove.new.self now.count c.args.place (within_states now.alive now.queued now.count c.args.place 1 is (omega arith))
    (removed c.args.place now.alive c.remove.new.self c.remove.ensures.members))
