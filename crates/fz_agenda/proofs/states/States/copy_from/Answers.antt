use Rattle.std.proofs.Common.{◌∙◌, sym, ap, length}
use Rattle.fz_bits.specs.Members.{words_for}
use Rattle.fz_agenda.proofs.StateBits.{same_count, copied}
use Rattle.fz_agenda.proofs.states.States.copy_from.Goals as goal

pub copy_from-requires : goal.copy_from-requires
copy_from-requires c =
    let mine = c.self.inside in
    let theirs = c.other.inside in
    let same = same_count mine.alive mine.queued theirs.alive theirs.queued c.args.self.now c.args.other.now mine.count theirs.count c.self.view_is c.other.view_is c.requires in
    c.self.invariant.alive ∙ ap words_for same ∙ sym c.other.invariant.alive

pub copy_from-requires-2 : goal.copy_from-requires-2
copy_from-requires-2 c =
    let mine = c.self.inside in
    let theirs = c.other.inside in
    let same = same_count mine.alive mine.queued theirs.alive theirs.queued c.args.self.now c.args.other.now mine.count theirs.count c.self.view_is c.other.view_is c.requires in
    c.self.invariant.queued ∙ ap words_for same ∙ sym c.other.invariant.queued

pub invariant_of-self : goal.invariant_of-self
invariant_of-self c =
    let mine = c.self.inside in
    let theirs = c.other.inside in
    let same = same_count mine.alive mine.queued theirs.alive theirs.queued c.args.self.now c.args.other.now mine.count theirs.count c.self.view_is c.other.view_is c.requires in
    record {
      alive = ap length c.copy_from.ensures ∙ c.other.invariant.alive ∙ ap words_for (sym same);
      queued = ap length c.copy_from-2.ensures ∙ c.other.invariant.queued ∙ ap words_for (sym same);
    }

pub returns : goal.returns
returns c =
    let mine = c.self.inside in
    let theirs = c.other.inside in
    let same = same_count mine.alive mine.queued theirs.alive theirs.queued c.args.self.now c.args.other.now mine.count theirs.count c.self.view_is c.other.view_is c.requires in
    copied theirs.alive theirs.queued c.copy_from.new.self c.copy_from-2.new.self c.args.other.now mine.count theirs.count same c.copy_from.ensures c.copy_from-2.ensures c.other.view_is
