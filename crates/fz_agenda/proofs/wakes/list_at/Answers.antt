use Rattle.std.proofs.Common.{◌∙◌, []}
use Rattle.fz_sets.proofs.Lists.{same_at}
use Rattle.fz_agenda.proofs.Places.{listing}
use Rattle.fz_agenda.proofs.wakes.list_at.Goals as goal

pub returns-clause-extends : goal.returns-clause-extends
returns-clause-extends c =
    let lists = c.args.lists.now.items in
    let p = c.args.variable in
    (listing c.add.result lists p c.args.place c.index_mut.result.now c.add.new.self c.requires (c.index_mut.ensures.value ∙ same_at lists p c.index_mut.result.now [] c.requires) (c.add.ensures.ok, c.add.ensures.err)).extends

pub returns-clause-listed : goal.returns-clause-listed
returns-clause-listed c =
    let lists = c.args.lists.now.items in
    let p = c.args.variable in
    (listing c.add.result lists p c.args.place c.index_mut.result.now c.add.new.self c.requires (c.index_mut.ensures.value ∙ same_at lists p c.index_mut.result.now [] c.requires) (c.add.ensures.ok, c.add.ensures.err)).listed

pub returns-clause-only : goal.returns-clause-only
returns-clause-only c =
    let lists = c.args.lists.now.items in
    let p = c.args.variable in
    (listing c.add.result lists p c.args.place c.index_mut.result.now c.add.new.self c.requires (c.index_mut.ensures.value ∙ same_at lists p c.index_mut.result.now [] c.requires) (c.add.ensures.ok, c.add.ensures.err)).only
