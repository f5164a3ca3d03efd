use Rattle.std.proofs.Common.{ap, ◌∙◌, ◌+◌, subst, List, take, set}
use Rattle.fz_tree.specs.Frontier.{Edge}
use Rattle.fz_region.specs.Places.{IsDeepest}
use Rattle.fz_region.proofs.AtPlace.{next_code}
use Rattle.fz_region.proofs.tail.take_next_in.Goals as goal

pub returns-clause-moved : goal.returns-clause-moved
returns-clause-moved c =
    let es : List Edge = c.args.tail.now.items in
    let deep : IsDeepest es c.in-Some.i = subst (λ (l : List Edge). IsDeepest l c.in-Some.i) c.deref.ensures.value c.in-Some.ensures in
    next_code es c.truncate.new.self.items c.in-Some.i c.index_mut.result.now deep c.index_mut.ensures.value
    (c.truncate.ensures.items ∙ ap (λ (e : Edge). take (c.in-Some.i + 1) (set es c.in-Some.i e)) c.take_next.ensures)
