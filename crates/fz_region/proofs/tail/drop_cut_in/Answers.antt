use Rattle.std.proofs.Common.{ap, sym, subst, List, set}
use Rattle.fz_tree.specs.Frontier.{Edge}
use Rattle.fz_region.specs.Places.{IsTopmost}
use Rattle.fz_region.specs.Pieces.{AreSettled}
use Rattle.fz_region.proofs.AtPlace.{rest_code}
use Rattle.fz_region.proofs.Settled.{rest_settled}
use Rattle.fz_region.proofs.tail.drop_cut_in.Goals as goal

pub returns-in-Some : goal.returns-in-Some
returns-in-Some c =
    let es : List Edge = c.args.tail.now.items in
    let top : IsTopmost es c.in-Some.i = subst (λ (l : List Edge). IsTopmost l c.in-Some.i) c.deref.ensures.value c.in-Some.ensures in
    rest_code es (set es c.in-Some.i c.drop_cut.new.self) c.in-Some.i c.index_mut.result.now top c.index_mut.ensures.value (ap (set es c.in-Some.i) c.drop_cut.ensures)

pub returns-in_default : goal.returns-in_default
returns-in_default c = sym (rest_settled c.args.tail.now.items (subst AreSettled c.deref.ensures.value c.in_default.ensures))
