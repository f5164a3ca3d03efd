use Rattle.fz_space.proofs.Fronts.{same_front}
use Rattle.fz_space.proofs.contents.ContentsSearchSpace.copy_from.Goals as goal

pub write_store-requires-clause-front : goal.write_store-requires-clause-front
write_store-requires-clause-front c =
    same_front c.shared_count-from.result c.self.inside.settled c.other.inside.settled c.self.inside.store.doms c.other.inside.store.doms c.self.invariant.1 c.other.invariant.1 c.shared_count-from.ensures.within c.shared_count-from.ensures.same
