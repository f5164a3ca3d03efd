use Rattle.std.proofs.Common.{length, drop, length-drop, ◌<◌, arith}
use Rattle.fz_prop.proofs.Steps.{kept_taken}
use Rattle.fz_prop.proofs.store.Store.take_changed.Goals as goal

pub invariant_of-self : goal.invariant_of-self
invariant_of-self c =
    let some : 0 < length (drop c.self.inside.head c.self.inside.changed.items) = rw (← c.self.view_is) at c.requires in
    let within : c.self.inside.head < length c.self.inside.changed.items =
    omega (arith, some, length-drop c.self.inside.head c.self.inside.changed.items) in (
      kept_taken c.self.inside.doms.items c.self.inside.marks.items c.self.inside.changed.items c.close_up-self-inside.new.changed.items c.self.inside.head c.close_up-self-inside.result
          c.index-first.result.now c.index-first.result.now c.self.invariant.0 within c.index-first.ensures c.close_up-self-inside.ensures.left,
      c.close_up-self-inside.ensures.inside,
      omega arith,
    )
