use Rattle.std.proofs.Common.{◌∙◌, [], ◌∷◌, sym, arith}
use Rattle.std.proofs.lemmas.List.{length-append}
use Rattle.std.proofs.lemmas.Iterator.Adapters.{YieldsList-from_vec}
use Rattle.std.proofs.lemmas.Iterator.Consumers.{YieldsList-turn, YieldsList-end}
use Rattle.fz_team.proofs.assets.unlocked.Goals as goal

pub push_reserved-requires : goal.push_reserved-requires
push_reserved-requires g c =
    let gives = c.into_iter-asset-iterator.ensures.into_iter_gives in
    let road = YieldsList-from_vec {s = c.into_iter-asset-iterator.result} c.args.assets.items gives.0 (gives.1 ∙ c.args.assets.ok.0) in
    let turn = YieldsList-turn road c.assets.yielded c.assets.asset-iterator c.assets.yielded_by c.next.result c.next.new.self c.in-Some.asset c.in-Some.is c.next.ensures.steps in
    omega (arith, turn.0, c.assets.invariant.0, c.assets.invariant.1, c.args.assets.ok.0, c.requires.room)

pub assets-preserved : goal.assets-preserved
assets-preserved g c =
    let more = length-append c.assets.yielded (c.in-Some.asset ∷ []) in (
      omega (arith, c.push_reserved.ensures.len, c.assets.invariant.0, more),
      omega (arith, c.push_reserved.ensures.capacity, c.assets.invariant.1),
    )

pub returns : goal.returns
returns g c =
    let gives = c.into_iter-asset-iterator.ensures.into_iter_gives in
    let road = YieldsList-from_vec {s = c.into_iter-asset-iterator.result} c.args.assets.items gives.0 (gives.1 ∙ c.args.assets.ok.0) in
    let end = YieldsList-end road c.assets.yielded c.assets.asset-iterator c.assets.yielded_by c.next.result c.next.new.self c.in-None.is c.next.ensures.steps in
    c.assets.invariant.0 ∙ (end.1 ∙ sym c.args.assets.ok.0)
