use Rattle.std.proofs.Common.{◌∙◌, [], ◌∷◌, sym, arith}
use Rattle.std.proofs.lemmas.List.{length-append}
use Rattle.std.proofs.lemmas.Iterator.Adapters.{YieldsList-from_vec}
use Rattle.std.proofs.lemmas.Iterator.Consumers.{YieldsList-end}
use Rattle.fz_team.proofs.assets.locked.Goals as goal

pub loop-path-preserved : goal.loop-path-preserved
loop-path-preserved g c =
    let more = length-append c.loop-path.yielded (c.in-Some.path ∷ []) in
    omega (arith, c.in_ok-push.ensures.len, c.loop-path.invariant, more)

pub returns : goal.returns
returns g c =
    let gives = c.into_iter-path-iterator.ensures.into_iter_gives in
    let road = YieldsList-from_vec {s = c.into_iter-path-iterator.result} c.args.paths.items gives.0 (gives.1 ∙ c.args.paths.ok.0) in
    let end = YieldsList-end road c.loop-path.yielded c.loop-path.path-iterator c.loop-path.yielded_by c.next.result c.next.new.self c.in-None.is c.next.ensures.steps in
    c.loop-path.invariant ∙ (end.1 ∙ sym c.args.paths.ok.0)
