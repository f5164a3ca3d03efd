use Rattle.std.proofs.Common.{◌≡◌, ◌∙◌, ◌<◌, ◌-◌, ◌%◌, length, ap, arith}
use Rattle.std.proofs.lemmas.Result.{IfOk-weaker}
use Rattle.fz_path.specs.Paths.{Pathed, bare}
use Rattle.fz_search.specs.Searched.{asset_path}
use Rattle.fz_search.proofs.OnAssets.{is_first, is_next}
use Rattle.fz_search.proofs.assets.next_of.Goals as goal

pub returns-then-worker-assets : goal.returns-then-worker-assets
returns-then-worker-assets g c =
    IfOk-weaker c.first_of.result _ _ (λ p is. is_first g.B.Subject.model g.B.Subject.mode c.args.options.now (length c.args.paths.now) c.assets-assets.result (bare p) c.assets-assets.ensures.assets c.if-worker-assets.true is) c.first_of.ensures

pub beside-requires-clause-holds_nothing : goal.beside-requires-clause-holds_nothing
beside-requires-clause-holds_nothing g c =
    let low : length c.args.paths.now - c.assets-assets.result < length c.args.paths.now = omega (arith, c.if-worker-assets.false, c.assets-assets.ensures.kept.assets.0, c.assets-assets.ensures.assets) in
    ap (λ (b : Pathed). b.held) (ap bare (c.path.ensures.path ∙ c.index-paths-worker.is) ∙ c.requires.others (length c.args.paths.now - c.assets-assets.result) c.index-paths-worker.result low)

pub beside-requires-clause-knows_nothing : goal.beside-requires-clause-knows_nothing
beside-requires-clause-knows_nothing g c =
    let low : length c.args.paths.now - c.assets-assets.result < length c.args.paths.now = omega (arith, c.if-worker-assets.false, c.assets-assets.ensures.kept.assets.0, c.assets-assets.ensures.assets) in
    ap (λ (b : Pathed). b.known) (ap bare (c.path.ensures.path ∙ c.index-paths-worker.is) ∙ c.requires.others (length c.args.paths.now - c.assets-assets.result) c.index-paths-worker.result low)

pub returns : goal.returns
returns g c =
    let low : length c.args.paths.now - c.assets-assets.result < length c.args.paths.now = omega (arith, c.if-worker-assets.false, c.assets-assets.ensures.kept.assets.0, c.assets-assets.ensures.assets) in
    let own : bare c.path.result.now ≡ asset_path g.B.Subject.model g.B.Subject.mode c.args.options.now ((length c.args.paths.now - c.assets-assets.result) % c.args.options.now.assets) =
    ap bare (c.path.ensures.path ∙ c.index-paths-worker.is) ∙ c.requires.others (length c.args.paths.now - c.assets-assets.result) c.index-paths-worker.result low in
    IfOk-weaker c.beside.result _ _
    (λ p is. is_next g.B.Subject.model g.B.Subject.mode c.args.options.now (length c.args.paths.now) c.assets-assets.result (bare p) c.assets-assets.ensures.assets c.if-worker-assets.false (is ∙ own)) c.beside.ensures.path
