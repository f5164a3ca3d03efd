use Rattle.std.proofs.Common.{◌≡◌, ◌∙◌, ℕ, List, ◌++◌, ◌∷◌, [], sym, ap, subst, length}
use Rattle.std.proofs.lemmas.List.{length-map}
use Rattle.fz_strength.specs.Sayings.{Saying, cost_of}
use Rattle.fz_says.specs.Said.{said_by}
use Rattle.fz_propagators.specs.Forms.{said_of}
use Rattle.fz_agenda.specs.Wakes.{Waking, HaveSize, with_cost, IsIndexedAt}
use Rattle.fz_engine.specs.Networks.{IsListing, sayings_of}
use Rattle.fz_engine.proofs.Listing.{listing_more, said_more}
use Rattle.fz_engine.proofs.network.post.Goals as goal

pub returns-clause-listing : goal.returns-clause-listing
returns-clause-listing c =
    let before = c.args.posted.now in
    let ps = before.propagators.items in
    let saying = said_by c.args.saying.now in
    let after = c.list_said.new.wakes in
    let is : sayings_of c.push.new.self.items ≡ sayings_of ps ++ saying ∷ [] =
    ap sayings_of c.in_ok-push.ensures.items ∙ said_more said_of ps c.in_ok-propagator.propagator ∙ ap (λ (x : Saying). sayings_of ps ++ x ∷ []) c.in_ok-propagator.ensures in
    let cost : c.add_cost.new.self ≡ with_cost before.wakes (cost_of saying) = c.in_ok-add_cost.ensures.ok ∙ ap (with_cost before.wakes) c.cost.ensures in
    let size : HaveSize after (length before.wakes.any) = subst (λ (w : Waking). HaveSize after (length w.any)) cost c.list_said.ensures.size in
    let place : length c.costs.result.now ≡ length (sayings_of ps) = ap length (c.costs.ensures ∙ c.requires.listing.costs) ∙ length-map (sayings_of ps) cost_of in
    let at : IsIndexedAt after (length (sayings_of ps)) saying = subst (λ (k : ℕ). IsIndexedAt after k saying) place c.in_ok-list_said.ensures.indexed in
    subst (λ (l : List Saying). IsListing l after (length before.wakes.any)) (sym is)
    (listing_more (sayings_of ps) saying before.wakes c.add_cost.new.self after (length before.wakes.any) c.requires.listing cost c.list_said.ensures.extends size c.list_said.ensures.costs at)
