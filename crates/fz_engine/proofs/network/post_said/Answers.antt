use Rattle.std.proofs.Common.{◌∙◌, length}
use Rattle.std.proofs.lemmas.Result.{on_ok_weaker}
use Rattle.fz_says.specs.Said.{said_by}
use Rattle.fz_engine.specs.Networks.{sayings_of}
use Rattle.fz_engine.specs.Stronger.{more_by, said_once_more}
use Rattle.fz_engine.proofs.Listing.{listing_self}
use Rattle.fz_engine.proofs.Posting.{code_fits, few_behind, said_then}
use Rattle.fz_engine.proofs.network.post_said.Goals as goal

pub post_more-requires-clause-fit : goal.post_more-requires-clause-fit
post_more-requires-clause-fit c = code_fits c.args.variables.now c.args.whole (said_by c.args.saying.now) (more_by c.said_once_more-more.result) c.said_once_more-more.ensures c.requires.fit

pub post_more-requires-clause-size : goal.post_more-requires-clause-size
post_more-requires-clause-size c = c.in_ok-post_fit.ensures.listing.size.any ∙ c.requires.size

pub post_more-requires-clause-few : goal.post_more-requires-clause-few
post_more-requires-clause-few c = few_behind c.args.posted.now.propagators.items c.post_fit.new.posted.propagators.items (said_by c.args.saying.now) 1 c.requires.few c.in_ok-post_fit.ensures.said

pub post_more-requires-clause-listing : goal.post_more-requires-clause-listing
post_more-requires-clause-listing c =
    listing_self (sayings_of c.post_fit.new.posted.propagators.items) c.post_fit.new.posted.wakes (length c.args.posted.now.wakes.any) c.in_ok-post_fit.ensures.listing

pub returns-clause-said : goal.returns-clause-said
returns-clause-said c =
    let vs = c.args.variables.now in
    let s = said_by c.args.saying.now in
    on_ok_weaker c.post_more.result
    (λ more. said_then (sayings_of c.args.posted.now.propagators.items) (sayings_of c.post_fit.new.posted.propagators.items) (sayings_of c.post_more.new.posted.propagators.items) (more_by c.said_once_more-more.result)
    (said_once_more vs c.args.whole s) s c.in_ok-post_fit.ensures.said c.said_once_more-more.ensures more)
    c.post_more.ensures.said
