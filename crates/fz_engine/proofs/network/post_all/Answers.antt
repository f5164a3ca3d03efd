use Rattle.std.proofs.Common.{◌≡◌, ℕ, ◌+◌, List, ◌∷◌, ◌++◌, ◌∙◌, ap, sym, subst, arith, rules, length, take}
use Rattle.fz_spec.specs.Constraints.{Constraint}
use Rattle.fz_model.specs.Groups.{constraint_at}
use Rattle.fz_strength.specs.Sayings.{Saying, saying_of}
use Rattle.fz_says.specs.Said.{said_by}
use Rattle.fz_engine.specs.Networks.{AreSaidOf, IsListing, IsSaidPlain, sayings_of}
use Rattle.fz_engine.specs.Stronger.{stronger_of}
use Rattle.fz_engine.proofs.Listing.{listing_self}
use Rattle.fz_engine.proofs.Posting.{said_none, fits_of, said_next, said_all, few_so_far, few_after}
use Rattle.fz_engine.proofs.network.post_all.Goals as goal

pub post_plain-requires-clause-fit : goal.post_plain-requires-clause-fit
post_plain-requires-clause-fit c =
    let m = c.args.model.now in
    let item = constraint_at c.at-constraint.result in
    rw (c.saying_of-saying.ensures, c.variables-in-loop-number.ensures.variables)
    (fits_of m c.constraints-constraints.result.now c.loop-number.number item c.constraints-constraints.ensures.kept c.constraints-constraints.ensures.constraints c.at-constraint.ensures)

pub post_plain-requires-clause-few : goal.post_plain-requires-clause-few
post_plain-requires-clause-few c =
    let cs = c.constraints-constraints.result.now in
    let some = ap (λ (l : List Constraint). length l) c.constraints-constraints.ensures.constraints in
    let limit = c.constraints-constraints.ensures.kept.few_constraints in
    let test = c.loop-number-test.true in
    let count = c.len-number-end.ensures in
    let room =
    few_so_far c.args.model.now.variables c.loop-number.posted.propagators.items cs c.loop-number.number c.loop-number.invariant.said (omega (arith, test, count)) (omega (arith, some, limit)) in
    omega (arith, room)

pub post_plain-requires-clause-listing : goal.post_plain-requires-clause-listing
post_plain-requires-clause-listing c =
    listing_self (sayings_of c.loop-number.posted.propagators.items) c.loop-number.posted.wakes (length c.args.model.now.variables) c.loop-number.invariant.listing

pub post_said-requires-clause-fit : goal.post_said-requires-clause-fit
post_said-requires-clause-fit c =
    let m = c.args.model.now in
    let item = constraint_at c.at-constraint.result in
    rw (c.saying_of-saying.ensures, c.variables-in-loop-number-2.ensures.variables)
    (fits_of m c.constraints-constraints.result.now c.loop-number.number item c.constraints-constraints.ensures.kept c.constraints-constraints.ensures.constraints c.at-constraint.ensures)

pub post_said-requires-clause-few : goal.post_said-requires-clause-few
post_said-requires-clause-few c =
    let cs = c.constraints-constraints.result.now in
    let some = ap (λ (l : List Constraint). length l) c.constraints-constraints.ensures.constraints in
    let limit = c.constraints-constraints.ensures.kept.few_constraints in
    let test = c.loop-number-test.true in
    let count = c.len-number-end.ensures in
    let room =
    few_so_far c.args.model.now.variables c.loop-number.posted.propagators.items cs c.loop-number.number c.loop-number.invariant.said (omega (arith, test, count)) (omega (arith, some, limit)) in
    few_after c.loop-number.posted.propagators.items c.post_plain.new.posted.propagators.items (said_by c.saying_of-saying.result) room c.in_ok-post_plain.ensures.said

pub post_said-requires-clause-listing : goal.post_said-requires-clause-listing
post_said-requires-clause-listing c =
    listing_self (sayings_of c.post_plain.new.posted.propagators.items) c.post_plain.new.posted.wakes (length c.loop-number.posted.wakes.any) c.in_ok-post_plain.ensures.listing

pub loop-number-init : goal.loop-number-init
loop-number-init c = record { said = rw c.in_ok-with_capacity.ensures.items (said_none c.args.model.now.variables); listing = search rules }

pub loop-number-preserved : goal.loop-number-preserved
loop-number-preserved c =
    let m = c.args.model.now in
    let cs = c.constraints-constraints.result.now in
    let item = constraint_at c.at-constraint.result in
    let fit = fits_of m cs c.loop-number.number item c.constraints-constraints.ensures.kept c.constraints-constraints.ensures.constraints c.at-constraint.ensures in
    let before = sayings_of c.loop-number.posted.propagators.items in
    let plain = sayings_of c.post_plain.new.posted.propagators.items in
    let after = c.post_said.new.posted in
    let one : IsSaidPlain (saying_of item) before plain = rw c.saying_of-saying.ensures at c.in_ok-post_plain.ensures.said in
    let all : sayings_of after.propagators.items ≡ plain ++ saying_of item ∷ stronger_of m.variables item =
    rw (c.saying_of-saying.ensures, c.is_whole-whole.ensures, c.variables-in-loop-number-2.ensures.variables) at c.in_ok-post_said.ensures.said in
    let width = c.in_ok-post_plain.ensures.listing.size.any ∙ c.loop-number.invariant.listing.size.any in
    record {
      said = subst (λ (l : List Saying). AreSaidOf m.variables (take (c.loop-number.number + 1) cs) l) (sym all)
          (said_next m.variables cs c.loop-number.number item before plain c.constraints-constraints.ensures.kept.sets c.at-constraint.ensures c.loop-number.invariant.said fit one);
      listing = subst (λ (n : ℕ). IsListing (sayings_of after.propagators.items) after.wakes n) width c.in_ok-post_said.ensures.listing;
    }

pub returns-clause-said : goal.returns-clause-said
returns-clause-said c =
    let m = c.args.model.now in
    let cs = c.constraints-constraints.result.now in
    subst (λ (l : List Constraint). AreSaidOf m.variables l (sayings_of c.loop-number.posted.propagators.items)) c.constraints-constraints.ensures.constraints
    (said_all m.variables cs c.loop-number.number (sayings_of c.loop-number.posted.propagators.items) (let test = c.loop-number-test.false in let count = c.len-number-end.ensures in omega (arith, test, count)) c.loop-number.invariant.said)
