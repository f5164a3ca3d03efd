use Rattle.std.proofs.Common.{◌≡◌, ◌<◌, length, refl, subst, sym, rules}
use Rattle.std.specs.Vec.{vec_len}
use Rattle.fz_machine.specs.declared.event.Event.TheVariants.{Claim}
use Rattle.fz_machine.specs.declared.event.Outcome.TheVariants.{Moved}
use Rattle.fz_path.specs.Paths.{bare}
use Rattle.fz_machine.specs.Cores.{Core, CoreLaw}
use Rattle.fz_machine.proofs.Keeping.{event_keeps}
use Rattle.fz_machine.proofs.AsCode.{claim_code, some_unclaimed, claims_within}
use Rattle.fz_machine.proofs.machine.Machine.claim.Goals as goal

pub unreachable-requires : goal.unreachable-requires
unreachable-requires g c =
    let s : Core = record { workers = c.self.inside.workers.items; book = c.self.inside.book.book } in
    some_unclaimed s c.args.self.now c.args.worker c.in_ok-frontier.field-0 c.self.view_is c.requires c.in_default.is c.in_ok-frontier.ensures.none

pub index_mut-requires : goal.index_mut-requires
index_mut-requires g c =
    let s : Core = record { workers = c.self.inside.workers.items; book = c.self.inside.book.book } in
    let long : vec_len c.self.inside.workers ≡ length c.self.inside.workers.items = search rules in
    subst (λ n. c.args.worker < n) (sym long) (claims_within s c.args.self.now c.args.worker c.self.view_is c.requires)

pub invariant_of-self-2 : goal.invariant_of-self-2
invariant_of-self-2 g c =
    let s : Core = record { workers = c.self.inside.workers.items; book = c.self.inside.book.book } in
    event_keeps (Claim c.args.worker) Moved c.args.self.now _ (subst CoreLaw c.self.view_is c.self.invariant)
    (refl, claim_code s c.args.self.now c.args.worker c.index_mut.result.now (bare c.behind-self.inside.path) c.behind-self.inside.hand c.in_ok-frontier.field-0 c.in-Some.frontier c.of.result c.claim.new.self.book c.self.view_is c.requires c.index_mut.ensures.value c.behind-self.view_is c.in-Some.is c.in_ok-frontier.ensures.some c.of.ensures)

pub returns-clause-ok : goal.returns-clause-ok
returns-clause-ok g c =
    let s : Core = record { workers = c.self.inside.workers.items; book = c.self.inside.book.book } in
    (refl, claim_code s c.args.self.now c.args.worker c.index_mut.result.now (bare c.behind-self.inside.path) c.behind-self.inside.hand c.in_ok-frontier.field-0 c.in-Some.frontier c.of.result c.claim.new.self.book c.self.view_is c.requires c.index_mut.ensures.value c.behind-self.view_is c.in-Some.is c.in_ok-frontier.ensures.some c.of.ensures)
