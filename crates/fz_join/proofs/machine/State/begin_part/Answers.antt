use Rattle.std.proofs.Common.{◌≡◌, ◌∙◌, None, sym, ap, option_map, [], rules}
use Rattle.fz_join.specs.Joins.{rank}
use Rattle.fz_join.specs.Machine.{fresh, least_of, spoilt}
use Rattle.fz_join.specs.Tallies.{state_of, times_of}
use Rattle.fz_join.proofs.Prefixes.{begins_known, begins_unknown, not_counted, unknown, with_times}
use Rattle.fz_join.proofs.machine.State.begin_part.Goals as goal

pub returns-then-not-count : goal.returns-then-not-count
returns-then-not-count c =
    let name = c.split_word.result.0.now in
    let none : times_of c.args.self.now.tally name ≡ None = unknown (times_of c.args.self.now.tally name) (sym c.count.ensures.known ∙ c.if-not-count.true) in
    let same : times_of c.count.new.self ≡ times_of c.args.self.now.tally = c.count.ensures.counted ∙ not_counted name (times_of c.args.self.now.tally) none in
    let s = state_of c.args.self.now in
    c.spoil-then-not-count.ensures ∙ ap (λ times. spoilt (with_times s times)) same ∙ sym (begins_unknown c.args.model.now s c.args.line.now c.in-Some.words.now name c.split_word.result.1.now c.in-Some.ensures c.split_word.ensures none)

pub returns : goal.returns
returns c =
    let s = c.args.self.now in
    let name = c.split_word.result.0.now in
    let bound = c.in-Some-bound_of.bound in
    let told : c.map.result ≡ option_map (rank c.args.model.now.goal) bound = search rules in
    let section : c.fresh.result ≡ fresh [] = c.fresh.ensures ∙ ap fresh c.new-2.ensures.items in
    let least = c.least_of-self.ensures ∙ ap (least_of s.bound) told in
    let counts = c.count.ensures.counted in
    let known = sym c.count.ensures.known ∙ c.if-not-count.false in
    (cc) ∙ sym (begins_known c.args.model.now (state_of s) c.args.line.now c.in-Some.words.now name c.split_word.result.1.now bound c.in-Some.ensures c.split_word.ensures known c.in-Some-bound_of.ensures.value)
