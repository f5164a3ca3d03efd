use Rattle.std.proofs.Common.{◌≡◌, ℤ, pos, List, [], ◌∷◌, get_or, arith, rules, w32, to_z, of_z}
use Rattle.std.proofs.lemmas.List.{nil_from_length}
use Rattle.fz_sets.specs.Sets.{AreRanges, AreOneSet, interval}
use Rattle.fz_dom.specs.Places.{bit_ranges}
use Rattle.fz_dom.proofs.Gathered.{IfOk-both, close_one_set, close_ranges}
use Rattle.fz_dom.proofs.Merging.{unique, interval_one_set, interval_ranges, one_range}
use Rattle.fz_dom.proofs.domain.Dom.from_ranges.Goals as goal

pub returns-in-empty-clause-unique : goal.returns-in-empty-clause-unique
returns-in-empty-clause-unique c =
    let e : c.args.ranges.now ≡ [] = nil_from_length c.args.ranges.now (omega arith) in
    rw c.empty.ensures (λ s h one. let f : AreOneSet s [] = rw e at one in unique [] s [] tt (λ x. (λ i. i, λ i. i)) h f)

pub returns-in-len1-clause-one_set : goal.returns-in-len1-clause-one_set
returns-in-len1-clause-one_set c =
    let rs = c.args.ranges.now in
    let d : ℤ × ℤ = (pos 0, pos 0) in
    let l = to_z w32 (of_z w32 (get_or rs 0 d).0) in
    let u = to_z w32 (of_z w32 (get_or rs 0 d).1) in
    let p : l ≡ (get_or rs 0 d).0 = search rules in
    let q : u ≡ (get_or rs 0 d).1 = search rules in
    let e : rs ≡ (l, u) ∷ [] = rw (p, q) (one_range rs d (omega arith)) in
    rw c.interval.ensures (interval_one_set rs l u e)

pub returns-in-len1-clause-unique : goal.returns-in-len1-clause-unique
returns-in-len1-clause-unique c =
    let rs = c.args.ranges.now in
    let d : ℤ × ℤ = (pos 0, pos 0) in
    let l = to_z w32 (of_z w32 (get_or rs 0 d).0) in
    let u = to_z w32 (of_z w32 (get_or rs 0 d).1) in
    let p : l ≡ (get_or rs 0 d).0 = search rules in
    let q : u ≡ (get_or rs 0 d).1 = search rules in
    let e : rs ≡ (l, u) ∷ [] = rw (p, q) (one_range rs d (omega arith)) in
    rw c.interval.ensures (λ s h one. unique (interval l u) s rs (interval_ranges l u) (interval_one_set rs l u e) h one)

pub returns-in-Some-clause-one_set : goal.returns-in-Some-clause-one_set
returns-in-Some-clause-one_set c = rw c.close.ensures (close_one_set c.in-Some.window.base c.in-Some.window.bits c.args.ranges.now c.in-Some.ensures.one_set)

pub returns-in-Some-clause-unique : goal.returns-in-Some-clause-unique
returns-in-Some-clause-unique c =
    let w = c.in-Some.window in
    rw c.close.ensures (λ s h one. unique (bit_ranges w.base w.bits) s c.args.ranges.now (close_ranges w.base w.bits) (close_one_set w.base w.bits c.args.ranges.now c.in-Some.ensures.one_set) h one)

pub returns-in-None-clause-unique : goal.returns-in-None-clause-unique
returns-in-None-clause-unique c =
    let rs = c.args.ranges.now in
    IfOk-both c.far.result (λ d. AreRanges d) (λ d. AreOneSet d rs) (λ d. (s : List (ℤ × ℤ)) → AreRanges s → AreOneSet s rs → d ≡ s)
    (λ d r o s h one. unique d s rs r o h one) c.far.ensures.ranges c.far.ensures.one_set
