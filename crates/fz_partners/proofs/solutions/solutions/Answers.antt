use Rattle.std.proofs.Common.{rules, to_z, w32}
use Rattle.std.proofs.Math.Facts.{to_z-of_z}
use mir.Val.{SFits}
use Rattle.fz_partners.specs.Found.{AreOfTerms}
use Rattle.fz_partners.proofs.Finding.{AreFoundOf, IsUpTo, all_found, all_seconds, first_seconds, found_none, next_seconds, no_more, one_more}
use Rattle.fz_partners.proofs.solutions.solutions.Goals.{in-Some+in_ok-add, in_default}
use Rattle.fz_partners.proofs.solutions.solutions.Goals as goal

pub firsts-init : goal.firsts-init
firsts-init c =
    let x = c.least_of-first.result in
    let fits : SFits w32 x = search rules in
    let none = c.none-found.ensures in
    rw (to_z-of_z fits) (c.least_of-first.ensures.member, found_none c.args.store.now.doms c.args.equation c.none-found.result x none.first none.second none.third c.least_of-first.ensures.lower_bound, none.of)

pub seconds-init : goal.seconds-init
seconds-init c =
    let x = to_z w32 c.firsts.first-bits in
    let y = c.least_of-second.result in
    let fits : SFits w32 y = search rules in
    rw (to_z-of_z fits)
    (c.firsts.invariant.0, c.least_of-second.ensures.member, first_seconds c.args.store.now.doms c.args.equation c.firsts.found x y c.least_of-second.ensures.lower_bound c.firsts.invariant.1, c.firsts.invariant.2)

pub add-requires-clause-third : goal.add-requires-clause-third
add-requires-clause-third c =
    let z = c.in-Some.third in
    let fits : SFits w32 z = search rules in
    rw (to_z-of_z fits) (c.seconds.invariant.3.third.places z c.in-Some.ensures.0)

pub seconds-preserved : goal.seconds-preserved
seconds-preserved c =
    let e = c.args.equation in
    let ds = c.args.store.now.doms in
    let x = to_z w32 c.firsts.first-bits in
    let y = to_z w32 c.seconds.second-bits in
    let here = c.seconds.invariant in
    let so_far : AreFoundOf (IsUpTo x y) ds e c.match-third_of.found = elim c.match-third_of.branch [
      | in-Some+in_ok-add w ↦
          let z = w.in-Some.third in
          let fits_z : SFits w32 z = search rules in
          let more = w.in_ok-add.ensures in
          rw (w.found-is)
          (one_more ds e c.seconds.found w.add.new.self x y z ((here.0, here.1, w.in-Some.ensures.0), w.in-Some.ensures.1) w.in-Some.ensures.2
          (record { first = more.first; second = more.second; third = rw (to_z-of_z fits_z) at more.third }) here.2)
      | in_default w ↦ rw (w.found-is) (no_more ds e c.seconds.found x y w.in_default.ensures here.2)
    ] in
    let of_terms : AreOfTerms ds e c.match-third_of.found = elim c.match-third_of.branch [
      | in-Some+in_ok-add w ↦ rw (w.found-is) (w.in_ok-add.ensures.of ds e here.3)
      | in_default w ↦ rw (w.found-is) here.3
    ] in
    let z = c.in-Some-next_above.next in
    let fits : SFits w32 z = search rules in
    rw (to_z-of_z fits) (here.0, c.in-Some-next_above.ensures.0, next_seconds ds e c.match-third_of.found x y z c.in-Some-next_above.ensures so_far, of_terms)

pub firsts-preserved : goal.firsts-preserved
firsts-preserved c =
    let e = c.args.equation in
    let ds = c.args.store.now.doms in
    let x = to_z w32 c.firsts.first-bits in
    let y = to_z w32 c.seconds.second-bits in
    let here = c.seconds.invariant in
    let so_far : AreFoundOf (IsUpTo x y) ds e c.match-third_of.found = elim c.match-third_of.branch [
      | in-Some+in_ok-add w ↦
          let z = w.in-Some.third in
          let fits_z : SFits w32 z = search rules in
          let more = w.in_ok-add.ensures in
          rw (w.found-is)
          (one_more ds e c.seconds.found w.add.new.self x y z ((here.0, here.1, w.in-Some.ensures.0), w.in-Some.ensures.1) w.in-Some.ensures.2
          (record { first = more.first; second = more.second; third = rw (to_z-of_z fits_z) at more.third }) here.2)
      | in_default w ↦ rw (w.found-is) (no_more ds e c.seconds.found x y w.in_default.ensures here.2)
    ] in
    let of_terms : AreOfTerms ds e c.match-third_of.found = elim c.match-third_of.branch [
      | in-Some+in_ok-add w ↦ rw (w.found-is) (w.in_ok-add.ensures.of ds e here.3)
      | in_default w ↦ rw (w.found-is) here.3
    ] in
    let z = c.in-Some-next_above-2.next in
    let fits : SFits w32 z = search rules in
    rw (to_z-of_z fits) (c.in-Some-next_above-2.ensures.0, all_seconds ds e c.match-third_of.found x y z c.in-None.ensures c.in-Some-next_above-2.ensures so_far, of_terms)

pub returns-in-None-next_above-clause-found : goal.returns-in-None-next_above-clause-found
returns-in-None-next_above-clause-found c =
    let e = c.args.equation in
    let ds = c.args.store.now.doms in
    let x = to_z w32 c.firsts.first-bits in
    let y = to_z w32 c.seconds.second-bits in
    let here = c.seconds.invariant in
    let so_far : AreFoundOf (IsUpTo x y) ds e c.match-third_of.found = elim c.match-third_of.branch [
      | in-Some+in_ok-add w ↦
          let z = w.in-Some.third in
          let fits_z : SFits w32 z = search rules in
          let more = w.in_ok-add.ensures in
          rw (w.found-is)
          (one_more ds e c.seconds.found w.add.new.self x y z ((here.0, here.1, w.in-Some.ensures.0), w.in-Some.ensures.1) w.in-Some.ensures.2
          (record { first = more.first; second = more.second; third = rw (to_z-of_z fits_z) at more.third }) here.2)
      | in_default w ↦ rw (w.found-is) (no_more ds e c.seconds.found x y w.in_default.ensures here.2)
    ] in
    all_found ds e c.match-third_of.found x y c.in-None-next_above.ensures c.in-None.ensures so_far

pub returns-in-None-next_above-clause-of : goal.returns-in-None-next_above-clause-of
returns-in-None-next_above-clause-of c =
    let e = c.args.equation in
    let ds = c.args.store.now.doms in
    let here = c.seconds.invariant in
    elim c.match-third_of.branch [
      | in-Some+in_ok-add w ↦ rw (w.found-is) (w.in_ok-add.ensures.of ds e here.3)
      | in_default w ↦ rw (w.found-is) here.3
    ]
