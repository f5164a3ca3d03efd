use Rattle.std.proofs.Common.{◌≡◌, rules}
use Rattle.std.specs.Prelude.{pos, negsuc}
use Rattle.std.proofs.Math.Facts.{to_z-of_z}
use Rattle.fz_shift.proofs.Shapes.{firsts_swapped, seconds_swapped, some_more}
use Rattle.fz_shift.proofs.shape.plane_of_three.Goals as goal

pub returns-then-third-eq4294967295 : goal.returns-then-third-eq4294967295
returns-then-third-eq4294967295 c =
    let is_g : c.args.second.factor ≡ pos 1 = search rules in
    let is_h : c.args.third.factor ≡ negsuc 0 = search rules in
    rw (is_g, is_h) (rw (to_z-of_z c.ranges.number) at c.plane_at.ensures)

pub returns-then-third-eq1 : goal.returns-then-third-eq1
returns-then-third-eq1 c =
    let is_g : c.args.second.factor ≡ negsuc 0 = search rules in
    let is_h : c.args.third.factor ≡ pos 1 = search rules in
    rw (is_g, is_h) (some_more c.plane_at-then-third-eq1.result (λ p. seconds_swapped p c.args.first.factor (pos 1) (negsuc 0) c.args.first.term c.args.third.term c.args.second.term c.args.number) (rw (to_z-of_z c.ranges.number) at c.plane_at-then-third-eq1.ensures))

pub returns-then-third-eq4294967295-2 : goal.returns-then-third-eq4294967295-2
returns-then-third-eq4294967295-2 c =
    let is_f : c.args.first.factor ≡ pos 1 = search rules in
    let is_h : c.args.third.factor ≡ negsuc 0 = search rules in
    rw (is_f, is_h) (some_more c.plane_at-then-third-eq4294967295-2.result (λ p. firsts_swapped p c.args.second.factor (pos 1) (negsuc 0) c.args.second.term c.args.first.term c.args.third.term c.args.number) (rw (to_z-of_z c.ranges.number) at c.plane_at-then-third-eq4294967295-2.ensures))

pub returns-then-third-eq1-2 : goal.returns-then-third-eq1-2
returns-then-third-eq1-2 c =
    let is_f : c.args.first.factor ≡ negsuc 0 = search rules in
    let is_h : c.args.third.factor ≡ pos 1 = search rules in
    rw (is_f, is_h) (some_more c.plane_at-then-third-eq1-2.result (λ p is. firsts_swapped p c.args.second.factor (negsuc 0) (pos 1) c.args.second.term c.args.first.term c.args.third.term c.args.number (seconds_swapped p c.args.second.factor (pos 1) (negsuc 0) c.args.second.term c.args.third.term c.args.first.term c.args.number is)) (rw (to_z-of_z c.ranges.number) at c.plane_at-then-third-eq1-2.ensures))

pub returns-then-second-eq4294967295-2 : goal.returns-then-second-eq4294967295-2
returns-then-second-eq4294967295-2 c =
    let is_f : c.args.first.factor ≡ pos 1 = search rules in
    let is_g : c.args.second.factor ≡ negsuc 0 = search rules in
    rw (is_f, is_g) (some_more c.plane_at-then-second-eq4294967295-2.result (λ p is. seconds_swapped p (pos 1) c.args.third.factor (negsuc 0) c.args.first.term c.args.third.term c.args.second.term c.args.number (firsts_swapped p c.args.third.factor (pos 1) (negsuc 0) c.args.third.term c.args.first.term c.args.second.term c.args.number is)) (rw (to_z-of_z c.ranges.number) at c.plane_at-then-second-eq4294967295-2.ensures))

pub returns-then-second-eq1-2 : goal.returns-then-second-eq1-2
returns-then-second-eq1-2 c =
    let is_f : c.args.first.factor ≡ negsuc 0 = search rules in
    let is_g : c.args.second.factor ≡ pos 1 = search rules in
    rw (is_f, is_g) (some_more c.plane_at-then-second-eq1-2.result (λ p is. firsts_swapped p (pos 1) (negsuc 0) c.args.third.factor c.args.second.term c.args.first.term c.args.third.term c.args.number (seconds_swapped p (pos 1) c.args.third.factor (negsuc 0) c.args.second.term c.args.third.term c.args.first.term c.args.number (firsts_swapped p c.args.third.factor (pos 1) (negsuc 0) c.args.third.term c.args.second.term c.args.first.term c.args.number is))) (rw (to_z-of_z c.ranges.number) at c.plane_at-then-second-eq1-2.ensures))
