-- What is clear below and, of the opposite numbers, below again: no interval is crowded.
use Rattle.std.proofs.Common.{◌≡◌, ℕ, ◌+◌, List, [], ◌∷◌, ◌∙◌, refl, sym, ap, subst, arith, map, take, length, get_or, ◌++◌, ◌<◌}
use Rattle.std.specs.Prelude.{ℤ, pos, negsuc, ◌-ℤ◌, ◌≤ℤ◌, Bool, true, false, count_by}
use Rattle.std.specs.List.{AllByRecursion}
use Rattle.std.specs.List.Sorted.{IsPermutation}
use Rattle.std.proofs.lemmas.Int.{ints}
use Rattle.std.proofs.lemmas.List.{map_more, map_push}
use Rattle.std.proofs.lemmas.List.Sorted.{IsPermutation-map, IsPermutation-trans}
use Rattle.fz_spec.specs.declared.term.Term.{Term}
use Rattle.fz_strength.specs.Differences.{AreSpread, IsClear, confined, interval_size, is_between}
use Rattle.fz_hall.specs.declared.interval.Interval.{Interval}
use Rattle.fz_hall.specs.Lefts.{is_within, left_of, turn}
use Rattle.fz_hall.specs.declared.seats.Seat.{Seat}
use Rattle.fz_hall.specs.Seats.{AreClearBelow, left, nobody}
use Rattle.fz_hall.proofs.Crowding.{bit, count_more, both_le, both_from, not_true}
use Rattle.fz_hall.proofs.Seating.{clear_permuted, count_map}

pub same_truth : (b c : Bool) → (b ≡ true → c ≡ true) → (c ≡ true → b ≡ true) → b ≡ c
same_truth true c h k = sym (h refl)
same_truth false true h k = k refl
same_truth false false h k = refl

within_turned : (low high : ℤ) (l : Interval) → is_within (negsuc 0 -ℤ high) (negsuc 0 -ℤ low) (turn l) ≡ is_within low high l
within_turned low high l = same_truth (is_within (negsuc 0 -ℤ high) (negsuc 0 -ℤ low) (turn l)) (is_within low high l)
    (λ h. let both = both_le (negsuc 0 -ℤ high) (negsuc 0 -ℤ l.high) (negsuc 0 -ℤ l.low) (negsuc 0 -ℤ low) h in let from = both.1 in let to = both.0 in
    both_from low l.low l.high high (omega (arith, ints, from)) (omega (arith, ints, to)))
    (λ h. let both = both_le low l.low l.high high h in let from = both.0 in let to = both.1 in
    both_from (negsuc 0 -ℤ high) (negsuc 0 -ℤ l.high) (negsuc 0 -ℤ l.low) (negsuc 0 -ℤ low) (omega (arith, ints, to)) (omega (arith, ints, from)))

between_turned : (low high x : ℤ) → is_between low high x ≡ true → is_between (negsuc 0 -ℤ high) (negsuc 0 -ℤ low) (negsuc 0 -ℤ x) ≡ true
between_turned low high x h =
    let both = both_le low x x high h in
    let from = both.0 in
    let to = both.1 in
    both_from (negsuc 0 -ℤ high) (negsuc 0 -ℤ x) (negsuc 0 -ℤ x) (negsuc 0 -ℤ low) (omega (arith, ints, to)) (omega (arith, ints, from))

count_turned : (low high : ℤ) (ls : List Interval) → count_by (is_within (negsuc 0 -ℤ high) (negsuc 0 -ℤ low)) (map turn ls) ≡ count_by (is_within low high) ls
count_turned low high [] = refl
count_turned low high (l ∷ ls) =
    count_more (is_within (negsuc 0 -ℤ high) (negsuc 0 -ℤ low)) (turn l) (map turn ls)
    ∙ ap (λ (n : ℕ). bit (is_within (negsuc 0 -ℤ high) (negsuc 0 -ℤ low) (turn l)) + n) (count_turned low high ls)
    ∙ ap (λ (b : Bool). bit b + count_by (is_within low high) ls) (within_turned low high l)
    ∙ sym (count_more (is_within low high) l ls)

-- who isn't confined to an interval has neither end there
clear_both : (low high : ℤ) (xs : List Term) (ds : List (List (ℤ × ℤ))) → AllByRecursion (λ (l : Interval). is_between low high l.low ≡ true → is_within low high l ≡ true) (map (left_of ds) xs)
    → AllByRecursion (λ (l : Interval). is_between (negsuc 0 -ℤ high) (negsuc 0 -ℤ low) l.low ≡ true → is_within (negsuc 0 -ℤ high) (negsuc 0 -ℤ low) l ≡ true) (map turn (map (left_of ds) xs))
    → AllByRecursion (IsClear ds low high) xs
clear_both low high [] ds below above = tt
clear_both low high (x ∷ xs) ds below above =
    let l = left_of ds x in (
      (λ other. (
        not_true (is_between low high l.low) (λ h. let yes = below.0 h in absurd (cc (yes, other))),
        not_true (is_between low high l.high) (λ h. let yes = sym (within_turned low high l) ∙ above.0 (between_turned low high l.high h) in absurd (cc (yes, other))),
      )),
      clear_both low high xs ds below.1 above.1,
    )

size_turned : (low high : ℤ) → interval_size low high ≡ interval_size (negsuc 0 -ℤ high) (negsuc 0 -ℤ low)
size_turned low high = omega (arith, ints)

pub spread_of : (xs : List Term) (ds : List (List (ℤ × ℤ))) → AreClearBelow (map (left_of ds) xs) → AreClearBelow (map turn (map (left_of ds) xs)) → AreSpread xs ds
spread_of xs ds below above = λ low high order.
    let ls = map (left_of ds) xs in
    let count : count_by (is_within low high) ls ≡ confined xs ds low high = count_map (is_within low high) (left_of ds) xs in
    let one = below low high order in
    let other = above (negsuc 0 -ℤ high) (negsuc 0 -ℤ low) (omega (arith, ints, order)) in
    record {
      few = subst (λ (n : ℕ). pos n ≤ℤ interval_size low high) count one.few;
      clear = λ full. clear_both low high xs ds (one.clear (ap pos count ∙ full)) (other.clear (ap pos (count_turned low high ls ∙ count) ∙ full ∙ size_turned low high));
    }

-- ---- places of the opposite numbers

pub turned_more : (ss : List Seat) (k : ℕ) (old new : List Seat) (t : Seat) → k < length ss → map left old ≡ map turn (map left (take k ss)) → t.left ≡ turn (get_or ss k nobody).left → new ≡ old ++ t ∷ []
    → map left new ≡ map turn (map left (take (k + 1) ss))
turned_more ss k old new t within before here is =
    ap (map left) is ∙ map_push left old t ∙ ap (λ (l : List Interval). l ++ left t ∷ []) before ∙ ap (λ (x : Interval). map turn (map left (take k ss)) ++ x ∷ []) here
    ∙ sym (ap (map turn) (map_more left ss k nobody within) ∙ map_push turn (map left (take k ss)) (left (get_or ss k nobody)))

pub clear_turned : (ls : List Interval) (ss ts : List Seat) → IsPermutation ls (map left ss) → IsPermutation (map turn (map left ss)) (map left ts) → AreClearBelow (map left ts) → AreClearBelow (map turn ls)
clear_turned ls ss ts seated moved h = clear_permuted (map turn ls) (map left ts) (IsPermutation-trans (map turn ls) (map turn (map left ss)) (map left ts) (IsPermutation-map turn ls (map left ss) seated) moved) h
