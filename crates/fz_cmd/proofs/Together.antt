-- The options of words that go together.
use Rattle.std.proofs.Common.{◌≡◌, ℕ, ◌≤◌, ◌&&◌, ◌||◌, List, Bool, true, false, not, subst, refl, arith, Option, Some, None, IfSome, MatchOption}
use Rattle.std.specs.Prelude.{ℤ, is_some, nat_lt}
use Rattle.std.proofs.lemmas.Bool.{or_parts, lt-ltb, ltb-false}
use Rattle.clap.specs.Words.{Row, Text}
use Rattle.fz_cmd.specs.declared.words.Numbers.{Numbers}
use Rattle.fz_cmd.specs.declared.options.TheConstants.{ALL, DISTINCT, STATS, CERTIFICATE}
use Rattle.fz_cmd.specs.Meaning.{is_on, suits_no_assets, part_of, are_not_plain, parts_are_apart, are_apart, options_given, ArePlain, SuitsAssets, SuitsPart, SuitsSplit}

none_of : {X : Type 0} (o : Option X) → is_some o ≡ false → o ≡ None
none_of None is = refl
none_of (Some x) is = absurd (cc is)

at_most : (k n : ℕ) → nat_lt k n ≡ false → n ≤ k
at_most k n is = omega (arith, ltb-false k n is)

-- ---- beside several assets

pub suits_assets : (rows : List Row) (n : Numbers) (file : Option Text) → are_apart rows n file ≡ false → SuitsAssets (options_given rows n file)
suits_assets rows n file apart = λ several.
    let several_are : nat_lt 1 n.assets ≡ true = lt-ltb 1 n.assets several in
    let before = or_parts _ (parts_are_apart rows n) apart in
    let third : (nat_lt 1 n.assets && suits_no_assets rows n) ≡ false = (or_parts _ (nat_lt 1 n.assets && suits_no_assets rows n) before.0).1 in
    let none : suits_no_assets rows n ≡ false = subst (λ (b : Bool). (b && suits_no_assets rows n) ≡ false) several_are third in
    let turns = or_parts _ (is_some n.interleave) none in
    let rows_sought = or_parts _ (is_on DISTINCT.0.now rows) turns.0 in
    let limited = or_parts _ (is_some n.limit) rows_sought.0 in
    let all = or_parts (nat_lt n.workers n.assets) (is_on ALL.0.now rows) limited.0 in
    record {
      workers = at_most n.workers n.assets all.0;
      all = all.1;
      limit = none_of n.limit limited.1;
      distinct = rows_sought.1;
      interleave = none_of n.interleave turns.1;
    }

-- ---- beside a part, and beside a split

plain : (rows : List Row) (n : Numbers) (file : Option Text) → are_not_plain rows n ≡ false → ArePlain (options_given rows n file)
plain rows n file none =
    let generate = or_parts _ (is_some n.generate) none in
    let certificate = or_parts _ (is_on CERTIFICATE.0.now rows) generate.0 in
    let stats = or_parts _ (is_on STATS.0.now rows) certificate.0 in
    let turns = or_parts _ (is_some n.interleave) stats.0 in
    let assets = or_parts _ (nat_lt 1 n.assets) turns.0 in
    let limited = or_parts (is_some n.limit) (is_on DISTINCT.0.now rows) assets.0 in
    record {
      limit = none_of n.limit limited.0;
      distinct = limited.1;
      assets = at_most 1 n.assets assets.1;
      interleave = none_of n.interleave turns.1;
      stats = stats.1;
      certificate = certificate.1;
      generate = none_of n.generate generate.1;
    }

-- by the part, the number of parts, the bound, and what else is asked for
abbrev apart_by : Option Text → Option ℕ → Option ℤ → Bool → Bool → Bool
apart_by part split better other searched = ((is_some split || is_some part) && other) || (is_some split && (searched || is_some part)) || (is_some better && not (is_some part))

none_better : (better : Option ℤ) → (is_some better && true) ≡ false → better ≡ None
none_better None is = refl
none_better (Some v) is = absurd (cc is)

by_part : {P : Type 0} (part : Option Text) (split : Option ℕ) (better : Option ℤ) (other searched : Bool) → apart_by part split better other searched ≡ false → (other ≡ false → split ≡ None → P) → MatchOption part (better ≡ None) (λ (text : Text). P)
by_part None split better other searched apart fits = none_better better (or_parts _ (is_some better && true) apart).1
by_part (Some text) None better other searched apart fits = fits (or_parts other false (or_parts (other || false) (is_some better && false) apart).0).0 refl
by_part (Some text) (Some k) better other searched apart fits =
    let beside = or_parts (other || (searched || true)) (is_some better && false) apart in
    let none = or_parts other (searched || true) beside.0 in
    absurd (cc ((or_parts searched true none.1).1))

by_split : {P : Type 0} (part : Option Text) (split : Option ℕ) (better : Option ℤ) (other searched : Bool) → apart_by part split better other searched ≡ false → (other ≡ false → searched ≡ false → part ≡ None → better ≡ None → P) → IfSome split (λ (k : ℕ). P)
by_split part None better other searched apart fits = tt
by_split part (Some k) better other searched apart fits =
    let beside = or_parts (other || (searched || is_some part)) (is_some better && not (is_some part)) apart in
    let none = or_parts other (searched || is_some part) beside.0 in
    let alone = or_parts searched (is_some part) none.1 in
    fits none.0 alone.0 (none_of part alone.1) (none_better better (subst (λ (b : Bool). (is_some better && not b) ≡ false) alone.1 beside.1))

pub suits_part : (rows : List Row) (n : Numbers) (file : Option Text) → are_apart rows n file ≡ false → SuitsPart (options_given rows n file)
suits_part rows n file apart =
    by_part (part_of rows) n.split n.better (are_not_plain rows n) (is_on ALL.0.now rows || nat_lt 1 n.workers) (or_parts _ (parts_are_apart rows n) apart).1
    (λ none unsplit. record { plain = plain rows n file none; split = unsplit })

pub suits_split : (rows : List Row) (n : Numbers) (file : Option Text) → are_apart rows n file ≡ false → SuitsSplit (options_given rows n file)
suits_split rows n file apart =
    by_split (part_of rows) n.split n.better (are_not_plain rows n) (is_on ALL.0.now rows || nat_lt 1 n.workers) (or_parts _ (parts_are_apart rows n) apart).1
    (λ none searched whole unbound.
    let all = or_parts (is_on ALL.0.now rows) (nat_lt 1 n.workers) searched in
    record { plain = plain rows n file none; all = all.0; workers = at_most 1 n.workers all.1; part = whole; better = unbound })
