-- The ranges of numbers within the limits are a set.
use Rattle.std.proofs.Common.{◌≡◌, ℕ, ◌+◌, suc, ◌≤◌, ℤ, pos, Bool, true, false, cond, Option, Some, None, option_map, List, [], ◌∷◌, length, map, refl, ap, subst, arith}
use Rattle.std.specs.Prelude.{◌≤ℤ◌, ◌+ℤ◌, int_lt, int_le}
use Rattle.std.specs.Bool.{Decides}
use Rattle.std.specs.Ordering.{int_eq}
use Rattle.std.specs.List.{AllByRecursion}
use Rattle.fz_spec.specs.declared.limits.TheConstants.{ELEMENT_LIMIT}
use Rattle.fz_sets.specs.Sets.{IsWithinLimits, AreWithinLimits, interval}
use Rattle.fz_language.specs.Trees.{Number, Whole, Float, SetLiteral, Range, Braces, Basic, Truth, Numeral, Literal, Named}
use Rattle.fz_language.specs.Numerals.{value_of, all_of, behind, with_number, ranges_of, set_in}
use Rattle.fz_language.specs.Within.{NumberFits, SetFits, BasicFits}
use Rattle.fz_language.specs.Entries.{Environment, Entry, set_of, entry_set}
use Rattle.fz_language.specs.Entries as entries
use Rattle.fz_model.specs.Kept.{AreNumbers, IsSet}
use Rattle.fz_spec.specs.Instance.{Variable}
use Rattle.fz_language.proofs.SetProofs.{ranges_rise, Decides-int_le}
use Rattle.fz_check.specs.Fits.{EntryFits, Sound}
use Rattle.fz_check.proofs.Mapped.{mapped}
use Rattle.fz_check.proofs.TermFits.{found_named}

-- ---- within the limits

joined_within : (r : ℤ × ℤ) (rs : List (ℤ × ℤ)) → AreWithinLimits (r ∷ rs) → AreWithinLimits (behind r rs)
joined_within r [] h = h
joined_within r (s ∷ rs) h = go (int_eq s.0 (r.1 +ℤ pos 1))
  where
    go : (t : Bool) → AreWithinLimits (cond t ((r.0, s.1) ∷ rs) (r ∷ s ∷ rs))
    go true = (h.0, h.2.1, h.2.2)
    go false = h

more_within : (x : ℤ) (rs : List (ℤ × ℤ)) → IsWithinLimits x → AreWithinLimits rs → AreWithinLimits (with_number x rs)
more_within x [] h w = (h, h, tt)
more_within x (r ∷ rs) h w = go (more_within x rs h w.2) (int_lt x r.0) (int_le x r.1)
  where
    go : AreWithinLimits (with_number x rs) → (t u : Bool) → AreWithinLimits (cond t (behind (x, x) (r ∷ rs)) (cond u (r ∷ rs) (behind r (with_number x rs))))
    go m true u = joined_within (x, x) (r ∷ rs) (h, h, w)
    go m false true = w
    go m false false = joined_within r (with_number x rs) (w.0, w.1, m)

-- ---- few

joined_few : (r : ℤ × ℤ) (rs : List (ℤ × ℤ)) → length (behind r rs) ≤ length rs + 1
joined_few r [] = omega arith
joined_few r (s ∷ rs) = go (int_eq s.0 (r.1 +ℤ pos 1))
  where
    go : (t : Bool) → length (cond t ((r.0, s.1) ∷ rs) (r ∷ s ∷ rs)) ≤ length (s ∷ rs) + 1
    go true = omega arith
    go false = omega arith

more_few : (x : ℤ) (rs : List (ℤ × ℤ)) → length (with_number x rs) ≤ length rs + 1
more_few x [] = omega arith
more_few x (r ∷ rs) = go (more_few x rs) (int_lt x r.0) (int_le x r.1)
  where
    go : length (with_number x rs) ≤ length rs + 1 → (t u : Bool) → length (cond t (behind (x, x) (r ∷ rs)) (cond u (r ∷ rs) (behind r (with_number x rs)))) ≤ length (r ∷ rs) + 1
    go m true u = joined_few (x, x) (r ∷ rs)
    go m false true = omega arith
    go m false false = omega (arith, joined_few r (with_number x rs), m)

ranges_within : (ns : List ℤ) → AreNumbers ns → AreWithinLimits (ranges_of ns)
ranges_within [] h = tt
ranges_within (n ∷ ns) h = more_within n (ranges_of ns) h.0 (ranges_within ns h.1)

ranges_few : (ns : List ℤ) → length (ranges_of ns) ≤ length ns
ranges_few [] = omega arith
ranges_few (n ∷ ns) = omega (arith, more_few n (ranges_of ns), ranges_few ns)

ranges_fit : (ns : List ℤ) → AreNumbers ns → length ns ≤ ELEMENT_LIMIT → IsSet (ranges_of ns)
ranges_fit ns h few = record { ranges = ranges_rise ns; within = ranges_within ns h; few = omega (arith, few, ranges_few ns) }

interval_fits : (l u : ℤ) → IsWithinLimits l → IsWithinLimits u → IsSet (interval l u)
interval_fits l u h k = go (int_le l u) (Decides-int_le l u)
  where
    go : (t : Bool) → Decides t (l ≤ℤ u) → IsSet (cond t ((l, u) ∷ []) [])
    go true d = record { ranges = d.0 refl; within = (h, k, tt); few = omega arith }
    go false d = record { ranges = tt; within = tt; few = omega arith }

-- ---- sets that are written

value_fits : (n : Number) (x : ℤ) → NumberFits n → value_of n ≡ Some x → IsWithinLimits x
value_fits (Whole integer) x h e = let is : integer.value ≡ x = cc in subst IsWithinLimits is h
value_fits (Float at) x h e = cc

record Numbered (members : List Number) (xs : List ℤ) : Type 0 where
  numbers : AreNumbers xs
  count : length xs ≡ length members

members_fit : (members : List Number) (xs : List ℤ) → AllByRecursion NumberFits members → all_of (map value_of members) ≡ Some xs → Numbered members xs
members_fit [] xs h e = let is : [] ≡ xs = cc in subst (Numbered []) is (record { numbers = tt; count = refl })
members_fit (m ∷ ms) xs h e = go (λ ys k. members_fit ms ys h.1 k) (value_of m) refl e
  where
    go : ((ys : List ℤ) → all_of (map value_of ms) ≡ Some ys → Numbered ms ys) → (o : Option ℤ) → value_of m ≡ o → all_of (o ∷ map value_of ms) ≡ Some xs → Numbered (m ∷ ms) xs
    go f None k o = cc
    go f (Some x) k o =
        let w = mapped (λ ys. x ∷ ys) (all_of (map value_of ms)) xs o in
        let rest = f w.x w.o_is in
        subst (Numbered (m ∷ ms)) w.is (record { numbers = (value_fits m x h.0 k, rest.numbers); count = ap (λ n. suc n) rest.count })

abbrev pub member_count : SetLiteral → ℕ
member_count (Range low high) = 0
member_count (Braces at members) = length members

pub literal_fits : (set : SetLiteral) (s : List (ℤ × ℤ)) → SetFits set → member_count set ≤ ELEMENT_LIMIT → set_in set ≡ Some s → IsSet s
literal_fits (Range low high) s h few e = go (value_of low) refl e
  where
    go : (o : Option ℤ) → value_of low ≡ o → elim o [ Some l ↦ option_map (interval l) (value_of high) | None ↦ None ] ≡ Some s → IsSet s
    go None k i = cc
    go (Some l) k i =
        let w = mapped (interval l) (value_of high) s i in
        subst IsSet w.is (interval_fits l w.x (value_fits low l h.0 k) (value_fits high w.x h.1 w.o_is))
literal_fits (Braces at members) s h few e =
    let w = mapped ranges_of (all_of (map value_of members)) s e in
    let n = members_fit members w.x h w.o_is in
    subst IsSet w.is (ranges_fit w.x n.numbers (omega (arith, few, n.count)))

abbrev pub members_among : Basic → ℕ
members_among (Literal set) = member_count set
members_among (Truth value at) = 0
members_among (Numeral number) = 0
members_among (Named name) = 0

entry_set_fits : (vs : List Variable) (entry : Entry) (s : List (ℤ × ℤ)) → EntryFits vs entry → entry_set entry ≡ Some s → IsSet s
entry_set_fits vs (entries.Set set) s h e = let is : set ≡ s = cc in subst IsSet is h
entry_set_fits vs (entries.Value kind value) s h e = cc
entry_set_fits vs (entries.Variable kind number) s h e = cc
entry_set_fits vs (entries.Numbers kind ns) s h e = cc
entry_set_fits vs (entries.Terms kind ts) s h e = cc
entry_set_fits vs entries.Sets s h e = cc

pub set_fits : (vs : List Variable) (env : Environment) (b : Basic) (s : List (ℤ × ℤ)) → Sound vs env → BasicFits b → members_among b ≤ ELEMENT_LIMIT → set_of env b ≡ Some s → IsSet s
set_fits vs env (Literal set) s sound h few e = literal_fits set s h few e
set_fits vs env (Named name) s sound h few e =
    let f = found_named env entry_set name s e in
    entry_set_fits vs f.entry s (sound name.bytes f.entry f.is) f.gives
set_fits vs env (Truth value at) s sound h few e = cc
set_fits vs env (Numeral number) s sound h few e = cc
