-- Gathering the numbers of ranges in a word.
use Rattle.std.proofs.Common.{◌≡◌, ℕ, ◌<◌, ◌+◌, ℤ, pos, ◌+ℤ◌, ◌≤ℤ◌, ◌⊎◌, inl, inr, List, [], ◌∷◌, drop, Result, Ok, Err, IfOk, sym, subst, arith}
use Rattle.std.specs.Prelude.{◌↔◌}
use Rattle.std.specs.Int.{bit_at}
use Rattle.std.proofs.lemmas.Int.{ints}
use Rattle.std.proofs.lemmas.Nat.Bits.{bit_at-zero}
use Rattle.fz_sets.specs.Sets.{AreRanges, AreOneSet, IsInSet}
use Rattle.fz_dom.specs.Places.{IsBit, bit_ranges}
use Rattle.fz_dom.proofs.Lists.{word_more}
use Rattle.fz_dom.proofs.Places.{bits_read}
use Rattle.fz_dom.proofs.Runs.{offset_in}

-- a number has a bit, or stands in the ranges that are left
abbrev pub IsThere : ℕ → ℤ → List (ℤ × ℤ) → ℕ → Type 0
IsThere bits base left i = (bit_at bits i ≡ 1) ⊎ IsInSet left (base +ℤ pos i)

-- The bits are those of the ranges but for what is left, and all numbers but those lie within 64 from the base.
pub record AreGathered (bits : ℕ) (base : ℤ) (rs : List (ℤ × ℤ)) (passed : ℕ) : Type 0 where
  pub there : (i : ℕ) → i < 64 → IsThere bits base (drop passed rs) i ↔ IsInSet rs (base +ℤ pos i)
  pub inside : (x : ℤ) → IsInSet rs x → IsInSet (drop passed rs) x ⊎ ((base ≤ℤ x) × (x ≤ℤ (base +ℤ pos 63)))

pub gathered_none : (base : ℤ) (rs : List (ℤ × ℤ)) → AreGathered 0 base rs 0
gathered_none base rs = record {
  there = λ i l. (λ m. elim m [ inl b ↦ (let z = bit_at-zero i in absurd (omega arith)) | inr t ↦ t ], λ t. inr t);
  inside = λ x i. inl i;
}

-- one range more
pub gathered_more : (bits window more : ℕ) (base : ℤ) (rs : List (ℤ × ℤ)) (k : ℕ) (r : ℤ × ℤ) → drop k rs ≡ r ∷ drop (k + 1) rs
    → ((i : ℕ) → i < 64 → (bit_at more i ≡ 1) ↔ ((bit_at bits i ≡ 1) ⊎ (bit_at window i ≡ 1)))
    → ((i : ℕ) → i < 64 → (bit_at window i ≡ 1) ↔ ((r.0 ≤ℤ (base +ℤ pos i)) × ((base +ℤ pos i) ≤ℤ r.1)))
    → ((x : ℤ) → r.0 ≤ℤ x → x ≤ℤ r.1 → (base ≤ℤ x) × (x ≤ℤ (base +ℤ pos 63)))
    → AreGathered bits base rs k → AreGathered more base rs (k + 1)
gathered_more bits window more base rs k r split either between within g = record {
  there = word_more bits window more rs (drop k rs) r (drop (k + 1) rs) base split either between g.there;
  inside = λ x i. elim (g.inside x i) [
    | inl left ↦ elim (subst (λ (t : List (ℤ × ℤ)). IsInSet t x) split left) [ inl here ↦ inr (within x here.0 here.1) | inr behind ↦ inl behind ]
    | inr near ↦ inr near
  ];
}

-- all of them
pub gathered_all : (bits : ℕ) (base : ℤ) (rs : List (ℤ × ℤ)) (k : ℕ) → drop k rs ≡ [] → AreGathered bits base rs k → (x : ℤ) → IsBit base bits x ↔ IsInSet rs x
gathered_all bits base rs k none g x = (
  λ b. subst (IsInSet rs) (sym b.2) ((g.there b.0 b.1).0 (inl b.3)),
  λ i. elim (g.inside x i) [
    | inl left ↦ absurd (subst (λ (t : List (ℤ × ℤ)). IsInSet t x) none left)
    | inr near ↦
        let o = offset_in base x near.0 in
        let few : o.0 < 64 = (let e = o.1 in let n = near.1 in omega (arith, ints)) in (
          o.0,
          few,
          o.1,
          elim ((g.there o.0 few).1 (subst (IsInSet rs) o.1 i)) [
            | inl bit ↦ bit
            | inr left ↦ absurd (subst (λ (t : List (ℤ × ℤ)). IsInSet t (base +ℤ pos o.0)) none left)
          ],
        )
  ],
)

-- the rising ranges of such a word are one set with the ranges
pub close_one_set : (base : ℤ) (bits : ℕ) (rs : List (ℤ × ℤ)) → ((x : ℤ) → IsBit base bits x ↔ IsInSet rs x) → AreOneSet (bit_ranges base bits) rs
close_one_set base bits rs same x = let r = bits_read base bits in (λ i. (same x).0 (r.to x i), λ i. r.from x ((same x).1 i))

pub close_ranges : (base : ℤ) (bits : ℕ) → AreRanges (bit_ranges base bits)
close_ranges base bits = (bits_read base bits).ranges

-- what two clauses say of a result
pub IfOk-both : {T E : Type 0} (r : Result T E) (P Q R : T → Type 0) → ((x : T) → P x → Q x → R x) → IfOk r P → IfOk r Q → IfOk r R
IfOk-both (Ok x) P Q R f p q = f x p q
IfOk-both (Err e) P Q R f p q = tt
