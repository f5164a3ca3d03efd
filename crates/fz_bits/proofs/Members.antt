-- Sets of numbers word by word.
use Rattle.std.proofs.Common.{◌≡◌, ℕ, suc, refl, replicate, ◌-◌, ◌+◌, ◌<◌, ◌≤◌, ◌/◌, ◌%◌, ◌*◌, ◌^◌, List, ◌⊎◌, inl, inr, sym, ap, subst, ◌∙◌, arith, length, get_or, set}
use Rattle.std.specs.Prelude.{◌↔◌, not, nat_eq, IsTrue}
use Rattle.std.specs.Int.{bit_at, w64, trailing_zeros}
use Rattle.std.proofs.lemmas.Bool.{cases_eq}
use Rattle.std.proofs.lemmas.Bool.Decides.{leb_tells, nat_tests}
use Rattle.std.proofs.lemmas.List.{get_or-set_same, get_or-set_other, get_or_past, length-replicate, get_or-replicate}
use Rattle.std.proofs.lemmas.Nat.{one_shl}
use Rattle.std.proofs.lemmas.Nat.Bits.{bit_at-zero, bit_at_ones, bit_at_ones_above}
use Rattle.fz_bits.proofs.Words.{first_bit, positive}
use Rattle.fz_bits.specs.declared.chunk.Chunk.{Chunk}
use Rattle.fz_bits.specs.Words.{HasBit, AreOnes}
use Rattle.fz_bits.specs.Members.{HasMember, IsOneOf}

-- ---- no number

no_bit : (word k : ℕ) → word ≡ 0 → HasBit word k → ⊥
no_bit word k none one =
    let z = bit_at-zero k in
    let e : bit_at 0 k ≡ 1 = subst (λ (w : ℕ). bit_at w k ≡ 1) none one in
    omega arith

pub none_in : (words : List ℕ) (i : ℕ) → get_or words (i / 64) 0 ≡ 0 → HasMember words i → ⊥
none_in words i none has = no_bit (get_or words (i / 64) 0) (i % 64) none has

-- ---- numbers of a word

pub none_of : (word i : ℕ) → IsOneOf (record { word = word; bits = 0 }) i → ⊥
none_of word i h = no_bit 0 (i % 64) refl h.1

pub one_more : (word bits new number i : ℕ) → word ≡ number / 64 → AreOnes new (λ k. HasBit bits k ⊎ (k ≡ number % 64))
    → IsOneOf (record { word = word; bits = new }) i ↔ (IsOneOf (record { word = word; bits = bits }) i ⊎ (i ≡ number))
one_more word bits new number i is ones =
    let bit = ones (i % 64) (omega arith) in (
      (λ h. elim (bit.0 h.1) [ inl old ↦ inl (h.0, old) | inr e ↦ (let at = h.0 in inr (omega (arith, at, is, e))) ]),
      (λ h. elim h [
        | inl old ↦ (old.0, bit.1 (inl old.1))
        | inr e ↦ (is ∙ ap (λ (k : ℕ). k / 64) (sym e), bit.1 (inr (ap (λ (k : ℕ). k % 64) e)))
      ]),
    )

-- ---- a word that is written over

-- what a set has where one of its words is written over
record IsWritten (words : List ℕ) (place new i : ℕ) : Type 0 where
  here : i / 64 ≡ place → HasMember (set words place new) i ↔ HasBit new (i % 64)
  other : (i / 64 ≡ place → ⊥) → HasMember (set words place new) i ↔ HasMember words i

written : (words : List ℕ) (place new i : ℕ) → place < length words → IsWritten words place new i
written words place new i inside = record {
  here = λ same.
      let now : get_or (set words place new) (i / 64) 0 ≡ new = ap (λ (k : ℕ). get_or (set words place new) k 0) same ∙ get_or-set_same words place new 0 inside in
      rw now (λ h. h, λ h. h);
  other = λ ne. rw (get_or-set_other words place (i / 64) new 0 ne) (λ h. h, λ h. h);
}

old_word : (words : List ℕ) (place old i : ℕ) → old ≡ get_or words place 0 → i / 64 ≡ place → HasMember words i ↔ HasBit old (i % 64)
old_word words place old i is same = rw (ap (λ (k : ℕ). get_or words k 0) same ∙ sym is) (λ h. h, λ h. h)

pub joined : (words : List ℕ) (chunk : Chunk) (old new : ℕ) → chunk.word < length words → old ≡ get_or words chunk.word 0 → AreOnes new (λ k. HasBit old k ⊎ HasBit chunk.bits k) → (i : ℕ)
    → HasMember (set words chunk.word new) i ↔ (HasMember words i ⊎ IsOneOf chunk i)
joined words chunk old new inside is ones i =
    let w = written words chunk.word new i inside in
    let bit = ones (i % 64) (omega arith) in
    elim (cases_eq (i / 64) chunk.word) [
      | inl same ↦
          let was = old_word words chunk.word old i is same in
          let now = w.here same in (
            (λ h. elim (bit.0 (now.0 h)) [ inl before ↦ inl (was.1 before) | inr more ↦ inr (sym same, more) ]),
            (λ h. elim h [ inl before ↦ now.1 (bit.1 (inl (was.0 before))) | inr more ↦ now.1 (bit.1 (inr more.1)) ]),
          )
      | inr ne ↦
          let now = w.other ne in
          ((λ h. inl (now.0 h)), (λ h. elim h [ inl has ↦ now.1 has | inr e ↦ absurd (ne (sym e.0)) ]))
    ]

pub removed : (words : List ℕ) (number old new : ℕ) → number / 64 < length words → old ≡ get_or words (number / 64) 0 → AreOnes new (λ k. HasBit old k × (k ≡ number % 64 → ⊥)) → (i : ℕ)
    → HasMember (set words (number / 64) new) i ↔ (HasMember words i × (i ≡ number → ⊥))
removed words number old new inside is ones i =
    let w = written words (number / 64) new i inside in
    let bit = ones (i % 64) (omega arith) in
    elim (cases_eq (i / 64) (number / 64)) [
      | inl same ↦
          let was = old_word words (number / 64) old i is same in
          let now = w.here same in (
            (λ h. let left = bit.0 (now.0 h) in (was.1 left.0, λ e. left.1 (ap (λ (k : ℕ). k % 64) e))),
            (λ h. now.1 (bit.1 (was.0 h.0, λ e. h.1 (omega (arith, same, e))))),
          )
      | inr ne ↦
          let now = w.other ne in
          ((λ h. (now.0 h, λ e. ne (ap (λ (k : ℕ). k / 64) e))), (λ h. now.1 h.0))
    ]

-- ---- two sets, word by word

-- words before place k have the bits that both have, those from k on are the old ones
pub record AreMet (old other new : List ℕ) (k : ℕ) : Type 0 where
  pub size : length new ≡ length old
  pub done : (p : ℕ) → p < k → AreOnes (get_or new p 0) (λ b. HasBit (get_or old p 0) b × HasBit (get_or other p 0) b)
  pub left : (p : ℕ) → k ≤ p → get_or new p 0 ≡ get_or old p 0

-- ---- a number that is there

number_at : (k b : ℕ) → b < 64 → ((k * 64 + b) / 64 ≡ k) × ((k * 64 + b) % 64 ≡ b)
number_at k b small = (omega (arith, small), omega (arith, small))

pub some_in : (words : List ℕ) (k word : ℕ) → word ≡ get_or words k 0 → (word ≡ 0 → ⊥) → word < 2 ^ 64 → (i : ℕ) × HasMember words i
some_in words k word is some fits =
    let first = first_bit word (positive word some) fits in
    let bit = trailing_zeros w64 word in
    let at = number_at k bit first.0 in
    (k * 64 + bit, rw (at.0, at.1) (subst (λ (w : ℕ). bit_at w bit ≡ 1) is first.1))

-- the bits that a set and a chunk share are those of a word
abbrev AreShared : List ℕ → Chunk → ℕ → Type 0
AreShared words chunk both = AreOnes both (λ k. HasBit (get_or words chunk.word 0) k × HasBit chunk.bits k)

some_common : (words : List ℕ) (chunk : Chunk) (both : ℕ) → AreShared words chunk both → (both ≡ 0 → ⊥) → both < 2 ^ 64
    → (i : ℕ) × HasMember words i × IsOneOf chunk i
some_common words chunk both shared some fits =
    let first = first_bit both (positive both some) fits in
    let bit = trailing_zeros w64 both in
    let of = (shared bit first.0).0 first.1 in
    let at = number_at chunk.word bit first.0 in (
      chunk.word * 64 + bit,
      rw (at.0, at.1) of.0,
      (sym at.0, ap (λ (b : ℕ). bit_at chunk.bits b) at.1 ∙ of.1),
    )

none_common : (words : List ℕ) (chunk : Chunk) (both : ℕ) → AreShared words chunk both → both ≡ 0 → (i : ℕ) → HasMember words i → IsOneOf chunk i → ⊥
none_common words chunk both shared none i has one =
    let mine : HasBit (get_or words chunk.word 0) (i % 64) = ap (λ (k : ℕ). bit_at (get_or words k 0) (i % 64)) one.0 ∙ has in
    no_bit both (i % 64) none ((shared (i % 64) (omega arith)).1 (mine, one.1))

pub meets_tells : (words : List ℕ) (chunk : Chunk) (both : ℕ) → AreShared words chunk both → both < 2 ^ 64
    → IsTrue (not (nat_eq both 0)) ↔ ((i : ℕ) × HasMember words i × IsOneOf chunk i)
meets_tells words chunk both shared fits = elim (cases_eq both 0) [
  | inl none ↦ ((λ e. absurd (grind (arith, nat_tests))), (λ h. absurd (none_common words chunk both shared none h.0 h.1 h.2)))
  | inr some ↦ ((λ e. some_common words chunk both shared some fits), (λ h. grind (arith, nat_tests)))
]

-- ---- all numbers

pub all_members : (size i : ℕ) → HasMember (set (replicate (suc (size / 64)) (2 ^ 64 - 1)) (size / 64) (1 * 2 ^ (size % 64) % 2 ^ 64 - 1)) i ↔ (i < size)
all_members size i =
    let full = replicate (suc (size / 64)) (2 ^ 64 - 1) in
    let last = size / 64 in
    let word = 1 * 2 ^ (size % 64) % 2 ^ 64 - 1 in
    let small : size % 64 < 64 = omega arith in
    let is : word ≡ 2 ^ (size % 64) - 1 = ap (λ (n : ℕ). n - 1) (one_shl (size % 64) 64 small) in
    let long : length full ≡ suc last = length-replicate (suc last) (2 ^ 64 - 1) in
    let w = written full last word i (omega (arith, long)) in
    elim (cases_eq (i / 64) last) [
      | inl same ↦
          let now = w.here same in
          elim (leb_tells (size % 64) (i % 64)) [
            | inl above ↦
                let beyond = above.1 in
                let z = bit_at_ones_above (size % 64) (i % 64) beyond in
                ((λ h. absurd (let one = subst (λ (v : ℕ). bit_at v (i % 64) ≡ 1) is (now.0 h) in omega (arith, one, z))), (λ below. absurd (omega (arith, below, same, beyond))))
            | inr under ↦ let less = under.1 in ((λ h. omega (arith, same, less)), (λ below. now.1 (subst (λ (v : ℕ). bit_at v (i % 64) ≡ 1) (sym is) (bit_at_ones (size % 64) (i % 64) less))))
          ]
      | inr other ↦
          let now = w.other other in
          elim (leb_tells (suc last) (i / 64)) [
            | inl above ↦
                let beyond = above.1 in (
                  (λ h. absurd (none_in full i (get_or_past full (i / 64) 0 (omega (arith, long, beyond))) (now.0 h))),
                  (λ below. absurd (omega (arith, below, beyond))),
                )
            | inr under ↦
                let less = under.1 in
                let bit : i % 64 < 64 = omega arith in (
                  (λ h. omega (arith, other, less)),
                  (λ below. now.1 (ap (λ (v : ℕ). bit_at v (i % 64)) (get_or-replicate (suc last) (i / 64) (2 ^ 64 - 1) 0 less) ∙ bit_at_ones 64 (i % 64) bit)),
                )
          ]
    ]
