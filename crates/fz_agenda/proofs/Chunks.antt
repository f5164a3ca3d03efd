-- The propagators of a word.
use Rattle.std.proofs.Common.{◌≡◌, ◌⊎◌, inl, inr, ℕ, zero, suc, ◌+◌, ◌*◌, ◌/◌, ◌%◌, ◌<◌, ◌≤◌, sym, ◌∙◌, ap, arith, false, nat_eq}
use Rattle.std.specs.Prelude.{◌↔◌}
use Rattle.std.specs.Int.{bit_at}
use Rattle.std.proofs.lemmas.Bool.{cases_eq, ne_eqb}
use Rattle.fz_bits.specs.declared.chunk.Chunk.{Chunk}
use Rattle.fz_bits.specs.Members.{IsOneOf}
use Rattle.fz_prop.specs.Stores.{IsListed}
use Rattle.fz_agenda.specs.Bits.{first_members, members_of}

-- i is the propagator of one of the first n bits, which is set
record IsBelow (at bits n i : ℕ) : Type 0 where
  word : i / 64 ≡ at
  below : i % 64 < n
  bit : bit_at bits (i % 64) ≡ 1

last_member : (word n i : ℕ) → n < 64 → i ≡ word * 64 + n → (i / 64 ≡ word) × (i % 64 ≡ n)
last_member word n i small is = (omega (arith, small, is), omega (arith, small, is))

member_is : (word n i : ℕ) → n < 64 → i / 64 ≡ word → i % 64 ≡ n → i ≡ word * 64 + n
member_is word n i small at bit = omega (arith, at, bit)

ne_one : (x : ℕ) → (x ≡ 1 → ⊥) → nat_eq x 1 ≡ false
ne_one x ne = ne_eqb x 1 ne

first_is : (word bits n i : ℕ) → n ≤ 64 → IsListed (first_members word bits n) i ↔ IsBelow word bits n i
unfolding first_members
first_is word bits zero i few = ((λ h. absurd h), (λ h. (let b = h.below in absurd (omega (arith, b)))))
first_is word bits (suc n) i few =
    let small : n < 64 = omega (arith, few) in
    let rest = first_is word bits n i (omega (arith, few)) in
    let up : IsBelow word bits n i → IsBelow word bits (suc n) i = λ h. record { word = h.word; below = (let b = h.below in omega (arith, b)); bit = h.bit } in
    elim (cases_eq (bit_at bits n) 1) [
      | inl one ↦
          rw one (
            (λ h. elim h [
              | inl e ↦
                  let at = last_member word n i small (sym e) in
                  record { word = at.0; below = (let b = at.1 in omega (arith, b)); bit = ap (bit_at bits) at.1 ∙ one }
              | inr more ↦ up (rest.0 more)
            ]),
            (λ h. elim (cases_eq (i % 64) n) [
              | inl e ↦ inl (sym (member_is word n i small h.word e))
              | inr ne ↦ inr (rest.1 (record { word = h.word; below = (let b = h.below in omega (arith, b, ne)); bit = h.bit }))
            ]),
          )
      | inr other ↦
          let none : nat_eq (bit_at bits n) 1 ≡ false = ne_one (bit_at bits n) other in
          rw none (
            (λ h. up (rest.0 h)),
            (λ h. elim (cases_eq (i % 64) n) [
              | inl e ↦ absurd (other (ap (bit_at bits) (sym e) ∙ h.bit))
              | inr ne ↦ rest.1 (record { word = h.word; below = (let b = h.below in omega (arith, b, ne)); bit = h.bit })
            ]),
          )
    ]

pub members_are : (word bits i : ℕ) → IsListed (members_of word bits) i ↔ ((i / 64 ≡ word) × (bit_at bits (i % 64) ≡ 1))
unfolding members_of
members_are word bits i =
    let is = first_is word bits 64 i (omega arith) in (
      (λ h. let b = is.0 h in (b.word, b.bit)),
      (λ h. is.1 (record { word = h.0; below = omega arith; bit = h.1 })),
    )

-- the numbers of a chunk
pub listed_are : (chunk : Chunk) (P : ℕ → Type 0) → ((i : ℕ) → IsOneOf chunk i ↔ P i) → (i : ℕ) → IsListed (members_of chunk.word chunk.bits) i ↔ P i
listed_are chunk P are i =
    let is = members_are chunk.word chunk.bits i in (
      (λ h. let one = is.0 h in (are i).0 (sym one.0, one.1)),
      (λ p. let one = (are i).1 p in is.1 (sym one.0, one.1)),
    )

-- one more
pub listed_more : (old new : Chunk) (place : ℕ) → ((i : ℕ) → IsOneOf new i ↔ (IsOneOf old i ⊎ (i ≡ place)))
    → (i : ℕ) → IsListed (members_of new.word new.bits) i ↔ (IsListed (members_of old.word old.bits) i ⊎ (i ≡ place))
listed_more old new place are i =
    let was = listed_are old (IsOneOf old) (λ j. ((λ h. h), (λ h. h))) i in
    let now = listed_are new (λ j. IsOneOf old j ⊎ (j ≡ place)) are i in (
      (λ h. elim (now.0 h) [ inl one ↦ inl (was.1 one) | inr e ↦ inr e ]),
      (λ h. elim h [ inl listed ↦ now.1 (inl (was.0 listed)) | inr e ↦ now.1 (inr e) ]),
    )
