-- The states of propagators by the bits of two sets.
use Rattle.std.proofs.Common.{◌≡◌, ◌⊎◌, inl, inr, ℕ, zero, suc, ◌+◌, ◌*◌, ◌/◌, ◌%◌, ◌<◌, ◌≤◌, List, refl, sym, ◌∙◌, ap, arith, length, Bool, true, false, cond, nat_eq, replicate, get_or, get_or-set_same, get_or-set_other}
use Rattle.std.specs.Prelude.{◌↔◌, IsTrue, not, slice_index, slice_set}
use Rattle.std.specs.Int.{bit_at}
use Rattle.std.proofs.lemmas.Bool.{cases_eq, ne_eqb}
use Rattle.std.proofs.lemmas.List.{length-set, length-replicate, get_or-replicate, ext_get_or}
use Rattle.std.proofs.lemmas.List.FromFn.{get_or-map-range_with_len, length-map-range_with_len}
use Rattle.std.proofs.lemmas.Nat.Bits.{bit_at-lt}
use Rattle.fz_bits.specs.Members.{HasMember, words_for}
use Rattle.fz_sets.proofs.Lists.{by_place}
use Rattle.fz_agenda.proofs.Places.{within_of}
use Rattle.fz_agenda.specs.Bits.{bit_of, state_at, states_of}

-- ---- one bit of a set

ne_one : (x : ℕ) → (x ≡ 1 → ⊥) → nat_eq x 1 ≡ false
ne_one x ne = ne_eqb x 1 ne

bit_low : (words : List ℕ) (i : ℕ) → bit_of words i < 2
bit_low words i = bit_at-lt (slice_index words (i / 64)) (i % 64)

no_bit : (words : List ℕ) (i : ℕ) → (HasMember words i → ⊥) → bit_of words i ≡ 0
no_bit words i none = let low = bit_low words i in omega (arith, low, none)

-- the bit of one is set to a value, and no other changes
pub record IsBitSet (place value : ℕ) (words after : List ℕ) : Type 0 where
  pub here : bit_of after place ≡ value
  pub others : (i : ℕ) → (i ≡ place → ⊥) → bit_of after i ≡ bit_of words i

same_bit : (words after : List ℕ) (i : ℕ) → (HasMember after i → HasMember words i) → (HasMember words i → HasMember after i) → bit_of after i ≡ bit_of words i
same_bit words after i back on = elim (cases_eq (bit_of words i) 1) [
  | inl one ↦ on one ∙ sym one
  | inr ne ↦ no_bit after i (λ has. ne (back has)) ∙ sym (no_bit words i ne)
]

pub inserted : (place : ℕ) (words after : List ℕ) → ((i : ℕ) → HasMember after i ↔ (HasMember words i ⊎ (i ≡ place))) → IsBitSet place 1 words after
inserted place words after are = record {
  here = (are place).1 (inr refl);
  others = λ i ne. same_bit words after i (λ has. elim ((are i).0 has) [ inl old ↦ old | inr e ↦ absurd (ne e) ]) (λ has. (are i).1 (inl has));
}

pub removed : (place : ℕ) (words after : List ℕ) → ((i : ℕ) → HasMember after i ↔ (HasMember words i × (i ≡ place → ⊥))) → IsBitSet place 0 words after
removed place words after are = record {
  here = no_bit after place (λ has. ((are place).0 has).1 refl);
  others = λ i ne. same_bit words after i (λ has. ((are i).0 has).0) (λ has. (are i).1 (has, ne));
}

-- ---- states

pub states_length : (alive queued : List ℕ) (n : ℕ) → length (states_of alive queued n) ≡ n
unfolding states_of
states_length alive queued n = length-map-range_with_len (state_at alive queued) 0 n

pub states_at : (alive queued : List ℕ) (n i : ℕ) → i < n → slice_index (states_of alive queued n) i ≡ state_at alive queued i
unfolding states_of
states_at alive queued n i within = get_or-map-range_with_len (state_at alive queued) 0 n i i 0 within (omega arith)

pub within_words : (words : List ℕ) (n p : ℕ) → length words ≡ words_for n → p < n → p / 64 < length words
within_words words n p size within = omega (arith, size, within)

-- one has another state
pub states_set : (alive queued alive' queued' : List ℕ) (n p k : ℕ) → p < n → state_at alive' queued' p ≡ k → ((i : ℕ) → (i ≡ p → ⊥) → state_at alive' queued' i ≡ state_at alive queued i)
    → states_of alive' queued' n ≡ slice_set (states_of alive queued n) p k
states_set alive queued alive' queued' n p k within here others =
    let before = states_of alive queued n in
    let size : length before ≡ n = states_length alive queued n in
    let now : length (states_of alive' queued' n) ≡ n = states_length alive' queued' n in
    ext_get_or 0 (states_of alive' queued' n) (slice_set before p k) (now ∙ sym (length-set before p k ∙ size))
    (λ i under. let inside : i < n = omega (arith, under, now) in
    states_at alive' queued' n i inside ∙ by_place (λ j. j < n → state_at alive' queued' j ≡ get_or (slice_set before p k) j 0) p
    (λ l. here ∙ sym (get_or-set_same before p k 0 (omega (arith, within, size))))
    (λ j ne l. others j ne ∙ sym (states_at alive queued n j l) ∙ sym (get_or-set_other before p j k 0 ne)) i inside)

same_state : (alive queued alive' queued' : List ℕ) (i : ℕ) → bit_of alive' i ≡ bit_of alive i → bit_of queued' i ≡ bit_of queued i → state_at alive' queued' i ≡ state_at alive queued i
same_state alive queued alive' queued' i a q = ap (λ (x : ℕ). cond (nat_eq x 1) (bit_of queued' i) 2) a ∙ ap (λ (x : ℕ). cond (nat_eq (bit_of alive i) 1) x 2) q

pub state_alive : (alive queued : List ℕ) (i : ℕ) → bit_of alive i ≡ 1 → state_at alive queued i ≡ bit_of queued i
state_alive alive queued i one = ap (λ (x : ℕ). cond (nat_eq x 1) (bit_of queued i) 2) one

pub state_gone : (alive queued : List ℕ) (i : ℕ) → (bit_of alive i ≡ 1 → ⊥) → state_at alive queued i ≡ 2
state_gone alive queued i never = ap (λ (b : Bool). cond b (bit_of queued i) 2) (ne_one (bit_of alive i) never)

-- one that isn't gone is alive
pub is_alive : (alive queued : List ℕ) (i k : ℕ) → state_at alive queued i ≡ k → k < 2 → (bit_of alive i ≡ 1) × (bit_of queued i ≡ k)
is_alive alive queued i k is few = elim (cases_eq (bit_of alive i) 1) [
  | inl one ↦ (one, sym (state_alive alive queued i one) ∙ is)
  | inr never ↦ absurd (let two = state_gone alive queued i never in omega (arith, two, is, few))
]

-- the queued bit of one that is alive says its state
pub states_queued : (alive queued queued' : List ℕ) (n p k : ℕ) → p < n → bit_of alive p ≡ 1 → IsBitSet p k queued queued' → states_of alive queued' n ≡ slice_set (states_of alive queued n) p k
states_queued alive queued queued' n p k within one bits =
    states_set alive queued alive queued' n p k within (state_alive alive queued' p one ∙ bits.here) (λ i ne. same_state alive queued alive queued' i refl (bits.others i ne))

pub states_gone : (alive queued alive' : List ℕ) (n p : ℕ) → p < n → IsBitSet p 0 alive alive' → states_of alive' queued n ≡ slice_set (states_of alive queued n) p 2
states_gone alive queued alive' n p within gone =
    states_set alive queued alive' queued n p 2 within (state_gone alive' queued p (λ one. (let none = gone.here in omega (arith, one, none))))
    (λ i ne. same_state alive queued alive' queued i (gone.others i ne) refl)

pub states_revived : (alive queued alive' queued' : List ℕ) (n p : ℕ) → p < n → IsBitSet p 0 queued queued' → IsBitSet p 1 alive alive' → states_of alive' queued' n ≡ slice_set (states_of alive queued n) p 0
states_revived alive queued alive' queued' n p within bits back =
    states_set alive queued alive' queued' n p 0 within (state_alive alive' queued' p back.here ∙ bits.here) (λ i ne. same_state alive queued alive' queued' i (back.others i ne) (bits.others i ne))

-- all are idle
pub states_new : (alive queued : List ℕ) (n : ℕ) → ((i : ℕ) → HasMember alive i ↔ (i < n)) → ((i : ℕ) → HasMember queued i → ⊥) → states_of alive queued n ≡ replicate n 0
states_new alive queued n living waiting =
    let size : length (states_of alive queued n) ≡ n = states_length alive queued n in
    ext_get_or 0 (states_of alive queued n) (replicate n 0) (size ∙ sym (length-replicate n 0))
    (λ i under. let inside : i < n = omega (arith, under, size) in
    states_at alive queued n i inside ∙ state_alive alive queued i ((living i).1 inside) ∙ no_bit queued i (waiting i) ∙ sym (get_or-replicate n i 0 0 inside))

pub idle_zero : (n i : ℕ) → slice_index (replicate n 0) i ≡ 0
idle_zero zero i = refl
idle_zero (suc n) zero = refl
idle_zero (suc n) (suc i) = idle_zero n i

-- one of some state is alive where it isn't gone
pub alive_at : (alive queued : List ℕ) (n p k : ℕ) → p < n → slice_index (states_of alive queued n) p ≡ k → k < 2 → (bit_of alive p ≡ 1) × (bit_of queued p ≡ k)
alive_at alive queued n p k within is few = is_alive alive queued p k (sym (states_at alive queued n p within) ∙ is) few

pub within_states : (alive queued : List ℕ) (n p k : ℕ) → slice_index (states_of alive queued n) p ≡ k → 0 < k → p < n
within_states alive queued n p k is some =
    let size = states_length alive queued n in
    let inside = within_of (states_of alive queued n) p (λ zero. omega (arith, is, some, zero)) in
    omega (arith, size, inside)

pub queue_one : (alive queued queued' : List ℕ) (n p k : ℕ) → p < n → slice_index (states_of alive queued n) p ≡ k → k < 2 → (value : ℕ) → IsBitSet p value queued queued'
    → states_of alive queued' n ≡ slice_set (states_of alive queued n) p value
queue_one alive queued queued' n p k within is few value bits = states_queued alive queued queued' n p value within (alive_at alive queued n p k within is few).0 bits

-- whether one is there and idle
abbrev pub IsIdleTest : Bool → List ℕ → ℕ → Type 0
IsIdleTest b states p = IsTrue b ↔ ((p < length states) × (slice_index states p ≡ 0))

pub not_within : (alive queued : List ℕ) (n p : ℕ) → n ≤ p → IsIdleTest false (states_of alive queued n) p
not_within alive queued n p beyond =
    let size = states_length alive queued n in
    ((λ h. absurd (let f : false ≡ true = h in cc)), (λ h. (let within = h.0 in absurd (omega (arith, within, size, beyond)))))

pub idle_is : (alive queued : List ℕ) (n p : ℕ) (b : Bool) → p < n → bit_of alive p ≡ 1 → IsTrue b ↔ (bit_of queued p ≡ 1) → IsIdleTest (not b) (states_of alive queued n) p
idle_is alive queued n p true within one is =
    let state : slice_index (states_of alive queued n) p ≡ 1 = states_at alive queued n p within ∙ state_alive alive queued p one ∙ is.0 refl in
    ((λ h. absurd (let f : not true ≡ true = h in cc)), (λ h. (let e = h.1 in absurd (omega (arith, state, e)))))
idle_is alive queued n p false within one is =
    let state : slice_index (states_of alive queued n) p ≡ bit_of queued p = states_at alive queued n p within ∙ state_alive alive queued p one in
    let bit = bit_at-lt (slice_index queued (p / 64)) (p % 64) in
    let size = states_length alive queued n in
    ((λ h. (omega (arith, within, size), elim (cases_eq (bit_of queued p) 1) [ inl e ↦ absurd (let f : false ≡ true = is.1 e in cc) | inr ne ↦ omega (arith, state, bit, ne) ])), (λ h. refl))

pub never_idle : (alive queued : List ℕ) (n p : ℕ) (b : Bool) → p < n → IsTrue b ↔ (bit_of alive p ≡ 1) → b ≡ false → IsIdleTest b (states_of alive queued n) p
never_idle alive queued n p b within is none =
    let dead : bit_of alive p ≡ 1 → ⊥ = λ one. (let f : b ≡ true = is.1 one in cc) in
    let two : slice_index (states_of alive queued n) p ≡ 2 = states_at alive queued n p within ∙ state_gone alive queued p dead in
    ((λ h. absurd (let f : b ≡ true = h in cc)), (λ h. (let e = h.1 in absurd (omega (arith, e, two)))))

-- the bit of one that is there says whether it is idle
pub idle_bit : (alive queued : List ℕ) (n word k a q bits : ℕ) → k < 64 → word * 64 + k < n → a ≡ get_or alive word 0 → q ≡ get_or queued word 0 → (bit_at bits k ≡ 1) ↔ ((bit_at a k ≡ 1) × (bit_at q k ≡ 1 → ⊥))
    → (bit_at bits k ≡ 1) ↔ (slice_index (states_of alive queued n) (word * 64 + k) ≡ 0)
idle_bit alive queued n word k a q bits small within at_a at_q are =
    let i = word * 64 + k in
    let word_is : i / 64 ≡ word = omega (arith, small) in
    let bit_is : i % 64 ≡ k = omega (arith, small) in
    let living : bit_of alive i ≡ bit_at a k = ap (λ (j : ℕ). bit_at (get_or alive (i / 64) 0) j) bit_is ∙ ap (λ (w : ℕ). bit_at (get_or alive w 0) k) word_is ∙ ap (λ (w : ℕ). bit_at w k) (sym at_a) in
    let waiting : bit_of queued i ≡ bit_at q k = ap (λ (j : ℕ). bit_at (get_or queued (i / 64) 0) j) bit_is ∙ ap (λ (w : ℕ). bit_at (get_or queued w 0) k) word_is ∙ ap (λ (w : ℕ). bit_at w k) (sym at_q) in
    let low = bit_at-lt q k in (
      (λ one.
          let both = are.0 one in
          states_at alive queued n i within ∙ state_alive alive queued i (living ∙ both.0) ∙ waiting
          ∙ elim (cases_eq (bit_at q k) 1) [ inl e ↦ absurd (both.1 e) | inr ne ↦ omega (arith, low, ne) ]),
      (λ idle.
          let here = alive_at alive queued n i 0 within idle (omega arith) in
          are.1 (sym living ∙ here.0, λ e. (let none = here.1 in omega (arith, e, none, waiting)))),
    )

pub same_count : (alive queued alive' queued' now now' : List ℕ) (n m : ℕ) → states_of alive queued n ≡ now → states_of alive' queued' m ≡ now' → length now ≡ length now' → n ≡ m
same_count alive queued alive' queued' now now' n m is is' same = sym (states_length alive queued n) ∙ ap length is ∙ same ∙ ap length (sym is') ∙ states_length alive' queued' m

pub copied : (alive queued alive' queued' now : List ℕ) (n m : ℕ) → n ≡ m → alive' ≡ alive → queued' ≡ queued → states_of alive queued m ≡ now → states_of alive' queued' n ≡ now
copied alive queued alive' queued' now n m same a q is =
    ap (λ (k : ℕ). states_of alive' queued' k) same ∙ ap (λ (ws : List ℕ). states_of ws queued' m) a ∙ ap (λ (ws : List ℕ). states_of alive ws m) q ∙ is
