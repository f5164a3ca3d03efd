-- Waking word by word.
use Rattle.std.proofs.Common.{◌≡◌, ◌⊎◌, inl, inr, ℕ, zero, suc, ◌+◌, ◌*◌, ◌/◌, ◌%◌, ◌<◌, ◌≤◌, List, [], ◌∷◌, ◌++◌, refl, sym, ◌∙◌, ap, subst, arith, length, get_or-set_other, take, Result, Ok, Err}
use Rattle.std.specs.Prelude.{◌↔◌, slice_index, slice_index_or, slice_set, OnOk, OnErr}
use Rattle.std.specs.List.{AllByRecursion, concat}
use Rattle.std.specs.Int.{bit_at}
use Rattle.std.proofs.lemmas.Bool.{cases_eq}
use Rattle.std.proofs.lemmas.Nat.Bits.{bit_at-zero}
use Rattle.fz_sets.proofs.Lists.{all_both, all_read_more}
use Rattle.fz_strength.specs.declared.cost.Cost.{Cost}
use Rattle.fz_bits.specs.Words.{HasBit, AreOnes}
use Rattle.fz_prop.specs.Stores.{IsListed}
use Rattle.fz_agenda.specs.Bits.{members_of}
use Rattle.fz_agenda.specs.Queues.{Lineup, class_of, cost_at, IsIdle, IsQueued, AreAwake, IsWoken}
use Rattle.fz_agenda.specs.Wakes.{Waking, WaitsFor}
use Rattle.fz_agenda.proofs.Chunks.{members_are}
use Rattle.fz_agenda.proofs.Woken.{idle_or_not, same_woken, woken_twice, woken_by_more, woken_wake, awake_wake, still_awake, all_still_awake}

-- ---- the members of a word

pub all_listed : (P : ℕ → Type 0) (xs : List ℕ) → ((i : ℕ) → IsListed xs i → P i) → AllByRecursion P xs
all_listed P [] f = tt
all_listed P (x ∷ xs) f = (f x (inl refl), all_listed P xs (λ i h. f i (inr h)))

-- of the bits of a word some are left, whose propagators are still to be woken
pub record IsWaking (word bits left : ℕ) (costs : List Cost) (l m : Lineup) : Type 0 where
  pub woken : IsWoken (IsListed (members_of word bits)) costs l m
  pub inside : (k : ℕ) → k < 64 → bit_at left k ≡ 1 → bit_at bits k ≡ 1
  pub idle : (k : ℕ) → k < 64 → bit_at left k ≡ 1 → word * 64 + k < length m.states → slice_index m.states (word * 64 + k) ≡ 0
  pub done : (k : ℕ) → k < 64 → bit_at bits k ≡ 1 → (bit_at left k ≡ 1) ⊎ (word * 64 + k < length m.states → slice_index m.states (word * 64 + k) ≡ 0 → ⊥)

pub waking_start : (word bits idle left : ℕ) (costs : List Cost) (l : Lineup) → ((k : ℕ) → k < 64 → word * 64 + k < length l.states → (bit_at idle k ≡ 1) ↔ (slice_index l.states (word * 64 + k) ≡ 0))
    → AreOnes left (λ k. HasBit bits k × HasBit idle k) → IsWaking word bits left costs l l
waking_start word bits idle left costs l are ones = record {
  woken = same_woken (IsListed (members_of word bits)) costs l;
  inside = λ k small one. ((ones k small).0 one).0;
  idle = λ k small one within. (are k small within).0 ((ones k small).0 one).1;
  done = λ k small one. elim (cases_eq (bit_at left k) 1) [
    | inl e ↦ inl e
    | inr ne ↦ inr (λ within is. ne ((ones k small).1 (one, (are k small within).1 is)))
  ];
}

listed_bit : (word bits k : ℕ) → k < 64 → bit_at bits k ≡ 1 → IsListed (members_of word bits) (word * 64 + k)
listed_bit word bits k small one =
    let at : (word * 64 + k) / 64 ≡ word = omega (arith, small) in
    let bit : (word * 64 + k) % 64 ≡ k = omega (arith, small) in
    (members_are word bits (word * 64 + k)).1 (at, ap (bit_at bits) bit ∙ one)

pub waking_wake : {T E : Type 0} (r : Result T E) (word bits left bit : ℕ) (costs : List Cost) (l m n : Lineup) (class place : ℕ) → IsWaking word bits left costs l m → bit < 64 → bit_at left bit ≡ 1
    → place ≡ word * 64 + bit → OnOk r (IsIdle m place → IsQueued class place m n) → ((IsIdle m place → ⊥) → n ≡ m) → OnErr r (n ≡ m) → class ≡ class_of (cost_at costs place)
    → IsWoken (IsListed (members_of word bits)) costs m n
waking_wake r word bits left bit costs l m n class place waking small one at ok other err is =
    woken_wake r (IsListed (members_of word bits)) costs m n class place ok other err is
    (subst (λ (i : ℕ). IsListed (members_of word bits) i) (sym at) (listed_bit word bits bit small (waking.inside bit small one)))

other_state : (m n : Lineup) (class place i : ℕ) → (IsIdle m place → IsQueued class place m n) → ((IsIdle m place → ⊥) → n ≡ m) → (i ≡ place → ⊥) → slice_index n.states i ≡ slice_index m.states i
other_state m n class place i ok other ne = elim (idle_or_not m place) [
  | inl idle ↦ ap (λ (xs : List ℕ). slice_index xs i) (ok idle).states ∙ get_or-set_other m.states place i 1 0 ne
  | inr never ↦ ap (λ (l : Lineup). slice_index l.states i) (other never)
]

pub waking_more : (word bits left next bit : ℕ) (costs : List Cost) (l m n : Lineup) (class place : ℕ) → IsWaking word bits left costs l m → IsWoken (IsListed (members_of word bits)) costs m n → bit < 64
    → place ≡ word * 64 + bit → (IsIdle m place → IsQueued class place m n) → ((IsIdle m place → ⊥) → n ≡ m) → AreOnes next (λ k. HasBit left k × (k ≡ bit → ⊥))
    → IsWaking word bits next costs l n
waking_more word bits left next bit costs l m n class place waking woken small at ok other ones = record {
  woken = woken_twice (IsListed (members_of word bits)) costs l m n waking.woken woken;
  inside = λ k under one. waking.inside k under ((ones k under).0 one).0;
  idle = λ k under one within.
      let old = (ones k under).0 one in
      other_state m n class place (word * 64 + k) ok other (λ e. old.1 (omega (arith, e, at)))
      ∙ waking.idle k under old.0 (let size = woken.size in omega (arith, within, size));
  done = λ k under one. elim (cases_eq k bit) [
    | inl e ↦ inr (subst (λ (i : ℕ). i < length n.states → slice_index n.states i ≡ 0 → ⊥) (at ∙ ap (λ (j : ℕ). word * 64 + j) (sym e)) (awake_wake m n class place ok other))
    | inr ne ↦ elim (waking.done k under one) [
      | inl left_is ↦ inl ((ones k under).1 (left_is, ne))
      | inr awake ↦ inr (still_awake (IsListed (members_of word bits)) costs m n (word * 64 + k) woken awake)
    ]
  ];
}

pub all_awake : (word bits left : ℕ) (costs : List Cost) (l m : Lineup) → IsWaking word bits left costs l m → left ≡ 0 → AreAwake m.states (members_of word bits)
all_awake word bits left costs l m waking none =
    all_listed (λ (i : ℕ). i < length m.states → slice_index m.states i ≡ 0 → ⊥) (members_of word bits) (λ i listed.
    let are = (members_are word bits i).0 listed in
    let at : word * 64 + i % 64 ≡ i = (let w = are.0 in omega (arith, w)) in
    elim (waking.done (i % 64) (omega arith) are.1) [
      | inl one ↦ absurd (let z : bit_at left (i % 64) ≡ 0 = ap (λ (x : ℕ). bit_at x (i % 64)) none ∙ bit_at-zero (i % 64) in omega (arith, z, one))
      | inr awake ↦ subst (λ (j : ℕ). j < length m.states → slice_index m.states j ≡ 0 → ⊥) at awake
    ])

-- ---- words

split_listed : (xs ys : List ℕ) (i : ℕ) → IsListed (xs ++ ys) i ↔ (IsListed xs i ⊎ IsListed ys i)
split_listed [] ys i = ((λ h. inr h), (λ h. elim h [ inl l ↦ absurd l | inr r ↦ r ]))
split_listed (x ∷ xs) ys i =
    let rest = split_listed xs ys i in (
      (λ h. elim h [ inl e ↦ inl (inl e) | inr more ↦ elim (rest.0 more) [ inl l ↦ inl (inr l) | inr r ↦ inr r ] ]),
      (λ h. elim h [ inl l ↦ elim l [ inl e ↦ inl e | inr more ↦ inr (rest.1 (inl more)) ] | inr r ↦ inr (rest.1 (inr r)) ]),
    )

-- one list with one number more
pub concat_more : (k place : ℕ) (q : List ℕ) (qs : List (List ℕ)) → k < length qs → ((i : ℕ) → IsListed q i ↔ (IsListed (slice_index_or qs k []) i ⊎ (i ≡ place)))
    → (i : ℕ) → IsListed (concat (slice_set qs k q)) i ↔ (IsListed (concat qs) i ⊎ (i ≡ place))
concat_more k place q [] within is i = absurd (omega (arith, within))
concat_more zero place q (x ∷ qs) within is i =
    let now = split_listed q (concat qs) i in
    let was = split_listed x (concat qs) i in
    let one = is i in (
      (λ h. elim (now.0 h) [ inl l ↦ elim (one.0 l) [ inl old ↦ inl (was.1 (inl old)) | inr e ↦ inr e ] | inr r ↦ inl (was.1 (inr r)) ]),
      (λ h. elim h [ inl old ↦ elim (was.0 old) [ inl l ↦ now.1 (inl (one.1 (inl l))) | inr r ↦ now.1 (inr r) ] | inr e ↦ now.1 (inl (one.1 (inr e))) ]),
    )
concat_more (suc k) place q (x ∷ qs) within is i =
    let after = slice_set qs k q in
    let now = split_listed x (concat after) i in
    let was = split_listed x (concat qs) i in
    let rest = concat_more k place q qs (omega (arith, within)) is i in (
      (λ h. elim (now.0 h) [ inl l ↦ inl (was.1 (inl l)) | inr r ↦ elim (rest.0 r) [ inl old ↦ inl (was.1 (inr old)) | inr e ↦ inr e ] ]),
      (λ h. elim h [ inl old ↦ elim (was.0 old) [ inl l ↦ now.1 (inl l) | inr r ↦ now.1 (inr (rest.1 (inl r))) ] | inr e ↦ now.1 (inr (rest.1 (inr e))) ]),
    )

-- one list more, of one number
pub concat_last : (place : ℕ) (q : List ℕ) (qs : List (List ℕ)) → ((i : ℕ) → IsListed q i ↔ (i ≡ place)) → (i : ℕ) → IsListed (concat (qs ++ q ∷ [])) i ↔ (IsListed (concat qs) i ⊎ (i ≡ place))
concat_last place q [] is i =
    let now = split_listed q [] i in (
      (λ h. elim (now.0 h) [ inl l ↦ inr ((is i).0 l) | inr r ↦ absurd r ]),
      (λ h. elim h [ inl l ↦ absurd l | inr e ↦ now.1 (inl ((is i).1 e)) ]),
    )
concat_last place q (x ∷ qs) is i =
    let after = qs ++ q ∷ [] in
    let now = split_listed x (concat after) i in
    let was = split_listed x (concat qs) i in
    let rest = concat_last place q qs is i in (
      (λ h. elim (now.0 h) [ inl l ↦ inl (was.1 (inl l)) | inr r ↦ elim (rest.0 r) [ inl old ↦ inl (was.1 (inr old)) | inr e ↦ inr e ] ]),
      (λ h. elim h [ inl old ↦ elim (was.0 old) [ inl l ↦ now.1 (inl l) | inr r ↦ now.1 (inr (rest.1 (inl r))) ] | inr e ↦ now.1 (inr (rest.1 (inr e))) ]),
    )

pub listed_one : (qs : List (List ℕ)) (k i : ℕ) → k < length qs → IsListed (slice_index_or qs k []) i → IsListed (concat qs) i
listed_one [] k i within h = absurd (omega (arith, within))
listed_one (x ∷ qs) zero i within h = (split_listed x (concat qs) i).1 (inl h)
listed_one (x ∷ qs) (suc k) i within h = (split_listed x (concat qs) i).1 (inr (listed_one qs k i (omega (arith, within)) h))

pub awake_concat : (states : List ℕ) (qs : List (List ℕ)) → AllByRecursion (AreAwake states) qs → AreAwake states (concat qs)
awake_concat states [] all = tt
awake_concat states (x ∷ qs) all = all_both (λ (i : ℕ). i < length states → slice_index states i ≡ 0 → ⊥) x (concat qs) all.0 (awake_concat states qs all.1)

pub added_last : (place : ℕ) (q : List ℕ) (qs rs ws : List (List ℕ)) → rs ≡ qs → ws ≡ rs ++ q ∷ [] → ((i : ℕ) → IsListed q i ↔ (i ≡ place)) → (i : ℕ) → IsListed (concat ws) i ↔ (IsListed (concat qs) i ⊎ (i ≡ place))
added_last place q qs rs ws same last is = rw (last ∙ ap (λ (l : List (List ℕ)). l ++ q ∷ []) same) (concat_last place q qs is)

-- ---- kinds of change

pub later : (w : Waking) (v n k i : ℕ) → n ≤ k → WaitsFor w v n i → WaitsFor w v k i
later w v n k i low (inl any) = inl (let a = any.0 in omega (arith, a, low), any.1)
later w v n k i low (inr (inl bound)) = inr (inl (let a = bound.0 in omega (arith, a, low), bound.1))
later w v n k i low (inr (inr fixed)) = inr (inr (let a = fixed.0 in omega (arith, a, low), fixed.1))

pub any_woken : (w : Waking) (lists : List (List ℕ)) (costs : List Cost) (v n : ℕ) (l m : Lineup) → lists ≡ w.any → costs ≡ w.costs → 1 ≤ n → IsWoken (IsListed (slice_index_or lists v [])) costs l m
    → IsWoken (WaitsFor w v n) w.costs l m
any_woken w lists costs v n l m at is low woken =
    subst (λ (cs : List Cost). IsWoken (WaitsFor w v n) cs l m) is (woken_by_more (IsListed (slice_index_or lists v [])) (WaitsFor w v n) costs l m
    (λ i h. inl (low, subst (λ (ls : List (List ℕ)). IsListed (slice_index_or ls v []) i) at h)) woken)

pub bound_woken : (w : Waking) (lists : List (List ℕ)) (costs : List Cost) (v n : ℕ) (l m : Lineup) → lists ≡ w.bound → costs ≡ w.costs → 2 ≤ n → IsWoken (IsListed (slice_index_or lists v [])) costs l m
    → IsWoken (WaitsFor w v n) w.costs l m
bound_woken w lists costs v n l m at is low woken =
    subst (λ (cs : List Cost). IsWoken (WaitsFor w v n) cs l m) is (woken_by_more (IsListed (slice_index_or lists v [])) (WaitsFor w v n) costs l m
    (λ i h. inr (inl (low, subst (λ (ls : List (List ℕ)). IsListed (slice_index_or ls v []) i) at h))) woken)

pub fixed_woken : (w : Waking) (lists : List (List ℕ)) (costs : List Cost) (v n : ℕ) (l m : Lineup) → lists ≡ w.fixed → costs ≡ w.costs → 3 ≤ n → IsWoken (IsListed (slice_index_or lists v [])) costs l m
    → IsWoken (WaitsFor w v n) w.costs l m
fixed_woken w lists costs v n l m at is low woken =
    subst (λ (cs : List Cost). IsWoken (WaitsFor w v n) cs l m) is (woken_by_more (IsListed (slice_index_or lists v [])) (WaitsFor w v n) costs l m
    (λ i h. inr (inr (low, subst (λ (ls : List (List ℕ)). IsListed (slice_index_or ls v []) i) at h))) woken)

-- first those of lower levels, then more
pub levels_woken : (w : Waking) (v n k : ℕ) (l m o : Lineup) → n ≤ k → IsWoken (WaitsFor w v n) w.costs l m → IsWoken (WaitsFor w v k) w.costs m o → IsWoken (WaitsFor w v k) w.costs l o
levels_woken w v n k l m o low first second =
    woken_twice (WaitsFor w v k) w.costs l m o (woken_by_more (WaitsFor w v n) (WaitsFor w v k) w.costs l m (λ i h. later w v n k i low h) first) second

pub whatever : {T E : Type 0} (r : Result T E) (P : Type 0) → P → OnOk r P
whatever (Ok x) P p = p
whatever (Err x) P p = tt

-- ---- word after word

pub words_woken : (qs : List (List ℕ)) (k : ℕ) (q : List ℕ) (costs : List Cost) (l m o : Lineup) → k < length qs → q ≡ slice_index_or qs k [] → IsWoken (IsListed (concat qs)) costs l m → IsWoken (IsListed q) costs m o
    → IsWoken (IsListed (concat qs)) costs l o
words_woken qs k q costs l m o within at first second =
    woken_twice (IsListed (concat qs)) costs l m o first (woken_by_more (IsListed q) (IsListed (concat qs)) costs m o (λ i h. listed_one qs k i within (subst (λ (x : List ℕ). IsListed x i) at h)) second)

pub words_awake : (qs : List (List ℕ)) (k : ℕ) (q : List ℕ) (costs : List Cost) (m o : Lineup) → k < length qs → q ≡ slice_index_or qs k q → IsWoken (IsListed q) costs m o → AllByRecursion (AreAwake m.states) (take k qs)
    → AreAwake o.states q → AllByRecursion (AreAwake o.states) (take (k + 1) qs)
words_awake qs k q costs m o within at woken before here = all_read_more (AreAwake o.states) qs k q within at (still (take k qs) before) here
  where
    still : (ps : List (List ℕ)) → AllByRecursion (AreAwake m.states) ps → AllByRecursion (AreAwake o.states) ps
    still [] all = tt
    still (p ∷ ps) all = (all_still_awake (IsListed q) costs m o p woken all.0, still ps all.1)
