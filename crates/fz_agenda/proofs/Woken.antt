-- Waking leaves what was settled.
use Rattle.std.proofs.Common.{◌≡◌, ◌⊎◌, inl, inr, ℕ, ◌<◌, List, [], ◌∷◌, ◌++◌, refl, sym, ◌∙◌, ap, subst, arith, length, get_or-set_same, get_or-set_other, Result, Ok, Err}
use Rattle.std.specs.Prelude.{slice_index, slice_index_or, slice_set, OnOk, OnErr}
use Rattle.std.specs.List.{AllByRecursion}
use Rattle.std.proofs.lemmas.Bool.{cases_eq, cases_lt}
use Rattle.std.proofs.lemmas.List.{length-set, append-nil, append_assoc}
use Rattle.fz_sets.proofs.Lists.{by_place, all_both}
use Rattle.fz_strength.specs.Sayings.{Saying}
use Rattle.fz_strength.specs.declared.cost.Cost.{Cost}
use Rattle.fz_prop.specs.Stores.{Stored, IsListed}
use Rattle.fz_agenda.specs.Agendas.{IsSettled}
use Rattle.fz_agenda.specs.Queues.{Lineup, queue_at, class_of, cost_at, IsIdle, IsQueued, AreAwake, IsWoken}

-- what may become of one state
abbrev MayBecome : Type 0 → ℕ → ℕ → Type 0
MayBecome who x y = (y ≡ x) ⊎ ((x ≡ 0) × (y ≡ 1) × who)

twice : (who : Type 0) (x y z : ℕ) → MayBecome who x y → MayBecome who y z → MayBecome who x z
twice who x y z (inl p) (inl q) = inl (q ∙ p)
twice who x y z (inl p) (inr q) = inr (sym p ∙ q.0, q.1, q.2)
twice who x y z (inr p) (inl q) = inr (p.0, q ∙ p.1, p.2)
twice who x y z (inr p) (inr q) = absurd (omega (arith, p.1, q.0))

weaker : (who may : Type 0) (x y : ℕ) → (who → may) → MayBecome who x y → MayBecome may x y
weaker who may x y f (inl p) = inl p
weaker who may x y f (inr p) = inr (p.0, p.1, f p.2)

idle_before : (who : Type 0) (x y : ℕ) → MayBecome who x y → y ≡ 0 → x ≡ 0
idle_before who x y (inl p) idle = sym p ∙ idle
idle_before who x y (inr p) idle = p.0

gone_before : (who : Type 0) (x y : ℕ) → MayBecome who x y → y ≡ 2 → x ≡ 2
gone_before who x y (inl p) gone = sym p ∙ gone
gone_before who x y (inr p) gone = absurd (omega (arith, p.1, gone))

pub same_woken : (may : ℕ → Type 0) (costs : List Cost) (l : Lineup) → IsWoken may costs l l
same_woken may costs l = record { size = refl; each = λ i. inl refl; queues = λ class. ([], sym (append-nil (queue_at l class)), tt) }

pub woken_twice : (may : ℕ → Type 0) (costs : List Cost) (k l m : Lineup) → IsWoken may costs k l → IsWoken may costs l m → IsWoken may costs k m
woken_twice may costs k l m p q = record {
  size = q.size ∙ p.size;
  each = λ i. twice (may i) (slice_index k.states i) (slice_index l.states i) (slice_index m.states i) (p.each i) (q.each i);
  queues = λ class.
      let a = p.queues class in
      let b = q.queues class in (
        a.0 ++ b.0,
        b.1 ∙ ap (λ (xs : List ℕ). xs ++ b.0) a.1 ∙ append_assoc (queue_at k class) a.0 b.0,
        all_both (λ (i : ℕ). class_of (cost_at costs i) ≡ class) a.0 b.0 a.2 b.2,
      );
}

pub woken_by_more : (who may : ℕ → Type 0) (costs : List Cost) (l m : Lineup) → ((i : ℕ) → who i → may i) → IsWoken who costs l m → IsWoken may costs l m
woken_by_more who may costs l m f p = record {
  size = p.size;
  each = λ i. weaker (who i) (may i) (slice_index l.states i) (slice_index m.states i) (f i) (p.each i);
  queues = p.queues;
}

woken_one : (may : ℕ → Type 0) (costs : List Cost) (l m : Lineup) (class p : ℕ) → class ≡ class_of (cost_at costs p) → may p → IsIdle l p → IsQueued class p l m → IsWoken may costs l m
woken_one may costs l m class p is who idle queued =
    let q = queue_at l class ++ p ∷ [] in
    record {
      size = ap length queued.states ∙ length-set l.states p 1;
      each = subst (λ (xs : List ℕ). (i : ℕ) → MayBecome (may i) (slice_index l.states i) (slice_index xs i)) (sym queued.states)
          (by_place (λ i. MayBecome (may i) (slice_index l.states i) (slice_index (slice_set l.states p 1) i)) p
          (inr (idle.1, get_or-set_same l.states p 1 0 idle.0, who))
          (λ i ne. inl (get_or-set_other l.states p i 1 0 ne)));
      queues = subst (λ (qs : List (List ℕ)). (k : ℕ) → (more : List ℕ) × (slice_index_or qs k [] ≡ queue_at l k ++ more) × AllByRecursion (λ (i : ℕ). class_of (cost_at costs i) ≡ k) more) (sym queued.queues)
          (by_place (λ k. (more : List ℕ) × (slice_index_or (slice_set l.queues class q) k [] ≡ queue_at l k ++ more) × AllByRecursion (λ (i : ℕ). class_of (cost_at costs i) ≡ k) more) class
          (p ∷ [], get_or-set_same l.queues class q [] queued.inside, (sym is, tt))
          (λ k ne. ([], get_or-set_other l.queues class k q [] ne ∙ sym (append-nil (queue_at l k)), tt)));
    }

pub idle_or_not : (l : Lineup) (p : ℕ) → IsIdle l p ⊎ (IsIdle l p → ⊥)
idle_or_not l p = elim (cases_lt p (length l.states)) [
  | inl within ↦ elim (cases_eq (slice_index l.states p) 0) [
    | inl idle ↦ inl (within, idle)
    | inr other ↦ inr (λ h. other h.1)
  ]
  | inr beyond ↦ inr (λ h. (let within = h.0 in omega (arith, within, beyond)))
]

-- what a call of `wake` leaves, whatever it answers
pub woken_wake : {T E : Type 0} (r : Result T E) (may : ℕ → Type 0) (costs : List Cost) (l m : Lineup) (class p : ℕ) → OnOk r (IsIdle l p → IsQueued class p l m) → ((IsIdle l p → ⊥) → m ≡ l)
    → OnErr r (m ≡ l) → class ≡ class_of (cost_at costs p) → may p → IsWoken may costs l m
woken_wake (Err x) may costs l m class p ok other err is who = subst (λ (n : Lineup). IsWoken may costs l n) (sym err) (same_woken may costs l)
woken_wake (Ok x) may costs l m class p ok other err is who = elim (idle_or_not l p) [
  | inl idle ↦ woken_one may costs l m class p is who idle (ok idle)
  | inr not ↦ subst (λ (n : Lineup). IsWoken may costs l n) (sym (other not)) (same_woken may costs l)
]

pub awake_wake : (l m : Lineup) (class p : ℕ) → (IsIdle l p → IsQueued class p l m) → ((IsIdle l p → ⊥) → m ≡ l) → p < length m.states → slice_index m.states p ≡ 0 → ⊥
awake_wake l m class p ok other within idle = elim (idle_or_not l p) [
  | inl was ↦
      let now : slice_index m.states p ≡ 1 = ap (λ (xs : List ℕ). slice_index xs p) (ok was).states ∙ get_or-set_same l.states p 1 0 was.0 in
      omega (arith, now, idle)
  | inr not ↦
      let same : m ≡ l = other not in
      not (subst (λ (n : Lineup). IsIdle n p) same (within, idle))
]

pub still_awake : (may : ℕ → Type 0) (costs : List Cost) (l m : Lineup) (i : ℕ) → IsWoken may costs l m → (i < length l.states → slice_index l.states i ≡ 0 → ⊥) → i < length m.states → slice_index m.states i ≡ 0 → ⊥
still_awake may costs l m i woken awake within idle =
    awake (omega (arith, within, woken.size)) (idle_before (may i) (slice_index l.states i) (slice_index m.states i) (woken.each i) idle)

pub all_still_awake : (may : ℕ → Type 0) (costs : List Cost) (l m : Lineup) (places : List ℕ) → IsWoken may costs l m → AreAwake l.states places → AreAwake m.states places
all_still_awake may costs l m [] woken awake = tt
all_still_awake may costs l m (i ∷ places) woken awake = (still_awake may costs l m i woken awake.0, all_still_awake may costs l m places woken awake.1)

pub one_awake : (states places : List ℕ) (i : ℕ) → AreAwake states places → IsListed places i → i < length states → slice_index states i ≡ 0 → ⊥
one_awake states [] i awake listed within idle = absurd listed
one_awake states (x ∷ places) i awake (inl e) within idle = subst (λ (k : ℕ). k < length states → slice_index states k ≡ 0 → ⊥) e awake.0 within idle
one_awake states (x ∷ places) i awake (inr h) within idle = one_awake states places i awake.1 h within idle

pub settled_woken : (sayings : List Saying) (may : ℕ → Type 0) (costs : List Cost) (l m : Lineup) (s : Stored) → IsWoken may costs l m → IsSettled sayings l.states s → IsSettled sayings m.states s
settled_woken sayings may costs l m s woken settled = record {
  size = woken.size ∙ settled.size;
  idle = λ i saying is idle un. settled.idle i saying is (idle_before (may i) (slice_index l.states i) (slice_index m.states i) (woken.each i) idle) un;
  gone = λ i saying is gone. settled.gone i saying is (gone_before (may i) (slice_index l.states i) (slice_index m.states i) (woken.each i) gone);
}
