-- An agenda on which all are queued, one after another.
use Rattle.std.proofs.Common.{◌≡◌, ◌⊎◌, inl, inr, ℕ, zero, suc, ◌+◌, ◌<◌, List, [], ◌∷◌, ◌++◌, sym, ◌∙◌, ap, refl, subst, arith, length, map, replicate, Result, Ok}
use Rattle.std.specs.Prelude.{slice_index, slice_index_or}
use Rattle.std.specs.List.{AllByRecursion}
use Rattle.std.proofs.lemmas.Bool.{cases_eq}
use Rattle.std.proofs.lemmas.List.{length-map, length-replicate, get_or-replicate, ext_get_or}
use Rattle.std.proofs.lemmas.Option.{slice_get_within}
use Rattle.fz_sets.proofs.Lists.{below_or_same}
use Rattle.fz_strength.specs.declared.cost.Cost.{Cost}
use Rattle.fz_strength.specs.Sayings.{Saying, cost_of}
use Rattle.fz_prop.specs.Stores.{Stored}
use Rattle.fz_agenda.specs.Agendas.{IsSettled}
use Rattle.fz_agenda.specs.Queues.{Lineup, queue_at, class_of, cost_at, IsIdle, IsQueued, IsWoken}
use Rattle.fz_agenda.proofs.Woken.{woken_twice, woken_wake, awake_wake, still_awake}
use Rattle.fz_engine.specs.Networks.{IsFull}

-- any may be woken
abbrev Anyone : ℕ → Type 0
Anyone i = Unit {0}

-- the propagators before a place are queued
pub record QueuedBelow (costs : List Cost) (before now : Lineup) (n : ℕ) : Type 0 where
  pub woken : IsWoken Anyone costs before now
  pub each : (i : ℕ) → i < n → i < length now.states → slice_index now.states i ≡ 0 → ⊥

pub queued_more : (costs : List Cost) (l m o : Lineup) (n : ℕ) (cost : Cost) → QueuedBelow costs l m n → cost ≡ cost_at costs n
    → (IsIdle m n → IsQueued (class_of cost) n m o) → ((IsIdle m n → ⊥) → o ≡ m) → QueuedBelow costs l o (n + 1)
queued_more costs l m o n cost below is ok other =
    let class : class_of cost ≡ class_of (cost_at costs n) = ap class_of is in
    let done : Result (Unit {0}) (Unit {0}) = Ok tt in
    let one : IsWoken Anyone costs m o = woken_wake done Anyone costs m o (class_of cost) n ok other tt class tt in
    record {
      woken = woken_twice Anyone costs l m o below.woken one;
      each = λ i more within idle. elim (cases_eq i n) [
        | inl e ↦ awake_wake m o (class_of cost) n ok other (omega (arith, within, e)) (ap (slice_index o.states) (sym e) ∙ idle)
        | inr ne ↦ still_awake Anyone costs m o i one (below.each i (below_or_same i n more ne)) within idle
      ];
    }

-- what stands at a place, whatever would stand after the end
pub same_at : (costs : List Cost) (i : ℕ) (d e : Cost) → i < length costs → slice_index_or costs i d ≡ slice_index_or costs i e
same_at [] i d e within = absurd (omega (arith, within))
same_at (c ∷ costs) zero d e within = refl
same_at (c ∷ costs) (suc i) d e within = same_at costs i d e (omega (arith, within))

idle_zero : (n i : ℕ) → slice_index (replicate n 0) i ≡ 0
idle_zero zero i = refl
idle_zero (suc n) zero = refl
idle_zero (suc n) (suc i) = idle_zero n i

none_there : (n k : ℕ) → slice_index_or (replicate {A = List ℕ} n []) k [] ≡ []
none_there zero k = refl
none_there (suc n) zero = refl
none_there (suc n) (suc k) = none_there n k

never_gone : (x y : ℕ) → x ≡ 0 → (y ≡ x) ⊎ ((x ≡ 0) × (y ≡ 1) × Unit {0}) → y ≡ 2 → ⊥
never_gone x y none (inl p) two = omega (arith, none, p, two)
never_gone x y none (inr p) two = omega (arith, p.1, two)

is_queued : (x y : ℕ) → x ≡ 0 → (y ≡ x) ⊎ ((x ≡ 0) × (y ≡ 1) × Unit {0}) → (y ≡ 0 → ⊥) → y ≡ 1
is_queued x y none (inl p) awake = absurd (awake (p ∙ none))
is_queued x y none (inr p) awake = p.1

pub settled_all : (costs : List Cost) (sayings : List Saying) (before now : Lineup) (k : ℕ) → before.states ≡ replicate (length costs) 0 → k ≡ length costs → costs ≡ map cost_of sayings → QueuedBelow costs before now k
    → (s : Stored) → IsSettled sayings now.states s
settled_all costs sayings before now k at count is below s =
    let size : length costs ≡ length sayings = ap length is ∙ length-map sayings cost_of in
    let whole : length now.states ≡ length sayings = below.woken.size ∙ ap length at ∙ length-replicate (length costs) 0 ∙ size in
    record {
      size = whole;
      idle = λ i c is idle un. (let within = slice_get_within sayings i c is in absurd (below.each i (omega (arith, count, size, within)) (omega (arith, whole, within)) idle));
      gone = λ i c is gone. absurd (never_gone (slice_index before.states i) (slice_index now.states i) (subst (λ (b : List ℕ). slice_index b i ≡ 0) (sym at) (idle_zero (length costs) i)) (below.woken.each i) gone);
    }

pub full_all : (costs : List Cost) (before now : Lineup) (k : ℕ) → before.states ≡ replicate (length costs) 0 → before.queues ≡ replicate 6 [] → k ≡ length costs → QueuedBelow costs before now k → IsFull costs now
full_all costs before now k at none count below =
    let n = length costs in
    let whole : length now.states ≡ n = below.woken.size ∙ ap length at ∙ length-replicate n 0 in
    record {
      states = ext_get_or 0 now.states (replicate n 1) (whole ∙ sym (length-replicate n 1))
          (λ i within. is_queued (slice_index before.states i) (slice_index now.states i) (subst (λ (b : List ℕ). slice_index b i ≡ 0) (sym at) (idle_zero n i)) (below.woken.each i)
          (below.each i (omega (arith, count, whole, within)) within) ∙ sym (get_or-replicate n i 1 0 (omega (arith, whole, within))));
      classes = λ class.
          let queue = below.woken.queues class in
          let empty : queue_at before class ≡ [] = ap (λ (qs : List (List ℕ)). slice_index_or qs class []) none ∙ none_there 6 class in
          let is : queue_at now class ≡ queue.0 = queue.1 ∙ ap (λ (xs : List ℕ). xs ++ queue.0) empty in
          subst (λ (xs : List ℕ). AllByRecursion (λ (i : ℕ). class_of (cost_at costs i) ≡ class) xs) (sym is) queue.2;
    }
