-- Workers as they are read from their list.
use Rattle.std.proofs.Common.{◌≡◌, ◌∙◌, ◌≤◌, ◌<◌, ◌+◌, ℕ, zero, suc, List, [], ◌∷◌, ◌++◌, Bool, true, false, not, ◌&&◌, length, replicate, get_or, ap, sym, arith, refl, Option, Some, None}
use Rattle.std.specs.Prelude.{◌↔◌, IsTrue, is_none, is_some, nat_lt}
use Rattle.std.specs.List.{slice_get}
use Rattle.std.proofs.lemmas.Bool.{ltb-true, lt-ltb}
use Rattle.std.proofs.lemmas.Option.{slice_get_read, slice_get_within}
use Rattle.fz_tree.specs.Account.{Account}
use Rattle.fz_path.specs.Paths.{Pathed}
use Rattle.fz_path.specs.Tasks.{Tasked}
use Rattle.fz_machine.specs.Cores.{Worker}
use Rattle.fz_machine.specs.Lawfulness.{is_free, is_ready, is_busy}

-- what a path says of whether it is idle
pub idle_test : (r : Bool) (o : Option Account) → IsTrue r ↔ (o ≡ None) → r ≡ is_none o
idle_test true None h = refl
idle_test true (Some c) h = absurd (let bad : Some c ≡ None = h.0 refl in cc)
idle_test false None h = absurd (let bad : false ≡ true = h.1 refl in cc)
idle_test false (Some c) h = refl

-- ---- lists

pub is_there : {X : Type 0} (xs : List X) (i : ℕ) → i < length xs → is_some (slice_get xs i) ≡ true
is_there [] i within = absurd (omega (arith, within))
is_there (x ∷ xs) zero within = refl
is_there (x ∷ xs) (suc i) within = is_there xs i (omega (arith, within))

pub none_there : {X : Type 0} (xs : List X) (i : ℕ) → false ≡ nat_lt i (length xs) → slice_get xs i ≡ None
none_there {X} xs i h = by (slice_get xs i) refl
  where
    by : (o : Option X) → slice_get xs i ≡ o → slice_get xs i ≡ None
    by None e = e
    by (Some x) e = absurd (let low : nat_lt i (length xs) ≡ true = lt-ltb i (length xs) (slice_get_within xs i x e) in cc)

pub has_number : {X : Type 0} (xs : List X) (i : ℕ) → nat_lt i (length xs) ≡ is_some (slice_get xs i)
has_number {X} xs i = by (nat_lt i (length xs)) refl
  where
    by : (b : Bool) → nat_lt i (length xs) ≡ b → nat_lt i (length xs) ≡ is_some (slice_get xs i)
    by true low = low ∙ sym (is_there xs i (ltb-true i (length xs) low))
    by false high = high ∙ sym (ap (λ (o : Option X). is_some o) (none_there xs i (sym high)))

read_there : {X : Type 0} (xs : List X) (i : ℕ) (x : X) → true ≡ nat_lt i (length xs) → x ≡ get_or xs i x → slice_get xs i ≡ Some x
read_there xs i x within is = slice_get_read xs (length xs) i x refl (ltb-true i (length xs) (sym within)) is

-- ---- what is asked of a worker that is read there

busy_by : (o : Option Account) → not (is_none o) ≡ is_some o
busy_by None = refl
busy_by (Some c) = refl

module _ (ws : List Worker) (i : ℕ) (path : Pathed) (hand : Option Tasked) (read : Worker) (within : true ≡ nat_lt i (length ws)) (is : read ≡ get_or ws i read) (seen : let w : Worker = record { path = path; hand = hand } in w ≡ read) where
  there : slice_get ws i ≡ Some (record { path = path; hand = hand })
  there = read_there ws i read within is ∙ sym (ap (λ (w : Worker). Some w) seen)

  pub busy_read : (idle : Bool) → IsTrue idle ↔ (path.held ≡ None) → not idle ≡ is_busy (slice_get ws i)
  busy_read idle h = ap not (idle_test idle path.held h) ∙ busy_by path.held ∙ sym (ap is_busy there)

  -- it holds nothing
  pub free_read : (idle empty : Bool) → IsTrue idle ↔ (path.held ≡ None) → idle ≡ true → empty ≡ is_none hand → empty ≡ is_free (slice_get ws i)
  free_read idle empty h true' has = has ∙ sym (ap (λ b. b && is_none hand) (sym (idle_test idle path.held h) ∙ true')) ∙ sym (ap is_free there)

  pub ready_read : (idle full : Bool) → IsTrue idle ↔ (path.held ≡ None) → idle ≡ true → full ≡ is_some hand → full ≡ is_ready (slice_get ws i)
  ready_read idle full h true' has = has ∙ sym (ap (λ b. b && is_some hand) (sym (idle_test idle path.held h) ∙ true')) ∙ sym (ap is_ready there)

  -- or it does
  pub held_not_free : (idle : Bool) → IsTrue idle ↔ (path.held ≡ None) → idle ≡ false → idle ≡ is_free (slice_get ws i)
  held_not_free idle h false' = false' ∙ sym (ap (λ b. b && is_none hand) (sym (idle_test idle path.held h) ∙ false')) ∙ sym (ap is_free there)

  pub held_not_ready : (idle : Bool) → IsTrue idle ↔ (path.held ≡ None) → idle ≡ false → idle ≡ is_ready (slice_get ws i)
  held_not_ready idle h false' = false' ∙ sym (ap (λ b. b && is_some hand) (sym (idle_test idle path.held h) ∙ false')) ∙ sym (ap is_ready there)

pub empty_by : {X : Type 0} (o : Option X) (r : Bool) → is_some o ≡ not r → r ≡ is_none o
empty_by None true h = refl
empty_by None false h = absurd (cc h)
empty_by (Some x) true h = absurd (cc h)
empty_by (Some x) false h = refl

-- ---- copies of a worker

copies_snoc : {X : Type 0} (n : ℕ) (x : X) → replicate n x ++ x ∷ [] ≡ replicate (suc n) x
copies_snoc zero x = refl
copies_snoc {X} (suc n) x = ap (λ (l : List X). x ∷ l) (copies_snoc n x)

pub one_more : {X : Type 0} (n : ℕ) (x y : X) (before after : List X) → after ≡ before ++ y ∷ [] → before ≡ replicate n x → y ≡ x → after ≡ replicate (n + 1) x
one_more {X} n x y before after grows is same =
    let next : suc n ≡ n + 1 = omega arith in
    grows ∙ ap (λ (l : List X). l ++ y ∷ []) is ∙ ap (λ (z : X). replicate n x ++ z ∷ []) same ∙ copies_snoc n x ∙ ap (λ k. replicate k x) next

pub as_many : {X : Type 0} (n k : ℕ) (x : X) (made : List X) → made ≡ replicate k x → n ≤ k → k ≤ n → made ≡ replicate n x
as_many n k x made is low high = let same : k ≡ n = omega (arith, low, high) in is ∙ ap (λ i. replicate i x) same
