-- Whoever is queued stands in one queue.
use Rattle.std.proofs.Common.{◌≡◌, ◌⊎◌, inl, inr, ℕ, zero, suc, ◌+◌, ◌<◌, ◌≤◌, List, [], ◌∷◌, ◌++◌, refl, sym, ◌∙◌, ap, subst, arith, length, Bool, true, false, cond, nat_eq, get_or-set_same, get_or-set_other}
use Rattle.std.specs.Prelude.{Option, Some, None, MatchOption, slice_index, slice_index_or, slice_set}
use Rattle.std.specs.List.{concat}
use Rattle.std.proofs.lemmas.Bool.{cases_eq, eq-eqb, ne_eqb}
use Rattle.std.proofs.lemmas.List.{length-set}
use Rattle.std.proofs.lemmas.List.Sums.{sum_by-cons, sum_by-append}
use Rattle.fz_sets.proofs.Lists.{by_place}
use Rattle.fz_agenda.specs.Queues.{Lineup, lineup, line_of, IsFirst, counts_queued, counts_same, times, IsLineup, AreEmptyBelow, IsAgenda, IsAtRest, IsIdle, without_first}

-- ---- how often a number stands in lists

one_if : (b : Bool) → b ≡ true → cond {A = ℕ} b 1 0 ≡ 1
one_if b e = ap (λ (x : Bool). cond {A = ℕ} x 1 0) e

none_if : (b : Bool) → b ≡ false → cond {A = ℕ} b 1 0 ≡ 0
none_if b e = ap (λ (x : Bool). cond {A = ℕ} x 1 0) e

same_once : (i : ℕ) → counts_same i i ≡ 1
same_once i = one_if (nat_eq i i) (eq-eqb i i refl)

other_never : (i x : ℕ) → (x ≡ i → ⊥) → counts_same i x ≡ 0
other_never i x ne = none_if (nat_eq x i) (ne_eqb x i ne)

times_last : (i p : ℕ) (q : List ℕ) → times i (q ++ p ∷ []) ≡ times i q + counts_same i p
times_last i p q =
    let whole : times i (q ++ p ∷ []) ≡ times i q + times i (p ∷ []) = sum_by-append (counts_same i) q (p ∷ []) in
    let one : times i (p ∷ []) ≡ counts_same i p + times i [] = sum_by-cons (counts_same i) p [] in
    let none : times i [] ≡ 0 = refl in
    omega (arith, whole, one, none)

times_more : (i p c : ℕ) (qs : List (List ℕ)) → c < length qs → times i (concat (slice_set qs c (slice_index_or qs c [] ++ p ∷ []))) ≡ times i (concat qs) + counts_same i p
times_more i p c [] within = absurd (omega (arith, within))
times_more i p zero (q ∷ qs) within =
    let now : times i ((q ++ p ∷ []) ++ concat qs) ≡ times i (q ++ p ∷ []) + times i (concat qs) = sum_by-append (counts_same i) (q ++ p ∷ []) (concat qs) in
    let was : times i (q ++ concat qs) ≡ times i q + times i (concat qs) = sum_by-append (counts_same i) q (concat qs) in
    let last = times_last i p q in
    omega (arith, now, was, last)
times_more i p (suc c) (q ∷ qs) within =
    let after = slice_set qs c (slice_index_or qs c [] ++ p ∷ []) in
    let rest : times i (concat after) ≡ times i (concat qs) + counts_same i p = times_more i p c qs (omega (arith, within)) in
    let now : times i (q ++ concat after) ≡ times i q + times i (concat after) = sum_by-append (counts_same i) q (concat after) in
    let was : times i (q ++ concat qs) ≡ times i q + times i (concat qs) = sum_by-append (counts_same i) q (concat qs) in
    omega (arith, now, was, rest)

-- ---- one that is idle is queued

pub agenda_queued : (states after : List ℕ) (queues left : List (List ℕ)) (lowest now class p : ℕ) → IsAgenda states queues lowest → class < 6 → IsIdle (lineup states queues) p → now ≤ lowest → now ≤ class
    → left ≡ slice_set queues class (slice_index_or queues class [] ++ p ∷ []) → after ≡ slice_set states p 1 → IsAgenda after left now
agenda_queued states after queues left lowest now class p agenda low idle falls below at_queues at_states =
    let lined = agenda.lineup in
    let inside : class < length queues = omega (arith, low, lined.classes) in
    let q = slice_index_or queues class [] ++ p ∷ [] in
    rw (at_queues, at_states) (record {
      lineup = record {
        classes = length-set queues class q ∙ lined.classes;
        known = by_place (λ i. slice_index (slice_set states p 1) i ≤ 2) p
            (omega (arith, get_or-set_same states p 1 0 idle.0))
            (λ i ne. omega (arith, get_or-set_other states p i 1 0 ne, lined.known i));
        each = by_place (λ i. times i (concat (slice_set queues class q)) ≡ counts_queued (slice_index (slice_set states p 1) i)) p
            (let more : times p (concat (slice_set queues class q)) ≡ times p (concat queues) + counts_same p p = times_more p p class queues inside in
            let once = same_once p in
            let none : times p (concat queues) ≡ 0 = lined.each p ∙ ap counts_queued idle.1 in
            let one : counts_queued (slice_index (slice_set states p 1) p) ≡ 1 = ap counts_queued (get_or-set_same states p 1 0 idle.0) in
            omega (arith, more, once, none, one))
            (λ i ne. let more : times i (concat (slice_set queues class q)) ≡ times i (concat queues) + counts_same i p = times_more i p class queues inside in
            let never = other_never i p (λ e. ne (sym e)) in
            let was : times i (concat queues) ≡ counts_queued (slice_index states i) = lined.each i in
            let same : counts_queued (slice_index (slice_set states p 1) i) ≡ counts_queued (slice_index states i) = ap counts_queued (get_or-set_other states p i 1 0 ne) in
            omega (arith, more, never, was, same));
      };
      below = λ k under. get_or-set_other queues class k q [] (λ e. omega (arith, e, under, below)) ∙ agenda.below k (omega (arith, under, falls));
    })

-- ---- the first leaves

tail_of : (i p : ℕ) (xs ys : List ℕ) → i ∷ xs ≡ p ∷ ys → xs ≡ ys
tail_of i p xs ys e = cc

no_first : (p : ℕ) (rest : List ℕ) → [] ≡ p ∷ rest → ⊥
no_first p rest e = cc

line_without : (p : ℕ) (rest : List ℕ) (qs : List (List ℕ)) → concat qs ≡ p ∷ rest → concat (without_first qs) ≡ rest
line_without p rest [] is = absurd (no_first p rest is)
line_without p rest ([] ∷ qs) is = line_without p rest qs is
line_without p rest ((i ∷ q) ∷ qs) is = tail_of i p (q ++ concat qs) rest is

pub length_without : (qs : List (List ℕ)) → length (without_first qs) ≡ length qs
length_without [] = refl
length_without ([] ∷ qs) = ap suc (length_without qs)
length_without ((i ∷ q) ∷ qs) = refl

-- the queues where that of the first class that isn't empty has lost its first
pub without_is : (c : ℕ) (new : List ℕ) (qs : List (List ℕ)) → c < length qs → AreEmptyBelow qs c → (slice_index_or qs c [] ≡ [] → ⊥)
    → ((i : ℕ) (rest : List ℕ) → slice_index_or qs c [] ≡ i ∷ rest → new ≡ rest) → slice_set qs c new ≡ without_first qs
without_is c new [] within below some pops = absurd (omega (arith, within))
without_is zero new ([] ∷ qs) within below some pops = absurd (some refl)
without_is zero new ((i ∷ q) ∷ qs) within below some pops = ap (λ (l : List ℕ). l ∷ qs) (pops i q refl)
without_is (suc c) new ([] ∷ qs) within below some pops =
    ap (λ (l : List (List ℕ)). [] ∷ l) (without_is c new qs (omega (arith, within)) (λ k under. below (suc k) (omega (arith, under))) some pops)
without_is (suc c) new ((i ∷ q) ∷ qs) within below some pops = absurd (let e : i ∷ q ≡ [] = below 0 (omega arith) in cc)

pub without_none : (qs : List (List ℕ)) (n : ℕ) → length qs ≤ n → AreEmptyBelow qs n → qs ≡ without_first qs
without_none [] n whole below = refl
without_none ([] ∷ qs) n whole below =
    ap (λ (l : List (List ℕ)). [] ∷ l) (without_none qs (length qs) (omega arith) (λ k under. below (suc k) (omega (arith, under, whole))))
without_none ((i ∷ q) ∷ qs) n whole below = absurd (let e : i ∷ q ≡ [] = below 0 (omega (arith, whole)) in cc)

queued_one : (x : ℕ) → 1 ≤ counts_queued x → x ≡ 1
queued_one x some = elim (cases_eq x 1) [
  | inl e ↦ e
  | inr ne ↦ absurd (let none : counts_queued x ≡ 0 = none_if (nat_eq x 1) (ne_eqb x 1 ne) in omega (arith, some, none))
]

pub first_queued : (l : Lineup) (p : ℕ) → IsLineup l → IsFirst l p → slice_index l.states p ≡ 1
first_queued l p lined first =
    let here : times p (line_of l) ≡ times p (p ∷ first.0) = ap (times p) first.1 in
    let once = same_once p in
    let more : times p (p ∷ first.0) ≡ counts_same p p + times p first.0 = sum_by-cons (counts_same p) p first.0 in
    let is = lined.each p in
    queued_one (slice_index l.states p) (omega (arith, here, once, more, is))

pub agenda_gone : (states after : List ℕ) (queues left : List (List ℕ)) (lowest now p : ℕ) → IsAgenda states queues lowest → IsFirst (lineup states queues) p → p < length states → left ≡ without_first queues → AreEmptyBelow left now → after ≡ slice_set states p 2 → IsAgenda after left now
agenda_gone states after queues left lowest now p agenda first within at_queues below at_states =
    let lined = agenda.lineup in
    let rest = first.0 in
    let line : concat left ≡ rest = ap concat at_queues ∙ line_without p rest queues first.1 in
    let split : (i : ℕ) → times i (concat queues) ≡ counts_same i p + times i (concat left) =
    λ i. ap (times i) first.1 ∙ sum_by-cons (counts_same i) p rest ∙ ap (λ (xs : List ℕ). counts_same i p + times i xs) (sym line) in
    record {
      lineup = record {
        classes = ap length at_queues ∙ length_without queues ∙ lined.classes;
        known = subst (λ (xs : List ℕ). (i : ℕ) → slice_index xs i ≤ 2) (sym at_states) (by_place (λ i. slice_index (slice_set states p 2) i ≤ 2) p
            (omega (arith, get_or-set_same states p 2 0 within))
            (λ i ne. omega (arith, get_or-set_other states p i 2 0 ne, lined.known i)));
        each = subst (λ (xs : List ℕ). (i : ℕ) → times i (concat left) ≡ counts_queued (slice_index xs i)) (sym at_states)
            (by_place (λ i. times i (concat left) ≡ counts_queued (slice_index (slice_set states p 2) i)) p
            (let more = split p in
            let once = same_once p in
            let was = lined.each p in
            let one : counts_queued (slice_index states p) ≡ 1 = ap counts_queued (first_queued (lineup states queues) p lined first) in
            let none : counts_queued (slice_index (slice_set states p 2) p) ≡ 0 = ap counts_queued (get_or-set_same states p 2 0 within) in
            omega (arith, more, once, was, one, none))
            (λ i ne. let more = split i in
            let never = other_never i p (λ e. ne (sym e)) in
            let was = lined.each i in
            let same : counts_queued (slice_index (slice_set states p 2) i) ≡ counts_queued (slice_index states i) = ap counts_queued (get_or-set_other states p i 2 0 ne) in
            omega (arith, more, never, was, same)));
      };
      below = below;
    }

-- ---- which is the first

pub line_first : (c i : ℕ) (rest : List ℕ) (qs : List (List ℕ)) → c < length qs → AreEmptyBelow qs c → slice_index_or qs c [] ≡ i ∷ rest → (after : List ℕ) × (concat qs ≡ i ∷ after)
line_first c i rest [] within below is = absurd (omega (arith, within))
line_first zero i rest (q ∷ qs) within below is = (rest ++ concat qs, ap (λ (l : List ℕ). l ++ concat qs) is)
line_first (suc c) i rest (q ∷ qs) within below is =
    let next = line_first c i rest qs (omega (arith, within)) (λ k under. below (suc k) (omega (arith, under))) is in
    (next.0, ap (λ (l : List ℕ). l ++ concat qs) (below 0 (omega arith)) ∙ next.1)

pub line_none : (qs : List (List ℕ)) (n : ℕ) → length qs ≤ n → AreEmptyBelow qs n → concat qs ≡ []
line_none [] n whole below = refl
line_none (q ∷ qs) n whole below =
    ap (λ (l : List ℕ). l ++ concat qs) (below 0 (omega (arith, whole))) ∙ line_none qs (length qs) (omega arith) (λ k under. below (suc k) (omega (arith, under, whole)))

rests_one : (x : ℕ) → x ≤ 2 → counts_queued x ≡ 0 → (x ≡ 0) ⊎ (x ≡ 2)
rests_one zero low none = inl refl
rests_one (suc zero) low none = absurd (let one : counts_queued 1 ≡ 1 = refl in omega (arith, none, one))
rests_one (suc (suc zero)) low none = inr refl
rests_one (suc (suc (suc x))) low none = absurd (omega (arith, low))

pub at_rest : (l : Lineup) → IsLineup l → line_of l ≡ [] → IsAtRest l.states
at_rest l lined none = λ i.
    let never : times i (line_of l) ≡ 0 = ap (times i) none in
    rests_one (slice_index l.states i) (lined.known i) (sym (lined.each i) ∙ never)

-- ---- none is queued

all_empty : (qs : List (List ℕ)) → ((k : ℕ) → slice_index_or qs k [] ≡ []) → concat qs ≡ []
all_empty qs empty = line_none qs (length qs) (omega arith) (λ k under. empty k)

pub agenda_idle : (states : List ℕ) (queues : List (List ℕ)) → length queues ≡ 6 → ((i : ℕ) → slice_index states i ≡ 0) → ((k : ℕ) → slice_index_or queues k [] ≡ [])
    → (lowest : ℕ) → IsAgenda states queues lowest
agenda_idle states queues size idle empty = λ lowest. record {
  lineup = record {
    classes = size;
    known = λ i. omega (arith, idle i);
    each = λ i. ap (times i) (all_empty queues empty) ∙ sym (ap counts_queued (idle i));
  };
  below = λ k under. empty k;
}

-- what the first of the cheapest class says
pub found_first : (r : Option ℕ) (states : List ℕ) (qs : List (List ℕ)) (class : ℕ) (q : List ℕ) → IsLineup (lineup states qs) → class < length qs → AreEmptyBelow qs class
    → (slice_index_or qs class [] ≡ [] → ⊥) → q ≡ slice_index_or qs class [] → MatchOption r (q ≡ []) (λ i. (rest : List ℕ) × (q ≡ i ∷ rest)) → MatchOption r (concat qs ≡ []) (λ i. IsFirst (lineup states qs) i)
found_first None states qs class q lined within below some is none = absurd (some (sym is ∙ none))
found_first (Some i) states qs class q lined within below some is one = line_first class i one.0 qs within below (sym is ∙ one.1)

pub found_queued : (r : Option ℕ) (states : List ℕ) (qs : List (List ℕ)) → IsLineup (lineup states qs) → MatchOption r (concat qs ≡ []) (λ i. IsFirst (lineup states qs) i)
    → MatchOption r (IsAtRest states) (λ i. slice_index states i ≡ 1)
found_queued None states qs lined none = at_rest (lineup states qs) lined none
found_queued (Some i) states qs lined first = first_queued (lineup states qs) i lined first
