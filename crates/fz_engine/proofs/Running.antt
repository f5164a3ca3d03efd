-- Runs of propagators, one after another.
use Rattle.std.proofs.Common.{◌≡◌, ◌⊎◌, Result, Ok, Err, inl, inr, ℕ, ◌+◌, ◌*◌, ◌<◌, ◌≤◌, List, [], ◌∷◌, refl, sym, ◌∙◌, ap, subst, arith, length, true, false, nat_eq, cond, get_or}
use Rattle.std.specs.Prelude.{IfOk, ℤ, slice_get, slice_index, slice_set, Some}
use Rattle.std.specs.List.{AllByRecursion}
use Rattle.std.proofs.Math.Nat.{mul-le-mul_left}
use Rattle.std.proofs.lemmas.List.{length-set}
use Rattle.std.proofs.lemmas.List.Sums.{sum_by-cons, sum_by-set}
use Rattle.fz_sets.proofs.Lists.{all_at}
use Rattle.fz_spec.specs.declared.term.Term.{Term}
use Rattle.fz_spec.specs.Constraints.{IsTrueOf}
use Rattle.fz_strength.specs.Domains.{Within, IsNarrower, number_at, room, IsTermOf}
use Rattle.fz_strength.specs.Promises.{IsTruth, RestsForGood}
use Rattle.fz_strength.specs.Sayings.{Saying, line_of, said_terms, saying_of, truth_of, truths_of}
use Rattle.fz_strength.proofs.Terms.{term_narrower}
use Rattle.fz_prop.specs.declared.answer.Answer.{Answer}
use Rattle.fz_prop.specs.declared.answer.Answer.TheVariants.{Fix, NoFix, Subsumed, Failed}
use Rattle.fz_prop.specs.Answers.{IsAnswerOf, IsCorrectOf}
use Rattle.fz_prop.specs.Stores.{Stored, IsStore, Shrinks, declared_sets}
use Rattle.fz_prop.proofs.Twice.{narrower_twice}
use Rattle.fz_agenda.specs.Agendas.{IsSettled}
use Rattle.fz_agenda.specs.Queues.{Lineup, IsAtRest, counts_queued, queued}
use Rattle.fz_agenda.specs.Wakes.{Waking, HaveSize, IsDraining, IsDrainingBut, IsDrained}
use Rattle.fz_agenda.proofs.Settled.{settled_lasts, all_rest_at_rest, may_be_gone}
use Rattle.fz_agenda.proofs.Places.{within_of}
use Rattle.fz_engine.specs.Networks.{Networked, AreOf, IsAmong, IsNetwork}
use Rattle.fz_engine.specs.Steps.{IsAnswerAt}
use Rattle.fz_engine.specs.Runs.{IsAlive, IsRun, AreNeverTrue, AllRest, HasMoved, work}
use Rattle.fz_engine.specs.Stronger.{stronger_of}
use Rattle.fz_engine.proofs.Posting.{all_each}

-- ---- what is said fits a narrower store

suits_lasts : (ts : List Term) (ds es : List (List (ℤ × ℤ))) → IsNarrower ds es → AllByRecursion (IsTruth ds) ts → AllByRecursion (IsTruth es) ts
suits_lasts [] ds es narrower suits = tt
suits_lasts (t ∷ ts) ds es narrower suits = ((λ x member. suits.0 x (term_narrower t ds es narrower x member)), suits_lasts ts ds es narrower suits.1)

pub terms_last : (sayings : List Saying) (ds es : List (List (ℤ × ℤ))) → IsNarrower ds es → AreOf sayings ds → AreOf sayings es
terms_last sayings ds es narrower terms i saying is =
    let both = terms i saying is in
    (subst (λ (n : ℕ). AllByRecursion (IsTermOf n) (said_terms saying)) (sym narrower.size) both.0, suits_lasts (truths_of saying) ds es narrower both.1)

-- a store of the network's variables
pub sized : (n : Networked) (states : List ℕ) (s : Stored) → IsNetwork n → IsAlive n states s → HaveSize n.wakes (length s.doms)
sized n states s network alive = subst (λ (k : ℕ). HaveSize n.wakes k) (sym alive.size) network.listing.size

pub alive_last : (n : Networked) (states after : List ℕ) (s t : Stored) → IsNarrower s.doms t.doms → IsAlive n states s → IsSettled n.sayings after t → IsAlive n after t
alive_last n states after s t narrower alive settled = record {
  size = narrower.size ∙ alive.size;
  declared = narrower_twice (declared_sets n.model.variables) s.doms t.doms alive.declared narrower;
  terms = terms_last n.sayings s.doms t.doms narrower alive.terms;
  settled = settled;
}

-- ---- runs

pub run_none : (n : Networked) (s : Stored) (states : List ℕ) → IsStore s → IsAlive n states s → IsRun n s s states
run_none n s states store alive = record {
  store = store;
  narrower = record { size = refl; members = λ v x member. member };
  correct = λ a all within. within;
  alive = alive;
}

pub run_twice : (n : Networked) (r s t : Stored) (mid after : List ℕ) → IsRun n r s mid → IsRun n s t after → IsRun n r t after
run_twice n r s t mid after p q = record {
  store = q.store;
  narrower = narrower_twice r.doms s.doms t.doms p.narrower q.narrower;
  correct = λ a all within. q.correct a all (p.correct a all within);
  alive = q.alive;
}

pub run_drained : (n : Networked) (r s t : Stored) (mid after : Lineup) → IsNetwork n → IsRun n r s mid.states → IsDraining n.wakes s mid t after → IsRun n r t after.states
run_drained n r s t mid after network run draining = record {
  store = draining.store;
  narrower = subst (λ (ds : List (List (ℤ × ℤ))). IsNarrower r.doms ds) (sym draining.doms) run.narrower;
  correct = λ a all within. subst (λ (ds : List (List (ℤ × ℤ))). Within ds a) (sym draining.doms) (run.correct a all within);
  alive = record {
    size = ap length draining.doms ∙ run.alive.size;
    declared = subst (λ (ds : List (List (ℤ × ℤ))). IsNarrower (declared_sets n.model.variables) ds) (sym draining.doms) run.alive.declared;
    terms = subst (λ (ds : List (List (ℤ × ℤ))). AreOf n.sayings ds) (sym draining.doms) run.alive.terms;
    settled = draining.settled n.sayings network.listing.index run.alive.settled;
  };
}

-- what is said is true of an assignment of all constraints that lies within domains of the declared sets
within_wider : (ds es : List (List (ℤ × ℤ))) (a : List ℤ) → IsNarrower ds es → Within es a → Within ds a
within_wider ds es a narrower within =
    let size = narrower.size in
    record { size = within.size ∙ size; members = λ v h. narrower.members v (number_at a v) (within.members v (omega (arith, h, size))) }

follows : (n : Networked) (ds : List (List (ℤ × ℤ))) (a : List ℤ) (i : ℕ) (saying : Saying) → IsNetwork n → IsNarrower (declared_sets n.model.variables) ds → slice_get n.sayings i ≡ Some saying
    → AllByRecursion (IsTrueOf a) n.model.constraints → Within ds a → truth_of saying a
follows n ds a i saying network declared is all within =
    all_at (λ (x : Saying). truth_of x a) n.sayings i saying (network.said.follow a (within_wider (declared_sets n.model.variables) ds a declared within) all) is

-- one propagator ran
pub ran : (n : Networked) (s t : Stored) (states : List ℕ) (i : ℕ) (saying : Saying) → IsNetwork n → IsStore t → slice_get n.sayings i ≡ Some saying → Shrinks s t → IsCorrectOf (truth_of saying) s.doms t.doms
    → IsAlive n states s → IsRun n s t states
ran n s t states i saying network store is shrinks correct alive = record {
  store = store;
  narrower = shrinks.narrower;
  correct = λ a all within. correct a (follows n s.doms a i saying network alive.declared is all within) within;
  alive = alive_last n states states s t shrinks.narrower alive (settled_lasts n.sayings states s t store shrinks alive.settled);
}

with_states : (n : Networked) (s t : Stored) (states after : List ℕ) → IsRun n s t states → IsSettled n.sayings after t → IsRun n s t after
with_states n s t states after run settled = record {
  store = run.store;
  narrower = run.narrower;
  correct = run.correct;
  alive = record { size = run.alive.size; declared = run.alive.declared; terms = run.alive.terms; settled = settled };
}

-- the first rests, and all others that wait for its changes are woken
pub run_drained_but : (n : Networked) (r s t : Stored) (mid after : Lineup) (place : ℕ) (saying : Saying) → IsNetwork n → IsRun n r s mid.states → IsDrainingBut place n.wakes s mid t after
    → slice_get n.sayings place ≡ Some saying → line_of saying s.doms → IsRun n r t after.states
run_drained_but n r s t mid after place saying network run draining is rests = record {
  store = draining.store;
  narrower = subst (λ (ds : List (List (ℤ × ℤ))). IsNarrower r.doms ds) (sym draining.doms) run.narrower;
  correct = λ a all within. subst (λ (ds : List (List (ℤ × ℤ))). Within ds a) (sym draining.doms) (run.correct a all within);
  alive = record {
    size = ap length draining.doms ∙ run.alive.size;
    declared = subst (λ (ds : List (List (ℤ × ℤ))). IsNarrower (declared_sets n.model.variables) ds) (sym draining.doms) run.alive.declared;
    terms = subst (λ (ds : List (List (ℤ × ℤ))). AreOf n.sayings ds) (sym draining.doms) run.alive.terms;
    settled = draining.settled n.sayings saying network.listing.index run.alive.settled is rests;
  };
}

pub ran_gone : (n : Networked) (s t : Stored) (states after : List ℕ) (i : ℕ) (saying : Saying) → IsRun n s t states → slice_get n.sayings i ≡ Some saying → i < length states → RestsForGood saying t.doms
    → after ≡ slice_set states i 2 → IsRun n s t after
ran_gone n s t states after i saying run is within rests at =
    with_states n s t states after run (subst (λ (x : List ℕ). IsSettled n.sayings x t) (sym at) (may_be_gone n.sayings states t i saying run.alive.settled is within rests))

pub never_true : (n : Networked) (ds : List (List (ℤ × ℤ))) (i : ℕ) (saying : Saying) → IsNetwork n → IsNarrower (declared_sets n.model.variables) ds → slice_get n.sayings i ≡ Some saying
    → ((a : List ℤ) → Within ds a → truth_of saying a → ⊥) → AreNeverTrue n.model.constraints ds
never_true n ds i saying network declared is never = λ a all within. never a within (follows n ds a i saying network declared is all within)

-- what a run answers
pub answered : {E : Type 0} (r : Result Answer E) (n : Networked) (place : ℕ) (saying : Saying) (s t : Stored) → IsNetwork n → IsNarrower (declared_sets n.model.variables) s.doms
    → slice_get n.sayings place ≡ Some saying → IfOk r (λ x. IsAnswerOf x (truth_of saying) (line_of saying) s.doms t.doms) → IfOk r (λ x. IsAnswerAt x n place s t)
answered (Err x) n place saying s t network declared is answer = tt
answered (Ok Fix) n place saying s t network declared is answer = (saying, is, answer)
answered (Ok NoFix) n place saying s t network declared is answer = answer
answered (Ok Subsumed) n place saying s t network declared is answer = (saying, is, answer.1)
answered (Ok Failed) n place saying s t network declared is answer = never_true n s.doms place saying network declared is answer

pub all_rest : (n : Networked) (states : List ℕ) (s : Stored) → IsNetwork n → IsStore s → IsDrained s → IsAtRest states → IsAlive n states s → AllRest n.model s.doms
all_rest n states s network store drained rest alive = λ i c is.
    let lines = all_rest_at_rest n.sayings states s store drained.unmarked rest alive.settled in
    let there = network.said.each i c is in
    record {
      first = lines there.0 (saying_of c) there.1;
      more = all_each (IsAmong n.sayings) (λ (saying : Saying). line_of saying s.doms) (stronger_of n.model.variables c) (λ saying at. lines at.0 saying at.1) (network.said.more i c is);
    }

-- ---- the measure

one_at_most : (x : ℕ) → counts_queued x ≤ 1
one_at_most x = elim (nat_eq x 1) as (λ b. cond b 1 0 ≤ 1) [ true ↦ omega arith | false ↦ omega arith ]

pub queued_few : (states : List ℕ) → queued states ≤ length states
queued_few [] = omega arith
queued_few (x ∷ states) =
    let one : counts_queued x ≤ 1 = one_at_most x in
    let few : queued states ≤ length states = queued_few states in
    let whole : queued (x ∷ states) ≡ counts_queued x + queued states = sum_by-cons counts_queued x states in
    omega (arith, one, few, whole)

queued_falls : (states : List ℕ) (i k : ℕ) → slice_index states i ≡ 1 → i < length states → counts_queued k ≡ 0 → queued (slice_set states i k) < queued states
queued_falls states i k is within none =
    let one : counts_queued (slice_index states i) ≡ 1 = ap counts_queued is in
    let sums : queued (slice_set states i k) + counts_queued (get_or states i 0) ≡ queued states + counts_queued k = sum_by-set counts_queued states i k 0 within in
    omega (arith, one, sums, none)

pub queued_within : (states : List ℕ) (i : ℕ) → slice_index states i ≡ 1 → i < length states
queued_within states i is = within_of states i (λ zero. absurd (omega (arith, is, zero)))

pub moved_set : (s t : Stored) (states after : List ℕ) (i k : ℕ) → (t ≡ s) ⊎ (room t.doms < room s.doms) → slice_index states i ≡ 1 → counts_queued k ≡ 0 → after ≡ slice_set states i k → HasMoved s states t after
moved_set s t states after i k falls is none at = elim falls [
  | inl same ↦ inr (same, subst (λ (x : List ℕ). queued x < queued states) (sym at) (queued_falls states i k is (queued_within states i is) none))
  | inr less ↦ inl less
]

work_by_room : (r rr n q qq : ℕ) → r < rr → q ≤ n → r * (n + 1) + q < rr * (n + 1) + qq
work_by_room r rr n q qq less few = let more : (n + 1) * (r + 1) ≤ (n + 1) * rr = mul-le-mul_left (n + 1) (omega (arith, less)) in omega (arith, more, few)

-- a step leaves less to do
pub work_falls : (w : Waking) (s t u : Stored) (states : List ℕ) (mid after : Lineup) → HasMoved s states t mid.states → length mid.states ≡ length states → IsDrained s → IsDraining w t mid u after
    → work u after.states < work s states
work_falls w s t u states mid after (inl less) size drained draining =
    let same : room u.doms ≡ room t.doms = ap room draining.doms in
    let lower : room u.doms < room s.doms = omega (arith, same, less) in
    let whole : length after.states ≡ length states = draining.woken.size ∙ size in
    let few : queued after.states ≤ length states = omega (arith, queued_few after.states, whole) in
    rw whole (work_by_room (room u.doms) (room s.doms) (length states) (queued after.states) (queued states) lower few)
work_falls w s t u states mid after (inr moved) size drained draining =
    let still = draining.still (ap (λ (x : Stored). x.changed) moved.0 ∙ drained.none) in
    let whole : length after.states ≡ length states = draining.woken.size ∙ size in
    let same : room u.doms ≡ room s.doms = ap (λ (x : Stored). room x.doms) (still.0 ∙ moved.0) in
    let fewer : queued after.states < queued states = subst (λ (x : List ℕ). queued x < queued states) (sym (ap (λ (l : Lineup). l.states) still.1)) moved.1 in
    rw (whole, same) (omega (arith, fewer))

pub work_falls_but : (w : Waking) (s t u : Stored) (before after : Lineup) (place : ℕ) → (t ≡ s) ⊎ (room t.doms < room s.doms) → slice_index before.states place ≡ 1 → IsDrained s
    → IsDrainingBut place w t before u after → work u after.states < work s before.states
work_falls_but w s t u before after place (inr less) is drained draining =
    let same : room u.doms ≡ room t.doms = ap room draining.doms in
    let lower : room u.doms < room s.doms = omega (arith, same, less) in
    let whole : length after.states ≡ length before.states = draining.woken.size ∙ length-set before.states place 0 in
    let few : queued after.states ≤ length before.states = omega (arith, queued_few after.states, whole) in
    rw whole (work_by_room (room u.doms) (room s.doms) (length before.states) (queued after.states) (queued before.states) lower few)
work_falls_but w s t u before after place (inl moved) is drained draining =
    let still = draining.still (ap (λ (x : Stored). x.changed) moved ∙ drained.none) in
    let states : after.states ≡ slice_set before.states place 0 = ap (λ (l : Lineup). l.states) still.1 in
    let whole : length after.states ≡ length before.states = ap length states ∙ length-set before.states place 0 in
    let same : room u.doms ≡ room s.doms = ap (λ (x : Stored). room x.doms) (still.0 ∙ moved) in
    let fewer : queued after.states < queued before.states = subst (λ (x : List ℕ). queued x < queued before.states) (sym states) (queued_falls before.states place 0 is (queued_within before.states place is) refl) in
    rw (whole, same) (omega (arith, fewer))
