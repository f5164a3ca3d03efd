-- The nodes at the front, step by step.
use Rattle.std.proofs.Common.{◌≡◌, ◌∙◌, ℕ, ◌+◌, ◌<◌, ◌≤◌, List, [], ◌∷◌, ◌++◌, length, take, get_or, ap, ap₂, sym, subst, refl, arith, false, None}
use Rattle.std.specs.Prelude.{ℤ, sum_by, count_by}
use Rattle.std.specs.List.{AllByRecursion}
use Rattle.std.proofs.lemmas.List.{take_more, take_all, length-append}
use Rattle.std.proofs.lemmas.List.Sums.{sum_by-append, sum_by-cons}
use Rattle.fz_sets.proofs.Lists.{all_both}
use Rattle.fz_spec.specs.Instance.{Instance, Satisfies}
use Rattle.fz_tree.specs.declared.decision.Decision.{Decision}
use Rattle.fz_tree.specs.Choice.{IsChoice}
use Rattle.fz_tree.proofs.Counts.{one_if, count_cons, count_append}
use Rattle.fz_search_space.specs.Spaces.{Spaced, Covers, AreDomains, IsStatus}
use Rattle.fz_search_space.specs.declared.space.Status.{Status}
use Rattle.fz_search_space.specs.declared.space.Status.TheVariants.{Failed, Solved, Branch}
use Rattle.fz_part.specs.Parts.{IsPartOf, is_in_part}
use Rattle.fz_split.specs.declared.nodes.Nodes.{Nodes}
use Rattle.fz_split.specs.Splits.{IsSingle, IsSplit}
use Rattle.fz_split.specs.Divisions.{IsDivision}
use Rattle.fz_split.specs.Weights.{weight_of, weight_in}
use Rattle.fz_split.specs.Fronts.{count_of, times_in, IsFront, IsTaken, Comes, Gains, Keeps}
use Rattle.fz_split.proofs.Covering.{in_child, single_solved, none_failed, times_divided, reachable}
use Rattle.fz_split.proofs.Weighing.{weight_first, weight_last, weight_some, alternatives_less}

-- ---- one part comes

one_more_count : (a : List ℤ) (ps : List (List Decision)) (p : List Decision) → count_by (is_in_part a) (ps ++ p ∷ []) ≡ count_by (is_in_part a) ps + one_if (is_in_part a p)
one_more_count a ps p = count_append (is_in_part a) ps (p ∷ []) ∙ ap (λ (n : ℕ). count_by (is_in_part a) ps + n) (count_cons (is_in_part a) p [] ∙ omega arith)

all_one_more : (P : List Decision → Type 0) (ps : List (List Decision)) (p : List Decision) → AllByRecursion P ps → P p → AllByRecursion P (ps ++ p ∷ [])
all_one_more P ps p all here = all_both P ps (p ∷ []) all (here, tt)

pub gains : (m : Instance) (p : List Decision) (s : Spaced) (status : Status) (old new : Nodes) → s.model ≡ m → Covers None p s → IsStatus status s → IsPartOf m p → IsFront m old → Comes status p old new → Gains m p old new
gains m p s Failed old new model covers is part front comes = record {
  front = record {
    of_model = subst (AllByRecursion (IsPartOf m)) (sym comes.0) front.of_model;
    queue_of_model = subst (AllByRecursion (IsPartOf m)) (sym comes.1) front.queue_of_model;
    single = subst (AllByRecursion (IsSingle m)) (sym comes.0) front.single;
  };
  times = λ a satisfies. (
      let none = none_failed p s a covers is (subst (λ (x : Instance). Satisfies x a) (sym model) satisfies) in
      omega (arith, none, ap (count_by (is_in_part a)) comes.0, ap (count_by (is_in_part a)) comes.1)
      );
}
gains m p s Solved old new model covers is part front comes = record {
  front = record {
    of_model = subst (AllByRecursion (IsPartOf m)) (sym comes.0) (all_one_more (IsPartOf m) old.single.items p front.of_model part);
    queue_of_model = subst (AllByRecursion (IsPartOf m)) (sym comes.1) front.queue_of_model;
    single = subst (AllByRecursion (IsSingle m)) (sym comes.0) (all_one_more (IsSingle m) old.single.items p front.single (subst (λ (x : Instance). IsSingle x p) model (single_solved p s covers is)));
  };
  times = λ a satisfies. omega (arith, one_more_count a old.single.items p, ap (count_by (is_in_part a)) comes.0, ap (count_by (is_in_part a)) comes.1);
}
gains m p s Branch old new model covers is part front comes = record {
  front = record {
    of_model = subst (AllByRecursion (IsPartOf m)) (sym comes.0) front.of_model;
    queue_of_model = subst (AllByRecursion (IsPartOf m)) (sym comes.1) (all_one_more (IsPartOf m) old.queue.items p front.queue_of_model part);
    single = subst (AllByRecursion (IsSingle m)) (sym comes.0) front.single;
  };
  times = λ a satisfies. omega (arith, one_more_count a old.queue.items p, ap (count_by (is_in_part a)) comes.0, ap (count_by (is_in_part a)) comes.1);
}

length_more : (ps : List (List Decision)) (p : List Decision) → length (ps ++ p ∷ []) ≡ length ps + 1
length_more ps p = length-append ps (p ∷ []) ∙ omega arith

pub comes_count : (status : Status) (p : List Decision) (old new : Nodes) → Comes status p old new → count_of new ≤ count_of old + 1
comes_count Failed p old new comes = omega (arith, ap length comes.0, ap length comes.1)
comes_count Solved p old new comes = omega (arith, ap length comes.0, ap length comes.1, length_more old.single.items p)
comes_count Branch p old new comes = omega (arith, ap length comes.0, ap length comes.1, length_more old.queue.items p)

pub comes_weight : (m : Instance) (status : Status) (p : List Decision) (old new : Nodes) → Comes status p old new → weight_in m new.queue.items ≤ weight_in m old.queue.items + weight_of m p
comes_weight m Failed p old new comes = omega (arith, ap (weight_in m) comes.1)
comes_weight m Solved p old new comes = omega (arith, ap (weight_in m) comes.1)
comes_weight m Branch p old new comes = omega (arith, ap (weight_in m) comes.1, weight_last m old.queue.items p)

-- ---- the alternatives so far

pub record IsDividedTo (m : Instance) (p front_of : List Decision) (old new : Nodes) : Type 0 where
  pub front : IsFront m new
  pub times : (a : List ℤ) → Satisfies m a → times_in new a ≡ times_in old a + count_by (in_child a p) front_of
  pub count : count_of new ≤ count_of old + length front_of
  pub weight : weight_in m new.queue.items ≤ weight_in m old.queue.items + sum_by (λ (d : Decision). weight_of m (p ++ d ∷ [])) front_of

pub none_divided : (m : Instance) (p : List Decision) (old : Nodes) → IsFront m old → IsDividedTo m p [] old old
none_divided m p old front = record {
  front = front;
  times = λ a satisfies. omega arith;
  count = omega arith;
  weight = omega arith;
}

pub one_divided : (m : Instance) (p choice : List Decision) (i : ℕ) (d : Decision) (old now new : Nodes) → i < length choice → d ≡ get_or choice i d → IsDividedTo m p (take i choice) old now → Gains m (p ++ d ∷ []) now new
    → count_of new ≤ count_of now + 1 → weight_in m new.queue.items ≤ weight_in m now.queue.items + weight_of m (p ++ d ∷ []) → IsDividedTo m p (take (i + 1) choice) old new
one_divided m p choice i d old now new within at so_far gained more heavier =
    let is : take (i + 1) choice ≡ take i choice ++ d ∷ [] = take_more choice i d within ∙ ap (λ (e : Decision). take i choice ++ e ∷ []) (sym at) in
    subst (λ (ds : List Decision). IsDividedTo m p ds old new) (sym is) (record {
      front = gained.front;
      times = λ a satisfies. (
          let child = count_append (in_child a p) (take i choice) (d ∷ []) in
          let last = count_cons (in_child a p) d [] in
          omega (arith, gained.times a satisfies, so_far.times a satisfies, child, last)
          );
      count = let size = length-append (take i choice) (d ∷ []) in let before = so_far.count in omega (arith, size, before, more);
      weight = (
          let weigh : Decision → ℕ = λ e. weight_of m (p ++ e ∷ []) in
          let both = sum_by-append weigh (take i choice) (d ∷ []) in
          let last = sum_by-cons weigh d [] in
          let before = so_far.weight in
          omega (arith, both, last, before, heavier)
          );
    })

pub all_divided : (m : Instance) (p choice : List Decision) (i : ℕ) (old new : Nodes) → length choice ≤ i → IsDividedTo m p (take i choice) old new → IsDividedTo m p choice old new
all_divided m p choice i old new beyond so_far = subst (λ (ds : List Decision). IsDividedTo m p ds old new) (take_all i choice beyond) so_far

-- ---- the part is divided

pub gains_all : (p : List Decision) (s : Spaced) (choice : List Decision) (old new : Nodes) → Covers None p s → IsDivision s.doms choice → IsChoice choice → IsDividedTo s.model p choice old new → Gains s.model p old new
gains_all p s choice old new covers division chooses all = record {
  front = all.front;
  times = λ a satisfies. all.times a satisfies ∙ ap (λ (n : ℕ). times_in old a + n) (times_divided p s choice a covers division chooses satisfies);
}

pub weight_falls : (p : List Decision) (s : Spaced) (choice : List Decision) (old new : Nodes) → Covers None p s → AreDomains s.doms → s.failed ≡ false → IsDivision s.doms choice → IsChoice choice → IsDividedTo s.model p choice old new
    → weight_in s.model new.queue.items < weight_in s.model old.queue.items + weight_of s.model p
weight_falls p s choice old new covers domains alive division chooses all =
    let less = alternatives_less s.model p choice chooses (reachable p s choice covers domains alive division) in
    let weight = all.weight in
    omega (arith, less, weight)

-- ---- a part that was taken out is back, or divided

pub front_taken : (m : Instance) (p : List Decision) (old mid : Nodes) → IsTaken p old mid → IsFront m old → IsPartOf m p × IsFront m mid
front_taken m p old mid taken front =
    let of_open : AllByRecursion (IsPartOf m) (p ∷ mid.queue.items) = subst (AllByRecursion (IsPartOf m)) taken.0 front.queue_of_model in (
      of_open.0,
      record {
        of_model = subst (AllByRecursion (IsPartOf m)) (sym taken.1) front.of_model;
        queue_of_model = of_open.1;
        single = subst (AllByRecursion (IsSingle m)) (sym taken.1) front.single;
      },
    )

pub keeps : (m : Instance) (p : List Decision) (old mid new : Nodes) → IsTaken p old mid → Gains m p mid new → Keeps m old new
keeps m p old mid new taken gained = record {
  front = gained.front;
  times = λ a satisfies. (
      let queue = ap (count_by (is_in_part a)) taken.0 ∙ count_cons (is_in_part a) p mid.queue.items in
      let single = ap (count_by (is_in_part a)) taken.1 in
      omega (arith, gained.times a satisfies, queue, single)
      );
}

pub count_taken : (p : List Decision) (old mid : Nodes) → IsTaken p old mid → count_of old ≡ count_of mid + 1
count_taken p old mid taken = omega (arith, ap length taken.0, ap length taken.1)

pub weight_taken : (m : Instance) (p : List Decision) (old mid : Nodes) → IsTaken p old mid → weight_in m old.queue.items ≡ weight_of m p + weight_in m mid.queue.items
weight_taken m p old mid taken = ap (weight_in m) taken.0 ∙ weight_first m p mid.queue.items

-- where it is closed or single
pub closed_falls : (m : Instance) (p : List Decision) (old mid new : Nodes) → IsTaken p old mid → new.queue.items ≡ mid.queue.items → weight_in m new.queue.items < weight_in m old.queue.items
closed_falls m p old mid new taken same = omega (arith, ap (weight_in m) same, weight_taken m p old mid taken, weight_some m p)

-- ---- the whole

pub record IsSplitting (m : Instance) (most : ℕ) (n : Nodes) : Type 0 where
  pub front : IsFront m n
  pub few : count_of n ≤ most
  pub times : (a : List ℤ) → Satisfies m a → times_in n a ≡ 1

pub begun : (m : Instance) (most : ℕ) (n : Nodes) → 1 ≤ most → n.queue.items ≡ [] ∷ [] → n.single.items ≡ [] → IsSplitting m most n
begun m most n some queue none = record {
  front = record {
    of_model = subst (AllByRecursion (IsPartOf m)) (sym none) tt;
    queue_of_model = subst (AllByRecursion (IsPartOf m)) (sym queue) (tt, tt);
    single = subst (AllByRecursion (IsSingle m)) (sym none) tt;
  };
  few = omega (arith, some, ap length queue, ap length none);
  times = λ a satisfies. ap₂ (λ x y. count_by (is_in_part a) x + count_by (is_in_part a) y) none queue;
}

pub gone_on : (m : Instance) (most : ℕ) (old new : Nodes) → IsSplitting m most old → Keeps m old new → count_of new ≤ most → IsSplitting m most new
gone_on m most old new splitting kept few = record {
  front = kept.front;
  few = few;
  times = λ a satisfies. kept.times a satisfies ∙ splitting.times a satisfies;
}

nothing_open : (ps : List (List Decision)) → (0 < length ps → ⊥) → ps ≡ []
nothing_open [] none = refl
nothing_open (p ∷ ps) none = absurd (none (omega arith))

pub is_split : (m : Instance) (most : ℕ) (n : Nodes) (ps : List (List Decision)) → IsSplitting m most n → ((count_of n < most) × (0 < length n.queue.items) → ⊥) → ps ≡ n.single.items ++ n.queue.items → IsSplit m most ps
is_split m most n ps splitting done is = subst (λ (l : List (List Decision)). IsSplit m most l) (sym is) (record {
  parts = λ a satisfies. count_append (is_in_part a) n.single.items n.queue.items ∙ splitting.times a satisfies;
  of_model = all_both (IsPartOf m) n.single.items n.queue.items splitting.front.of_model splitting.front.queue_of_model;
  few = let most_of = splitting.few in omega (arith, most_of, length-append n.single.items n.queue.items);
  divided = λ less. (
      let none = nothing_open n.queue.items (λ some. done (omega (arith, less, length-append n.single.items n.queue.items), some)) in
      all_both (IsSingle m) n.single.items n.queue.items splitting.front.single (subst (AllByRecursion (IsSingle m)) (sym none) tt)
      );
})
