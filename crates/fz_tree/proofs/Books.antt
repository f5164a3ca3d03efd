-- Each call keeps the law of books, and a closed book is complete.
use Rattle.std.proofs.Common.{◌≡◌, ℕ, zero, suc, ◌+◌, ◌-◌, List, [], ◌∷◌, ◌++◌, inl, inr, refl, ap, sym, ◌∙◌, arith, Bool, true, false, cond, length, map, subst, append-nil, length-append, get_or, set}
use Rattle.std.specs.Prelude.{ℤ, Option, Some, None, IfSome}
use Rattle.std.specs.List.{AllByRecursion, remove, slice_get}
use Rattle.std.proofs.lemmas.List.Sums.{sum_by-append, sum_by-cons, sum_by-remove, sum_by-set}
use Rattle.std.proofs.lemmas.Bool.{or_parts}
use Rattle.fz_spec.specs.Instance.{Instance, Satisfies, IsBetter, Lists, occurrences, AreImproving}
use Rattle.fz_tree.specs.declared.mode.Mode.{Mode}
use Rattle.fz_tree.specs.declared.mode.Mode.TheVariants.{All, Rows, Best}
use Rattle.fz_tree.specs.Frontier.{Frontier, AreEdges, times_in, times_in_all, times_below, can_cut, has_rest}
use Rattle.fz_tree.specs.Proper.{IsProper}
use Rattle.fz_tree.specs.Better.{IsModeOf, Betters}
use Rattle.fz_tree.specs.Rows.{AreAbout, ListsRows}
use Rattle.fz_tree.specs.Account.{Account, AccountLaw, SuitsMode, times_found}
use Rattle.fz_tree.specs.Book.{Part, Book, BookLaw, SuitsRecord, incumbent_of, incumbent, times_recorded_in, times_recorded, times_open, claimed_part, opening, IsAt, Claims, Takes, AddsIn, AddsWitness, left_of, parts_after, taken, with_recorded}
use Rattle.fz_tree.proofs.Times.{times_of_none}
use Rattle.fz_tree.proofs.Orders.{better_than_others, betters_before}
use Rattle.fz_tree.proofs.Same.{found_both, all_push}
use Rattle.fz_sets.proofs.Lists.{all_both, all_get, all_map}

-- ---- lists

pub all_set : {X : Type 0} (P : X → Type 0) (xs : List X) (i : ℕ) (y : X) → AllByRecursion P xs → P y → AllByRecursion P (set xs i y)
all_set P [] i y h p = tt
all_set P (x ∷ xs) zero y h p = (p, h.1)
all_set P (x ∷ xs) (suc i) y h p = (h.0, all_set P xs i y h.1 p)

all_remove : {X : Type 0} (P : X → Type 0) (xs : List X) (i : ℕ) → AllByRecursion P xs → AllByRecursion P (remove xs i)
all_remove P [] zero h = tt
all_remove P [] (suc i) h = tt
all_remove P (x ∷ xs) zero h = h.1
all_remove P (x ∷ xs) (suc i) h = (h.0, all_remove P xs i h.1)

-- ---- the incumbent

last_of_push : (xs : List (List ℤ)) (w : List ℤ) → slice_get (xs ++ w ∷ []) (length xs) ≡ Some w
last_of_push [] w = refl
last_of_push (x ∷ xs) w = last_of_push xs w

incumbent_push : (xs : List (List ℤ)) (w : List ℤ) → incumbent_of Best (xs ++ w ∷ []) ≡ Some w
incumbent_push xs w =
    let size : length (xs ++ w ∷ []) - 1 ≡ length xs = omega (arith, length-append xs (w ∷ [])) in
    ap (slice_get (xs ++ w ∷ [])) size ∙ last_of_push xs w

improving_push : (m : Instance) (xs : List (List ℤ)) (w : List ℤ) → AreImproving m xs → Betters m w (incumbent_of Best xs) → AreImproving m (xs ++ w ∷ [])
improving_push m [] w h better = tt
improving_push m (x ∷ []) w h better = (better, tt)
improving_push m (x ∷ y ∷ ys) w h better =
    let size : length (x ∷ y ∷ ys) - 1 ≡ suc (length (y ∷ ys) - 1) = omega arith in
    let same : incumbent_of Best (x ∷ y ∷ ys) ≡ incumbent_of Best (y ∷ ys) = ap (slice_get (x ∷ y ∷ ys)) size in
    (h.0, improving_push m (y ∷ ys) w h.1 (subst (λ (o : Option (List ℤ)). Betters m w o) same better))

last_satisfies : (m : Instance) (xs : List (List ℤ)) (i : ℕ) → AllByRecursion (Satisfies m) xs → IfSome (slice_get xs i) (Satisfies m)
last_satisfies m [] i h = tt
last_satisfies m (x ∷ xs) zero h = h.0
last_satisfies m (x ∷ xs) (suc i) h = last_satisfies m xs i h.1

-- ---- the opening book

none_recorded : (mode : Mode) (m : Instance) (a : List ℤ) → times_recorded_in mode m a [] ≡ 0
none_recorded All m a = refl
none_recorded Rows m a = refl
none_recorded Best m a = refl

none_improving : (mode : Mode) (m : Instance) → SuitsRecord mode m []
none_improving All m = tt
none_improving Rows m = tt
none_improving Best m = tt

about_none : (mode : Mode) (m : Instance) → AreAbout mode m []
about_none All m = tt
about_none Rows m = tt
about_none Best m = tt

pub opens : (m : Instance) (mode : Mode) → IsModeOf m.goal mode → BookLaw (opening m mode)
opens m mode own = record {
  own_mode = own;
  sound = tt;
  improving = none_improving mode m;
  sums = λ a satisfies better. omega (arith, none_recorded mode m a);
  about = (about_none mode m, tt);
  edges = (tt, tt);
  proper = (tt, tt);
}

-- ---- claiming

pub claims : (b : Book) (f : Frontier) (new : Book) → BookLaw b → Claims b f new → BookLaw new
claims b f new law c = subst BookLaw (sym c.is) (record {
  own_mode = law.own_mode;
  sound = law.sound;
  improving = law.improving;
  sums = λ a satisfies better. same_sums a (law.sums a satisfies better);
  about = all_set (λ (p : Part). AreAbout b.mode b.model p.frontier.edges) b.parts c.place (claimed_part f) law.about
      (subst (λ (g : Frontier). AreAbout b.mode b.model g.edges) (c.open_at.is (claimed_part f)) (all_get (λ (p : Part). AreAbout b.mode b.model p.frontier.edges) b.parts c.place (claimed_part f) c.open_at.within law.about));
  edges = all_set (λ (p : Part). AreEdges p.frontier.edges) b.parts c.place (claimed_part f) law.edges
      (subst (λ (g : Frontier). AreEdges g.edges) (c.open_at.is (claimed_part f)) (all_get (λ (p : Part). AreEdges p.frontier.edges) b.parts c.place (claimed_part f) c.open_at.within law.edges));
  proper = all_set (λ (p : Part). IsProper b.model.variables p.frontier) b.parts c.place (claimed_part f) law.proper
      (subst (λ (g : Frontier). IsProper b.model.variables g) (c.open_at.is (claimed_part f)) (all_get (λ (p : Part). IsProper b.model.variables p.frontier) b.parts c.place (claimed_part f) c.open_at.within law.proper));
})
  where
    same_sums : (a : List ℤ) → times_recorded b a + times_open b.parts a ≡ 1 → times_recorded b a + times_open (set b.parts c.place (claimed_part f)) a ≡ 1
    same_sums a h =
        let count : Part → ℕ = λ p. times_in p.frontier a in
        let here : times_in (get_or b.parts c.place (claimed_part f)).frontier a ≡ times_in f a = ap (λ (g : Frontier). times_in g a) (c.open_at.is (claimed_part f)) in
        omega (arith, h, here, sum_by-set count b.parts c.place (claimed_part f) (claimed_part f) c.open_at.within)

-- ---- taking an account

-- what comes in the stead of a part
left_at : (f : Frontier) (a : List ℤ) (b : Bool) → has_rest f ≡ b → times_open (cond b (claimed_part f ∷ []) []) a ≡ times_in f a
left_at f a true is = omega arith
left_at f a false is =
    let none = or_parts f.current_open (can_cut f) is in
    sym (ap (λ b. times_below f.edges a (cond b 1 0)) none.0 ∙ times_of_none f.edges a none.1)

open_left : (f : Frontier) (a : List ℤ) → times_open (left_of f) a ≡ times_in f a
open_left f a = left_at f a (has_rest f) refl

open_given : (fs : List Frontier) (a : List ℤ) → times_open (map claimed_part fs) a ≡ times_in_all fs a
open_given [] a = refl
open_given (f ∷ fs) a =
    sum_by-cons (λ (p : Part). times_in p.frontier a) (claimed_part f) (map claimed_part fs)
    ∙ ap (λ n. times_in f a + n) (open_given fs a) ∙ sym (sum_by-cons (λ (g : Frontier). times_in g a) f fs)

pub open_after : (ps : List Part) (i : ℕ) (c : Account) (a : List ℤ) → IsAt ps c.before i → times_open (parts_after ps i c) a + times_in c.before a ≡ times_open ps a + times_in_all c.given a + times_in c.after a
open_after ps i c a at =
    let count : Part → ℕ = λ p. times_in p.frontier a in
    let here : times_in (get_or ps i (claimed_part c.before)).frontier a ≡ times_in c.before a = ap (λ (f : Frontier). times_in f a) (at.is (claimed_part c.before)) in
    omega (
      arith,
      here,
      sum_by-append count (remove ps i) (map claimed_part c.given ++ left_of c.after),
      sum_by-append count (map claimed_part c.given) (left_of c.after),
      open_given c.given a,
      open_left c.after a,
      sum_by-remove count ps i (claimed_part c.before) at.within,
    )

-- the sums of a book of that record and those parts
abbrev BookSums : Mode → Instance → List (List ℤ) → List Part → Type 0
BookSums mode m recorded ps = (a : List ℤ) → Satisfies m a → Betters m a (incumbent_of mode recorded) → times_recorded_in mode m a recorded + times_open ps a ≡ 1

-- an account of the model in that mode
abbrev AccountSums : Mode → Instance → Account → Type 0
AccountSums mode m c = (a : List ℤ) → Satisfies m a → Betters m a c.witness → times_found mode m a c.found + times_in_all c.given a + times_in c.after a ≡ times_in c.before a

-- What the record is after an account was taken: its members satisfy, they improve, and the sums hold.
record IsRecord (mode : Mode) (m : Instance) (recorded : List (List ℤ)) (ps : List Part) : Type 0 where
  pub sound : AllByRecursion (Satisfies m) recorded
  pub improving : SuitsRecord mode m recorded
  pub sums : BookSums mode m recorded ps

-- no find and no better witness: what is better than the incumbent is better than the witness too
unchanged : (m : Instance) (recorded added : List (List ℤ)) (ps : List Part) (i : ℕ) (c : Account) → IsRecord Best m recorded ps → AccountSums Best m c → c.found ≡ [] → IsAt ps c.before i
    → ((a : List ℤ) → Satisfies m a → Betters m a (incumbent_of Best recorded) → Betters m a c.witness) → added ≡ [] → IsRecord Best m (recorded ++ added) (parts_after ps i c)
unchanged m recorded added ps i c r sums none at weaker e =
    let same : recorded ++ added ≡ recorded = ap (λ (l : List (List ℤ)). recorded ++ l) e ∙ append-nil recorded in
    subst (λ (l : List (List ℤ)). IsRecord Best m l (parts_after ps i c)) (sym same) (record {
      sound = r.sound;
      improving = r.improving;
      sums = λ a satisfies better. omega (arith, r.sums a satisfies better, sums a satisfies (weaker a satisfies better), ap (times_found Best m a) none, open_after ps i c a at);
    })

-- a better witness
bettered : (m : Instance) (recorded added : List (List ℤ)) (ps : List Part) (i : ℕ) (c : Account) (w : List ℤ) → IsRecord Best m recorded ps → AccountSums Best m c → c.found ≡ [] → IsAt ps c.before i
    → c.witness ≡ Some w → Satisfies m w → Betters m w (incumbent_of Best recorded) → added ≡ w ∷ [] → IsRecord Best m (recorded ++ added) (parts_after ps i c)
bettered m recorded added ps i c w r sums none at is of_w better e =
    subst (λ (l : List (List ℤ)). IsRecord Best m (recorded ++ l) (parts_after ps i c)) (sym e) (record {
      sound = all_push (Satisfies m) recorded w r.sound of_w;
      improving = improving_push m recorded w r.improving better;
      sums = λ a satisfies new.
          let than_w : IsBetter m a w = subst (λ (o : Option (List ℤ)). Betters m a o) (incumbent_push recorded w) new in
          let than_witness : Betters m a c.witness = subst (λ (o : Option (List ℤ)). Betters m a o) (sym is) than_w in
          omega (arith, r.sums a satisfies (betters_before m a w (incumbent_of Best recorded) better than_w), sums a satisfies than_witness, ap (times_found Best m a) none, open_after ps i c a at);
    })

taken_best : (m : Instance) (recorded added : List (List ℤ)) (ps : List Part) (i : ℕ) (c : Account) (known witness : Option (List ℤ)) → incumbent_of Best recorded ≡ known → c.witness ≡ witness
    → IfSome known (Satisfies m) → IfSome witness (Satisfies m) → AddsWitness m known witness added
    → IsRecord Best m recorded ps → AccountSums Best m c → c.found ≡ [] → IsAt ps c.before i → IsRecord Best m (recorded ++ added) (parts_after ps i c)
taken_best m recorded added ps i c known None is_known is_witness of_k of_w add r sums none at =
    unchanged m recorded added ps i c r sums none at (λ a satisfies better. subst (λ (o : Option (List ℤ)). Betters m a o) (sym is_witness) tt) add
taken_best m recorded added ps i c None (Some w) is_known is_witness of_k of_w add r sums none at =
    bettered m recorded added ps i c w r sums none at is_witness of_w (subst (λ (o : Option (List ℤ)). Betters m w o) (sym is_known) tt) add
taken_best m recorded added ps i c (Some k) (Some w) is_known is_witness of_k of_w (inl add) r sums none at =
    bettered m recorded added ps i c w r sums none at is_witness of_w (subst (λ (o : Option (List ℤ)). Betters m w o) (sym is_known) add.0) add.1
taken_best m recorded added ps i c (Some k) (Some w) is_known is_witness of_k of_w (inr add) r sums none at =
    unchanged m recorded added ps i c r sums none at
    (λ a satisfies better. subst (λ (o : Option (List ℤ)). Betters m a o) (sym is_witness)
    (better_than_others m a w k satisfies of_w of_k add.0 (subst (λ (o : Option (List ℤ)). Betters m a o) is_known better))) add.1

taken_record : (mode : Mode) (m : Instance) (recorded added : List (List ℤ)) (ps : List Part) (i : ℕ) (c : Account) → IsRecord mode m recorded ps → AccountSums mode m c → AllByRecursion (Satisfies m) c.found
    → IfSome c.witness (Satisfies m) → SuitsMode mode c.found c.witness → IsAt ps c.before i → AddsIn mode m (incumbent_of mode recorded) c added → IsRecord mode m (recorded ++ added) (parts_after ps i c)
taken_record All m recorded added ps i c r sums of_found of_witness suits at adds = subst (λ (l : List (List ℤ)). IsRecord All m (recorded ++ l) (parts_after ps i c)) (sym adds) (record {
  sound = all_both (Satisfies m) recorded c.found r.sound of_found;
  improving = tt;
  sums = λ a satisfies better.
      let betters : Betters m a c.witness = subst (λ (o : Option (List ℤ)). Betters m a o) (sym suits) tt in
      omega (arith, r.sums a satisfies tt, sums a satisfies betters, found_both All m a recorded c.found, open_after ps i c a at);
})
taken_record Rows m recorded added ps i c r sums of_found of_witness suits at adds = subst (λ (l : List (List ℤ)). IsRecord Rows m (recorded ++ l) (parts_after ps i c)) (sym adds) (record {
  sound = all_both (Satisfies m) recorded c.found r.sound of_found;
  improving = tt;
  sums = λ a satisfies better.
      let betters : Betters m a c.witness = subst (λ (o : Option (List ℤ)). Betters m a o) (sym suits) tt in
      omega (arith, r.sums a satisfies tt, sums a satisfies betters, found_both Rows m a recorded c.found, open_after ps i c a at);
})
taken_record Best m recorded added ps i c r sums of_found of_witness suits at adds =
    taken_best m recorded added ps i c (incumbent_of Best recorded) c.witness refl refl (last_satisfies m recorded (length recorded - 1) r.sound) of_witness adds r sums suits at

left_all : (P : Part → Type 0) (f : Frontier) → P (claimed_part f) → AllByRecursion P (left_of f)
left_all P f h = elim (has_rest f) as (λ b. AllByRecursion P (cond b (claimed_part f ∷ []) [])) [ true ↦ (h, tt) | false ↦ tt ]

parts_all : (P : Part → Type 0) (ps : List Part) (i : ℕ) (c : Account) → AllByRecursion P ps → AllByRecursion (λ (f : Frontier). P (claimed_part f)) c.given → P (claimed_part c.after) → AllByRecursion P (parts_after ps i c)
parts_all P ps i c h given after =
    all_both P (remove ps i) (map claimed_part c.given ++ left_of c.after) (all_remove P ps i h)
    (all_both P (map claimed_part c.given) (left_of c.after) (all_map P claimed_part c.given given) (left_all P c.after after))

taken_at : (b : Book) (c : Account) (place : ℕ) (added : List (List ℤ)) → BookLaw b → AccountLaw c → c.model ≡ b.model → c.mode ≡ b.mode → IsAt b.parts c.before place → AddsIn b.mode b.model (incumbent b) c added → BookLaw (taken b c place added)
taken_at b c place added law of_c model mode at adds =
    let about : AreAbout b.mode b.model c.before.edges = subst (λ (f : Frontier). AreAbout b.mode b.model f.edges) (at.is (claimed_part c.before))
    (all_get (λ (p : Part). AreAbout b.mode b.model p.frontier.edges) b.parts place (claimed_part c.before) at.within law.about) in
    let own : AreAbout c.mode c.model c.before.edges = subst (λ (o : Mode). AreAbout o c.model c.before.edges) (sym mode) (subst (λ (m : Instance). AreAbout b.mode m c.before.edges) (sym model) about) in
    let sums : AccountSums b.mode b.model c = subst (λ (o : Mode). AccountSums o b.model c) mode (subst (λ (m : Instance). AccountSums c.mode m c) model (of_c.sums own)) in
    let abouts : AllByRecursion (λ (f : Frontier). AreAbout b.mode b.model f.edges) c.given × AreAbout b.mode b.model c.after.edges
    = subst (λ (o : Mode). AllByRecursion (λ (f : Frontier). AreAbout o b.model f.edges) c.given × AreAbout o b.model c.after.edges) mode
    (subst (λ (m : Instance). AllByRecursion (λ (f : Frontier). AreAbout c.mode m f.edges) c.given × AreAbout c.mode m c.after.edges) model (of_c.about own)) in
    let of_found : AllByRecursion (Satisfies b.model) c.found = subst (λ (m : Instance). AllByRecursion (Satisfies m) c.found) model of_c.sound in
    let of_witness : IfSome c.witness (Satisfies b.model) = subst (λ (m : Instance). IfSome c.witness (Satisfies m)) model of_c.witness in
    let suits : SuitsMode b.mode c.found c.witness = subst (λ (o : Mode). SuitsMode o c.found c.witness) mode of_c.suits in
    let was : IsRecord b.mode b.model b.recorded b.parts = record { sound = law.sound; improving = law.improving; sums = law.sums } in
    let new = taken_record b.mode b.model b.recorded added b.parts place c was sums of_found of_witness suits at adds in
    let before : IsProper b.model.variables c.before =
    subst (λ (f : Frontier). IsProper b.model.variables f) (at.is (claimed_part c.before)) (all_get (λ (p : Part). IsProper b.model.variables p.frontier) b.parts place (claimed_part c.before) at.within law.proper) in
    let proper = subst (λ (m : Instance). IsProper m.variables c.before → AllByRecursion (IsProper m.variables) c.given × IsProper m.variables c.after) model of_c.proper before in
    record {
      own_mode = law.own_mode;
      sound = new.sound;
      improving = new.improving;
      sums = new.sums;
      about = parts_all (λ (p : Part). AreAbout b.mode b.model p.frontier.edges) b.parts place c law.about abouts.0 abouts.1;
      edges = parts_all (λ (p : Part). AreEdges p.frontier.edges) b.parts place c law.edges of_c.edges.1 of_c.edges.2;
      proper = parts_all (λ (p : Part). IsProper b.model.variables p.frontier) b.parts place c law.proper proper.0 proper.1;
    }

pub takes : (b : Book) (c : Account) (new : Book) → BookLaw b → AccountLaw c → b.model ≡ c.model → b.mode ≡ c.mode → Takes b c new → BookLaw new
takes b c new law of_c model mode t = subst BookLaw (sym t.is) (taken_at b c t.place t.added law of_c (sym model) (sym mode) t.open_at t.adds)

-- ---- an offer

offered_record : (mode : Mode) (m : Instance) (recorded : List (List ℤ)) (ps : List Part) (w : List ℤ) → mode ≡ Best → IsRecord mode m recorded ps → Satisfies m w → Betters m w (incumbent_of mode recorded) → IsRecord mode m (recorded ++ w ∷ []) ps
offered_record All m recorded ps w is r of_w better = absurd (cc is)
offered_record Rows m recorded ps w is r of_w better = absurd (cc is)
offered_record Best m recorded ps w is r of_w better = record {
  sound = all_push (Satisfies m) recorded w r.sound of_w;
  improving = improving_push m recorded w r.improving better;
  sums = λ a satisfies new. r.sums a satisfies (betters_before m a w (incumbent_of Best recorded) better (subst (λ (o : Option (List ℤ)). Betters m a o) (incumbent_push recorded w) new));
}

pub offers : (b : Book) (w : List ℤ) → BookLaw b → b.mode ≡ Best → Satisfies b.model w → Betters b.model w (incumbent b) → BookLaw (with_recorded b w)
offers b w law best of_w better =
    let new = offered_record b.mode b.model b.recorded b.parts w best (record { sound = law.sound; improving = law.improving; sums = law.sums }) of_w better in
    record { own_mode = law.own_mode; sound = new.sound; improving = new.improving; sums = new.sums; about = law.about; edges = law.edges; proper = law.proper }

-- ---- a closed book

counted_all : (mode : Mode) (m : Instance) (a : List ℤ) (recorded : List (List ℤ)) → mode ≡ All → (Betters m a (incumbent_of mode recorded) → times_recorded_in mode m a recorded + 0 ≡ 1) → occurrences a recorded ≡ 1
counted_all All m a recorded is h = omega (arith, h tt)
counted_all Rows m a recorded is h = absurd (cc is)
counted_all Best m a recorded is h = absurd (cc is)

counted_rows : (mode : Mode) (m : Instance) (a : List ℤ) (recorded : List (List ℤ)) → mode ≡ Rows → (Betters m a (incumbent_of mode recorded) → times_recorded_in mode m a recorded + 0 ≡ 1) → times_found Rows m a recorded ≡ 1
counted_rows All m a recorded is h = absurd (cc is)
counted_rows Rows m a recorded is h = omega (arith, h tt)
counted_rows Best m a recorded is h = absurd (cc is)

counted_best : (mode : Mode) (m : Instance) (a : List ℤ) (recorded : List (List ℤ)) → mode ≡ Best → times_recorded_in mode m a recorded + 0 ≡ 1 → ⊥
counted_best All m a recorded is h = cc is
counted_best Rows m a recorded is h = cc is
counted_best Best m a recorded is h = omega (arith, h)

closed_sum : (b : Book) (a : List ℤ) → b.parts ≡ [] → times_recorded b a + times_open b.parts a ≡ 1 → times_recorded b a + 0 ≡ 1
closed_sum b a none h = omega (arith, h, ap (λ (ps : List Part). times_open ps a) none)

pub closed_lists : (b : Book) → BookLaw b → b.mode ≡ All → b.parts ≡ [] → Lists b.model b.recorded
closed_lists b law all none = record {
  sound = law.sound;
  each_once = λ a satisfies. counted_all b.mode b.model a b.recorded all (λ better. closed_sum b a none (law.sums a satisfies better));
}

pub closed_lists_rows : (b : Book) → BookLaw b → b.mode ≡ Rows → b.parts ≡ [] → ListsRows b.model b.recorded
closed_lists_rows b law rows none = record {
  sound = law.sound;
  each_once = λ a satisfies. counted_rows b.mode b.model a b.recorded rows (λ better. closed_sum b a none (law.sums a satisfies better));
}

pub closed_is_best : (b : Book) (a : List ℤ) → BookLaw b → b.mode ≡ Best → b.parts ≡ [] → Satisfies b.model a → Betters b.model a (incumbent b) → ⊥
closed_is_best b a law best none satisfies better = counted_best b.mode b.model a b.recorded best (closed_sum b a none (law.sums a satisfies better))
