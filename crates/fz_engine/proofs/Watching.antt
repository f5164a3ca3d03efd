-- Who looks at the terms of a list for a while.
use Rattle.std.proofs.Common.{◌≡◌, ◌⊎◌, inl, inr, ℕ, ◌+◌, ◌<◌, List, [], ◌∷◌, ◌++◌, ◌∙◌, refl, sym, subst, arith, length, get_or-set_same, get_or-set_other, Result, Ok, Err}
use Rattle.std.specs.Prelude.{Bool, true, false, ℤ, pos, OnOk, OnErr, Some, slice_get}
use Rattle.std.specs.List.{AllByRecursion}
use Rattle.std.proofs.lemmas.Bool.{cases_eq}
use Rattle.fz_sets.proofs.Lists.{all_both, by_place, some_is}
use Rattle.fz_spec.specs.declared.term.Term.{Term}
use Rattle.fz_spec.specs.declared.term.Term.TheVariants.{Num, Var}
use Rattle.fz_spec.specs.Truth.{SomeByRecursion}
use Rattle.fz_strength.specs.declared.event.Event.{Event}
use Rattle.fz_strength.specs.declared.event.Event.TheVariants.{Any, Bound, Fixed}
use Rattle.fz_strength.specs.Events.{Wait, AreBelow, wait_for, waits_for}
use Rattle.fz_strength.specs.Sayings.{SelectTerm}
use Rattle.fz_strength.specs.VariableElements.{StandsAt}
use Rattle.fz_strength.specs.Domains.{IsTermOf}
use Rattle.fz_prop.specs.Stores.{IsListed}
use Rattle.fz_agenda.specs.declared.watches.Watch.{Watch}
use Rattle.fz_agenda.specs.Wakes.{Extends, IsIndexedAt, IsListedAt, IsWatch, Waking, waiting_at, watch, watches_at, with_watch}
use Rattle.fz_agenda.specs.Watches.{Looks}
use Rattle.fz_engine.proofs.Listing.{extends_twice, still_listed}

-- ---- one watch more

still_some : (P : Watch → Type 0) (xs ys : List Watch) → SomeByRecursion P xs → SomeByRecursion P (xs ++ ys)
still_some P [] ys some = absurd some
still_some P (x ∷ xs) ys (inl here) = inl here
still_some P (x ∷ xs) ys (inr more) = inr (still_some P xs ys more)

last_is : (xs : List Watch) (e : Watch) → SomeByRecursion (λ (x : Watch). x ≡ e) (xs ++ e ∷ [])
last_is [] e = inl refl
last_is (x ∷ xs) e = inr (last_is xs e)

watch_extends : (w : Waking) (v : ℕ) (e : Watch) → v < length w.watches → Extends w (with_watch w v e)
watch_extends w v e within = record {
  listed = listed;
  watching = λ u x. by_place (λ k. IsWatch w k x → IsWatch (with_watch w v e) k x) v
      (λ watching. subst (λ (xs : List Watch). SomeByRecursion (λ (y : Watch). y ≡ x) xs) (sym (get_or-set_same w.watches v (watches_at w v ++ e ∷ []) [] within))
      (still_some (λ (y : Watch). y ≡ x) (watches_at w v) (e ∷ []) watching))
      (λ k ne watching. subst (λ (xs : List Watch). SomeByRecursion (λ (y : Watch). y ≡ x) xs) (sym (get_or-set_other w.watches v k (watches_at w v ++ e ∷ []) [] ne)) watching) u;
}
  where
    listed : (event : Event) (u i : ℕ) → IsListed (waiting_at w event u) i → IsListed (waiting_at (with_watch w v e) event u) i
    listed Any u i here = here
    listed Bound u i here = here
    listed Fixed u i here = here

pub watched_extends : {T E : Type 0} (r : Result T E) (w u : Waking) (v : ℕ) (e : Watch) → v < length w.watches → OnOk r (u ≡ with_watch w v e) → OnErr r (u ≡ w) → Extends w u
watched_extends (Ok x) w u v e within ok err = subst (λ (z : Waking). Extends w z) (sym ok) (watch_extends w v e within)
watched_extends (Err x) w u v e within ok err = subst (λ (z : Waking). Extends w z) (sym err) (record { listed = λ event v i listed. listed; watching = λ v e watching. watching })

is_watched : (w u : Waking) (v : ℕ) (e : Watch) → v < length w.watches → u ≡ with_watch w v e → IsWatch u v e
is_watched w u v e within is = subst (λ (z : Waking). IsWatch z v e) (sym is)
    (subst (λ (xs : List Watch). SomeByRecursion (λ (y : Watch). y ≡ e) xs) (sym (get_or-set_same w.watches v (watches_at w v ++ e ∷ []) [] within)) (last_is (watches_at w v) e))

pub watches_it : {T E : Type 0} (r : Result T E) (w u : Waking) (v place before : ℕ) (term index : Term) (n : ℤ) → v < length w.watches → term ≡ Var v → n ≡ pos (before + 1)
    → OnOk r (u ≡ with_watch w v (watch place index n true))
    → OnOk r ((x : ℕ) → term ≡ Var x → IsWatch u x (watch place index (pos (before + 1)) true) ⊎ IsListed (waiting_at u Any x) place)
watches_it (Err e) w u v place before term index n within is number ok = tt
watches_it (Ok y) w u v place before term index n within is number ok = λ x at.
    let e : Var v ≡ Var x = sym is ∙ at in
    let same : v ≡ x = cc in
    inl (subst (λ (m : ℤ). IsWatch u x (watch place index m true)) number (subst (λ (k : ℕ). IsWatch u k (watch place index n true)) same (is_watched w u v (watch place index n true) within ok)))

-- a term is watched, where it is a variable
pub number_watched : {T E : Type 0} (r : Result T E) (w u : Waking) (v : ℕ) (term : Term) (e : Watch) → v < length w.watches → term ≡ Var v → OnOk r (u ≡ with_watch w v e) → OnOk r ((x : ℕ) → term ≡ Var x → IsWatch u x e)
number_watched (Err y) w u v term e within is ok = tt
number_watched (Ok y) w u v term e within is ok = λ x at.
    let eq : Var v ≡ Var x = sym is ∙ at in
    let same : v ≡ x = cc in
    subst (λ (k : ℕ). IsWatch u k e) same (is_watched w u v e within ok)

-- ---- one term after another

-- it looks at each of the first terms while its place is left of an index, or always
abbrev pub AreWatched : Waking → ℕ → Term → List Term → ℕ → Type 0
AreWatched w place index terms k = (j v : ℕ) → j < k → slice_get terms j ≡ Some (Var v) → IsWatch w v (watch place index (pos (j + 1)) true) ⊎ IsListed (waiting_at w Any v) place

still_watched : (w u : Waking) (place : ℕ) (e : Watch) (v : ℕ) → Extends w u → IsWatch w v e ⊎ IsListed (waiting_at w Any v) place → IsWatch u v e ⊎ IsListed (waiting_at u Any v) place
still_watched w u place e v extends (inl watching) = inl (extends.watching v e watching)
still_watched w u place e v extends (inr listed) = inr (extends.listed Any v place listed)

pub watched_next : (w u : Waking) (place : ℕ) (index term : Term) (terms : List Term) (k : ℕ) → slice_get terms k ≡ Some term → Extends w u → AreWatched w place index terms k
    → ((v : ℕ) → term ≡ Var v → IsWatch u v (watch place index (pos (k + 1)) true) ⊎ IsListed (waiting_at u Any v) place) → AreWatched u place index terms (k + 1)
watched_next w u place index term terms k is extends before here j v below at = elim (cases_eq j k) [
  | inl e ↦
      let same : term ≡ Var v = some_is term (Var v) (sym is ∙ subst (λ (i : ℕ). slice_get terms i ≡ Some (Var v)) e at) in
      subst (λ (i : ℕ). IsWatch u v (watch place index (pos (i + 1)) true) ⊎ IsListed (waiting_at u Any v) place) (sym e) (here v same)
  | inr ne ↦ still_watched w u place (watch place index (pos (j + 1)) true) v extends (before j v (omega (arith, below, ne)) at)
]

-- ---- the terms are of as many variables

terms_below : (n : ℕ) (terms : List Term) → AreBelow (waits_for Any terms) n → AllByRecursion (IsTermOf n) terms
terms_below n [] below = tt
terms_below n (Num m ∷ terms) below = (tt, terms_below n terms below)
terms_below n (Var v ∷ terms) below = (below.0, terms_below n terms below.1)

pub index_below : (n : ℕ) (xs : List Term) (k c : Term) → AreBelow (waits_for Any (k ∷ c ∷ xs)) n → AllByRecursion (IsTermOf n) (k ∷ c ∷ xs)
index_below n xs k c below = terms_below n (k ∷ c ∷ xs) below

-- ---- at what is said

-- what selects a term is listed at its index and its value, and looks at each term for a while
pub selected_at : {T E : Type 0} (r : Result T E) (w u x : Waking) (place : ℕ) (xs : List Term) (k c : Term) → Extends w u → Extends u x → IsListedAt w place (wait_for Any k) → IsListedAt u place (wait_for Any c)
    → OnOk r ((v : ℕ) (n : ℤ) → StandsAt n xs (Var v) → IsWatch x v (watch place k n true) ⊎ IsListed (waiting_at x Any v) place) → OnOk r (IsIndexedAt x place (SelectTerm xs k c))
selected_at (Err e) w u x place xs k c first then index value ok = tt
selected_at (Ok y) w u x place xs k c first then index value ok = record {
  steady = all_both (λ (wait : Wait). IsListed (waiting_at x wait.event wait.variable) place) (wait_for Any k) (wait_for Any c ++ [])
      (still_listed w x place (wait_for Any k) (extends_twice w u x first then) index)
      (all_both (λ (wait : Wait). IsListed (waiting_at x wait.event wait.variable) place) (wait_for Any c) [] (still_listed u x place (wait_for Any c) then value) tt);
  watched = watched;
}
  where
    watched : (v : ℕ) (t : Term) (n : ℤ) (left : Bool) → Looks (SelectTerm xs k c) v t n left → IsWatch x v (watch place t n left) ⊎ IsListed (waiting_at x Any v) place
    watched v t n true looks = subst (λ (i : Term). IsWatch x v (watch place i n true) ⊎ IsListed (waiting_at x Any v) place) (sym looks.0) (ok v n looks.1)
    watched v t n false looks = absurd looks

pub number_listed : {T E : Type 0} (r : Result T E) (w u x : Waking) (place : ℕ) (term truth : Term) → Extends w u → Extends u x → IsListedAt w place (wait_for Fixed term) → IsListedAt u place (wait_for Any truth)
    → OnOk r (IsListedAt x place (wait_for Fixed term ++ wait_for Any truth))
number_listed (Err e) w u x place term truth first then fixed any = tt
number_listed (Ok y) w u x place term truth first then fixed any =
    all_both (λ (wait : Wait). IsListed (waiting_at x wait.event wait.variable) place) (wait_for Fixed term) (wait_for Any truth)
    (still_listed w x place (wait_for Fixed term) (extends_twice w u x first then) fixed) (still_listed u x place (wait_for Any truth) then any)
