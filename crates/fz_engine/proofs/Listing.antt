-- Lists of those that wait, one propagator after another.
use Rattle.std.proofs.Common.{◌≡◌, ◌⊎◌, inl, inr, ℕ, zero, suc, ◌+◌, ◌<◌, List, [], ◌∷◌, ◌++◌, refl, sym, ◌∙◌, ap, subst, arith, length, map, take}
use Rattle.std.specs.Prelude.{Some, slice_get, slice_index_or}
use Rattle.fz_strength.specs.declared.cost.Cost.{Cost}
use Rattle.fz_strength.specs.declared.event.Event.{Event}
use Rattle.fz_strength.specs.declared.event.Event.TheVariants.{Any, Bound, Fixed}
use Rattle.fz_strength.specs.Events.{Wait, AreBelow}
use Rattle.fz_strength.specs.Sayings.{Saying, cost_of}
use Rattle.fz_prop.specs.Stores.{IsListed}
use Rattle.fz_agenda.specs.Wakes.{Waking, waiting_at, watch, with_cost, IsIndexedAt, IsListedAt, IsIndexOf, Extends, HaveSize, HasVariable}
use Rattle.fz_agenda.specs.Watches.{steady_waits}
use Rattle.fz_says.specs.declared.waits.Wait as code
use Rattle.fz_says.specs.Said.{waits_in}
use Rattle.fz_propagators.specs.declared.any.AnyPropagator.{AnyPropagator}
use Rattle.fz_engine.specs.Networks.{IsListing}

pub extends_twice : (u v w : Waking) → Extends u v → Extends v w → Extends u w
extends_twice u v w p q = record {
  listed = λ event variable place listed. q.listed event variable place (p.listed event variable place listed);
  watching = λ variable e watching. q.watching variable e (p.watching variable e watching);
}

pub extends_cost : (w : Waking) (cost : Cost) → Extends w (with_cost w cost)
extends_cost w cost = record { listed = listed; watching = λ v e watching. watching }
  where
    listed : (event : Event) (v i : ℕ) → IsListed (waiting_at w event v) i → IsListed (waiting_at (with_cost w cost) event v) i
    listed Any v i here = here
    listed Bound v i here = here
    listed Fixed v i here = here

pub still_listed : (w u : Waking) (i : ℕ) (ws : List Wait) → Extends w u → IsListedAt w i ws → IsListedAt u i ws
still_listed w u i [] extends listed = tt
still_listed w u i (x ∷ ws) extends listed = (extends.listed x.event x.variable i listed.0, still_listed w u i ws extends listed.1)

-- lists for that many variables have one for each that is waited for
pub has_variable : (w : Waking) (n : ℕ) (waits : List code.Wait) (i : ℕ) (x : code.Wait) → HaveSize w n → AreBelow (waits_in waits) n → i < length waits → HasVariable w (slice_index_or waits i x).variable
has_variable w n [] i x size below within = absurd (omega (arith, within))
has_variable w n (y ∷ waits) zero x size below within =
    let under = below.0 in
    let any = size.any in
    let bound = size.bound in
    let fixed = size.fixed in
    let watches = size.watches in
    record { any = omega (arith, under, any); bound = omega (arith, under, bound); fixed = omega (arith, under, fixed); watches = omega (arith, under, watches) }
has_variable w n (y ∷ waits) (suc i) x size below within = has_variable w n waits i x size below.1 (omega (arith, within))

-- one change more
listed_more : (w u : Waking) (place : ℕ) (waits : List code.Wait) (i : ℕ) (x : code.Wait) → i < length waits → Extends w u → IsListedAt w place (waits_in (take i waits))
    → IsListed (waiting_at u (slice_index_or waits i x).event (slice_index_or waits i x).variable) place → IsListedAt u place (waits_in (take (suc i) waits))
listed_more w u place [] i x within extends listed here = absurd (omega (arith, within))
listed_more w u place (y ∷ waits) zero x within extends listed here = (here, tt)
listed_more w u place (y ∷ waits) (suc i) x within extends listed here = (extends.listed y.event y.variable place listed.0, listed_more w u place waits i x (omega (arith, within)) extends listed.1 here)

pub listed_next : (w u : Waking) (place : ℕ) (waits : List code.Wait) (i : ℕ) (x : code.Wait) → i < length waits → Extends w u → IsListedAt w place (waits_in (take i waits))
    → IsListed (waiting_at u (slice_index_or waits i x).event (slice_index_or waits i x).variable) place → IsListedAt u place (waits_in (take (i + 1) waits))
listed_next w u place waits i x within extends listed here =
    let next : suc i ≡ i + 1 = omega arith in subst (λ (k : ℕ). IsListedAt u place (waits_in (take k waits))) next (listed_more w u place waits i x within extends listed here)

-- what stands at a place of a list with one more at its end
pub at_end : {A : Type 0} (xs : List A) (x y : A) (i : ℕ) → slice_get (xs ++ x ∷ []) i ≡ Some y → (slice_get xs i ≡ Some y) ⊎ ((i ≡ length xs) × (x ≡ y))
at_end [] x y zero is = let same : x ≡ y = cc in inr (refl, same)
at_end [] x y (suc i) is = absurd (cc (is))
at_end (z ∷ xs) x y zero is = inl is
at_end (z ∷ xs) x y (suc i) is = elim (at_end xs x y i is) [ inl there ↦ inl there | inr last ↦ inr (ap suc last.0, last.1) ]

still_indexed : (w u : Waking) (i : ℕ) (saying : Saying) → Extends w u → IsIndexedAt w i saying → IsIndexedAt u i saying
still_indexed w u i saying extends at = record {
  steady = still_listed w u i (steady_waits saying) extends at.steady;
  watched = λ v t n left looks. elim (at.watched v t n left looks) [ inl watching ↦ inl (extends.watching v (watch i t n left) watching) | inr listed ↦ inr (extends.listed Any v i listed) ];
}

-- one propagator more
pub index_more : (sayings : List Saying) (saying : Saying) (w u : Waking) → Extends w u → IsIndexOf sayings w → IsIndexedAt u (length sayings) saying → IsIndexOf (sayings ++ saying ∷ []) u
index_more sayings saying w u extends index at = λ i x is. elim (at_end sayings saying x i is) [
  | inl there ↦ still_indexed w u i x extends (index i x there)
  | inr last ↦ subst (λ (k : ℕ). IsIndexedAt u k x) (sym last.0) (subst (λ (y : Saying). IsIndexedAt u (length sayings) y) last.1 at)
]

map_end : (sayings : List Saying) (saying : Saying) → map cost_of sayings ++ cost_of saying ∷ [] ≡ map cost_of (sayings ++ saying ∷ [])
map_end [] saying = refl
map_end (x ∷ sayings) saying = ap (λ (costs : List Cost). cost_of x ∷ costs) (map_end sayings saying)

pub costs_more : (sayings : List Saying) (saying : Saying) (costs : List Cost) → costs ≡ map cost_of sayings → costs ++ cost_of saying ∷ [] ≡ map cost_of (sayings ++ saying ∷ [])
costs_more sayings saying costs is = rw is (map_end sayings saying)

-- lists to which one propagator was added
pub listing_more : (sayings : List Saying) (saying : Saying) (w v u : Waking) (n : ℕ) → IsListing sayings w n → v ≡ with_cost w (cost_of saying) → Extends v u → HaveSize u n → u.costs ≡ v.costs
    → IsIndexedAt u (length sayings) saying → IsListing (sayings ++ saying ∷ []) u n
listing_more sayings saying w v u n listing is extends size same at = record {
  index = index_more sayings saying w u (extends_twice w v u (rw is (extends_cost w (cost_of saying))) extends) listing.index at;
  costs = same ∙ ap (λ (x : Waking). x.costs) is ∙ costs_more sayings saying w.costs listing.costs;
  size = size;
}

pub said_more : (said_of : AnyPropagator → Saying) (ps : List AnyPropagator) (p : AnyPropagator) → map said_of (ps ++ p ∷ []) ≡ map said_of ps ++ said_of p ∷ []
said_more said_of [] p = refl
said_more said_of (q ∷ ps) p = ap (λ (l : List Saying). said_of q ∷ l) (said_more said_of ps p)

-- lists for as many variables as they have lists
pub listing_self : (sayings : List Saying) (w : Waking) (n : ℕ) → IsListing sayings w n → IsListing sayings w (length w.any)
listing_self sayings w n listing = subst (λ (k : ℕ). IsListing sayings w k) (sym listing.size.any) listing
