-- Each step keeps the rule.
use Rattle.std.proofs.Common.{◌≡◌, ℕ, ◌<◌, ◌≤◌, ◌≢◌, min, zero, suc, List, [], ◌∷◌, ◌++◌, set, slice_index, refl, sym, ap, ◌∙◌, subst, ⊎_elim, arith}
use mathlib.Core.Option.{some, some-injective, some-ne-none}
use lib.ListN.{get_elem?}
use Rattle.atomic_table.specs.Table.{State, Allows, Splits, Joins, keeps, Seen, opening}
use Rattle.atomic_table.proofs.Lists.{at_set, at_snoc, set_else}
use Rattle.fz_bound.specs.declared.known.Known.{Known}
use Rattle.fz_bound.specs.Rule.{UNSET, PARTS, IsBound, IsIdle, least_of, first, loaded, is_put, left, right, both, spent}
use Rattle.fz_bound.proofs.Leasts.{least_small, least_at, least_set, least_snoc, parts_set, parts_snoc, all_here}

-- what holds of all views but one, and of what stands in its place, holds of all afterwards
changed : (P : Known → Type 0) (vs : List Known) (i : ℕ) (w : Known) → ((j : ℕ) (v : Known) → get_elem? vs j ≡ some v → P v) → P w → (j : ℕ) (v : Known) → get_elem? (set vs i w) j ≡ some v → P v
changed P vs i w was here j v at = ⊎_elim (λ (t : (j ≡ i) × (w ≡ v)). subst P t.1 here) (λ (t : (j ≢ i) × (get_elem? vs j ≡ some v)). was j v t.1) (at_set vs i j w v at)

longer : (P : Known → Type 0) (vs : List Known) (w : Known) → ((j : ℕ) (v : Known) → get_elem? vs j ≡ some v → P v) → P w → (j : ℕ) (v : Known) → get_elem? (vs ++ w ∷ []) j ≡ some v → P v
longer P vs w was here j v at = ⊎_elim (λ (t : get_elem? vs j ≡ some v). was j v t) (λ (t : w ≡ v). subst P t here) (at_snoc vs w v j at)

-- a place keeps what is written there
put_at : (vs : List Known) (i : ℕ) (v w : Known) → get_elem? vs i ≡ some v → get_elem? (set vs i w) i ≡ some w
put_at [] i v w at = absurd (some-ne-none v (sym at))
put_at (x ∷ xs) zero v w at = refl
put_at (x ∷ xs) (suc i) v w at = put_at xs i v w at

-- the word as it is found
found : (s : State (Unit {0}) Known) → IsBound s → slice_index s.words 0 ≡ least_of s.views
found s b = ap (λ (ws : List ℕ). slice_index ws 0) b.words

pub opens : IsBound (opening (UNSET ∷ []) [] first)
opens = record {
  words = refl;
  seen = λ i v at. longer (λ (u : Known). UNSET ≤ u.seen) [] first (λ j u t. absurd (some-ne-none u (sym t))) (omega arith) i v at;
  parts = refl;
  idle = λ i v at. longer IsIdle [] first (λ j u t. absurd (some-ne-none u (sym t))) (λ none. absurd (omega arith)) i v at;
}

-- the word becomes the least of it and what the view has put now
stands : (s : State (Unit {0}) Known) (id : ℕ) (v w : Known) (n : ℕ) → IsBound s → get_elem? s.views id ≡ some v → w.least ≤ v.least → n ≡ min (least_of s.views) w.least → n ≤ w.seen → w.parts ≡ v.parts → 0 < v.parts
    → IsBound (record { words = set s.words 0 n; homes = s.homes; views = set s.views id w })
stands s id v w n b at less is seen same some_part =
    let here : get_elem? (set s.views id w) id ≡ some w = put_at s.views id v w at in
    let l = least_at s.views id v at in
    let l' = least_at (set s.views id w) id w here in
    let ls = least_set s.views id v w at in
    let ps = parts_set s.views id v w at in
    let now : least_of (set s.views id w) ≡ n = omega arith in
    record {
      words = ap (λ (ws : List ℕ). set ws 0 n) b.words ∙ ap (λ (k : ℕ). k ∷ []) (sym now);
      seen = subst (λ (k : ℕ). (j : ℕ) (u : Known) → get_elem? (set s.views id w) j ≡ some u → k ≤ u.seen) (sym now)
          (changed (λ (u : Known). n ≤ u.seen) s.views id w (λ j u t. let h = b.seen j u t in omega arith) seen);
      parts = let p = b.parts in omega arith;
      idle = changed IsIdle s.views id w b.idle (λ none. absurd (omega arith));
    }

pub loads : (slots id : ℕ) (v : Known) → 0 < v.parts
    → Allows IsBound slots id (v, []) 0 (λ n. n) (λ n after. (after ≡ (loaded v n, [])) × (n ≤ v.least) × (n ≤ v.seen))
loads slots id v some_part s b homes at fits =
    let n = slice_index s.words 0 in
    let e : n ≡ least_of s.views = found s b in
    let l = least_at s.views id v at in
    let h = b.seen id v at in (
      loaded v n,
      keeps,
      tt,
      stands s id v (loaded v n) n b at (omega arith) (omega arith) (omega arith) refl some_part,
      (refl, omega arith, omega arith),
    )

pub puts : (slots id : ℕ) (v : Known) (k : ℕ) → 0 < v.parts
    → Allows IsBound slots id (v, []) 0 (λ n. min n k) (λ n after. (after ≡ (is_put v (min n k) k, [])) × (n ≤ v.seen))
puts slots id v k some_part s b homes at fits =
    let n = slice_index s.words 0 in
    let e : n ≡ least_of s.views = found s b in
    let l = least_at s.views id v at in
    let h = b.seen id v at in (
      is_put v (min n k) k,
      keeps,
      tt,
      stands s id v (is_put v (min n k) k) (min n k) b at (omega arith) (omega arith) (omega arith) refl some_part,
      (refl, omega arith),
    )

pub splits : (id : ℕ) (v : Known) → 2 ≤ v.parts → Splits IsBound id v (left v) (right v)
splits id v parts s b at =
    let vs = set s.views id (left v) in
    let here : get_elem? vs id ≡ some (left v) = put_at s.views id v (left v) at in
    let l = least_at s.views id v at in
    let l' = least_at vs id (left v) here in
    let ls = least_set s.views id v (left v) at in
    let ps = parts_set s.views id v (left v) at in
    let small = least_small s.views in
    let lo = least_snoc vs (right v) in
    let po = parts_snoc vs (right v) in
    let h = b.seen id v at in
    let now : least_of (vs ++ right v ∷ []) ≡ least_of s.views = omega arith in
    record {
      words = b.words ∙ ap (λ (k : ℕ). k ∷ []) (sym now);
      seen = subst (λ (k : ℕ). (j : ℕ) (u : Known) → get_elem? (vs ++ right v ∷ []) j ≡ some u → k ≤ u.seen) (sym now)
          (longer (λ (u : Known). least_of s.views ≤ u.seen) vs (right v) (changed (λ (u : Known). least_of s.views ≤ u.seen) s.views id (left v) b.seen h) h);
      parts = let p = b.parts in omega arith;
      idle = longer IsIdle vs (right v) (changed IsIdle s.views id (left v) b.idle (λ none. absurd (omega arith))) (λ none. absurd (omega arith));
    }

pub joins : (id other : ℕ) (v w : Known) → 0 < v.parts → Joins IsBound id v other w (both v w) spent
joins id other v w some_part s b at apart at' =
    let vs = set s.views id (both v w) in
    let here : get_elem? vs id ≡ some (both v w) = put_at s.views id v (both v w) at in
    let was : get_elem? s.views other ≡ some w = sym (set_else s.views id other (both v w) apart) ∙ at' in
    let stays : get_elem? (set vs other spent) id ≡ some (both v w) = set_else vs other id spent (λ e. apart (sym e)) ∙ here in
    let lv = least_at s.views id v at in
    let lw = least_at s.views other w was in
    let l1 = least_at vs id (both v w) here in
    let l2 = least_at (set vs other spent) id (both v w) stays in
    let s1 = least_set s.views id v (both v w) at in
    let s2 = least_set vs other w spent at' in
    let p1 = parts_set s.views id v (both v w) at in
    let p2 = parts_set vs other w spent at' in
    let small = least_small vs in
    let small' = least_small (set vs other spent) in
    let hv = b.seen id v at in
    let hw = b.seen other w was in
    let small0 = least_small s.views in
    let once : least_of vs ≡ least_of s.views = omega arith in
    let now : least_of (set vs other spent) ≡ least_of s.views = omega arith in
    record {
      words = b.words ∙ ap (λ (k : ℕ). k ∷ []) (sym now);
      seen = subst (λ (k : ℕ). (j : ℕ) (u : Known) → get_elem? (set vs other spent) j ≡ some u → k ≤ u.seen) (sym now)
          (changed (λ (u : Known). least_of s.views ≤ u.seen) vs other spent (changed (λ (u : Known). least_of s.views ≤ u.seen) s.views id (both v w) b.seen (omega arith)) small0);
      parts = let p = b.parts in omega arith;
      idle = changed IsIdle vs other spent (changed IsIdle s.views id (both v w) b.idle (λ none. absurd (omega arith))) (λ none. refl);
    }

-- where a seat has all parts, the last word is what it put
pub closes : (id : ℕ) (v : Known) (ws : List ℕ) (k : ℕ) → (s : State (Unit {0}) Known) → Seen IsBound id v s → s.words ≡ ws → get_elem? ws 0 ≡ some k → v.least ≤ UNSET → v.parts ≡ PARTS → k ≡ v.least
closes id v ws k s b is word small all =
    let e : least_of s.views ≡ k = some-injective (least_of s.views) k (ap (λ (xs : List ℕ). get_elem? xs 0) (sym b.0.words ∙ is) ∙ word) in
    let p = b.0.parts in
    let l = all_here s.views id v b.1 (omega arith) b.0.idle in
    omega arith
