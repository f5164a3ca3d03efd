-- A name more in the map of names is a name more that is declared.
use Rattle.std.proofs.Common.{◌≡◌, ℕ, Bool, true, false, List, cond, refl, ap, sym, subst, ◌∙◌}
use Rattle.std.specs.Prelude.{Option, Some, option_map, bytes_eq}
use Rattle.std.specs.declared.cmp.Ordering.{Ordering}
use Rattle.std.specs.declared.cmp.Ordering.TheVariants.{Less, Equal, Greater}
use Rattle.std.specs.Ordering.{is_eq, nat_cmp, ordering_then, eq_by_cmp}
use Rattle.std.specs.Cmp.{IsEquivalence}
use Rattle.std.specs.Cmp.Lexicographic.{slice_cmp, bytes_decides, nat_list_cmp_total}
use Rattle.std.proofs.lemmas.Cmp.{eq_by_cmp_equiv, nat_cmp_total, on_total, then_total}
use Rattle.std.specs.Map.{lookup, IsKeyTest, AreApart, KeepsOthers}
use Rattle.std.specs.BTreeMap as tree
use Rattle.std.specs.BTreeMap.{BTreeMap, is_at}
use denote.Ref.{Bor}
use Rattle.std.proofs.lemmas.Map.Text.{is_eq-slice_cmp}
use Rattle.fz_language.specs.Entries.{with_entry}
use Rattle.fz_resolve.specs.declared.entry.Entry.{Entry}
use Rattle.fz_resolve.specs.Meant.{meant, tail_from}

-- the order of keys
abbrev pair_cmp : ℕ × List ℕ → ℕ × List ℕ → Ordering
pair_cmp x y = ordering_then (nat_cmp x.0 y.0) (slice_cmp nat_cmp x.1 y.1)

abbrev key_cmp : ℕ → List ℕ → ℕ × Bor (List ℕ) → Ordering
key_cmp t bs k = ordering_then (nat_cmp t k.0) (slice_cmp nat_cmp bs k.1.now)

abbrev seen : ℕ × Bor (List ℕ) → ℕ × List ℕ
seen k = (k.0, k.1.now)

same_keys : IsEquivalence (eq_by_cmp pair_cmp)
same_keys = eq_by_cmp_equiv (then_total (on_total (λ (t : ℕ × List ℕ). t.0) nat_cmp_total) (on_total (λ (t : ℕ × List ℕ). t.1) nat_list_cmp_total))

differ : (o p : Ordering) → is_eq p ≡ false → is_eq (ordering_then o p) ≡ false
differ Less p e = refl
differ Equal p e = e
differ Greater p e = refl

apart : (bs cs : List ℕ) → bytes_eq bs cs ≡ false → AreApart (is_at (key_cmp (tail_from 0 bs) bs)) (is_at (key_cmp (tail_from 0 cs) cs))
apart bs cs n k e =
    let b : ℕ × List ℕ = (tail_from 0 bs, bs) in
    let c : ℕ × List ℕ = (tail_from 0 cs, cs) in
    same_keys.symm c (seen k) ∙ sym (same_keys.congr b (seen k) c e) ∙ differ (nat_cmp (tail_from 0 bs) (tail_from 0 cs)) (slice_cmp nat_cmp bs cs) (is_eq-slice_cmp bs cs ∙ n)

module _ {K : Type 0} (eq : K → K → Bool) (test : K → Bool) where
  others : {X : Type 0} (old new : List (K × X)) → KeepsOthers eq test old new → (other : K → Bool) → IsKeyTest eq other → AreApart test other → lookup other new ≡ lookup other old
  unfolding KeepsOthers
  others old new h = h

abbrev found : BTreeMap (ℕ × Bor (List ℕ)) Entry → List ℕ → Option Entry
found m cs = tree.get_by (key_cmp (tail_from 0 cs) cs) m

updated : (bs : List ℕ) (m n : BTreeMap (ℕ × Bor (List ℕ)) Entry) (e : Entry) → tree.UpdatesBy (λ x y. ordering_then (nat_cmp x.0 y.0) (slice_cmp nat_cmp x.1.now y.1.now)) (key_cmp (tail_from 0 bs) bs) m n (Some e) → (cs : List ℕ) → (b : Bool) → bytes_eq bs cs ≡ b
    → found n cs ≡ cond b (Some e) (found m cs)
updated bs m n e u cs true y = subst (λ l. found n l ≡ Some e) ((bytes_decides bs cs).0 y) u.1
updated bs m n e u cs false y = others _ _ _ _ u.3 (is_at (key_cmp (tail_from 0 cs) cs)) (λ x z. same_keys.congr (tail_from 0 cs, cs) (seen x) (seen z)) (apart bs cs y)

mapped : (b : Bool) (e : Entry) (o : Option Entry) → option_map meant (cond b (Some e) o) ≡ cond b (Some (meant e)) (option_map meant o)
mapped true e o = refl
mapped false e o = refl

pub declared : (bs : List ℕ) (m n : BTreeMap (ℕ × Bor (List ℕ)) Entry) (e : Entry) (t : ℕ) (ks : List ℕ) → t ≡ tail_from 0 bs → ks ≡ bs
    → tree.UpdatesBy (λ x y. ordering_then (nat_cmp x.0 y.0) (slice_cmp nat_cmp x.1.now y.1.now)) (key_cmp t ks) m n (Some e) → (cs : List ℕ)
    → option_map meant (found n cs) ≡ with_entry bs (meant e) (λ q. option_map meant (found m q)) cs
declared bs m n e t ks p q u cs =
    let first = subst (λ (a : ℕ). tree.UpdatesBy (λ x y. ordering_then (nat_cmp x.0 y.0) (slice_cmp nat_cmp x.1.now y.1.now)) (key_cmp a ks) m n (Some e)) p u in
    let second = subst (λ (l : List ℕ). tree.UpdatesBy (λ x y. ordering_then (nat_cmp x.0 y.0) (slice_cmp nat_cmp x.1.now y.1.now)) (key_cmp (tail_from 0 bs) l) m n (Some e)) q first in
    ap (option_map meant) (updated bs m n e second cs (bytes_eq bs cs) refl) ∙ mapped (bytes_eq bs cs) e (found m cs)
