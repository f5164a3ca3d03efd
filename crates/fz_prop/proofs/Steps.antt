-- A change of one domain is a step of the store.
use Rattle.std.proofs.Common.{◌≡◌, ◌≢◌, ℕ, ◌+◌, ◌<◌, ◌≤◌, List, [], ◌∷◌, ◌++◌, refl, sym, subst, ◌∙◌, arith, length, true, false, nat_eq, inl, inr, cond, max, get_or-set_same, get_or-set_other, suc, ap, drop, drop-cons, get_or, length-append}
use Rattle.std.specs.Prelude.{ℤ, pos, ◌-ℤ◌, ◌↔◌, slice_set, slice_index}
use Rattle.std.proofs.lemmas.Int.{ints}
use Rattle.std.specs.List.{AllByRecursion}
use Rattle.std.proofs.lemmas.List.{length-set, set-get_or}
use Rattle.std.proofs.lemmas.List.Sums.{sum_by-set}
use Rattle.fz_sets.specs.Sets.{IsInSet, set_size}
use Rattle.fz_dom.specs.Shape.{IsDomain, least, greatest}
use Rattle.fz_dom.specs.Changes.{IsKeeping}
use Rattle.fz_dom.specs.declared.change.Change.{Change}
use Rattle.fz_dom.specs.declared.change.Change.TheVariants.{Same, Changed, Wiped}
use Rattle.fz_strength.specs.declared.event.Event.{Event}
use Rattle.fz_strength.specs.Domains.{dom_at, room}
use Rattle.fz_strength.specs.Events.{level, IsQuiet}
use Rattle.fz_strength.proofs.Terms.{quiet_self}
use Rattle.fz_sets.proofs.Lists.{by_place}
use Rattle.fz_prop.specs.Cuts.{change_level}
use Rattle.fz_prop.specs.Stores.{Stored, IsStore, Shrinks, NarrowsAt, IsChangeAt, IsCut, IsNoted, mark_at, IsListed, AreListedOnce, with_listed, with_dom, without_first}
use Rattle.fz_prop.proofs.Levels.{tells, at_least_one}
use Rattle.fz_prop.proofs.Listed.{listed_still, listed_now, listed_or_same, all_listed, once_listed, drop_listed, length_listed, few_listed}

-- ---- the step

pub record IsStep (s : Stored) (v : ℕ) (P : ℤ → Type 0) (t : Stored) : Type 0 where
  pub store : IsStore t
  pub shrinks : Shrinks s t
  pub narrows : NarrowsAt v P s t

pub step : (s : Stored) (v : ℕ) (P : ℤ → Type 0) (e : List (ℤ × ℤ)) (n : ℕ) → IsStore s → v < length s.doms → n ≡ change_level (least (dom_at s.doms v)) (greatest (dom_at s.doms v)) e
    → IsKeeping P (dom_at s.doms v) e → set_size e < set_size (dom_at s.doms v) → 0 < length e → IsDomain e → IsStep s v P (with_dom s v e n)
step s v P e n is within level_is keeping smaller filled domain =
    let ds = s.doms in
    let d : List (ℤ × ℤ) = dom_at ds v in
    let t : Stored = with_dom s v e n in
    let in_marks : v < length s.marks = omega (arith, within, is.size) in
    let here : dom_at t.doms v ≡ e = get_or-set_same ds v e [] within in
    let there : (u : ℕ) → u ≢ v → dom_at t.doms u ≡ dom_at ds u = λ u ne. get_or-set_other ds v u e [] ne in
    let mark_here : mark_at t v ≡ max (mark_at s v) n = get_or-set_same s.marks v (max (mark_at s v) n) 0 in_marks in
    let mark_there : (u : ℕ) → u ≢ v → mark_at t u ≡ mark_at s u = λ u ne. get_or-set_other s.marks v u (max (mark_at s v) n) 0 ne in
    let size : length t.doms ≡ length ds = length-set ds v e in
    let marks_size : length t.marks ≡ length s.marks = length-set s.marks v (max (mark_at s v) n) in
    let falls : room t.doms < room ds = omega (arith, smaller, sum_by-set set_size ds v e [] within) in
    let inside : AllByRecursion (λ u. u < length t.doms) t.changed =
    all_listed (λ u. u < length t.doms) (mark_at s v) v s.changed (omega (arith, within, size)) (subst (λ (k : ℕ). AllByRecursion (λ u. u < k) s.changed) (sym size) is.inside) in
    let once : AreListedOnce t.changed = once_listed (mark_at s v) v s.changed (is.marked v) is.once in
    record {
      store = record {
        size = marks_size ∙ (is.size ∙ sym size);
        domains = by_place (λ u. u < length t.doms → IsDomain (dom_at t.doms u) × (0 < length (dom_at t.doms u))) v
            (λ h. rw here (domain, filled))
            (λ u ne h. rw (there u ne) (is.domains u (omega (arith, h, size))));
        listed = by_place (λ u. 0 < mark_at t u → IsListed t.changed u) v
            (λ h. listed_now (mark_at s v) v s.changed (is.listed v))
            (λ u ne h. listed_still (mark_at s v) v u s.changed (is.listed u (rw (mark_there u ne) at h)));
        marked = by_place (λ u. IsListed t.changed u → 0 < mark_at t u) v
            (λ h. omega (arith, mark_here, level_is, at_least_one e (least d) (greatest d)))
            (λ u ne h. elim (listed_or_same (mark_at s v) v u s.changed h) [ inl before ↦ rw (mark_there u ne) (is.marked u before) | inr same ↦ absurd (ne (sym same)) ]);
        once = once;
        inside = inside;
        few = few_listed t.changed (length t.doms) once inside;
      };
      shrinks = record {
        narrower = record {
          size = size;
          members = by_place (λ u. (x : ℤ) → IsInSet (dom_at t.doms u) x → IsInSet (dom_at ds u) x) v
              (λ x i. ((keeping x).0 (rw here at i)).0)
              (λ u ne x i. rw (there u ne) at i);
        };
        marks_grow = by_place (λ u. mark_at s u ≤ mark_at t u) v (omega (arith, mark_here)) (λ u ne. omega (arith, mark_there u ne));
        marks_tell = by_place (λ u. (event : Event) → mark_at t u < level event → IsQuiet event (dom_at ds u) (dom_at t.doms u)) v
            (λ event h. rw here (tells d e event (omega (arith, h, mark_here, level_is))))
            (λ u ne event h. rw (there u ne) (quiet_self event (dom_at ds u)));
        falls = inr falls;
      };
      narrows = record {
        kept = λ x. rw here (keeping x);
        others = there;
        whole = rw (here, ← level_is) refl;
        smaller = rw here smaller;
        filled = rw here filled;
        falls = falls;
      };
    }

pub same_shrinks : (s : Stored) → Shrinks s s
same_shrinks s = record {
  narrower = record { size = refl; members = λ v x i. i };
  marks_grow = λ v. omega arith;
  marks_tell = λ v event h. quiet_self event (dom_at s.doms v);
  falls = inl refl;
}

-- a domain that is put where it stood changes nothing
pub put_back : (ds : List (List (ℤ × ℤ))) (v : ℕ) (e : List (ℤ × ℤ)) → e ≡ dom_at ds v → slice_set ds v e ≡ ds
put_back ds v e same = rw same (set-get_or ds v [])

-- the first is taken from the list
pub taken_store : (s : Stored) (v : ℕ) (rest : List ℕ) → IsStore s → s.changed ≡ v ∷ rest → IsStore (without_first s v rest)
taken_store s v rest is list =
    let t : Stored = without_first s v rest in
    let once : AreListedOnce (v ∷ rest) = subst AreListedOnce list is.once in
    let inside : AllByRecursion (λ u. u < length s.doms) (v ∷ rest) = subst (AllByRecursion (λ u. u < length s.doms)) list is.inside in
    let there : (u : ℕ) → u ≢ v → mark_at t u ≡ mark_at s u = λ u ne. get_or-set_other s.marks v u 0 0 ne in
    let here : mark_at t v ≡ 0 = get_or-set_same s.marks v 0 0 (omega (arith, inside.0, is.size)) in
    record {
      size = length-set s.marks v 0 ∙ is.size;
      domains = is.domains;
      listed = by_place (λ u. 0 < mark_at t u → IsListed rest u) v (λ h. absurd (omega (arith, h, here)))
          (λ u ne h. elim (subst (λ (l : List ℕ). IsListed l u) list (is.listed u (rw (there u ne) at h))) [ inl same ↦ absurd (ne (sym same)) | inr more ↦ more ]);
      marked = by_place (λ u. IsListed rest u → 0 < mark_at t u) v (λ h. absurd (once.0 h))
          (λ u ne h. rw (there u ne) (is.marked u (subst (λ (l : List ℕ). IsListed l u) (sym list) (inr h))));
      once = once.1;
      inside = inside.1;
      few = few_listed rest (length s.doms) once.1 inside.1;
    }

-- ---- the step of a store that is kept as lists, with the changed variables after a place

record IsKeptStep (ds es : List (List (ℤ × ℤ))) (ms ns cs gs : List ℕ) (h v : ℕ) (P : ℤ → Type 0) : Type 0 where
  step : IsStep (record { doms = ds; marks = ms; changed = drop h cs }) v P (record { doms = es; marks = ns; changed = drop h gs })
  head : h ≤ length gs

kept_step : (ds : List (List (ℤ × ℤ))) (ms ns cs bs gs : List ℕ) (h v n : ℕ) (e : List (ℤ × ℤ)) (P : ℤ → Type 0)
    → IsStore (record { doms = ds; marks = ms; changed = drop h cs }) → h ≤ length cs → v < length ds → n ≡ change_level (least (dom_at ds v)) (greatest (dom_at ds v)) e
    → IsKeeping P (dom_at ds v) e → set_size e < set_size (dom_at ds v) → 0 < length e → IsDomain e
    → bs ≡ cs → ns ≡ slice_set ms v (max (slice_index ms v) n) → gs ≡ with_listed (slice_index ms v) v bs
    → IsKeptStep ds (slice_set ds v e) ms ns cs gs h v P
kept_step ds ms ns cs bs gs h v n e P is head within level_is keeping smaller filled domain same_bs at_marks at_changed =
    let s : Stored = record { doms = ds; marks = ms; changed = drop h cs } in
    let moved : drop h gs ≡ with_listed (slice_index ms v) v (drop h cs) = rw (at_changed, same_bs) (drop_listed h (slice_index ms v) v cs head) in
    record {
      step = rw (at_marks, moved) (step s v P e n is within level_is keeping smaller filled domain);
      head = rw (at_changed, same_bs) (omega (arith, head, length_listed (slice_index ms v) v cs));
    }

abbrev kept : List (List (ℤ × ℤ)) → List ℕ → List ℕ → ℕ → Stored
kept ds ms cs h = record { doms = ds; marks = ms; changed = drop h cs }

-- the same of every change
pub record IsKeptChange (change : Change) (ds es : List (List (ℤ × ℤ))) (ms ns cs gs : List ℕ) (h v : ℕ) (P : ℤ → Type 0) : Type 0 where
  pub store : IsStore (kept es ns gs h)
  pub head : h ≤ length gs
  pub few : h ≤ length es
  pub shrinks : Shrinks (kept ds ms cs h) (kept es ns gs h)
  pub is : IsChangeAt change v P (kept ds ms cs h) (kept es ns gs h)

kept_same : (ds es : List (List (ℤ × ℤ))) (ms ns cs gs : List ℕ) (h : ℕ) → es ≡ ds → ns ≡ ms → gs ≡ cs → kept es ns gs h ≡ kept ds ms cs h
kept_same ds es ms ns cs gs h same_doms same_marks same_changed = rw (same_doms, same_marks, same_changed) refl

kept_few : (ds : List (List (ℤ × ℤ))) (h v : ℕ) (e : List (ℤ × ℤ)) → h ≤ length ds → h ≤ length (slice_set ds v e)
kept_few ds h v e few = omega (arith, few, length-set ds v e)

pub kept_change : (change : Change) (ds : List (List (ℤ × ℤ))) (ms ns cs bs gs : List ℕ) (h v n : ℕ) (e : List (ℤ × ℤ)) (P : ℤ → Type 0)
    → IsStore (kept ds ms cs h) → (h ≤ length cs) × (h ≤ length ds) → v < length ds → IsCut change n P (dom_at ds v) e → IsDomain e → bs ≡ cs → IsNoted change n v ms ns bs gs
    → IsKeptChange change ds (slice_set ds v e) ms ns cs gs h v P
kept_change Changed ds ms ns cs bs gs h v n e P is head within cut domain same_bs noted =
    let s = kept_step ds ms ns cs bs gs h v n e P is head.0 within cut.1 cut.0.0 cut.0.1 cut.0.2 domain same_bs noted.0 noted.1 in
    record { store = s.step.store; head = s.head; few = kept_few ds h v e head.1; shrinks = s.step.shrinks; is = s.step.narrows }
kept_change Same ds ms ns cs bs gs h v n e P is head within cut domain same_bs noted =
    let same = kept_same ds (slice_set ds v e) ms ns cs gs h (put_back ds v e cut.0.0) noted.0 (noted.1 ∙ same_bs) in
    record {
      store = subst IsStore (sym same) is;
      head = rw (noted.1, same_bs) head.0;
      few = kept_few ds h v e head.1;
      shrinks = subst (Shrinks (kept ds ms cs h)) (sym same) (same_shrinks (kept ds ms cs h));
      is = (same, cut.0.1);
    }
kept_change Wiped ds ms ns cs bs gs h v n e P is head within cut domain same_bs noted =
    let same = kept_same ds (slice_set ds v e) ms ns cs gs h (put_back ds v e cut.0.0) noted.0 (noted.1 ∙ same_bs) in
    record {
      store = subst IsStore (sym same) is;
      head = rw (noted.1, same_bs) head.0;
      few = kept_few ds h v e head.1;
      shrinks = subst (Shrinks (kept ds ms cs h)) (sym same) (same_shrinks (kept ds ms cs h));
      is = (same, cut.0.1);
    }

-- and of a list from which the first is taken
pub kept_taken : (ds : List (List (ℤ × ℤ))) (ms cs gs : List ℕ) (h k v x : ℕ) → IsStore (kept ds ms cs h) → h < length cs → x ≡ get_or cs h v → drop k gs ≡ drop (h + 1) cs
    → IsStore (kept ds (slice_set ms x 0) gs k)
kept_taken ds ms cs gs h k v x is within first left =
    let next : suc h ≡ h + 1 = omega arith in
    let from : drop h cs ≡ get_or cs h v ∷ drop (h + 1) cs = rw next at (drop-cons cs h v within) in
    let here : drop h cs ≡ x ∷ drop k gs = rw (first, left) from in
    taken_store (kept ds ms cs h) x (drop k gs) is here

-- a change by another property that says the same of all numbers that were left
pub change_at_as : (change : Change) (v : ℕ) (P Q : ℤ → Type 0) (s t : Stored) → ((x : ℤ) → IsInSet (dom_at s.doms v) x → P x ↔ Q x) → IsChangeAt change v P s t
    → IsChangeAt change v Q s t
change_at_as Same v P Q s t f h = (h.0, λ x i. (f x i).0 (h.1 x i))
change_at_as Wiped v P Q s t f h = (h.0, λ x i q. h.1 x i ((f x i).1 q))
change_at_as Changed v P Q s t f h = record {
  kept = λ x. ((λ i. let k = (h.kept x).0 i in (k.0, (f x k.0).0 k.1)), (λ k. (h.kept x).1 (k.0, (f x k.0).1 k.1)));
  others = h.others;
  whole = h.whole;
  smaller = h.smaller;
  filled = h.filled;
  falls = h.falls;
}

unmoved : (d : List (ℤ × ℤ)) (c x : ℤ) → c ≡ pos 0 → IsInSet d (x -ℤ c) ↔ IsInSet d x
unmoved d c x z =
    let s : (x -ℤ c) ≡ x = omega (arith, ints, z) in
    ((λ m. subst (λ (y : ℤ). IsInSet d y) s m), (λ m. subst (λ (y : ℤ). IsInSet d y) (sym s) m))

pub change_unmoved : (change : Change) (v : ℕ) (d : List (ℤ × ℤ)) (c : ℤ) (s t : Stored) → c ≡ pos 0 → IsChangeAt change v (λ x. IsInSet d (x -ℤ c)) s t
    → IsChangeAt change v (λ x. IsInSet d x) s t
change_unmoved change v d c s t z h = change_at_as change v (λ x. IsInSet d (x -ℤ c)) (λ x. IsInSet d x) s t (λ x i. unmoved d c x z) h
