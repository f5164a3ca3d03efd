-- A store that is narrowed twice.
use Rattle.std.proofs.Common.{◌≡◌, ◌<◌, ◌≤◌, List, sym, ap, ◌∙◌, subst, arith, ◌⊎◌, inl, inr}
use Rattle.std.specs.Prelude.{ℤ}
use Rattle.fz_strength.specs.declared.event.Event.{Event}
use Rattle.fz_strength.specs.declared.event.Event.TheVariants.{Any, Bound, Fixed}
use Rattle.fz_strength.specs.Domains.{IsNarrower, dom_at, room}
use Rattle.fz_strength.specs.Events.{IsQuiet}
use Rattle.fz_prop.specs.Stores.{Stored, Shrinks}

pub narrower_twice : (ds es fs : List (List (ℤ × ℤ))) → IsNarrower ds es → IsNarrower es fs → IsNarrower ds fs
narrower_twice ds es fs p q = record { size = q.size ∙ p.size; members = λ v x i. p.members v x (q.members v x i) }

quiet_twice : (event : Event) (d e f : List (ℤ × ℤ)) → IsQuiet event d e → IsQuiet event e f → IsQuiet event d f
quiet_twice Any d e f p q = p ∙ q
quiet_twice Bound d e f p q = (p.0 ∙ q.0, p.1 ∙ q.1, λ x only. p.2 x (q.2 x only ∙ only) ∙ q.2 x only)
quiet_twice Fixed d e f p q = λ x only. p x (q x only ∙ only) ∙ q x only

falls_twice : (r s t : Stored) → (s ≡ r) ⊎ (room s.doms < room r.doms) → (t ≡ s) ⊎ (room t.doms < room s.doms) → (t ≡ r) ⊎ (room t.doms < room r.doms)
falls_twice r s t (inl p) (inl q) = inl (q ∙ p)
falls_twice r s t (inl p) (inr q) = inr (subst (λ (u : Stored). room t.doms < room u.doms) p q)
falls_twice r s t (inr p) (inl q) = inr (subst (λ (u : Stored). room u.doms < room r.doms) (sym q) p)
falls_twice r s t (inr p) (inr q) = inr (omega (arith, p, q))

-- narrowing twice is narrowing
pub shrinks_twice : (r s t : Stored) → Shrinks r s → Shrinks s t → Shrinks r t
shrinks_twice r s t p q = record {
  narrower = narrower_twice r.doms s.doms t.doms p.narrower q.narrower;
  marks_grow = λ v. omega (arith, p.marks_grow v, q.marks_grow v);
  marks_tell = λ v event h. quiet_twice event (dom_at r.doms v) (dom_at s.doms v) (dom_at t.doms v) (p.marks_tell v event (omega (arith, h, q.marks_grow v))) (q.marks_tell v event h);
  falls = falls_twice r s t p.falls q.falls;
}

pub room_after : (r s : Stored) → Shrinks r s → room s.doms ≤ room r.doms
room_after r s h = elim h.falls [ inl same ↦ (let f = ap (λ (t : Stored). room t.doms) same in omega (arith, f)) | inr less ↦ omega (arith, less) ]
