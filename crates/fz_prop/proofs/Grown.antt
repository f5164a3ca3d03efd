-- A list of ranges with one number more, and the limits of what is left of terms.
use Rattle.std.proofs.Common.{◌≡◌, ◌≢◌, List, [], ◌∷◌, ◌++◌, sym, subst, arith, length, ◌⊎◌, inl, inr}
use Rattle.std.specs.Prelude.{ℤ}
use Rattle.std.proofs.lemmas.Int.{ints, by_lt_z}
use Rattle.fz_sets.specs.Sets.{IsInSet, IsWithinLimits, AreWithinLimits}
use Rattle.fz_dom.proofs.Kept.{limits_of}
use Rattle.fz_spec.specs.declared.term.Term.{Term}
use Rattle.fz_spec.specs.declared.term.Term.TheVariants.{Num, Var}
use Rattle.fz_strength.specs.Domains.{dom_at, term_set, AreDomains, IsTermOf}
use Rattle.fz_strength.proofs.Terms.{is_single}
use Rattle.fz_prop.specs.Stores.{FitsTerm}

pub in_more : (rs : List (ℤ × ℤ)) (x y : ℤ) → IsInSet (rs ++ (x, x) ∷ []) y → IsInSet rs y ⊎ (y ≡ x)
in_more [] x y is = elim is [ inl h ↦ inr (omega (arith, ints, h.0, h.1)) | inr h ↦ absurd h ]
in_more (r ∷ rs) x y is = elim is [
  | inl h ↦ inl (inl h)
  | inr h ↦ elim (in_more rs x y h) [ inl g ↦ inl (inr g) | inr e ↦ inr e ]
]

pub in_before : (rs : List (ℤ × ℤ)) (x y : ℤ) → IsInSet rs y → IsInSet (rs ++ (x, x) ∷ []) y
in_before [] x y is = absurd is
in_before (r ∷ rs) x y is = elim is [ inl h ↦ inl h | inr h ↦ inr (in_before rs x y h) ]

pub in_last : (rs : List (ℤ × ℤ)) (x y : ℤ) → y ≡ x → IsInSet (rs ++ (x, x) ∷ []) y
in_last [] x y e = inl (omega (arith, ints, e), omega (arith, ints, e))
in_last (r ∷ rs) x y e = inr (in_last rs x y e)

pub limits_more : (rs : List (ℤ × ℤ)) (x : ℤ) → AreWithinLimits rs → IsWithinLimits x → AreWithinLimits (rs ++ (x, x) ∷ [])
limits_more [] x all within = (within, within, tt)
limits_more (r ∷ rs) x all within = (all.0, all.1, limits_more rs x all.2 within)

pub term_limits : (ds : List (List (ℤ × ℤ))) (t : Term) (x : ℤ) → IsTermOf (length ds) t → AreDomains ds → FitsTerm t → IsInSet (term_set ds t) x → IsWithinLimits x
term_limits ds (Num n) x is domains fits member = subst IsWithinLimits (sym (is_single x n member)) fits
term_limits ds (Var v) x is domains fits member = limits_of (dom_at ds v) x (domains v is).0 member

-- ---- two numbers

pub same_or_other : (x y : ℤ) → (x ≡ y) ⊎ (x ≢ y)
same_or_other x y =
    by_lt_z x y (λ below. inr (λ same. omega (arith, ints, below, same))) (λ from. by_lt_z y x (λ above. inr (λ same. omega (arith, ints, above, same))) (λ to. inl (omega (arith, ints, from, to))))
