-- Parts whose variables rise, and from which place on they are looked at.
use Rattle.std.proofs.Common.{◌≡◌, ◌∙◌, ℕ, zero, suc, ◌+◌, ◌<◌, ◌≤◌, List, [], ◌∷◌, ◌++◌, length, take, get_or, ap, sym, subst, refl, arith, Bool, true}
use Rattle.std.specs.Prelude.{slice_index}
use Rattle.fz_spec.specs.Instance.{SearchPart}
use Rattle.fz_branch.specs.Plans.{AreRising, IsRising}

-- the first that many rise
abbrev pub rising_to : ℕ → List ℕ → Type 0
rising_to n vs = (j k : ℕ) → j ≤ k → k < n → slice_index vs j ≤ slice_index vs k

-- ---- of each part

said_suc : (bs : List Bool) (ps : List SearchPart) (i : ℕ) (b : Bool) (p : SearchPart) → i < length ps → p ≡ get_or ps i p → (b ≡ true → IsRising p.variables) → AreRising bs (take i ps) → AreRising (bs ++ b ∷ []) (take (suc i) ps)
said_suc bs [] i b p lt is here all = absurd (omega (arith, lt))
said_suc [] (q ∷ ps) zero b p lt is here all = (subst (λ (r : SearchPart). b ≡ true → IsRising r.variables) is here, tt)
said_suc (c ∷ bs) (q ∷ ps) zero b p lt is here all = absurd all
said_suc [] (q ∷ ps) (suc i) b p lt is here all = absurd all
said_suc (c ∷ bs) (q ∷ ps) (suc i) b p lt is here all = (all.0, said_suc bs ps i b p (omega (arith, lt)) is here all.1)

pub said_more : (bs after : List Bool) (ps : List SearchPart) (i : ℕ) (b : Bool) (p : SearchPart) → i < length ps → p ≡ get_or ps i p → after ≡ bs ++ b ∷ [] → (b ≡ true → IsRising p.variables) → AreRising bs (take i ps)
    → AreRising after (take (i + 1) ps)
said_more bs after ps i b p lt is more here all =
    let next : suc i ≡ i + 1 = omega arith in
    subst (λ (l : List Bool). AreRising l (take (i + 1) ps)) (sym more) (subst (λ n. AreRising (bs ++ b ∷ []) (take n ps)) next (said_suc bs ps i b p lt is here all))

pub said_size : (bs : List Bool) (ps : List SearchPart) → AreRising bs ps → length bs ≡ length ps
said_size [] [] all = refl
said_size [] (p ∷ ps) all = absurd all
said_size (b ∷ bs) [] all = absurd all
said_size (b ∷ bs) (p ∷ ps) all = ap suc (said_size bs ps all.1)

pub said_at : (bs : List Bool) (ps : List SearchPart) (i : ℕ) (b : Bool) (p : SearchPart) → i < length ps → b ≡ get_or bs i b → p ≡ get_or ps i p → AreRising bs ps → b ≡ true → IsRising p.variables
said_at bs [] i b p lt is_b is_p all says = absurd (omega (arith, lt))
said_at [] (q ∷ ps) i b p lt is_b is_p all says = absurd all
said_at (c ∷ bs) (q ∷ ps) zero b p lt is_b is_p all says = subst (λ (r : SearchPart). IsRising r.variables) (sym is_p) (all.0 (sym is_b ∙ says))
said_at (c ∷ bs) (q ∷ ps) (suc i) b p lt is_b is_p all says = said_at bs ps i b p (omega (arith, lt)) is_b is_p all.1 says
