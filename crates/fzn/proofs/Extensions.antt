-- Solutions that are found, and better ones, can be gone on with until nothing is missing.
use Rattle.std.proofs.Common.{◌≡◌, ◌∙◌, ◌≤◌, ◌+◌, ◌⊎◌, inl, inr, ℕ, zero, suc, List, [], ◌∷◌, ◌++◌, append_assoc, append-nil, refl, sym, ap, subst, arith, Bool, true, false}
use Rattle.std.specs.Prelude.{ℤ}
use Rattle.std.specs.List.{AllByRecursion, count_by}
use Rattle.std.proofs.lemmas.Int.{ints}
use Rattle.fz_spec.specs.Instance.{Instance, Satisfies, IsBetter, AreImproving, is_same}
use Rattle.fz_tree.specs.declared.mode.Mode.{Mode}
use Rattle.fz_tree.specs.Rows.{key}
use Rattle.fz_tree.specs.Account.{times_found}
use Rattle.fz_tree.specs.Measure.{all_declared}
use Rattle.fz_tree.proofs.Counts.{one_if}
use Rattle.fz_tree.proofs.Same.{same_means, same_self, one_more, found_both, all_push}
use Rattle.fz_tree.proofs.Orders.{better_transitive}
use Rattle.fz_runs.specs.Runs.{EndsBest, ListsEach}
use Rattle.fz_runs.specs.Modes.{mode_of}
use Rattle.fz_refutes.proofs.Decisions.{satisfies, better}
use Rattle.fzn.proofs.Among.{IsAmong, declared_among}

-- ---- all solutions

abbrev AreOnce : Mode → Instance → List (List ℤ) → Type 0
AreOnce mode m l = (a : List ℤ) → Satisfies m a → times_found mode m a l ≤ 1

-- a list that begins with another, and has each of some candidates that satisfies
record Extends (mode : Mode) (m : Instance) (l cs : List (List ℤ)) : Type 0 where
  more : List (List ℤ)
  sound : AllByRecursion (Satisfies m) (l ++ more)
  once : AreOnce mode m (l ++ more)
  has : (a : List ℤ) → Satisfies m a → IsAmong a cs → 1 ≤ times_found mode m a (l ++ more)

module _ (mode : Mode) (m : Instance) where
  -- one more, which wasn't there
  once_by : (a c : List ℤ) (l : List (List ℤ)) (b : Bool) → is_same (key mode m a) (key mode m c) ≡ b → times_found mode m a l ≤ 1 → times_found mode m c l ≡ 0 → times_found mode m a l + one_if b ≤ 1
  once_by a c l true e once none =
      let here : times_found mode m a l ≡ 0 = ap (λ (k : List ℤ). count_by (λ (x : List ℤ). is_same k (key mode m x)) l) (same_means (key mode m a) (key mode m c) e) ∙ none in
      omega (arith, here)
  once_by a c l false e once none = omega (arith, once)

  once_more : (c : List ℤ) (l : List (List ℤ)) → AreOnce mode m l → times_found mode m c l ≡ 0 → AreOnce mode m (l ++ c ∷ [])
  once_more c l once none a s =
      let is = one_more mode m a c l in
      let few = once_by a c l (is_same (key mode m a) (key mode m c)) refl (once a s) none in
      omega (arith, is, few)

  -- what is there stays there
  stays_there : (c : List ℤ) (l more : List (List ℤ)) → 1 ≤ times_found mode m c l → 1 ≤ times_found mode m c (l ++ more)
  stays_there c l more h = let e = found_both mode m c l more in omega (arith, e, h)

  is_there : (c : List ℤ) (l : List (List ℤ)) → 1 ≤ times_found mode m c (l ++ c ∷ [])
  is_there c l =
      let e = one_more mode m c c l in
      let one : one_if (is_same (key mode m c) (key mode m c)) ≡ 1 = ap one_if (same_self (key mode m c)) in
      omega (arith, e, one)

  -- a candidate that satisfies is added, unless it is there
  extends_by : (c : List ℤ) (cs l : List (List ℤ)) (n : ℕ) → times_found mode m c l ≡ n → Extends mode m l cs → (times_found mode m c l ≡ 0 → Extends mode m (l ++ c ∷ []) cs) → Extends mode m l (c ∷ cs)
  extends_by c cs l zero none here added =
      let rest = added none in
      let same : (l ++ c ∷ []) ++ rest.more ≡ l ++ c ∷ rest.more = append_assoc l (c ∷ []) rest.more in
      record {
        more = c ∷ rest.more;
        sound = subst (λ (k : List (List ℤ)). AllByRecursion (Satisfies m) k) same rest.sound;
        once = subst (λ (k : List (List ℤ)). AreOnce mode m k) same rest.once;
        has = λ a t among. subst (λ (k : List (List ℤ)). 1 ≤ times_found mode m a k) same (elim among [
          | inl e ↦ subst (λ (x : List ℤ). 1 ≤ times_found mode m x ((l ++ c ∷ []) ++ rest.more)) (sym e) (stays_there c (l ++ c ∷ []) rest.more (is_there c l))
          | inr h ↦ rest.has a t h
        ]);
      }
  extends_by c cs l (suc n) some rest added = record {
    more = rest.more;
    sound = rest.sound;
    once = rest.once;
    has = λ a t among. elim among [
      | inl e ↦ subst (λ (x : List ℤ). 1 ≤ times_found mode m x (l ++ rest.more)) (sym e) (stays_there c l rest.more (omega (arith, some)))
      | inr h ↦ rest.has a t h
    ];
  }

  extends : (cs l : List (List ℤ)) → AllByRecursion (Satisfies m) l → AreOnce mode m l → Extends mode m l cs
  extends [] l sound once = record {
    more = [];
    sound = subst (λ (k : List (List ℤ)). AllByRecursion (Satisfies m) k) (sym (append-nil l)) sound;
    once = subst (λ (k : List (List ℤ)). AreOnce mode m k) (sym (append-nil l)) once;
    has = λ a s among. absurd among;
  }
  extends (c ∷ cs) l sound once = elim (satisfies m c) [
    | inl s ↦
        extends_by c cs l (times_found mode m c l) refl (extends cs l sound once)
        (λ none. extends cs (l ++ c ∷ []) (all_push (Satisfies m) l c sound s) (once_more c l once none))
    | inr not ↦
        let rest = extends cs l sound once in
        record {
          more = rest.more;
          sound = rest.sound;
          once = rest.once;
          has = λ a s among. elim among [ inl e ↦ absurd (not (subst (λ (x : List ℤ). Satisfies m x) e s)) | inr h ↦ rest.has a s h ];
        }
  ]

-- the list of all solutions, or of all rows, which begins with these
pub record ListsAll (distinct : Bool) (m : Instance) (l : List (List ℤ)) : Type 0 where
  pub more : List (List ℤ)
  pub sound : AllByRecursion (Satisfies m) (l ++ more)
  pub each_once : (a : List ℤ) → Satisfies m a → times_found (mode_of distinct) m a (l ++ more) ≡ 1

pub lists_each : (distinct : Bool) (m : Instance) (l : List (List ℤ)) → AllByRecursion (Satisfies m) l → ((a : List ℤ) → Satisfies m a → times_found (mode_of distinct) m a l ≡ 1) → ListsEach distinct m l
lists_each false m l sound once = record { sound = sound; each_once = once }
lists_each true m l sound once = record { sound = sound; each_once = once }

pub lists_all : (distinct : Bool) (m : Instance) (l : List (List ℤ)) → AllByRecursion (Satisfies m) l → ((a : List ℤ) → Satisfies m a → times_found (mode_of distinct) m a l ≤ 1) → ListsAll distinct m l
lists_all distinct m l sound once =
    let whole = extends (mode_of distinct) m (all_declared m.variables) l sound once in
    record {
      more = whole.more;
      sound = whole.sound;
      each_once = λ a s. (let few = whole.once a s in let some = whole.has a s (declared_among m.variables a s.declared) in omega (arith, few, some));
    }

-- ---- better ones

-- a list that begins with another, in which each is better than the one before it, up to a best one
pub record GoesUp (m : Instance) (l : List (List ℤ)) : Type 0 where
  pub more : List (List ℤ)
  pub sound : AllByRecursion (Satisfies m) (l ++ more)
  pub improving : AreImproving m (l ++ more)
  pub ends : EndsBest m (l ++ more)

-- each satisfying assignment is among the candidates, or isn't better than this one
abbrev Remains : Instance → List (List ℤ) → List ℤ → Type 0
Remains m cs x = (a : List ℤ) → Satisfies m a → IsAmong a cs ⊎ (IsBetter m a x → ⊥)

not_itself : (m : Instance) (a c : List ℤ) → a ≡ c → IsBetter m a c → ⊥
not_itself m a c e h = let less = (subst (λ (x : List ℤ). IsBetter m x c) e h).less in omega (arith, ints, less)

goes_up : (m : Instance) (cs : List (List ℤ)) (x : List ℤ) → Satisfies m x → Remains m cs x → GoesUp m (x ∷ [])
goes_up m [] x s rest = record {
  more = [];
  sound = (s, tt);
  improving = tt;
  ends = record { satisfies = s; unbettered = λ b t h. elim (rest b t) [ inl among ↦ absurd among | inr not ↦ not h ] };
}
goes_up m (c ∷ cs) x s rest = elim (satisfies m c) [
  | inr not ↦ goes_up m cs x s (λ a t. elim (rest a t) [
    | inl among ↦ elim among [ inl e ↦ absurd (not (subst (λ (y : List ℤ). Satisfies m y) e t)) | inr h ↦ inl h ]
    | inr other ↦ inr other
  ])
  | inl of_c ↦ elim (better m c x) [
    | inl up ↦
        let higher = goes_up m cs c of_c (λ a t. elim (rest a t) [
          | inl among ↦ elim among [ inl e ↦ inr (not_itself m a c e) | inr h ↦ inl h ]
          | inr other ↦ inr (λ h. other (better_transitive m a c x h up))
        ]) in
        record { more = c ∷ higher.more; sound = (s, higher.sound); improving = (up, higher.improving); ends = higher.ends }
    | inr no_better ↦ goes_up m cs x s (λ a t. elim (rest a t) [
      | inl among ↦ elim among [ inl e ↦ inr (λ h. no_better (subst (λ (y : List ℤ). IsBetter m y x) e h)) | inr h ↦ inl h ]
      | inr other ↦ inr other
    ])
  ]
]

-- from nothing on
from_none : (m : Instance) (cs : List (List ℤ)) → ((a : List ℤ) → Satisfies m a → IsAmong a cs) → GoesUp m []
from_none m [] rest = record { more = []; sound = tt; improving = tt; ends = λ a s. rest a s }
from_none m (c ∷ cs) rest = elim (satisfies m c) [
  | inl s ↦
      let up = goes_up m cs c s (λ a t. elim (rest a t) [ inl e ↦ inr (not_itself m a c e) | inr h ↦ inl h ]) in
      record { more = c ∷ up.more; sound = up.sound; improving = up.improving; ends = up.ends }
  | inr not ↦ from_none m cs (λ a t. elim (rest a t) [ inl e ↦ absurd (not (subst (λ (y : List ℤ). Satisfies m y) e t)) | inr h ↦ h ])
]

pub goes_up_from : (m : Instance) (l : List (List ℤ)) → AllByRecursion (Satisfies m) l → AreImproving m l → GoesUp m l
goes_up_from m [] sound improving = from_none m (all_declared m.variables) (λ a s. declared_among m.variables a s.declared)
goes_up_from m (x ∷ []) sound improving = goes_up m (all_declared m.variables) x sound.0 (λ a s. inl (declared_among m.variables a s.declared))
goes_up_from m (x ∷ y ∷ ys) sound improving =
    let rest = goes_up_from m (y ∷ ys) sound.1 improving.1 in
    record { more = rest.more; sound = (sound.0, rest.sound); improving = (improving.0, rest.improving); ends = rest.ends }
