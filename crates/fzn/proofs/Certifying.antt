-- What a run shows can be certified.
use Rattle.std.proofs.Common.{◌≡◌, ◌≢◌, ◌∙◌, ◌-◌, inl, inr, ℕ, zero, suc, List, [], ◌∷◌, length, refl, sym, ap, subst, arith, Bool, true, false, Option, Some, None}
use Rattle.std.specs.Prelude.{ℤ, slice_get}
use Rattle.fz_spec.specs.declared.goal.Goal.{Goal}
use Rattle.fz_spec.specs.declared.goal.Goal.TheVariants.{Satisfy, Minimize, Maximize}
use Rattle.fz_spec.specs.declared.term.Term.{Term}
use Rattle.fz_spec.specs.Instance.{Instance}
use Rattle.fz_model.specs.Kept.{IsModel}
use Rattle.fz_refutes.proofs.Growing.{cert_exists}
use Rattle.fz_cmd.specs.Meaning.{Options}
use Rattle.fz_runs.specs.Runs.{EndsBest, IsCertificate, PrintsFor, PrintsGoal, PrintsWanted, ListsEach, certified, wanted, wanted_of}
use Rattle.fzn.specs.Begun.{IsCertifiable}

-- ---- a best one, or none

last_is_best : (m : Instance) (l : List (List ℤ)) → m.goal ≢ Satisfy → EndsBest m l → IsCertifiable m (Some (slice_get l (length l - 1)))
last_is_best m [] goal ends = (tt, λ b satisfies better. ends b satisfies)
last_is_best m (x ∷ []) goal ends = ((ends.satisfies, goal), λ b satisfies better. ends.unbettered b satisfies better)
last_is_best m (x ∷ y ∷ ys) goal ends =
    let one : suc (length ys) - 1 ≡ length ys = omega arith in
    let two : suc (suc (length ys)) - 1 ≡ suc (length ys) = omega arith in
    let last : slice_get (y ∷ ys) (suc (length ys) - 1) ≡ slice_get (x ∷ y ∷ ys) (suc (suc (length ys)) - 1) = ap (slice_get (y ∷ ys)) one ∙ ap (slice_get (x ∷ y ∷ ys)) (sym two) in
    subst (λ (head : Option (List ℤ)). IsCertifiable m (Some head)) last (last_is_best m (y ∷ ys) goal ends)

none_listed : (d : Bool) (m : Instance) → ListsEach d m [] → IsCertifiable m (Some None)
none_listed false m lists = (tt, λ b satisfies better. (let once = lists.each_once b satisfies in omega (arith, once)))
none_listed true m lists = (tt, λ b satisfies better. (let once = lists.each_once b satisfies in omega (arith, once)))

some_wanted : (all : Bool) (limit : Option ℕ) → wanted_of all limit ≡ Some 0 → ⊥
some_wanted all (Some zero) is = cc is
some_wanted all (Some (suc n)) is = cc is
some_wanted true None is = cc is
some_wanted false None is = cc is

none_wanted : (d : Bool) (m : Instance) (w : Option ℕ) (shown : List ℕ) → (w ≡ Some 0 → ⊥) → PrintsWanted d w m [] shown → IsCertifiable m (Some None)
none_wanted d m None shown some prints = none_listed d m prints.lists
none_wanted d m (Some n) shown some (inl few) = absurd (some (ap Some (sym few.are.count)))
none_wanted d m (Some n) shown some (inr all) = none_listed d m all.1.lists

-- ---- by the goal

of_satisfy : (asked : Bool) (m : Instance) (o : Options) (l : List (List ℤ)) (shown : List ℕ) → PrintsWanted o.distinct (wanted o) m l shown → IsCertifiable m (certified asked Satisfy l)
of_satisfy false m o l shown prints = tt
of_satisfy true m o [] shown prints = none_wanted o.distinct m (wanted o) shown (some_wanted o.all o.limit) prints
of_satisfy true m o (a ∷ l) shown prints = tt

ends_best : (generate : Option ℕ) (all : Bool) (t : Term) (m : Instance) (l : List (List ℤ)) (shown : List ℕ) → PrintsGoal generate all t m l shown → EndsBest m l
ends_best None all t m l shown prints = prints.are.last
ends_best (Some items) all t m l shown prints = prints.are.last

of_minimize : (asked : Bool) (t : Term) (m : Instance) (l : List (List ℤ)) → m.goal ≡ Minimize t → EndsBest m l → IsCertifiable m (certified asked (Minimize t) l)
of_minimize false t m l is ends = tt
of_minimize true t m l is ends = last_is_best m l (λ other. cc (is, other)) ends

of_maximize : (asked : Bool) (t : Term) (m : Instance) (l : List (List ℤ)) → m.goal ≡ Maximize t → EndsBest m l → IsCertifiable m (certified asked (Maximize t) l)
of_maximize false t m l is ends = tt
of_maximize true t m l is ends = last_is_best m l (λ other. cc (is, other)) ends

by_goal : (goal : Goal) (m : Instance) (o : Options) (l : List (List ℤ)) (shown : List ℕ) → m.goal ≡ goal → PrintsFor goal o m l shown → IsCertifiable m (certified o.certificate goal l)
by_goal Satisfy m o l shown is prints = of_satisfy o.certificate m o l shown prints
by_goal (Minimize t) m o l shown is prints = of_minimize o.certificate t m l is (ends_best o.generate o.all t m l shown prints)
by_goal (Maximize t) m o l shown is prints = of_maximize o.certificate t m l is (ends_best o.generate o.all t m l shown prints)

pub certifiable : (m : Instance) (o : Options) (l : List (List ℤ)) (shown : List ℕ) → PrintsFor m.goal o m l shown → IsCertifiable m (certified o.certificate m.goal l)
certifiable m o l shown prints = by_goal m.goal m o l shown refl prints

-- ---- its certificate

pub certificate_exists : (m : Instance) (head : Option (Option (List ℤ))) → IsModel m → IsCertifiable m head → (text : List ℕ) × IsCertificate m head text
certificate_exists m None is proved = ([], refl)
certificate_exists m (Some head) is proved = cert_exists m head is proved.0 proved.1
