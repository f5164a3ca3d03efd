-- How often parts have run, by the map of their texts.
use Rattle.std.proofs.Common.{◌≡◌, ◌∙◌, ℕ, ◌+◌, ◌<◌, ◌≤◌, Bool, true, false, cond, List, [], ◌∷◌, ◌++◌, refl, sym, ap, subst, arith, length, take, get_or, Some, None, option_map, inl, inr}
use Rattle.std.specs.Prelude.{Option, bytes_eq, count_by, is_some}
use Rattle.std.specs.List.{AllByRecursion}
use Rattle.std.specs.Ordering.{nat_cmp}
use Rattle.std.specs.declared.cmp.Ordering.{Ordering}
use Rattle.std.specs.Cmp.Lexicographic.{slice_cmp, bytes_decides, nat_list_cmp_total, nat_list_eq_equiv}
use Rattle.std.specs.Map.{lookup, IsKeyTest, AreApart, KeepsOthers}
use Rattle.std.specs.BTreeMap as tree
use Rattle.std.specs.BTreeMap.{BTreeMap, is_at}
use Rattle.std.specs.Global.{Vec}
use Rattle.std.proofs.lemmas.List.Sums.{sum_by-cons, sum_by_push, sum_by-take-le, count_by_more_yes}
use Rattle.std.proofs.lemmas.List.{take_more}
use Rattle.std.proofs.lemmas.Bool.{cases_Bool, false≢true, true≢false, cond-true, cond-false}
use Rattle.std.proofs.lemmas.Cmp.{eq_by_cmp_equiv}
use Rattle.std.proofs.lemmas.Map.Text.{is_eq-slice_cmp}
use Rattle.fz_sets.proofs.Lists.{all_both, all_read}
use Rattle.fz_tree.specs.declared.decision.Decision.{Decision}
use Rattle.fz_part.specs.Texts.{part_text}
use Rattle.fz_join.specs.Joins.{is_called}
use Rattle.fz_join.specs.Machine.{counted, none_ran, one_more}

-- ---- the map as a function of texts

abbrev key_cmp : List ℕ → Vec ℕ → Ordering
key_cmp text k = slice_cmp nat_cmp text k.items

-- what the map has at a text
abbrev pub found : {X : Type 0} → BTreeMap (Vec ℕ) X → List ℕ → Option X
found m text = tree.get_by (key_cmp text) m

apart : (bs cs : List ℕ) → bytes_eq bs cs ≡ false → AreApart (is_at (key_cmp bs)) (is_at (key_cmp cs))
apart bs cs other k is = is_eq-slice_cmp cs k.items ∙ (nat_list_eq_equiv.symm cs k.items ∙ sym (nat_list_eq_equiv.congr bs k.items cs (sym (is_eq-slice_cmp bs k.items) ∙ is)) ∙ other)

module _ {K : Type 0} (eq : K → K → Bool) (test : K → Bool) where
  others : {X : Type 0} (old new : List (K × X)) → KeepsOthers eq test old new → (other : K → Bool) → IsKeyTest eq other → AreApart test other → lookup other new ≡ lookup other old
  unfolding KeepsOthers
  others old new kept = kept

pub updated : {X : Type 0} (bs : List ℕ) (m n : BTreeMap (Vec ℕ) X) (w : Option X) → tree.UpdatesBy (λ x y. slice_cmp nat_cmp x.items y.items) (key_cmp bs) m n w → (cs : List ℕ) → found n cs ≡ cond (bytes_eq bs cs) w (found m cs)
updated bs m n w updates cs = elim (cases_Bool (bytes_eq bs cs)) [
  | inl same ↦ subst (λ l. found n l ≡ w) ((bytes_decides bs cs).0 same) updates.1 ∙ sym (cond-true (bytes_eq bs cs) w (found m cs) same)
  | inr other ↦ others _ _ _ _ updates.3 (is_at (key_cmp cs)) (λ x y. (eq_by_cmp_equiv nat_list_cmp_total).congr cs x.items y.items) (apart bs cs other) ∙ sym (cond-false (bytes_eq bs cs) w (found m cs) other)
]

-- ---- one run more

pub counts : (text : List ℕ) (m n : BTreeMap (Vec ℕ) ℕ) (v w : ℕ) → found m text ≡ Some v → w ≡ one_more v → tree.UpdatesBy (λ x y. slice_cmp nat_cmp x.items y.items) (key_cmp text) m n (Some w) → (q : List ℕ) → found n q ≡ counted text (found m) q
counts text m n v w was is updates q = updated text m n (Some w) updates q ∙ elim (cases_Bool (bytes_eq text q)) [
  | inl same ↦ ap (λ (b : Bool). cond b (Some w) (found m q)) same ∙ ap Some is ∙ ap (option_map one_more) (sym was ∙ ap (found m) ((bytes_decides text q).0 same)) ∙ sym (cond-true (bytes_eq text q) (option_map one_more (found m q)) (found m q) same)
  | inr other ↦ cond-false (bytes_eq text q) (Some w) (found m q) other ∙ sym (cond-false (bytes_eq text q) (option_map one_more (found m q)) (found m q) other)
]

-- ---- none has run

-- no two have the same text
abbrev pub AreOnce : List (List Decision) → List (List Decision) → Type 0
AreOnce all ps = AllByRecursion (λ p. count_by (is_called (part_text p)) all ≡ 1) ps

pub none_more : (ps : List (List Decision)) (p : List Decision) (text : List ℕ) → none_ran (ps ++ p ∷ []) text ≡ cond (bytes_eq (part_text p) text) (Some 0) (none_ran ps text)
none_more [] p text = refl
none_more (q ∷ ps) p text = ap (λ (o : Option ℕ). cond (bytes_eq (part_text q) text) (Some 0) o) (none_more ps p text) ∙ either (bytes_eq (part_text q) text) (bytes_eq (part_text p) text) (none_ran ps text)
  where
    either : (first last : Bool) (o : Option ℕ) → cond first (Some 0) (cond last (Some 0) o) ≡ cond last (Some 0) (cond first (Some 0) o)
    either true true o = refl
    either true false o = refl
    either false last o = refl

-- none of them has the text
abbrev pub AreOther : List ℕ → List (List Decision) → Type 0
AreOther text ps = AllByRecursion (λ p. bytes_eq (part_text p) text ≡ false) ps

none_other : (ps : List (List Decision)) (text : List ℕ) → none_ran ps text ≡ None → AreOther text ps
none_other [] text none = tt
none_other (p ∷ ps) text none = elim (cases_Bool (bytes_eq (part_text p) text)) [
  | inl same ↦ absurd (true≢false (ap is_some (sym (cond-true (bytes_eq (part_text p) text) (Some 0) (none_ran ps text) same) ∙ none)))
  | inr other ↦ (other, none_other ps text (sym (cond-false (bytes_eq (part_text p) text) (Some 0) (none_ran ps text) other) ∙ none))
]

-- a count is of these
abbrev bit : Bool → ℕ
bit b = cond b 1 0

other_count : (ps : List (List Decision)) (text : List ℕ) → AreOther text ps → count_by (is_called text) ps ≡ 0
other_count [] text other = refl
other_count (p ∷ ps) text other =
    let here : bit (is_called text p) ≡ 0 = ap bit other.0 in
    let all : count_by (is_called text) (p ∷ ps) ≡ bit (is_called text p) + count_by (is_called text) ps = sum_by-cons (λ (q : List Decision). bit (is_called text q)) p ps in
    omega (arith, here, all, other_count ps text other.1)

some_count : (ps : List (List Decision)) (text : List ℕ) → is_some (none_ran ps text) ≡ true → 1 ≤ count_by (is_called text) ps
some_count [] text some = absurd (false≢true some)
some_count (p ∷ ps) text some =
    let all : count_by (is_called text) (p ∷ ps) ≡ bit (is_called text p) + count_by (is_called text) ps = sum_by-cons (λ (q : List Decision). bit (is_called text q)) p ps in
    elim (cases_Bool (bytes_eq (part_text p) text)) [
      | inl same ↦ let here : bit (is_called text p) ≡ 1 = ap bit same in omega (arith, here, all)
      | inr other ↦ let rest = some_count ps text (ap is_some (sym (cond-false (bytes_eq (part_text p) text) (Some 0) (none_ran ps text) other)) ∙ some) in omega (arith, rest, all)
    ]

count_push : (text : List ℕ) (ps : List (List Decision)) (p : List Decision) → count_by (is_called text) (ps ++ p ∷ []) ≡ count_by (is_called text) ps + bit (is_called text p)
count_push text ps p = sum_by_push (λ (q : List Decision). bit (is_called text q)) ps p

once_more : (all ps : List (List Decision)) (p : List Decision) → AreOnce all ps → AreOther (part_text p) ps → AreOnce (all ++ p ∷ []) ps
once_more all [] p once other = tt
once_more all (q ∷ ps) p once other =
    let here : bit (is_called (part_text q) p) ≡ 0 = ap bit (nat_list_eq_equiv.symm (part_text p) (part_text q) ∙ other.0) in
    let more = count_push (part_text q) all p in
    let one = once.0 in (omega (arith, here, more, one), once_more all ps p once.1 other.1)

-- one more that none of them has
pub more_once : (ps : List (List Decision)) (p : List Decision) → AreOnce ps ps → none_ran ps (part_text p) ≡ None → AreOnce (ps ++ p ∷ []) (ps ++ p ∷ [])
more_once ps p once none =
    let other = none_other ps (part_text p) none in
    let here : bit (is_called (part_text p) p) ≡ 1 = ap bit (nat_list_eq_equiv.refl (part_text p)) in
    let more = count_push (part_text p) ps p in
    let zero = other_count ps (part_text p) other in
    let one : count_by (is_called (part_text p)) (ps ++ p ∷ []) ≡ 1 = omega (arith, here, more, zero) in
    all_both (λ (q : List Decision). count_by (is_called (part_text q)) (ps ++ p ∷ []) ≡ 1) ps (p ∷ []) (once_more ps ps p once other) (one, tt)

-- one whose text one before it has
pub not_once : (ps : List (List Decision)) (i : ℕ) (p : List Decision) → i < length ps → p ≡ get_or ps i p → is_some (none_ran (take i ps) (part_text p)) ≡ true → AreOnce ps ps → ⊥
not_once ps i p within is some once =
    let before = some_count (take i ps) (part_text p) some in
    let more = count_by_more_yes (is_called (part_text p)) ps i p within (ap (is_called (part_text p)) (sym is) ∙ nat_list_eq_equiv.refl (part_text p)) in
    let some_of : count_by (is_called (part_text p)) (take (i + 1) ps) ≤ count_by (is_called (part_text p)) ps = sum_by-take-le (λ (q : List Decision). bit (is_called (part_text p) q)) ps (i + 1) in
    let one = all_read (λ (q : List Decision). count_by (is_called (part_text q)) ps ≡ 1) ps i p within is once in
    omega (arith, before, more, some_of, one)

-- ---- the parts so far are in the map

-- the text of the next part in memory, and what the map had at it
pub record IsNext (m : BTreeMap (Vec ℕ) ℕ) (ps : List (List Decision)) (i : ℕ) (p : List Decision) (key : List ℕ) (old : Option ℕ) : Type 0 where
  pub within : i < length ps
  pub is : p ≡ get_or ps i p
  pub text : key ≡ part_text p
  pub was : old ≡ found m key
  pub none : (text : List ℕ) → found m text ≡ none_ran (take i ps) text

old_of : (m : BTreeMap (Vec ℕ) ℕ) (ps : List (List Decision)) (i : ℕ) (p : List Decision) (key : List ℕ) (old : Option ℕ) → IsNext m ps i p key old → old ≡ none_ran (take i ps) (part_text p)
old_of m ps i p key old next = next.was ∙ ap (found m) next.text ∙ next.none (part_text p)

pub old_twice : (m : BTreeMap (Vec ℕ) ℕ) (ps : List (List Decision)) (i : ℕ) (p : List Decision) (key : List ℕ) (old : Option ℕ) → IsNext m ps i p key old → is_some old ≡ true → AreOnce ps ps → ⊥
old_twice m ps i p key old next some once = not_once ps i p next.within next.is (ap is_some (sym (old_of m ps i p key old next)) ∙ some) once

none_from : (o : Option ℕ) → is_some o ≡ false → o ≡ None
none_from None isnt = refl
none_from (Some n) isnt = absurd (true≢false isnt)

taken : (ps : List (List Decision)) (i : ℕ) (p : List Decision) → i < length ps → p ≡ get_or ps i p → take (i + 1) ps ≡ take i ps ++ p ∷ []
taken ps i p within is = take_more ps i p within ∙ ap (λ (q : List Decision). take i ps ++ q ∷ []) (sym is)

pub new_once : (m : BTreeMap (Vec ℕ) ℕ) (ps : List (List Decision)) (i : ℕ) (p : List Decision) (key : List ℕ) (old : Option ℕ) → IsNext m ps i p key old → is_some old ≡ false → AreOnce (take i ps) (take i ps) → AreOnce (take (i + 1) ps) (take (i + 1) ps)
new_once m ps i p key old next isnt once =
    subst (λ (l : List (List Decision)). AreOnce l l) (sym (taken ps i p next.within next.is)) (more_once (take i ps) p once (sym (old_of m ps i p key old next) ∙ none_from old isnt))

pub new_none : (m n : BTreeMap (Vec ℕ) ℕ) (ps : List (List Decision)) (i : ℕ) (p : List Decision) (key : List ℕ) (old : Option ℕ) → IsNext m ps i p key old → tree.UpdatesBy (λ x y. slice_cmp nat_cmp x.items y.items) (key_cmp key) m n (Some 0)
    → (text : List ℕ) → found n text ≡ none_ran (take (i + 1) ps) text
new_none m n ps i p key old next updates text =
    updated key m n (Some 0) updates text ∙ ap (λ (k : List ℕ). cond (bytes_eq k text) (Some 0) (found m text)) next.text ∙ ap (λ (o : Option ℕ). cond (bytes_eq (part_text p) text) (Some 0) o) (next.none text)
    ∙ sym (none_more (take i ps) p text) ∙ ap (λ (l : List (List Decision)). none_ran l text) (sym (taken ps i p next.within next.is))
