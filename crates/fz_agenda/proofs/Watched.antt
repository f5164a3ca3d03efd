-- What is looked at only for a while: an element rests while neither its index, nor its value, nor a term at an index that is left
-- changes. What says whether a term is a number rests while this is left, unless the term gets fixed or the Boolean changes.
use Rattle.std.proofs.Common.{◌≡◌, ◌⊎◌, inl, inr, ℕ, List, [], ◌∷◌, ◌∙◌, refl, sym, subst, arith, length}
use Rattle.std.specs.Prelude.{Bool, true, false, ℤ, pos}
use Rattle.std.proofs.lemmas.Bool.{cases_lt}
use Rattle.std.proofs.lemmas.Int.{ints, by_lt_z}
use Rattle.std.proofs.lemmas.List.{get_or_past}
use Rattle.fz_sets.specs.Sets.{IsInSet, single}
use Rattle.fz_sets.proofs.Lists.{all_left, all_right}
use Rattle.fz_dom.proofs.Ranges.{least_below, upper_bound}
use Rattle.fz_spec.specs.declared.term.Term.{Term}
use Rattle.fz_spec.specs.declared.term.Term.TheVariants.{Num, Var}
use Rattle.fz_strength.specs.declared.event.Event.TheVariants.{Any, Fixed}
use Rattle.fz_spec.specs.declared.shape.Relation.{Relation}
use Rattle.fz_spec.specs.declared.shape.Relation.TheVariants.{Equal, NotEqual}
use Rattle.fz_strength.specs.Domains.{dom_at, term_set, AreDomains, IsNarrower}
use Rattle.fz_strength.specs.Events.{Wait, AreQuiet, IsNoneFixed, IsOnly, IsQuiet, wait_for}
use Rattle.fz_strength.specs.Relations.{IsShown, RestsIf}
use Rattle.fz_strength.specs.Sayings.{Saying, line_of, waits_of, CompareIf, SelectTerm}
use Rattle.fz_strength.specs.VariableElements.{StandsAt, IsMatch}
use Rattle.fz_strength.proofs.Comparisons.{kept_line}
use Rattle.fz_strength.proofs.Sayings.{kept}
use Rattle.fz_strength.proofs.Terms.{in_single, is_single, term_narrower, term_quiet, terms_quiet}
use Rattle.fz_prop.specs.Truths.{HasRanges}
use Rattle.fz_prop.proofs.Filled.{one_left}
use Rattle.fz_agenda.specs.Watches.{IsSeen, Looks, steady_waits}

-- what is said selects one of some terms, says whether a term is a number, or looks at nothing for a while
record Selects (saying : Saying) : Type 0 where
  pub terms : List Term
  pub index : Term
  pub value : Term
  pub is : saying ≡ SelectTerm terms index value

record Tells (relation : Relation) (saying : Saying) : Type 0 where
  pub term : Term
  pub number : ℤ
  pub truth : Term
  pub is : saying ≡ CompareIf relation term (Num number) truth

record LooksAlways (saying : Saying) : Type 0 where
  pub none : (v : ℕ) (t : Term) (n : ℤ) (left : Bool) → Looks saying v t n left → ⊥
  pub waits : steady_waits saying ≡ waits_of saying

abbrev Kind : Saying → Type 0
Kind saying = Selects saying ⊎ Tells Equal saying ⊎ Tells NotEqual saying ⊎ LooksAlways saying

always : (saying : Saying) → ((v : ℕ) (t : Term) (n : ℤ) (left : Bool) → Looks saying v t n left → ⊥) → steady_waits saying ≡ waits_of saying → Kind saying
always saying none waits = inr (inr (inr (record { none = none; waits = waits })))

kind_of : (saying : Saying) → Kind saying
kind_of (SelectTerm xs k c) = inl (record { terms = xs; index = k; value = c; is = refl })
kind_of (CompareIf Equal x (Num c) r) = inr (inl (record { term = x; number = c; truth = r; is = refl }))
kind_of (CompareIf NotEqual x (Num c) r) = inr (inr (inl (record { term = x; number = c; truth = r; is = refl })))
kind_of saying = always saying (λ v t n left looks. looks) refl

-- ---- what is seen now is seen later

abbrev IsSeenLater : Saying → Type 0
IsSeenLater saying = (v : ℕ) (t : Term) (n : ℤ) (left : Bool) → Looks saying v t n left → (ds es : List (List (ℤ × ℤ))) → IsNarrower ds es → AreQuiet (steady_waits saying) ds es → IsSeen left ds t n → IsSeen left es t n

-- the term that tells is always waited for
index_later : (xs : List Term) (k c : Term) → IsSeenLater (SelectTerm xs k c)
index_later xs k c v t n true looks ds es narrower quiet seen =
    subst (λ (d : List (ℤ × ℤ)). IsInSet d n) (subst (λ (u : Term). term_set ds u ≡ term_set es u) (sym looks.0) (terms_quiet Any (k ∷ c ∷ []) ds es quiet).0) seen
index_later xs k c v t n false looks ds es narrower quiet seen = absurd looks

equal_later : (x : Term) (c : ℤ) (r : Term) → IsSeenLater (CompareIf Equal x (Num c) r)
equal_later x c r v t n true looks ds es narrower quiet seen = absurd looks
equal_later x c r v t n false looks ds es narrower quiet gone = λ is. gone (term_narrower t ds es narrower n is)

unequal_later : (x : Term) (c : ℤ) (r : Term) → IsSeenLater (CompareIf NotEqual x (Num c) r)
unequal_later x c r v t n true looks ds es narrower quiet seen = absurd looks
unequal_later x c r v t n false looks ds es narrower quiet gone = λ is. gone (term_narrower t ds es narrower n is)

pub seen_later : (saying : Saying) → IsSeenLater saying
seen_later saying = elim (kind_of saying) [
  | inl s ↦ subst IsSeenLater (sym s.is) (index_later s.terms s.index s.value)
  | inr other ↦ elim other [
    | inl e ↦ subst IsSeenLater (sym e.is) (equal_later e.term e.number e.truth)
    | inr more ↦ elim more [
      | inl u ↦ subst IsSeenLater (sym u.is) (unequal_later u.term u.number u.truth)
      | inr looks ↦ λ v t n left now ds es narrower quiet seen. absurd (looks.none v t n left now)
    ]
  ]
]

-- ---- the line lasts

-- nothing that is looked at changed
abbrev pub AreStill : Saying → List (List (ℤ × ℤ)) → List (List (ℤ × ℤ)) → Type 0
AreStill saying ds es = (v : ℕ) (t : Term) (n : ℤ) (left : Bool) → Looks saying v t n left → IsSeen left es t n → dom_at ds v ≡ dom_at es v

abbrev Lasts : Saying → Type 0
Lasts saying = (ds es : List (List (ℤ × ℤ))) → AreDomains es → IsNarrower ds es → AreQuiet (steady_waits saying) ds es → AreStill saying ds es → line_of saying ds → line_of saying es

still_there : (xs : List Term) (k c : Term) (ds es : List (List (ℤ × ℤ))) → AreStill (SelectTerm xs k c) ds es → (i : ℤ) (x : Term) → StandsAt i xs x → IsInSet (term_set es k) i → term_set ds x ≡ term_set es x
still_there xs k c ds es still i (Num m) stands left = refl
still_there xs k c ds es still i (Var v) stands left = still v k i true (refl, stands) left

match_lasts : (xs : List Term) (k c : Term) (ds es : List (List (ℤ × ℤ))) (i n : ℤ) → term_set ds k ≡ term_set es k → term_set ds c ≡ term_set es c → AreStill (SelectTerm xs k c) ds es
    → IsMatch xs k c ds i n → IsMatch xs k c es i n
match_lasts xs k c ds es i n index value still m =
    let left : IsInSet (term_set es k) i = subst (λ (d : List (ℤ × ℤ)). IsInSet d i) index m.index in
    record {
      term = m.term;
      stands = m.stands;
      index = left;
      there = subst (λ (d : List (ℤ × ℤ)). IsInSet d n) (still_there xs k c ds es still i m.term m.stands left) m.there;
      value = subst (λ (d : List (ℤ × ℤ)). IsInSet d n) value m.value;
    }

element_lasts : (xs : List Term) (k c : Term) → Lasts (SelectTerm xs k c)
element_lasts xs k c ds es domains narrower quiet still line =
    let q = terms_quiet Any (k ∷ c ∷ []) ds es quiet in
    record {
      index = λ i left.
          let m = line.index i (subst (λ (d : List (ℤ × ℤ)). IsInSet d i) (sym q.0) left) in
          (m.0, match_lasts xs k c ds es i m.0 q.0 q.1.0 still m.1);
      number = λ n left.
          let m = line.number n (subst (λ (d : List (ℤ × ℤ)). IsInSet d n) (sym q.1.0) left) in
          (m.0, match_lasts xs k c ds es m.0 n q.0 q.1.0 still m.1);
      one = λ i x only stands.
          let left : IsInSet (term_set es k) i = subst (λ (d : List (ℤ × ℤ)). IsInSet d i) (sym only) (in_single i i refl) in
          sym (still_there xs k c ds es still i x stands left) ∙ line.one i x (q.0 ∙ only) stands ∙ q.1.0;
    }

-- ---- a term is a number, or not

in_or_out : (d : List (ℤ × ℤ)) (n : ℤ) → IsInSet d n ⊎ (IsInSet d n → ⊥)
in_or_out [] n = inr (λ none. none)
in_or_out (r ∷ rs) n = elim (in_or_out rs n) [
  | inl there ↦ inl (inr there)
  | inr out ↦ by_lt_z n r.0
      (λ below. inr (λ is. elim is [ inl here ↦ omega (arith, ints, here.0, below) | inr there ↦ out there ]))
      (λ from. by_lt_z r.1 n
      (λ above. inr (λ is. elim is [ inl here ↦ omega (arith, ints, here.1, above) | inr there ↦ out there ]))
      (λ to. inl (inl (from, to))))
]

ranges_of : (x : Term) (c : ℤ) (es : List (List (ℤ × ℤ))) → AreDomains es → IsInSet (term_set es x) c → HasRanges (term_set es x)
ranges_of (Num m) c es domains is = record { ranges = omega (arith, ints); some = omega arith }
ranges_of (Var v) c es domains is = elim (cases_lt v (length es)) [
  | inl below ↦ record { ranges = (domains v below).0.0; some = (domains v below).1 }
  | inr above ↦ let none : dom_at es v ≡ [] = get_or_past es v [] above in absurd (subst (λ (d : List (ℤ × ℤ)). IsInSet d c) none is)
]

-- where both ends are the number, it alone is left
only_between : (f : List (ℤ × ℤ)) (c : ℤ) → HasRanges f → IsShown Equal f (single c) → IsOnly f c
only_between f c has shown = one_left f c has (λ u i.
    let low = least_below f u has.ranges i in
    let high = upper_bound f u has.ranges i in
    omega (arith, ints, low, high, shown.0, shown.1))

-- a number that is left isn't outside the ends
never_apart : (f : List (ℤ × ℤ)) (c : ℤ) → HasRanges f → IsInSet f c → IsShown NotEqual f (single c) → ⊥
never_apart f c has left (inl above) = let high = upper_bound f c has.ranges left in omega (arith, ints, high, above)
never_apart f c has left (inr below) = let low = least_below f c has.ranges left in omega (arith, ints, low, below)

-- of a set that got narrower, but not fixed, and still has the number
record StillHas (d f : List (ℤ × ℤ)) (c : ℤ) : Type 0 where
  pub narrower : (x : ℤ) → IsInSet f x → IsInSet d x
  pub quiet : IsNoneFixed d f
  pub ranges : HasRanges f
  pub left : IsInSet f c

only_later : (d f : List (ℤ × ℤ)) (c : ℤ) → StillHas d f c → d ≡ single c → f ≡ single c
only_later d f c still only = one_left f c still.ranges (λ u i. is_single u c (subst (λ (s : List (ℤ × ℤ)). IsInSet s u) only (still.narrower u i)))

shown_before : (d f : List (ℤ × ℤ)) (c : ℤ) → StillHas d f c → IsShown Equal f (single c) → IsShown Equal d (single c)
shown_before d f c still shown = subst (λ (s : List (ℤ × ℤ)). IsShown Equal s (single c)) (sym (still.quiet c (only_between f c still.ranges shown))) shown

equal_line : (d f r : List (ℤ × ℤ)) (c : ℤ) → StillHas d f c → RestsIf Equal d (single c) r → RestsIf Equal f (single c) r
equal_line d f r c still line = record {
  one_if_shown = λ shown. line.one_if_shown (shown_before d f c still shown);
  zero_if_refuted = λ refuted. absurd (never_apart f c still.ranges still.left refuted);
  line_if_one = λ one. only_later d f c still (line.line_if_one one);
  against_if_zero = λ zero. absurd ((line.against_if_zero zero).1 c refl (still.narrower c still.left));
}

unequal_line : (d f r : List (ℤ × ℤ)) (c : ℤ) → StillHas d f c → RestsIf NotEqual d (single c) r → RestsIf NotEqual f (single c) r
unequal_line d f r c still line = record {
  one_if_shown = λ shown. absurd (never_apart f c still.ranges still.left shown);
  zero_if_refuted = λ refuted. line.zero_if_refuted (shown_before d f c still refuted);
  line_if_one = λ one. absurd ((line.line_if_one one).1 c refl (still.narrower c still.left));
  against_if_zero = λ zero. only_later d f c still (line.against_if_zero zero);
}

-- what is waited for, term by term
abbrev IsCalm : Wait → List (List (ℤ × ℤ)) → List (List (ℤ × ℤ)) → Type 0
IsCalm w ds es = IsQuiet w.event (dom_at ds w.variable) (dom_at es w.variable)

term_calm : (x r : Term) (ds es : List (List (ℤ × ℤ))) → AreQuiet (steady_waits (CompareIf Equal x (Num (pos 0)) r)) ds es → IsNoneFixed (term_set ds x) (term_set es x)
term_calm x r ds es quiet = term_quiet Fixed x ds es (all_left (λ (w : Wait). IsCalm w ds es) (wait_for Fixed x) (wait_for Any r) quiet)

truth_same : (x r : Term) (ds es : List (List (ℤ × ℤ))) → AreQuiet (steady_waits (CompareIf Equal x (Num (pos 0)) r)) ds es → term_set ds r ≡ term_set es r
truth_same x r ds es quiet = term_quiet Any r ds es (all_right (λ (w : Wait). IsCalm w ds es) (wait_for Fixed x) (wait_for Any r) quiet)

still_has : (x r : Term) (c : ℤ) (ds es : List (List (ℤ × ℤ))) → AreDomains es → IsNarrower ds es → AreQuiet (steady_waits (CompareIf Equal x (Num (pos 0)) r)) ds es → IsInSet (term_set es x) c → StillHas (term_set ds x) (term_set es x) c
still_has x r c ds es domains narrower quiet left = record {
  narrower = term_narrower x ds es narrower;
  quiet = term_calm x r ds es quiet;
  ranges = ranges_of x c es domains left;
  left = left;
}

equal_same : (x : Term) (c : ℤ) (r : Term) (ds es : List (List (ℤ × ℤ))) → AreStill (CompareIf Equal x (Num c) r) ds es → (IsInSet (term_set es x) c → ⊥) → term_set ds x ≡ term_set es x
equal_same (Num m) c r ds es still gone = refl
equal_same (Var v) c r ds es still gone = still v (Var v) c false (refl, refl, refl) gone

unequal_same : (x : Term) (c : ℤ) (r : Term) (ds es : List (List (ℤ × ℤ))) → AreStill (CompareIf NotEqual x (Num c) r) ds es → (IsInSet (term_set es x) c → ⊥) → term_set ds x ≡ term_set es x
unequal_same (Num m) c r ds es still gone = refl
unequal_same (Var v) c r ds es still gone = still v (Var v) c false (refl, refl, refl) gone

equal_lasts : (x : Term) (c : ℤ) (r : Term) → Lasts (CompareIf Equal x (Num c) r)
equal_lasts x c r ds es domains narrower quiet still line =
    let same = truth_same x r ds es quiet in
    elim (in_or_out (term_set es x) c) [
      | inl left ↦ subst (λ (s : List (ℤ × ℤ)). RestsIf Equal (term_set es x) (single c) s) same
          (equal_line (term_set ds x) (term_set es x) (term_set ds r) c (still_has x r c ds es domains narrower quiet left) line)
      | inr gone ↦ kept_line Equal (term_set ds x) (single c) (term_set ds r) (term_set es x) (single c) (term_set es r) (equal_same x c r ds es still gone) refl same line
    ]

unequal_lasts : (x : Term) (c : ℤ) (r : Term) → Lasts (CompareIf NotEqual x (Num c) r)
unequal_lasts x c r ds es domains narrower quiet still line =
    let same = truth_same x r ds es quiet in
    elim (in_or_out (term_set es x) c) [
      | inl left ↦ subst (λ (s : List (ℤ × ℤ)). RestsIf NotEqual (term_set es x) (single c) s) same
          (unequal_line (term_set ds x) (term_set es x) (term_set ds r) c (still_has x r c ds es domains narrower quiet left) line)
      | inr gone ↦ kept_line NotEqual (term_set ds x) (single c) (term_set ds r) (term_set es x) (single c) (term_set es r) (unequal_same x c r ds es still gone) refl same line
    ]

pub watched_kept : (saying : Saying) → Lasts saying
watched_kept saying = elim (kind_of saying) [
  | inl s ↦ subst Lasts (sym s.is) (element_lasts s.terms s.index s.value)
  | inr other ↦ elim other [
    | inl e ↦ subst Lasts (sym e.is) (equal_lasts e.term e.number e.truth)
    | inr more ↦ elim more [
      | inl u ↦ subst Lasts (sym u.is) (unequal_lasts u.term u.number u.truth)
      | inr looks ↦ λ ds es domains narrower quiet still line. kept saying ds es domains narrower (subst (λ (ws : List Wait). AreQuiet ws ds es) looks.waits quiet) line
    ]
  ]
]
