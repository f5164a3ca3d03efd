-- Every list of tokens has a verdict.
use Rattle.std.proofs.Common.{◌≡◌, ◌⊎◌, inl, inr, ℕ, zero, suc, ◌<◌, ◌≤◌, List, [], ◌∷◌, Bool, true, false, not, ◌||◌, ◌&&◌, ◌==◌, nat_lt, if◌then◌else◌, length, ltb-true, lt-ltb, eqb-true, eq-eqb, true≢false, refl, sym, ap, subst, arith}
use Rattle.std.proofs.lemmas.Bool.{cases_lt, cases_Bool, both_ways}
use Rattle.fz_grammar.specs.Grammar.{Symbol, Leaf, Rule, Choice, Only, When, Among, Grammar, Trees, Body}
use Rattle.fz_grammar.specs.Reading.{level, allowed, down, head, chosen, ReadsIn, DoneIn, TookIn, ChoseIn, StopsIn, HereIn, AlongIn, WithinIn, IsOther}
use Rattle.fz_grammar.specs.Tables.{Tables, followed, is_fine}
use Rattle.fz_grammar.specs.Lefts.{Lefts, some_takes, lefts_lower, no_end, is_finite, are_finite}
use Rattle.fz_grammar.specs.Verdict.{IsAccepted, HasFault, IsTooDeep}
use Rattle.fz_grammar.proofs.Sets.{and_left, and_right}
use Rattle.fz_grammar.proofs.Laws.{chosen_among}
use Rattle.fz_grammar.proofs.Steps.{joined, stops_before, stops_behind}
use Rattle.fz_grammar.specs.Levels.{AreEven}
use Rattle.fz_grammar.proofs.Levels.{accepted, faulty, faulty_behind, too_deep_at}

-- the bracket that is wanted stands there, and no more levels may open
abbrev IsOver : Grammar → ℕ → ℕ → ℕ → ℕ → Type 0
IsOver G limit l k next = (l ≡ limit) × (next ≡ k) × (G.opens k ≡ true)

record ReadTo (G : Grammar) (L : Lefts G) (limit l : ℕ) (ss : List (Symbol G.Name)) (ts : List G.Token) : Type 0 where
  new : List G.Token
  trees : Trees G ss
  reads : ReadsIn G limit l ss ts new trees
  less : length new ≤ length ts
  took : some_takes G L ss ≡ true → length new < length ts

abbrev Outcome : (G : Grammar) (L : Lefts G) (limit l : ℕ) (ss : List (Symbol G.Name)) (ts : List G.Token) → Type 0
Outcome G L limit l ss ts = ReadTo G L limit l ss ts ⊎ (((new : List G.Token) × StopsIn G limit IsOther l ss ts new) ⊎ ((new : List G.Token) × StopsIn G limit (IsOver G limit) l ss ts new))

or_of_false : (a b : Bool) → a ≡ false → (a || b) ≡ true → b ≡ true
or_of_false true b e h = absurd (true≢false e)
or_of_false false b e h = h

not_of_true : (a b : Bool) → a ≡ true → (not a || b) ≡ true → b ≡ true
not_of_true true b e h = h
not_of_true false b e h = absurd (true≢false (sym e))

finite_one : (G : Grammar) (L : Lefts G) (n : G.Name) (c : Choice G.Tree G.Token n) (a : Body G n) → Among c a → are_finite G L n c ≡ true → is_finite G L n a ≡ true
finite_one G L n (Only b) a h i = subst (λ (x : Body G n). is_finite G L n x ≡ true) h i
finite_one G L n (When b rest) a (inl h) i = subst (λ (x : Body G n). is_finite G L n x ≡ true) h (and_left (is_finite G L n b) (are_finite G L n rest) i)
finite_one G L n (When b rest) a (inr h) i = finite_one G L n rest a h (and_right (is_finite G L n b) (are_finite G L n rest) i)

-- a level stays within the limit
level_within : (G : Grammar) (limit k l : ℕ) → l ≤ limit → allowed G limit k l ≡ true → level G k l ≤ limit
level_within G limit k l w a = by (G.opens k) (G.closes k) refl a
  where
    down_less : (l : ℕ) → down l ≤ l
    down_less zero = omega arith
    down_less (suc l) = omega arith

    by : (o c : Bool) → G.opens k ≡ o → (not o || nat_lt l limit) ≡ true → (if o then suc l else if c then down l else l) ≤ limit
    by true c e h = let m = ltb-true l limit h in omega arith
    by false true e h = let m = down_less l in omega arith
    by false false e h = w

over_limit : (G : Grammar) (limit k l : ℕ) → l ≤ limit → allowed G limit k l ≡ false → (l ≡ limit) × (G.opens k ≡ true)
over_limit G limit k l w a = by (G.opens k) refl a
  where
    by : (o : Bool) → G.opens k ≡ o → (not o || nat_lt l limit) ≡ false → (l ≡ limit) × (G.opens k ≡ true)
    by true e h = (elim (cases_lt l limit) [ inl m ↦ absurd (both_ways (nat_lt l limit) h (lt-ltb l limit m)) | inr g ↦ omega arith ], e)
    by false e h = absurd (true≢false h)

-- what stands before the first token of symbols may be read
abbrev MayStand : (G : Grammar) (L : Lefts G) (may : G.Name → Type 0) → List (Symbol G.Name) → Type 0
MayStand G L may [] = Unit {0}
MayStand G L may (Leaf k ∷ ss) = Unit {0}
MayStand G L may (Rule n ∷ ss) = may n × (L.takes n ≡ false → MayStand G L may ss)

lower_stand : (G : Grammar) (L : Lefts G) (h : ℕ) (ss : List (Symbol G.Name)) → lefts_lower G L h ss ≡ true → MayStand G L (λ n. L.left n < h) ss
lower_stand G L h [] e = tt
lower_stand G L h (Leaf k ∷ ss) e = tt
lower_stand G L h (Rule n ∷ ss) e = (
  ltb-true (L.left n) h (and_left (nat_lt (L.left n) h) (L.takes n || lefts_lower G L h ss) e),
  λ f. lower_stand G L h ss (or_of_false (L.takes n) (lefts_lower G L h ss) f (and_right (nat_lt (L.left n) h) (L.takes n || lefts_lower G L h ss) e)),
)

any_stand : (G : Grammar) (L : Lefts G) (ss : List (Symbol G.Name)) → MayStand G L (λ n. Unit {0}) ss
any_stand G L [] = tt
any_stand G L (Leaf k ∷ ss) = tt
any_stand G L (Rule n ∷ ss) = (tt, λ f. any_stand G L ss)

module _ (G : Grammar) (L : Lefts G) (limit : ℕ) (finite : (n : G.Name) → are_finite G L n (G.rules n) ≡ true) where
  -- fewer tokens than this are read, whatever is wanted
  abbrev Below : ℕ → Type 0
  Below size = (us : List G.Token) → length us < size → (l : ℕ) → l ≤ limit → (ss : List (Symbol G.Name)) → no_end G ss ≡ true → Outcome G L limit l ss us

  -- that many tokens, and rules of which something holds
  abbrev RuleRead : ℕ → (G.Name → Type 0) → Type 0
  RuleRead size may = (n : G.Name) → may n → (us : List G.Token) → length us ≤ size → (l : ℕ) → l ≤ limit → Outcome G L limit l (Rule n ∷ []) us

  behind_rule : (l : ℕ) (n : G.Name) (ss : List (Symbol G.Name)) (ts : List G.Token) (r : ReadTo G L limit l (Rule n ∷ []) ts) → Outcome G L limit l ss r.new → Outcome G L limit l (Rule n ∷ ss) ts
  behind_rule l n ss ts r (inl q) = inl (record {
    new = q.new;
    trees = (r.trees.0, q.trees);
    reads = joined G limit l (Rule n ∷ []) ss ts r.new q.new r.trees q.trees r.reads q.reads;
    less = omega (arith, r.less, q.less);
    took = λ e. elim (cases_Bool (L.takes n)) [
      | inl t ↦ let m = r.took (ap (λ (b : Bool). b || false) t) in omega (arith, m, q.less)
      | inr f ↦ let m = q.took (or_of_false (L.takes n) (some_takes G L ss) f e) in omega (arith, m, r.less)
    ];
  })
  behind_rule l n ss ts r (inr (inl q)) = inr (inl (q.0, stops_behind G limit IsOther l (Rule n ∷ []) ss ts r.new q.0 r.trees r.reads q.1))
  behind_rule l n ss ts r (inr (inr q)) = inr (inr (q.0, stops_behind G limit (IsOver G limit) l (Rule n ∷ []) ss ts r.new q.0 r.trees r.reads q.1))

  behind_leaf : (l k : ℕ) (ss : List (Symbol G.Name)) (t : G.Token) (ts : List G.Token) → G.kind t ≡ k → allowed G limit k l ≡ true → Outcome G L limit (level G k l) ss ts → Outcome G L limit l (Leaf k ∷ ss) (t ∷ ts)
  behind_leaf l k ss t ts e a (inl q) = inl (record {
    new = q.new;
    trees = (t, q.trees);
    reads = TookIn l k ss t ts q.new q.trees e a q.reads;
    less = (let m = q.less in omega arith);
    took = λ _. (let m = q.less in omega arith);
  })
  behind_leaf l k ss t ts e a (inr (inl q)) = inr (inl (q.0, AlongIn l k ss t ts q.0 e a q.1))
  behind_leaf l k ss t ts e a (inr (inr q)) = inr (inr (q.0, AlongIn l k ss t ts q.0 e a q.1))

  no_zero : (k : ℕ) (ss : List (Symbol G.Name)) → no_end G (Leaf k ∷ ss) ≡ true → 0 ≡ k → ⊥
  no_zero k ss h e = both_ways (not (k == 0)) (ap not (eq-eqb k 0 (sym e))) (and_left (not (k == 0)) (no_end G ss) h)

  read_leaf : (size : ℕ) → Below size → (l k : ℕ) (ss : List (Symbol G.Name)) (ts : List G.Token) → no_end G (Leaf k ∷ ss) ≡ true → length ts ≤ size → l ≤ limit → Outcome G L limit l (Leaf k ∷ ss) ts
  read_leaf size below l k ss [] z s w = inr (inl ([], HereIn l k ss [] (no_zero k ss z)))
  read_leaf size below l k ss (t ∷ ts) z s w = elim (cases_Bool (G.kind t == k)) [
    | inr f ↦ inr (inl (t ∷ ts, HereIn l k ss (t ∷ ts) (λ e. both_ways (G.kind t == k) f (eq-eqb (G.kind t) k e))))
    | inl e ↦ elim (cases_Bool (allowed G limit k l)) [
      | inr f ↦ let o = over_limit G limit k l w f in inr (inr (t ∷ ts, HereIn l k ss (t ∷ ts) (o.0, eqb-true (G.kind t) k e, o.1)))
      | inl a ↦ behind_leaf l k ss t ts (eqb-true (G.kind t) k e) a (below ts (omega (arith, s)) (level G k l) (level_within G limit k l w a) ss (and_right (not (k == 0)) (no_end G ss) z))
    ]
  ]

  read_list : (size : ℕ) (may : G.Name → Type 0) → Below size → RuleRead size may → (ss : List (Symbol G.Name)) → MayStand G L may ss → no_end G ss ≡ true → (ts : List G.Token) → length ts ≤ size → (l : ℕ) → l ≤ limit → Outcome G L limit l ss ts
  read_list size may below rule [] m z ts s l w = inl (record { new = ts; trees = tt; reads = DoneIn l ts; less = omega arith; took = λ e. absurd (true≢false (sym e)) })
  read_list size may below rule (Leaf k ∷ ss) m z ts s l w = read_leaf size below l k ss ts z s w
  read_list size may below rule (Rule n ∷ ss) m z ts s l w = elim (rule n m.0 ts s l w) [
    | inr q ↦ elim q [
      | inl o ↦ inr (inl (o.0, stops_before G limit IsOther l (Rule n ∷ []) ss ts o.0 o.1))
      | inr o ↦ inr (inr (o.0, stops_before G limit (IsOver G limit) l (Rule n ∷ []) ss ts o.0 o.1))
    ]
    | inl r ↦ elim (cases_lt (length r.new) (length ts)) [
      | inl c ↦ behind_rule l n ss ts r (below r.new (omega (arith, c, s)) l w ss z)
      | inr g ↦
          let f : L.takes n ≡ false = elim (cases_Bool (L.takes n)) [
            | inl t ↦ absurd (let c = r.took (ap (λ (b : Bool). b || false) t) in omega (arith, c, g))
            | inr f ↦ f
          ] in
          behind_rule l n ss ts r (read_list size may below rule ss (m.1 f) z r.new (omega (arith, r.less, s)) l w)
    ]
  ]

  lower_than : (a b c : ℕ) → a < b → b < suc c → a < c
  lower_than a b c x y = omega arith

  chosen_finite : (n : G.Name) (k : ℕ) → is_finite G L n (chosen (G.rules n) k) ≡ true
  chosen_finite n k = finite_one G L n (G.rules n) (chosen (G.rules n) k) (chosen_among (G.rules n) k) (finite n)

  within_rule : (l : ℕ) (n : G.Name) (ts : List G.Token) → Outcome G L limit l (chosen (G.rules n) (head G ts)).body ts → Outcome G L limit l (Rule n ∷ []) ts
  within_rule l n ts (inl r) =
      let a = chosen (G.rules n) (head G ts) in
      let f = chosen_finite n (head G ts) in
      let t = and_left (not (L.takes n) || some_takes G L a.body) (lefts_lower G L (L.left n) a.body) (and_left ((not (L.takes n) || some_takes G L a.body) && lefts_lower G L (L.left n) a.body) (no_end G a.body) f) in
      inl (record {
        new = r.new;
        trees = (a.build r.trees, tt);
        reads = ChoseIn l n a [] ts r.new r.new r.trees tt refl r.reads (DoneIn l r.new);
        less = r.less;
        took = λ e. r.took (not_of_true (L.takes n) (some_takes G L a.body) (or_false (L.takes n) e) t);
      })
    where
      or_false : (b : Bool) → (b || false) ≡ true → b ≡ true
      or_false true e = refl
      or_false false e = e
  within_rule l n ts (inr (inl q)) = inr (inl (q.0, WithinIn l n (chosen (G.rules n) (head G ts)) [] ts q.0 refl q.1))
  within_rule l n ts (inr (inr q)) = inr (inr (q.0, WithinIn l n (chosen (G.rules n) (head G ts)) [] ts q.0 refl q.1))

  rule_below : (size : ℕ) → Below size → (h : ℕ) → RuleRead size (λ n. L.left n < h)
  rule_below size below zero n m us s l w = absurd (omega (arith, m))
  rule_below size below (suc h) n m us s l w =
      let a = chosen (G.rules n) (head G us) in
      let f = chosen_finite n (head G us) in
      let g = and_left ((not (L.takes n) || some_takes G L a.body) && lefts_lower G L (L.left n) a.body) (no_end G a.body) f in
      let lower = and_right (not (L.takes n) || some_takes G L a.body) (lefts_lower G L (L.left n) a.body) g in
      let ends = and_right ((not (L.takes n) || some_takes G L a.body) && lefts_lower G L (L.left n) a.body) (no_end G a.body) f in
      within_rule l n us (read_list size (λ k. L.left k < L.left n) below (λ k c. rule_below size below h k (lower_than (L.left k) (L.left n) h c m)) a.body (lower_stand G L (L.left n) a.body lower) ends us s l w)

  read_all : (size : ℕ) → Below size
  read_all zero us s l w ss z = absurd (omega (arith, s))
  read_all (suc size) us s l w ss z =
      read_list size (λ n. Unit {0}) (read_all size) (λ n c. rule_below size (read_all size) (suc (L.left n)) n (omega arith)) ss (any_stand G L ss) z us (omega (arith, s)) l w

  -- a list of tokens has a verdict
  pub some_verdict : (F : Tables G) → ((n : G.Name) → is_fine G F n ≡ true) → ((n : G.Name) → AreEven G n (G.rules n)) → G.opens 0 ≡ false → (start : G.Name) → followed G F (Rule start ∷ []) (0 ∷ []) ≡ true → (ts : List G.Token)
      → ((p : G.Tree start) × IsAccepted G limit start ts p) ⊎ (((b : List G.Token) × HasFault G limit start ts b) ⊎ ((b : List G.Token) × IsTooDeep G limit start ts b))
  some_verdict F fine even none start f ts = elim (read_all (suc (length ts)) ts (omega arith) 0 (omega arith) (Rule start ∷ []) refl) [
    | inl r ↦ read_to r.new r.trees r.reads
    | inr q ↦ elim q [
      | inl o ↦ inr (inl (o.0, faulty G F fine even limit start f ts o.0 o.1))
      | inr o ↦ inr (inr (o.0, too_deep_at G F fine even (IsOver G limit) limit (λ l k h p. p) none start ts o.0 o.1))
    ]
  ]
    where
      read_to : (new : List G.Token) (v : Trees G (Rule start ∷ [])) → ReadsIn G limit 0 (Rule start ∷ []) ts new v → ((p : G.Tree start) × IsAccepted G limit start ts p) ⊎ (((b : List G.Token) × HasFault G limit start ts b) ⊎ ((b : List G.Token) × IsTooDeep G limit start ts b))
      read_to [] v r = inl (v.0, accepted G F fine even limit start ts v.0 r)
      read_to (t ∷ new) v r = inr (inl (t ∷ new, faulty_behind G F fine even limit start f ts t new v.0 r))
