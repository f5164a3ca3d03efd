-- Each place where reading stands can be completed, and where it sticks the tokens break.
use Rattle.std.proofs.Common.{◌≡◌, ◌<◌, inr, ℕ, zero, suc, List, [], ◌∷◌, ◌++◌, true, ◌&&◌, ◌==◌, nat_lt, ltb-true, eqb-true, refl, sym, ap, subst, ◌∙◌, append_assoc, append-nil, arith}
use Rattle.fz_grammar.specs.Grammar.{Symbol, Leaf, Rule, Choice, Only, When, Among, Grammar, Trees, Body, Spells, Ends, Takes, Opens, IsSpelt, IsFront, Breaks, BreaksBehind}
use Rattle.fz_grammar.specs.Reading.{level, head, chosen, Reads, Done, Took, Chose, Stops, IsOther, Here, Along, Within, Behind}
use Rattle.fz_grammar.specs.Tables.{Tables, followed, have_examples, last, are_lower, are_listed, are_apart, is_fine}
use Rattle.fz_grammar.proofs.Sets.{and_left, and_right}
use Rattle.fz_grammar.proofs.Laws.{body_examples, chosen_among, out, complete, pinned, none_goes_on}

-- the same kind comes after the same tokens
head_behind : (G : Grammar) (ts new others : List G.Token) → head G others ≡ head G new → head G (ts ++ others) ≡ head G (ts ++ new)
head_behind G [] new others e = e
head_behind G (t ∷ ts) new others e = refl

-- what was read, and that it's read so whatever comes after a token of the same kind
pub record IsRead (G : Grammar) (ss : List (Symbol G.Name)) (old new : List G.Token) (v : Trees G ss) : Type 0 where
  pub between : List G.Token
  pub are : old ≡ between ++ new
  pub spelt : (others : List G.Token) → Spells G ss (between ++ others) others v
  pub reads : (others : List G.Token) → head G others ≡ head G new → Reads G ss (between ++ others) others v

same_head : (G : Grammar) (old new ts us others : List G.Token) (mid : List G.Token) → old ≡ ts ++ mid → mid ≡ us ++ new → head G others ≡ head G new → head G (ts ++ (us ++ others)) ≡ head G old
same_head G old new ts us others mid e f h =
    head_behind G ts mid (us ++ others) (head_behind G us new others h ∙ sym (ap (head G) f)) ∙ sym (ap (head G) e)

pub is_read : (G : Grammar) (ss : List (Symbol G.Name)) (old new : List G.Token) (v : Trees G ss) → Reads G ss old new v → IsRead G ss old new v
is_read G ss old new v (Done ts) = record { between = []; are = refl; spelt = λ others. Ends others; reads = λ others e. Done others }
is_read G ss old new v (Took k rest t ts _ u e r) =
    let i = is_read G rest ts new u r in
    record {
      between = t ∷ i.between;
      are = ap (λ (us : List G.Token). t ∷ us) i.are;
      spelt = λ others. Takes k rest t (i.between ++ others) others u e (i.spelt others);
      reads = λ others h. Took k rest t (i.between ++ others) others u e (i.reads others h);
    }
is_read G ss old new v (Chose n a rest _ mid _ w u e r q) =
    let i = is_read G a.body old mid w r in
    let j = is_read G rest mid new u q in
    record {
      between = i.between ++ j.between;
      are = i.are ∙ ap (λ (us : List G.Token). i.between ++ us) j.are ∙ sym (append_assoc i.between j.between new);
      spelt = λ others.
          subst (λ (us : List G.Token). Spells G (Rule n ∷ rest) us others (a.build w, u)) (sym (append_assoc i.between j.between others))
          (Opens n a rest (i.between ++ (j.between ++ others)) (j.between ++ others) others w u (subst (λ (b : Body G n). Among (G.rules n) b) e (chosen_among (G.rules n) (head G old)))
          (i.spelt (j.between ++ others)) (j.spelt others));
      reads = λ others h.
          subst (λ (us : List G.Token). Reads G (Rule n ∷ rest) us others (a.build w, u)) (sym (append_assoc i.between j.between others))
          (Chose n a rest (i.between ++ (j.between ++ others)) (j.between ++ others) others w u
          (ap (chosen (G.rules n)) (same_head G old new i.between j.between others mid i.are j.are h) ∙ e)
          (i.reads (j.between ++ others) (head_behind G j.between new others h ∙ sym (ap (head G) j.are)))
          (j.reads others h));
    }

-- tokens that complete symbols
pub record Completed (G : Grammar) (ss : List (Symbol G.Name)) (end : List G.Token) : Type 0 where
  pub tokens : List G.Token
  pub trees : Trees G ss
  pub spelt : Spells G ss (tokens ++ end) end trees

-- where reading sticks, tokens complete what was read, and others of the same kind stick too
pub record IsStopped (G : Grammar) (P : ℕ → ℕ → ℕ → Type 0) (l : ℕ) (ss : List (Symbol G.Name)) (old new : List G.Token) : Type 0 where
  pub between : List G.Token
  pub are : old ≡ between ++ new
  pub front : (end : List G.Token) → (more : List G.Token) × (trees : Trees G ss) × Spells G ss (between ++ (more ++ end)) end trees
  pub stops : (others : List G.Token) → head G others ≡ head G new → Stops G P l ss (between ++ others) others

leaf_completed : (G : Grammar) (k : ℕ) (t : G.Token) (ss : List (Symbol G.Name)) (end : List G.Token) → (G.kind t == k) ≡ true → Completed G ss end → Completed G (Leaf k ∷ ss) end
leaf_completed G k t ss end e c = record { tokens = t ∷ c.tokens; trees = (t, c.trees); spelt = Takes k ss t (c.tokens ++ end) end c.trees (eqb-true (G.kind t) k e) c.spelt }

rule_completed : (G : Grammar) (n : G.Name) (ss : List (Symbol G.Name)) (end : List G.Token) → (c : Completed G ss end) → Completed G (Rule n ∷ []) (c.tokens ++ end) → Completed G (Rule n ∷ ss) end
rule_completed G n ss end c d =
    let o = out G (Rule n ∷ []) (d.tokens ++ (c.tokens ++ end)) (c.tokens ++ end) d.trees d.spelt in
    let s : Spells G o.a.body (d.tokens ++ (c.tokens ++ end)) (c.tokens ++ end) o.w = subst (λ (m : List G.Token). Spells G o.a.body (d.tokens ++ (c.tokens ++ end)) m o.w) (out G [] o.mid (c.tokens ++ end) o.u o.second).same o.first in
    record {
      tokens = d.tokens ++ c.tokens;
      trees = (o.a.build o.w, c.trees);
      spelt = subst (λ (us : List G.Token). Spells G (Rule n ∷ ss) us end (o.a.build o.w, c.trees)) (sym (append_assoc d.tokens c.tokens end))
          (Opens n o.a ss (d.tokens ++ (c.tokens ++ end)) (c.tokens ++ end) end o.w c.trees o.among s c.spelt);
    }

last_among : {N : Type 0} {Tree : N → Type 0} {T : Type 0} {n : N} (c : Choice Tree T n) → Among c (last c)
last_among (Only a) = refl
last_among (When a rest) = inr (last_among rest)

lower : (x y z : ℕ) → x < y → y < suc z → x < z
lower x y z k l = omega arith

no_lower : (x : ℕ) → x < zero → ⊥
no_lower x l = omega arith

lower_next : (x : ℕ) → x < suc x
lower_next x = omega arith

module _ (G : Grammar) (F : Tables G) (fine : (n : G.Name) → is_fine G F n ≡ true) where
  complete_with : (h : ℕ) → ((n : G.Name) → F.height n < h → (end : List G.Token) → Completed G (Rule n ∷ []) end) → (ss : List (Symbol G.Name)) → have_examples G F ss ≡ true → are_lower G F h ss ≡ true → (end : List G.Token) → Completed G ss end
  complete_with h given [] x l end = record { tokens = []; trees = tt; spelt = Ends end }
  complete_with h given (Leaf k ∷ ss) x l end =
      leaf_completed G k (F.example k) ss end (and_left (G.kind (F.example k) == k) (have_examples G F ss) x) (complete_with h given ss (and_right (G.kind (F.example k) == k) (have_examples G F ss) x) l end)
  complete_with h given (Rule n ∷ ss) x l end =
      let c = complete_with h given ss x (and_right (nat_lt (F.height n) h) (are_lower G F h ss) l) end in
      rule_completed G n ss end c (given n (ltb-true (F.height n) h (and_left (nat_lt (F.height n) h) (are_lower G F h ss) l)) (c.tokens ++ end))

  complete_below : (h : ℕ) (n : G.Name) → F.height n < h → (end : List G.Token) → Completed G (Rule n ∷ []) end
  complete_below zero n l end = absurd (no_lower (F.height n) l)
  complete_below (suc h) n l end =
      let a = last (G.rules n) in
      let lows = and_right (are_listed G F n (G.rules n) && are_apart G F n (G.rules n)) (are_lower G F (F.height n) a.body) (fine n) in
      let c = complete_with (F.height n) (λ m k e. complete_below h m (lower (F.height m) (F.height n) h k l) e) a.body (body_examples G F fine n a (last_among (G.rules n))) lows end in
      record { tokens = c.tokens; trees = (a.build c.trees, tt); spelt = Opens n a [] (c.tokens ++ end) end end c.trees tt (last_among (G.rules n)) c.spelt (Ends end) }

  -- every list of symbols can be completed
  pub completed : (ss : List (Symbol G.Name)) → have_examples G F ss ≡ true → (end : List G.Token) → Completed G ss end
  completed [] x end = record { tokens = []; trees = tt; spelt = Ends end }
  completed (Leaf k ∷ ss) x end =
      leaf_completed G k (F.example k) ss end (and_left (G.kind (F.example k) == k) (have_examples G F ss) x) (completed ss (and_right (G.kind (F.example k) == k) (have_examples G F ss) x) end)
  completed (Rule n ∷ ss) x end =
      let c = completed ss x end in rule_completed G n ss end c (complete_below (suc (F.height n)) n (lower_next (F.height n)) (c.tokens ++ end))

  pub is_stopped : (P : ℕ → ℕ → ℕ → Type 0) (l : ℕ) (ss : List (Symbol G.Name)) (old new : List G.Token) → Stops G P l ss old new → have_examples G F ss ≡ true → IsStopped G P l ss old new
  is_stopped P l ss old new (Here _ k rest _ n) x = record {
    between = [];
    are = refl;
    front = λ end. let c = completed (Leaf k ∷ rest) x end in (c.tokens, c.trees, c.spelt);
    stops = λ others e. Here l k rest others (subst (λ (h : ℕ). P l k h) (sym e) n);
  }
  is_stopped P l ss old new (Along _ k rest t ts _ e r) x =
      let i = is_stopped P (level G k l) rest ts new r (and_right (G.kind (F.example k) == k) (have_examples G F rest) x) in
      record {
        between = t ∷ i.between;
        are = ap (λ (us : List G.Token). t ∷ us) i.are;
        front = λ end. let f = i.front end in (f.0, (t, f.1), Takes k rest t (i.between ++ (f.0 ++ end)) end f.1 e f.2);
        stops = λ others h. Along l k rest t (i.between ++ others) others e (i.stops others h);
      }
  is_stopped P l ss old new (Within _ n a rest _ _ e r) x =
      let m = subst (λ (b : Body G n). Among (G.rules n) b) e (chosen_among (G.rules n) (head G old)) in
      let i = is_stopped P l a.body old new r (body_examples G F fine n a m) in
      record {
        between = i.between;
        are = i.are;
        front = λ end.
            let c = completed rest x end in
            let f = i.front (c.tokens ++ end) in (
              f.0 ++ c.tokens,
              (a.build f.1, c.trees),
              subst (λ (us : List G.Token). Spells G (Rule n ∷ rest) (i.between ++ us) end (a.build f.1, c.trees)) (sym (append_assoc f.0 c.tokens end))
                  (Opens n a rest (i.between ++ (f.0 ++ (c.tokens ++ end))) (c.tokens ++ end) end f.1 c.trees m f.2 c.spelt),
            );
        stops = λ others h. Within l n a rest (i.between ++ others) others (ap (chosen (G.rules n)) (head_behind G i.between new others h ∙ sym (ap (head G) i.are)) ∙ e) (i.stops others h);
      }
  is_stopped P l ss old new (Behind _ n a rest _ mid _ w e r q) x =
      let m = subst (λ (b : Body G n). Among (G.rules n) b) e (chosen_among (G.rules n) (head G old)) in
      let i = is_read G a.body old mid w r in
      let j = is_stopped P l rest mid new q x in
      record {
        between = i.between ++ j.between;
        are = i.are ∙ ap (λ (us : List G.Token). i.between ++ us) j.are ∙ sym (append_assoc i.between j.between new);
        front = λ end.
            let f = j.front end in (
              f.0,
              (a.build w, f.1),
              subst (λ (us : List G.Token). Spells G (Rule n ∷ rest) us end (a.build w, f.1)) (sym (append_assoc i.between j.between (f.0 ++ end)))
                  (Opens n a rest (i.between ++ (j.between ++ (f.0 ++ end))) (j.between ++ (f.0 ++ end)) end w f.1 m (i.spelt (j.between ++ (f.0 ++ end))) f.2),
            );
        stops = λ others h.
            subst (λ (us : List G.Token). Stops G P l (Rule n ∷ rest) us others) (sym (append_assoc i.between j.between others))
            (Behind l n a rest (i.between ++ (j.between ++ others)) (j.between ++ others) others w
            (ap (chosen (G.rules n)) (same_head G old new i.between j.between others mid i.are j.are h) ∙ e)
            (i.reads (j.between ++ others) (head_behind G j.between new others h ∙ sym (ap (head G) j.are)))
            (j.stops others h));
      }

  -- the tokens spell one tree
  pub one_tree : (start : G.Name) → followed G F (Rule start ∷ []) (0 ∷ []) ≡ true → (ts : List G.Token) (p q : G.Tree start) → IsSpelt G start ts p → IsSpelt G start ts q → p ≡ q
  one_tree start f ts p q s r =
      let i = pinned G F fine (Rule start ∷ []) ts [] [] (p, tt) (q, tt) (0 ∷ []) (complete G F fine (Rule start ∷ []) ts [] (p, tt) (0 ∷ []) s f refl) r f refl in
      ap (λ (v : Trees G (Rule start ∷ [])). v.0) i.trees

  no_tree : (start : G.Name) → followed G F (Rule start ∷ []) (0 ∷ []) ≡ true → (ts new : List G.Token) → (i : IsStopped G IsOther 0 (Rule start ∷ []) ts new) → Breaks G start i.between new
  no_tree start f ts [] i = λ p s.
      none_goes_on G F fine 0 (Rule start ∷ []) (i.between ++ []) [] [] (p, tt) (0 ∷ []) (i.stops [] refl) (subst (λ (us : List G.Token). Spells G (Rule start ∷ []) us [] (p, tt)) (sym (append-nil i.between)) s) f refl
  no_tree start f ts (t ∷ behind) i = λ h.
      none_goes_on G F fine 0 (Rule start ∷ []) (i.between ++ (t ∷ h.more)) (t ∷ h.more) [] (h.tree, tt) (0 ∷ []) (i.stops (t ∷ h.more) refl)
      (subst (λ (us : List G.Token). Spells G (Rule start ∷ []) us [] (h.tree, tt)) (append_assoc i.between (t ∷ []) h.more) h.spelt) f refl

  stuck_front : (start : G.Name) (ts new : List G.Token) → (i : IsStopped G IsOther 0 (Rule start ∷ []) ts new) → IsFront G start i.between
  stuck_front start ts new i =
      let f = i.front [] in
      record { more = f.0; tree = f.1.0; spelt = subst (λ (us : List G.Token). Spells G (Rule start ∷ []) (i.between ++ us) [] f.1) (append-nil f.0) f.2 }

  -- where reading sticks the tokens break
  pub breaks : (start : G.Name) → followed G F (Rule start ∷ []) (0 ∷ []) ≡ true → (ts new : List G.Token) → Stops G IsOther 0 (Rule start ∷ []) ts new → (before : List G.Token) × BreaksBehind G start ts before new
  breaks start f ts new s =
      let i = is_stopped IsOther 0 (Rule start ∷ []) ts new s refl in
      (i.between, record { are = i.are; front = stuck_front start ts new i; breaks = no_tree start f ts new i })

  -- and where a tree is read, and a token comes after it
  pub breaks_behind : (start : G.Name) → followed G F (Rule start ∷ []) (0 ∷ []) ≡ true → (ts : List G.Token) (t : G.Token) (new : List G.Token) (p : G.Tree start) → Reads G (Rule start ∷ []) ts (t ∷ new) (p, tt) → (before : List G.Token) × BreaksBehind G start ts before (t ∷ new)
  breaks_behind start f ts t new p s =
      let i = is_read G (Rule start ∷ []) ts (t ∷ new) (p, tt) s in (
        i.between,
        record {
          are = i.are;
          front = record { more = []; tree = p; spelt = i.spelt [] };
          breaks = λ h.
              no_end t h.more (pinned G F fine (Rule start ∷ []) (i.between ++ (t ∷ h.more)) (t ∷ h.more) [] (p, tt) (h.tree, tt) (0 ∷ []) (i.reads (t ∷ h.more) refl)
              (subst (λ (us : List G.Token). Spells G (Rule start ∷ []) us [] (h.tree, tt)) (append_assoc i.between (t ∷ []) h.more) h.spelt) f refl).place;
        },
      )
    where
      no_end : (u : G.Token) (us : List G.Token) → u ∷ us ≡ [] → ⊥
      no_end u us e = cc
