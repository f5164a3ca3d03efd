-- The level of the reading is that of the tokens, and what the outcomes of the reading say of a text.
use Rattle.std.proofs.Common.{◌==◌, false, true≢false, inl, inr, ◌≡◌, ℕ, List, [], ◌∷◌, ◌++◌, true, refl, sym, ap, subst, ◌∙◌, append_assoc, append-nil}
use Rattle.std.proofs.lemmas.List.{append_cancel_right}
use Rattle.fz_grammar.specs.Grammar.{Symbol, Rule, Choice, Only, When, Among, Grammar, Trees, Body, Spells, Takes, Opens}
use Rattle.fz_grammar.specs.Reading.{level, allowed, head, chosen, ReadsIn, DoneIn, TookIn, ChoseIn, Stops, Here, Along, Within, Behind, StopsIn, HereIn, AlongIn, WithinIn, BehindIn, IsOther}
use Rattle.fz_grammar.specs.Tables.{Tables, followed, have_examples, is_fine}
use Rattle.fz_grammar.specs.Verdict.{depth, Stays, IsAccepted, HasFault, IsTooDeep}
use Rattle.fz_grammar.proofs.Sets.{and_right}
use Rattle.fz_grammar.proofs.Laws.{sound, chosen_among, body_examples}
use Rattle.fz_grammar.proofs.Fronts.{is_read, completed, breaks, breaks_behind}
use Rattle.fz_grammar.specs.Levels.{levels, AreEven}
use Rattle.fz_grammar.proofs.Steps.{plain, plain_stops}

even_among : (G : Grammar) (n : G.Name) (c : Choice G.Tree G.Token n) (a : Body G n) → Among c a → AreEven G n c → (l : ℕ) → levels G a.body l ≡ l
even_among G n (Only b) a m h = subst (λ (x : Body G n). (l : ℕ) → levels G x.body l ≡ l) m h
even_among G n (When b rest) a (inl m) h = subst (λ (x : Body G n). (l : ℕ) → levels G x.body l ≡ l) m h.0
even_among G n (When b rest) a (inr m) h = even_among G n rest a m h.1

depth_behind : (G : Grammar) (ts us : List G.Token) (l m : ℕ) → depth G l ts ≡ m → depth G l (ts ++ us) ≡ depth G m us
depth_behind G [] us l m e = ap (λ (x : ℕ). depth G x us) e
depth_behind G (t ∷ ts) us l m e = depth_behind G ts us (level G (G.kind t) l) m e

stays_behind : (G : Grammar) (limit : ℕ) (ts us : List G.Token) (l m : ℕ) → Stays G limit l ts → depth G l ts ≡ m → Stays G limit m us → Stays G limit l (ts ++ us)
stays_behind G limit [] us l m h e i = subst (λ (x : ℕ). Stays G limit x us) (sym e) i
stays_behind G limit (t ∷ ts) us l m h e i = (h.0, stays_behind G limit ts us (level G (G.kind t) l) m h.1 e i)

record AreIn (G : Grammar) (limit l m : ℕ) (old new : List G.Token) : Type 0 where
  between : List G.Token
  are : old ≡ between ++ new
  stays : Stays G limit l between
  ends : depth G l between ≡ m

one_more : (G : Grammar) (limit l m k : ℕ) (t : G.Token) (ts new : List G.Token) → G.kind t ≡ k → allowed G limit k l ≡ true → AreIn G limit (level G k l) m ts new → AreIn G limit l m (t ∷ ts) new
one_more G limit l m k t ts new e f i =
    let g = subst (λ (x : ℕ). (allowed G limit x l ≡ true) × Stays G limit (level G x l) i.between × (depth G (level G x l) i.between ≡ m)) (sym e) (f, i.stays, i.ends) in
    record { between = t ∷ i.between; are = ap (λ (us : List G.Token). t ∷ us) i.are; stays = (g.0, g.1); ends = g.2 }

both : (G : Grammar) (limit l m n : ℕ) (old mid new : List G.Token) → AreIn G limit l m old mid → AreIn G limit m n mid new → AreIn G limit l n old new
both G limit l m n old mid new i j = record {
  between = i.between ++ j.between;
  are = i.are ∙ ap (λ (us : List G.Token). i.between ++ us) j.are ∙ sym (append_assoc i.between j.between new);
  stays = stays_behind G limit i.between j.between l m i.stays i.ends j.stays;
  ends = depth_behind G i.between j.between l m i.ends ∙ j.ends;
}

-- where reading stopped, what holds there, and the token's own fit
record StoppedAt (G : Grammar) (limit : ℕ) (P : ℕ → ℕ → ℕ → Type 0) (l : ℕ) (old new : List G.Token) : Type 0 where
  there : ℕ
  kind : ℕ
  holds : P there kind (head G new)
  tokens : AreIn G limit l there old new

record FitsOn (G : Grammar) (t : G.Token) (ss : List (Symbol G.Name)) (old new : List G.Token) : Type 0 where
  between : List G.Token
  are : old ≡ between ++ new
  front : (end : List G.Token) → (more : List G.Token) × (trees : Trees G ss) × Spells G ss (between ++ (t ∷ (more ++ end))) end trees

module _ (G : Grammar) (F : Tables G) (fine : (n : G.Name) → is_fine G F n ≡ true) (even : (n : G.Name) → AreEven G n (G.rules n)) where
  even_body : (n : G.Name) (a : Body G n) (old : List G.Token) → chosen (G.rules n) (head G old) ≡ a → (l : ℕ) → levels G a.body l ≡ l
  even_body n a old e = even_among G n (G.rules n) a (subst (λ (b : Body G n). Among (G.rules n) b) e (chosen_among (G.rules n) (head G old))) (even n)

  read_in : (limit l : ℕ) (ss : List (Symbol G.Name)) (old new : List G.Token) (v : Trees G ss) → ReadsIn G limit l ss old new v → AreIn G limit l (levels G ss l) old new
  read_in limit l ss old new v (DoneIn _ ts) = record { between = []; are = refl; stays = tt; ends = refl }
  read_in limit l ss old new v (TookIn _ k rest t ts _ u e f r) = one_more G limit l (levels G rest (level G k l)) k t ts new e f (read_in limit (level G k l) rest ts new u r)
  read_in limit l ss old new v (ChoseIn _ n a rest _ m _ x u e d r) =
      both G limit l l (levels G rest l) old m new (subst (λ (y : ℕ). AreIn G limit l y old m) (even_body n a old e l) (read_in limit l a.body old m x d)) (read_in limit l rest m new u r)

  stopped_at : (limit : ℕ) (P : ℕ → ℕ → ℕ → Type 0) (l : ℕ) (ss : List (Symbol G.Name)) (old new : List G.Token) → StopsIn G limit P l ss old new → StoppedAt G limit P l old new
  stopped_at limit P l ss old new (HereIn _ k rest _ h) = record { there = l; kind = k; holds = h; tokens = record { between = []; are = refl; stays = tt; ends = refl } }
  stopped_at limit P l ss old new (AlongIn _ k rest t ts _ e f r) =
      let s = stopped_at limit P (level G k l) rest ts new r in
      record { there = s.there; kind = s.kind; holds = s.holds; tokens = one_more G limit l s.there k t ts new e f s.tokens }
  stopped_at limit P l ss old new (WithinIn _ n a rest _ _ e r) = stopped_at limit P l a.body old new r
  stopped_at limit P l ss old new (BehindIn _ n a rest _ m _ x e d r) =
      let s = stopped_at limit P l rest m new r in
      record { there = s.there; kind = s.kind; holds = s.holds; tokens = both G limit l l s.there old m new (subst (λ (y : ℕ). AreIn G limit l y old m) (even_body n a old e l) (read_in limit l a.body old m x d)) s.tokens }

  -- a program is accepted
  pub accepted : (limit : ℕ) (start : G.Name) (ts : List G.Token) (p : G.Tree start) → ReadsIn G limit 0 (Rule start ∷ []) ts [] (p, tt) → IsAccepted G limit start ts p
  accepted limit start ts p r =
      let i = read_in limit 0 (Rule start ∷ []) ts [] (p, tt) r in
      record {
        spelt = sound G (Rule start ∷ []) ts [] (p, tt) (plain G limit 0 (Rule start ∷ []) ts [] (p, tt) r);
        stays = subst (λ (us : List G.Token). Stays G limit 0 us) (sym (i.are ∙ append-nil i.between)) i.stays;
      }

  -- where another token is wanted the syntax is at fault
  pub faulty : (limit : ℕ) (start : G.Name) → followed G F (Rule start ∷ []) (0 ∷ []) ≡ true → (ts new : List G.Token) → StopsIn G limit IsOther 0 (Rule start ∷ []) ts new → HasFault G limit start ts new
  faulty limit start f ts new r =
      let s = (stopped_at limit IsOther 0 (Rule start ∷ []) ts new r).tokens in
      let b = breaks G F fine start f ts new (plain_stops G limit IsOther 0 (Rule start ∷ []) ts new r) in
      record { before = b.0; breaks = b.1; stays = subst (λ (us : List G.Token). Stays G limit 0 us) (append_cancel_right s.between b.0 new (sym s.are ∙ b.1.are)) s.stays }

  -- and where a program ends before the tokens do
  pub faulty_behind : (limit : ℕ) (start : G.Name) → followed G F (Rule start ∷ []) (0 ∷ []) ≡ true → (ts : List G.Token) (t : G.Token) (new : List G.Token) (p : G.Tree start) → ReadsIn G limit 0 (Rule start ∷ []) ts (t ∷ new) (p, tt) → HasFault G limit start ts (t ∷ new)
  faulty_behind limit start f ts t new p r =
      let s = read_in limit 0 (Rule start ∷ []) ts (t ∷ new) (p, tt) r in
      let b = breaks_behind G F fine start f ts t new p (plain G limit 0 (Rule start ∷ []) ts (t ∷ new) (p, tt) r) in
      record { before = b.0; breaks = b.1; stays = subst (λ (us : List G.Token). Stays G limit 0 us) (append_cancel_right s.between b.0 (t ∷ new) (sym s.are ∙ b.1.are)) s.stays }

  -- the token that fits goes on
  fits_on : (P : ℕ → ℕ → ℕ → Type 0) → ((l k h : ℕ) → P l k h → h ≡ k) → (t : G.Token) (more : List G.Token) (l : ℕ) (ss : List (Symbol G.Name)) (old new : List G.Token) → new ≡ t ∷ more → Stops G P l ss old new → have_examples G F ss ≡ true → FitsOn G t ss old new
  fits_on P fits t more l ss old new e (Here _ k rest _ h) x =
      let k_is : G.kind t ≡ k = sym (ap (head G) e) ∙ fits l k (head G new) h in
      record {
        between = [];
        are = refl;
        front = λ end. let c = completed G F fine rest (and_right (G.kind (F.example k) == k) (have_examples G F rest) x) end in (c.tokens, (t, c.trees), Takes k rest t (c.tokens ++ end) end c.trees k_is c.spelt);
      }
  fits_on P fits t more l ss old new e (Along _ k rest u ts _ q r) x =
      let i = fits_on P fits t more (level G k l) rest ts new e r (and_right (G.kind (F.example k) == k) (have_examples G F rest) x) in
      record {
        between = u ∷ i.between;
        are = ap (λ (us : List G.Token). u ∷ us) i.are;
        front = λ end. let f = i.front end in (f.0, (u, f.1), Takes k rest u (i.between ++ (t ∷ (f.0 ++ end))) end f.1 q f.2);
      }
  fits_on P fits t more l ss old new e (Within _ n a rest _ _ q r) x =
      let m = subst (λ (b : Body G n). Among (G.rules n) b) q (chosen_among (G.rules n) (head G old)) in
      let i = fits_on P fits t more l a.body old new e r (body_examples G F fine n a m) in
      record {
        between = i.between;
        are = i.are;
        front = λ end.
            let c = completed G F fine rest x end in
            let f = i.front (c.tokens ++ end) in (
              f.0 ++ c.tokens,
              (a.build f.1, c.trees),
              subst (λ (us : List G.Token). Spells G (Rule n ∷ rest) (i.between ++ (t ∷ us)) end (a.build f.1, c.trees)) (sym (append_assoc f.0 c.tokens end))
                  (Opens n a rest (i.between ++ (t ∷ (f.0 ++ (c.tokens ++ end)))) (c.tokens ++ end) end f.1 c.trees m f.2 c.spelt),
            );
      }
  fits_on P fits t more l ss old new e (Behind _ n a rest _ mid _ w q r s) x =
      let m = subst (λ (b : Body G n). Among (G.rules n) b) q (chosen_among (G.rules n) (head G old)) in
      let i = is_read G a.body old mid w r in
      let j = fits_on P fits t more l rest mid new e s x in
      record {
        between = i.between ++ j.between;
        are = i.are ∙ ap (λ (us : List G.Token). i.between ++ us) j.are ∙ sym (append_assoc i.between j.between new);
        front = λ end.
            let f = j.front end in
            let after = t ∷ (f.0 ++ end) in (
              f.0,
              (a.build w, f.1),
              subst (λ (us : List G.Token). Spells G (Rule n ∷ rest) us end (a.build w, f.1)) (sym (append_assoc i.between j.between after))
                  (Opens n a rest (i.between ++ (j.between ++ after)) (j.between ++ after) end w f.1 m (i.spelt (j.between ++ after)) f.2),
            );
      }

  pub too_deep_at : (P : ℕ → ℕ → ℕ → Type 0) (limit : ℕ) → ((l k h : ℕ) → P l k h → (l ≡ limit) × (h ≡ k) × (G.opens k ≡ true)) → G.opens 0 ≡ false → (start : G.Name) (ts new : List G.Token) → StopsIn G limit P 0 (Rule start ∷ []) ts new → IsTooDeep G limit start ts new
  too_deep_at P limit says none start ts [] r =
      let s = stopped_at limit P 0 (Rule start ∷ []) ts [] r in
      let h = says s.there s.kind 0 s.holds in
      absurd (true≢false (sym (subst (λ (x : ℕ). G.opens x ≡ true) (sym h.1) h.2) ∙ none))
  too_deep_at P limit says none start ts (t ∷ more) r =
      let s = stopped_at limit P 0 (Rule start ∷ []) ts (t ∷ more) r in
      let h = says s.there s.kind (G.kind t) s.holds in
      let i = fits_on P (λ l k g p. (says l k g p).1) t more 0 (Rule start ∷ []) ts (t ∷ more) refl (plain_stops G limit P 0 (Rule start ∷ []) ts (t ∷ more) r) refl in
      let f = i.front [] in
      record {
        before = i.between;
        bracket = t;
        more = more;
        are = i.are;
        next = refl;
        front = record {
          more = f.0;
          tree = f.1.0;
          spelt = subst (λ (us : List G.Token). Spells G (Rule start ∷ []) us [] f.1) (ap (λ (us : List G.Token). i.between ++ (t ∷ us)) (append-nil f.0) ∙ sym (append_assoc i.between (t ∷ []) f.0)) f.2;
        };
        stays = subst (λ (us : List G.Token). Stays G limit 0 us) (append_cancel_right s.tokens.between i.between (t ∷ more) (sym s.tokens.are ∙ i.are)) s.tokens.stays;
        over = ap (depth G 0) (sym (append_cancel_right s.tokens.between i.between (t ∷ more) (sym s.tokens.are ∙ i.are))) ∙ s.tokens.ends ∙ h.0;
        opens = subst (λ (x : ℕ). G.opens x ≡ true) (sym h.1) h.2;
      }
