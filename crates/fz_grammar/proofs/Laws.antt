-- What holds of every grammar whose tables are fine.
use Rattle.std.proofs.Common.{◌≡◌, ◌⊎◌, inl, inr, ℕ, List, [], ◌∷◌, Bool, true, false, ◌&&◌, cond, refl, sym, ap, subst, ◌∙◌}
use Rattle.fz_grammar.specs.Grammar.{Symbol, Leaf, Rule, Alternative, Choice, Only, When, Among, Grammar, Trees, Body, Spells, Ends, Takes, Opens}
use Rattle.fz_grammar.specs.Reading.{level, head, has, chosen, Reads, Done, Took, Chose, Stops, IsOther, Here, Along, Within, Behind}
use Rattle.fz_grammar.specs.Tables.{subset, apart, Tables, starts, followed, have_examples, is_listed, are_listed, others_apart, are_apart, is_fine}
use Rattle.fz_grammar.proofs.Lists.{heads, tails}
use Rattle.fz_grammar.proofs.Sets.{and_left, and_right, in_subset, out_apart, has_one}

-- what stands first in a spelling

pub record Opened (G : Grammar) (n : G.Name) (ss : List (Symbol G.Name)) (old new : List G.Token) (v : Trees G (Rule n ∷ ss)) : Type 0 where
  pub a : Body G n
  pub among : Among (G.rules n) a
  pub mid : List G.Token
  pub w : Trees G a.body
  pub u : Trees G ss
  pub is : v ≡ (a.build w, u)
  pub first : Spells G a.body old mid w
  pub second : Spells G ss mid new u

pub record Taken (G : Grammar) (k : ℕ) (ss : List (Symbol G.Name)) (old new : List G.Token) (v : Trees G (Leaf k ∷ ss)) : Type 0 where
  pub t : G.Token
  pub ts : List G.Token
  pub are : old ≡ t ∷ ts
  pub fits : G.kind t ≡ k
  pub u : Trees G ss
  pub is : v ≡ (t, u)
  pub rest : Spells G ss ts new u

pub record Ended (G : Grammar) (old new : List G.Token) : Type 0 where
  pub same : old ≡ new

abbrev Out : (G : Grammar) (ss : List (Symbol G.Name)) (old new : List G.Token) → Trees G ss → Type 0
Out G [] old new v = Ended G old new
Out G (Leaf k ∷ ss) old new v = Taken G k ss old new v
Out G (Rule n ∷ ss) old new v = Opened G n ss old new v

pub out : (G : Grammar) (ss : List (Symbol G.Name)) (old new : List G.Token) (v : Trees G ss) → Spells G ss old new v → Out G ss old new v
out G ss old new v (Ends ts) = record { same = refl }
out G ss old new v (Takes k rest t ts _ u e d) = record { t = t; ts = ts; are = refl; fits = e; u = u; is = refl; rest = d }
out G ss old new v (Opens n a rest _ mid _ w u h d e) = record { a = a; among = h; mid = mid; w = w; u = u; is = refl; first = d; second = e }

chosen_when : {N : Type 0} {Tree : N → Type 0} {T : Type 0} {n : N} (b : Bool) (a : Alternative Tree T n) (rest : Choice Tree T n) (k : ℕ) → Among rest (chosen rest k) → (a ≡ cond b a (chosen rest k)) ⊎ Among rest (cond b a (chosen rest k))
chosen_when true a rest k h = inl refl
chosen_when false a rest k h = inr h

pub chosen_among : {N : Type 0} {Tree : N → Type 0} {T : Type 0} {n : N} (c : Choice Tree T n) (k : ℕ) → Among c (chosen c k)
chosen_among (Only a) k = refl
chosen_among (When a rest) k = chosen_when (has a.begins k) a rest k (chosen_among rest k)

-- what is read is spelt
pub sound : (G : Grammar) (ss : List (Symbol G.Name)) (old new : List G.Token) (v : Trees G ss) → Reads G ss old new v → Spells G ss old new v
sound G ss old new v (Done ts) = Ends ts
sound G ss old new v (Took k rest t ts _ u e r) = Takes k rest t ts new u e (sound G rest ts new u r)
sound G ss old new v (Chose n a rest _ mid _ w u e r q) =
    Opens n a rest old mid new w u (subst (λ (b : Body G n). Among (G.rules n) b) e (chosen_among (G.rules n) (head G old))) (sound G a.body old mid w r) (sound G rest mid new u q)

listed_one : (G : Grammar) (F : Tables G) (n : G.Name) (c : Choice G.Tree G.Token n) (a : Body G n) → Among c a → are_listed G F n c ≡ true → is_listed G F n a ≡ true
listed_one G F n (Only b) a h i = subst (λ (x : Body G n). is_listed G F n x ≡ true) h i
listed_one G F n (When b rest) a (inl h) i = subst (λ (x : Body G n). is_listed G F n x ≡ true) h (and_left (is_listed G F n b) (are_listed G F n rest) i)
listed_one G F n (When b rest) a (inr h) i = listed_one G F n rest a h (and_right (is_listed G F n b) (are_listed G F n rest) i)

apart_one : (G : Grammar) (F : Tables G) (n : G.Name) (ks : List ℕ) (c : Choice G.Tree G.Token n) (a : Body G n) → Among c a → others_apart G F n ks c ≡ true → apart (starts G F a.body (F.follow n)) ks ≡ true
apart_one G F n ks (Only b) a h i = subst (λ (x : Body G n). apart (starts G F x.body (F.follow n)) ks ≡ true) h i
apart_one G F n ks (When b rest) a (inl h) i =
    subst (λ (x : Body G n). apart (starts G F x.body (F.follow n)) ks ≡ true) h (and_left (apart (starts G F b.body (F.follow n)) ks) (others_apart G F n ks rest) i)
apart_one G F n ks (When b rest) a (inr h) i = apart_one G F n ks rest a h (and_right (apart (starts G F b.body (F.follow n)) ks) (others_apart G F n ks rest) i)

-- one token tells which alternative it is
chosen_is : (G : Grammar) (F : Tables G) (n : G.Name) (c : Choice G.Tree G.Token n) (a : Body G n) (k : ℕ) → Among c a → are_apart G F n c ≡ true → has (starts G F a.body (F.follow n)) k ≡ true → chosen c k ≡ a
chosen_is G F n (Only b) a k h i s = h
chosen_is G F n (When b rest) a k (inl h) i s =
    let one = subset_of b rest i in
    let e : has b.begins k ≡ true = in_subset (starts G F b.body (F.follow n)) b.begins k one (subst (λ (x : Body G n). has (starts G F x.body (F.follow n)) k ≡ true) (sym h) s) in
    ap (λ (x : Bool). cond x b (chosen rest k)) e ∙ h
  where
    subset_of : (b : Body G n) (rest : Choice G.Tree G.Token n) → are_apart G F n (When b rest) ≡ true → subset (starts G F b.body (F.follow n)) b.begins ≡ true
    subset_of b rest i = and_left (subset (starts G F b.body (F.follow n)) b.begins) (others_apart G F n b.begins rest) (and_left (subset (starts G F b.body (F.follow n)) b.begins && others_apart G F n b.begins rest) (are_apart G F n rest) i)
chosen_is G F n (When b rest) a k (inr h) i s =
    let front = subset (starts G F b.body (F.follow n)) b.begins in
    let o : others_apart G F n b.begins rest ≡ true = and_right front (others_apart G F n b.begins rest) (and_left (front && others_apart G F n b.begins rest) (are_apart G F n rest) i) in
    let e : has b.begins k ≡ false = out_apart (starts G F a.body (F.follow n)) b.begins k (apart_one G F n b.begins rest a h o) s in
    ap (λ (x : Bool). cond x b (chosen rest k)) e ∙ chosen_is G F n rest a k h (and_right (front && others_apart G F n b.begins rest) (are_apart G F n rest) i) s

-- spelt in the same place with the same trees
pub record Same (G : Grammar) (ss : List (Symbol G.Name)) (mid new : List G.Token) (w v : Trees G ss) : Type 0 where
  pub place : mid ≡ new
  pub trees : w ≡ v

module _ (G : Grammar) (F : Tables G) (fine : (n : G.Name) → is_fine G F n ≡ true) where
  listed : (n : G.Name) (a : Body G n) → Among (G.rules n) a → is_listed G F n a ≡ true
  listed n a h =
      let both = and_left (are_listed G F n (G.rules n) && are_apart G F n (G.rules n)) _ (fine n) in
      listed_one G F n (G.rules n) a h (and_left (are_listed G F n (G.rules n)) (are_apart G F n (G.rules n)) both)

  alternatives_apart : (n : G.Name) → are_apart G F n (G.rules n) ≡ true
  alternatives_apart n =
      let both = and_left (are_listed G F n (G.rules n) && are_apart G F n (G.rules n)) _ (fine n) in
      and_right (are_listed G F n (G.rules n)) (are_apart G F n (G.rules n)) both

  body_begins : (n : G.Name) (a : Body G n) → Among (G.rules n) a → (k : ℕ) → has (starts G F a.body (F.follow n)) k ≡ true → has (F.begins n) k ≡ true
  body_begins n a h k s =
      let l = and_left (subset (starts G F a.body (F.follow n)) (F.begins n) && followed G F a.body (F.follow n)) (have_examples G F a.body) (listed n a h) in
      in_subset (starts G F a.body (F.follow n)) (F.begins n) k (and_left (subset (starts G F a.body (F.follow n)) (F.begins n)) (followed G F a.body (F.follow n)) l) s

  body_followed : (n : G.Name) (a : Body G n) → Among (G.rules n) a → followed G F a.body (F.follow n) ≡ true
  body_followed n a h =
      let l = and_left (subset (starts G F a.body (F.follow n)) (F.begins n) && followed G F a.body (F.follow n)) (have_examples G F a.body) (listed n a h) in
      and_right (subset (starts G F a.body (F.follow n)) (F.begins n)) (followed G F a.body (F.follow n)) l

  pub body_examples : (n : G.Name) (a : Body G n) → Among (G.rules n) a → have_examples G F a.body ≡ true
  body_examples n a h = and_right (subset (starts G F a.body (F.follow n)) (F.begins n) && followed G F a.body (F.follow n)) (have_examples G F a.body) (listed n a h)

  behind_rule : (n : G.Name) (ss : List (Symbol G.Name)) (X : List ℕ) (k : ℕ) → followed G F (Rule n ∷ ss) X ≡ true → has (starts G F ss X) k ≡ true → has (F.follow n) k ≡ true
  behind_rule n ss X k f h = in_subset (starts G F ss X) (F.follow n) k (and_left (subset (starts G F ss X) (F.follow n)) (followed G F ss X) f) h

  rest_followed : (n : G.Name) (ss : List (Symbol G.Name)) (X : List ℕ) → followed G F (Rule n ∷ ss) X ≡ true → followed G F ss X ≡ true
  rest_followed n ss X f = and_right (subset (starts G F ss X) (F.follow n)) (followed G F ss X) f

  -- a spelling begins as the tables say
  begins_so : (ss : List (Symbol G.Name)) (old new : List G.Token) (v : Trees G ss) (X : List ℕ) → Spells G ss old new v → followed G F ss X ≡ true → has X (head G new) ≡ true → has (starts G F ss X) (head G old) ≡ true
  begins_so ss old new v X (Ends ts) f h = h
  begins_so ss old new v X (Takes k rest t ts _ u e d) f h = subst (λ (x : ℕ). has (k ∷ []) x ≡ true) (sym e) (has_one k)
  begins_so ss old new v X (Opens n a rest _ mid _ w u m d q) f h =
      let behind = begins_so rest mid new u X q (rest_followed n rest X f) h in
      body_begins n a m (head G old) (begins_so a.body old mid w (F.follow n) d (body_followed n a m) (behind_rule n rest X (head G mid) f behind))

  -- and so the alternative is the chosen one
  choice_is : (n : G.Name) (a : Body G n) (ss : List (Symbol G.Name)) (old mid new : List G.Token) (w : Trees G a.body) (u : Trees G ss) (X : List ℕ) → Among (G.rules n) a → Spells G a.body old mid w → Spells G ss mid new u → followed G F (Rule n ∷ ss) X ≡ true → has X (head G new) ≡ true → chosen (G.rules n) (head G old) ≡ a
  choice_is n a ss old mid new w u X m d q f h =
      let behind = behind_rule n ss X (head G mid) f (begins_so ss mid new u X q (rest_followed n ss X f) h) in
      chosen_is G F n (G.rules n) a (head G old) m (alternatives_apart n) (begins_so a.body old mid w (F.follow n) d (body_followed n a m) behind)

  mid_follows : (n : G.Name) (ss : List (Symbol G.Name)) (mid new : List G.Token) (u : Trees G ss) (X : List ℕ) → Spells G ss mid new u → followed G F (Rule n ∷ ss) X ≡ true → has X (head G new) ≡ true → has (F.follow n) (head G mid) ≡ true
  mid_follows n ss mid new u X q f h = behind_rule n ss X (head G mid) f (begins_so ss mid new u X q (rest_followed n ss X f) h)

  -- what is spelt is read
  pub complete : (ss : List (Symbol G.Name)) (old new : List G.Token) (v : Trees G ss) (X : List ℕ) → Spells G ss old new v → followed G F ss X ≡ true → has X (head G new) ≡ true → Reads G ss old new v
  complete ss old new v X (Ends ts) f h = Done ts
  complete ss old new v X (Takes k rest t ts _ u e d) f h = Took k rest t ts new u e (complete rest ts new u X d f h)
  complete ss old new v X (Opens n a rest _ mid _ w u m d q) f h =
      Chose n a rest old mid new w u (choice_is n a rest old mid new w u X m d q f h)
      (complete a.body old mid w (F.follow n) d (body_followed n a m) (mid_follows n rest mid new u X q f h))
      (complete rest mid new u X q (rest_followed n rest X f) h)

  -- what is read is all that is spelt
  pub pinned : (ss : List (Symbol G.Name)) (old mid new : List G.Token) (w v : Trees G ss) (X : List ℕ) → Reads G ss old mid w → Spells G ss old new v → followed G F ss X ≡ true → has X (head G new) ≡ true → Same G ss mid new w v
  pinned ss old mid new w v X (Done ts) s f h =
      let o = out G [] ts new v s in record { place = o.same; trees = refl }
  pinned ss old mid new w v X (Took k rest t ts _ u e r) s f h =
      let o = out G (Leaf k ∷ rest) (t ∷ ts) new v s in
      let same = tails t o.t ts o.ts o.are in
      let i = pinned rest ts mid new u o.u X r (subst (λ (x : List G.Token). Spells G rest x new o.u) (sym same) o.rest) f h in
      let q : t ≡ o.t = heads t o.t ts o.ts o.are in
      let p : w ≡ (o.t, o.u) = λ j. (q j, i.trees j) in
      record { place = i.place; trees = p ∙ sym o.is }
  pinned ss old mid new w v X (Chose n a rest _ m1 _ x u e r q) s f h =
      let o = out G (Rule n ∷ rest) old new v s in
      let c = choice_is n o.a rest old o.mid new o.w o.u X o.among o.first o.second f h in
      let i = subst (λ (b : Body G n). (m2 : List G.Token) (y : Trees G b.body) → Spells G b.body old m2 y → followed G F b.body (F.follow n) ≡ true → has (F.follow n) (head G m2) ≡ true → (m1 ≡ m2) × (a.build x ≡ b.build y)) (sym e ∙ c)
      (λ m2 y d g l. let z = pinned a.body old m1 m2 x y (F.follow n) r d g l in (z.place, ap a.build z.trees))
      o.mid o.w o.first (body_followed n o.a o.among) (mid_follows n rest o.mid new o.u X o.second f h) in
      let j = pinned rest m1 mid new u o.u X q (subst (λ (y : List G.Token). Spells G rest y new o.u) (sym i.0) o.second) (rest_followed n rest X f) h in
      let p : w ≡ (o.a.build o.w, o.u) = λ k. (i.1 k, j.trees k) in
      record { place = j.place; trees = p ∙ sym o.is }

  -- where reading sticks, nothing is spelt
  pub none_goes_on : (l : ℕ) (ss : List (Symbol G.Name)) (old mid new : List G.Token) (v : Trees G ss) (X : List ℕ) → Stops G IsOther l ss old mid → Spells G ss old new v → followed G F ss X ≡ true → has X (head G new) ≡ true → ⊥
  none_goes_on l ss old mid new v X (Here _ k rest _ n) s f h =
      let o = out G (Leaf k ∷ rest) old new v s in n (ap (head G) o.are ∙ o.fits)
  none_goes_on l ss old mid new v X (Along _ k rest t ts _ e r) s f h =
      let o = out G (Leaf k ∷ rest) (t ∷ ts) new v s in
      none_goes_on (level G k l) rest ts mid new o.u X r (subst (λ (x : List G.Token). Spells G rest x new o.u) (sym (tails t o.t ts o.ts o.are)) o.rest) f h
  none_goes_on l ss old mid new v X (Within _ n a rest _ _ e r) s f h =
      let o = out G (Rule n ∷ rest) old new v s in
      let c = choice_is n o.a rest old o.mid new o.w o.u X o.among o.first o.second f h in
      subst (λ (b : Body G n). (y : Trees G b.body) → Spells G b.body old o.mid y → followed G F b.body (F.follow n) ≡ true → ⊥) (sym e ∙ c)
      (λ y d g. none_goes_on l a.body old mid o.mid y (F.follow n) r d g (mid_follows n rest o.mid new o.u X o.second f h))
      o.w o.first (body_followed n o.a o.among)
  none_goes_on l ss old mid new v X (Behind _ n a rest _ m1 _ x e r q) s f h =
      let o = out G (Rule n ∷ rest) old new v s in
      let c = choice_is n o.a rest old o.mid new o.w o.u X o.among o.first o.second f h in
      let i = subst (λ (b : Body G n). (y : Trees G b.body) → Spells G b.body old o.mid y → followed G F b.body (F.follow n) ≡ true → m1 ≡ o.mid) (sym e ∙ c)
      (λ y d g. (pinned a.body old m1 o.mid x y (F.follow n) r d g (mid_follows n rest o.mid new o.u X o.second f h)).place)
      o.w o.first (body_followed n o.a o.among) in
      none_goes_on l rest m1 mid new o.u X q (subst (λ (y : List G.Token). Spells G rest y new o.u) (sym i) o.second) (rest_followed n rest X f) h
