-- Steps of reading, one after another.
use Rattle.std.proofs.Common.{ℕ, List, [], ◌∷◌, ◌++◌}
use Rattle.fz_grammar.specs.Grammar.{Symbol, Leaf, Rule, Grammar, Trees}
use Rattle.fz_grammar.specs.Levels.{levels}
use Rattle.fz_grammar.specs.Reading.{level, ReadsIn, DoneIn, TookIn, ChoseIn, StopsIn, HereIn, AlongIn, WithinIn, BehindIn, Reads, Done, Took, Chose, Stops, Here, Along, Within, Behind}

abbrev pub join : (G : Grammar) (ss rs : List (Symbol G.Name)) → Trees G ss → Trees G rs → Trees G (ss ++ rs)
join G [] rs v w = w
join G (Leaf k ∷ ss) rs v w = (v.0, join G ss rs v.1 w)
join G (Rule n ∷ ss) rs v w = (v.0, join G ss rs v.1 w)

pub plain : (G : Grammar) (limit l : ℕ) (ss : List (Symbol G.Name)) (old new : List G.Token) (v : Trees G ss) → ReadsIn G limit l ss old new v → Reads G ss old new v
plain G limit l ss old new v (DoneIn _ ts) = Done ts
plain G limit l ss old new v (TookIn _ k rest t ts _ u e f r) = Took k rest t ts new u e (plain G limit (level G k l) rest ts new u r)
plain G limit l ss old new v (ChoseIn _ n a rest _ m _ x u e d r) = Chose n a rest old m new x u e (plain G limit l a.body old m x d) (plain G limit l rest m new u r)

pub joined : (G : Grammar) (limit l : ℕ) (ss rs : List (Symbol G.Name)) (old mid new : List G.Token) (v : Trees G ss) (w : Trees G rs) → ReadsIn G limit l ss old mid v → ReadsIn G limit (levels G ss l) rs mid new w → ReadsIn G limit l (ss ++ rs) old new (join G ss rs v w)
joined G limit l ss rs old mid new v w (DoneIn _ ts) q = q
joined G limit l ss rs old mid new v w (TookIn _ k rest t ts _ u e f r) q = TookIn l k (rest ++ rs) t ts new (join G rest rs u w) e f (joined G limit (level G k l) rest rs ts mid new u w r q)
joined G limit l ss rs old mid new v w (ChoseIn _ n a rest _ m _ x u e d r) q = ChoseIn l n a (rest ++ rs) old m new x (join G rest rs u w) e d (joined G limit l rest rs m mid new u w r q)

pub plain_stops : (G : Grammar) (limit : ℕ) (P : ℕ → ℕ → ℕ → Type 0) (l : ℕ) (ss : List (Symbol G.Name)) (old new : List G.Token) → StopsIn G limit P l ss old new → Stops G P l ss old new
plain_stops G limit P l ss old new (HereIn _ k rest _ h) = Here l k rest new h
plain_stops G limit P l ss old new (AlongIn _ k rest t ts _ e f r) = Along l k rest t ts new e (plain_stops G limit P (level G k l) rest ts new r)
plain_stops G limit P l ss old new (WithinIn _ n a rest _ _ e r) = Within l n a rest old new e (plain_stops G limit P l a.body old new r)
plain_stops G limit P l ss old new (BehindIn _ n a rest _ m _ w e d r) = Behind l n a rest old m new w e (plain G limit l a.body old m w d) (plain_stops G limit P l rest m new r)

pub stops_before : (G : Grammar) (limit : ℕ) (P : ℕ → ℕ → ℕ → Type 0) (l : ℕ) (ss rs : List (Symbol G.Name)) (old new : List G.Token) → StopsIn G limit P l ss old new → StopsIn G limit P l (ss ++ rs) old new
stops_before G limit P l ss rs old new (HereIn _ k rest _ h) = HereIn l k (rest ++ rs) new h
stops_before G limit P l ss rs old new (AlongIn _ k rest t ts _ e f r) = AlongIn l k (rest ++ rs) t ts new e f (stops_before G limit P (level G k l) rest rs ts new r)
stops_before G limit P l ss rs old new (WithinIn _ n a rest _ _ e r) = WithinIn l n a (rest ++ rs) old new e r
stops_before G limit P l ss rs old new (BehindIn _ n a rest _ m _ w e d r) = BehindIn l n a (rest ++ rs) old m new w e d (stops_before G limit P l rest rs m new r)

pub stops_behind : (G : Grammar) (limit : ℕ) (P : ℕ → ℕ → ℕ → Type 0) (l : ℕ) (ss rs : List (Symbol G.Name)) (old mid new : List G.Token) (v : Trees G ss) → ReadsIn G limit l ss old mid v → StopsIn G limit P (levels G ss l) rs mid new → StopsIn G limit P l (ss ++ rs) old new
stops_behind G limit P l ss rs old mid new v (DoneIn _ ts) q = q
stops_behind G limit P l ss rs old mid new v (TookIn _ k rest t ts _ u e f r) q = AlongIn l k (rest ++ rs) t ts new e f (stops_behind G limit P (level G k l) rest rs ts mid new u r q)
stops_behind G limit P l ss rs old mid new v (ChoseIn _ n a rest _ m _ x u e d r) q = BehindIn l n a (rest ++ rs) old m new x e d (stops_behind G limit P l rest rs m mid new u r q)
