-- Each call keeps the law of accounts.
use Rattle.std.proofs.Common.{◌≡◌, ◌≢◌, ◌+◌, List, [], ◌∷◌, ◌++◌, ◌⊎◌, inl, inr, refl, ap, sym, ◌∙◌, arith, true, false, cond}
use Rattle.std.specs.Prelude.{ℤ, IsTrue, Option, Some, IfSome}
use Rattle.std.specs.List.{AllByRecursion, list_any, count_by}
use Rattle.std.proofs.lemmas.List.Sums.{sum_by_push}
use Rattle.fz_spec.specs.Instance.{Instance, Satisfies, is_same}
use Rattle.fz_tree.specs.declared.decision.Decision.{Decision}
use Rattle.fz_tree.specs.declared.mode.Mode.{Mode}
use Rattle.fz_tree.specs.declared.mode.Mode.TheVariants.{All, Rows, Best}
use Rattle.fz_tree.specs.Choice.{meets, IsChoice}
use Rattle.fz_tree.specs.Frontier.{Edge, Frontier, AreEdges, times_in, times_below, can_cut, closed, branched, moved, part_of, first_of, next_edges, cut_part, cut_rest}
use Rattle.fz_tree.specs.Proper.{MeetsTaken, IsReachable, IsProper, Fits, IsHopeless, IsOnly}
use Rattle.fz_tree.specs.Better.{IsModeOf, Betters}
use Rattle.fz_tree.specs.Rows.{key, IsShown, IsAbout, AreAbout}
use Rattle.fz_tree.proofs.Rows.{taken_by_key}
use Rattle.fz_tree.specs.Account.{Account, AccountLaw, SuitsMode, begun, with_after, with_found, with_given, with_witness, rest_begun}
use Rattle.fz_tree.proofs.Counts.{one_if, any_count}
use Rattle.fz_tree.proofs.Times.{times_met, times_unmet, meets_cases, times_branch, times_next}
use Rattle.fz_tree.proofs.Cuts.{times_parts, edges_part, edges_rest}
use Rattle.fz_tree.proofs.Propers.{edges_push, edges_next, choices_next, choices_part, choices_rest, proper_push, proper_next, proper_part, proper_rest}
use Rattle.fz_tree.proofs.Orders.{betters_before}
use Rattle.fz_tree.proofs.Same.{differ, alike, one_more, all_push}

pub begins : (m : Instance) (mode : Mode) (f : Frontier) (witness : Option (List ℤ)) → IsModeOf m.goal mode → AreEdges f.edges → SuitsMode mode [] witness → IfSome witness (Satisfies m) → AccountLaw (begun m mode f witness)
begins m mode f witness own edges suits sound = record {
  own_mode = own;
  sound = tt;
  witness = sound;
  suits = suits;
  about = λ h. (tt, h);
  sums = λ about a satisfies better. omega arith;
  edges = (edges, tt, edges);
  proper = λ h. (tt, h);
}

-- what is left is replaced by what counts the same
after_alike : (c : Account) (f : Frontier) → AccountLaw c → AreEdges f.edges
    → (AreAbout c.mode c.model c.after.edges → AreAbout c.mode c.model f.edges)
    → ((a : List ℤ) → Satisfies c.model a → Betters c.model a c.witness → times_in f a ≡ times_in c.after a)
    → (IsProper c.model.variables c.after → IsProper c.model.variables f) → AccountLaw (with_after c f)
after_alike c f law edges about counts proper = record {
  own_mode = law.own_mode;
  sound = law.sound;
  witness = law.witness;
  suits = law.suits;
  about = λ h. ((law.about h).0, about (law.about h).1);
  sums = λ h a satisfies better. omega (arith, law.sums h a satisfies better, counts a satisfies better);
  edges = (law.edges.0, law.edges.1, edges);
  proper = λ h. ((law.proper h).0, proper (law.proper h).1);
}

-- ---- what edges are about

about_push : (mode : Mode) (m : Instance) (es : List Edge) (ds : List Decision) → IsAbout mode m ds → AreAbout mode m es → AreAbout mode m (es ++ first_of ds ∷ [])
about_push All m es ds of_ds of_es = tt
about_push Rows m es ds of_ds of_es = all_push (λ (e : Edge). AllByRecursion (IsShown m) e.choice) es (first_of ds) of_es of_ds
about_push Best m es ds of_ds of_es = tt

-- a change of edges that keeps each one's choice
about_kept : (change : List Edge → List Edge) → ((P : List Decision → Type 0) (es : List Edge) → AllByRecursion (λ (e : Edge). P e.choice) es → AllByRecursion (λ (e : Edge). P e.choice) (change es))
    → (mode : Mode) (m : Instance) (es : List Edge) → AreAbout mode m es → AreAbout mode m (change es)
about_kept change keeps All m es h = tt
about_kept change keeps Rows m es h = keeps (AllByRecursion (IsShown m)) es h
about_kept change keeps Best m es h = tt

about_next : (mode : Mode) (m : Instance) (es : List Edge) → AreAbout mode m es → AreAbout mode m (next_edges es)
about_next = about_kept next_edges choices_next

about_part : (mode : Mode) (m : Instance) (es : List Edge) → AreAbout mode m es → AreAbout mode m (cut_part es)
about_part = about_kept cut_part choices_part

about_rest : (mode : Mode) (m : Instance) (es : List Edge) → AreAbout mode m es → AreAbout mode m (cut_rest es)
about_rest = about_kept cut_rest choices_rest

exactly_one : (ds : List Decision) (a : List ℤ) → IsChoice ds → IsTrue (list_any (meets a) ds) → count_by (meets a) ds ≡ 1
exactly_one ds a choice some = elim (any_count (meets a) ds) [ inl h ↦ omega (arith, h.1, choice.at_most_one a) | inr h ↦ absurd (cc (some, h.0)) ]

open_counts : (f : Frontier) (a : List ℤ) → f.current_open ≡ true → times_in f a ≡ times_below f.edges a 1
open_counts f a is = ap (λ b. times_below f.edges a (cond b 1 0)) is

pub branches : (c : Account) (ds : List Decision) → AccountLaw c → c.after.current_open ≡ true → IsChoice ds → AllByRecursion (IsReachable c.model.variables c.after.edges) ds → Fits c.model c.after.edges c.witness ds
    → IsAbout c.mode c.model ds → AccountLaw (with_after c (branched c.after ds))
branches c ds law current choice reachable fits about =
    after_alike c (branched c.after ds) law (edges_push c.after.edges ds law.edges.2 choice) (about_push c.mode c.model c.after.edges ds about)
    (λ a satisfies better. sym (open_counts c.after a current ∙ times_branch c.after.edges ds a (λ met. exactly_one ds a choice (fits a satisfies better met))))
    (λ h. proper_push c.model.variables [] c.after.edges ds h reachable)

pub fails : (c : Account) → AccountLaw c → c.after.current_open ≡ true → IsHopeless c.model c.after.edges c.witness → AccountLaw (with_after c (closed c.after))
fails c law current hopeless =
    after_alike c (closed c.after) law law.edges.2 (λ h. h)
    (λ a satisfies better. times_unmet c.after.edges a 0 1 (hopeless a satisfies better) ∙ sym (open_counts c.after a current))
    (λ h. h)

pub moves : (c : Account) → AccountLaw c → c.after.current_open ≡ false → can_cut c.after ≡ true → AccountLaw (with_after c (moved c.after))
moves c law current some =
    after_alike c (moved c.after) law (edges_next c.after.edges some law.edges.2) (about_next c.mode c.model c.after.edges)
    (λ a satisfies better. sym (ap (λ b. times_below c.after.edges a (cond b 1 0)) current ∙ times_next c.after.edges a some))
    (λ h. proper_next c.model.variables [] c.after.edges h)

only_counts : (c : Account) (x a : List ℤ) → c.after.current_open ≡ true → IsOnly c.mode c.model c.after.edges c.witness x → AreAbout c.mode c.model c.after.edges → Satisfies c.model a → Betters c.model a c.witness
    → MeetsTaken c.after.edges a ⊎ (MeetsTaken c.after.edges a → ⊥) → one_if (is_same (key c.mode c.model a) (key c.mode c.model x)) + times_in (closed c.after) a ≡ times_in c.after a
only_counts c x a current only about satisfies better (inl met) =
    omega (arith, alike (key c.mode c.model a) (key c.mode c.model x) (only.only a satisfies better met), times_met c.after.edges a met, open_counts c.after a current)
only_counts c x a current only about satisfies better (inr unmet) =
    let other : one_if (is_same (key c.mode c.model a) (key c.mode c.model x)) ≡ 0
    = differ (key c.mode c.model a) (key c.mode c.model x) (λ e. unmet (taken_by_key c.mode c.model c.after.edges a x about satisfies.declared only.satisfies.declared e only.taken)) in
    omega (arith, other, times_unmet c.after.edges a 0 1 unmet, open_counts c.after a current)

suits_found : (mode : Mode) (found more : List (List ℤ)) (witness : Option (List ℤ)) → mode ≢ Best → SuitsMode mode found witness → SuitsMode mode more witness
suits_found All found more witness is suits = suits
suits_found Rows found more witness is suits = suits
suits_found Best found more witness is suits = absurd (is refl)

pub adds : (c : Account) (x : List ℤ) → AccountLaw c → c.mode ≢ Best → c.after.current_open ≡ true → IsOnly c.mode c.model c.after.edges c.witness x → AccountLaw (with_found c x)
adds c x law finds current only = record {
  own_mode = law.own_mode;
  sound = all_push (Satisfies c.model) c.found x law.sound only.satisfies;
  witness = law.witness;
  suits = suits_found c.mode c.found (c.found ++ x ∷ []) c.witness finds law.suits;
  about = law.about;
  sums = λ h a satisfies better.
      omega (arith, law.sums h a satisfies better, one_more c.mode c.model a x c.found, only_counts c x a current only (law.about h).1 satisfies better (meets_cases c.after.edges a));
  edges = law.edges;
  proper = law.proper;
}

pub gives : (c : Account) → AccountLaw c → can_cut c.after ≡ true → AccountLaw (with_given c)
gives c law some = record {
  own_mode = law.own_mode;
  sound = law.sound;
  witness = law.witness;
  suits = law.suits;
  about = λ h. (
    all_push (λ (f : Frontier). AreAbout c.mode c.model f.edges) c.given (part_of c.after) (law.about h).0 (about_part c.mode c.model c.after.edges (law.about h).1),
    about_rest c.mode c.model c.after.edges (law.about h).1,
  );
  sums = λ h a satisfies better. omega (arith, law.sums h a satisfies better, sum_by_push (λ (f : Frontier). times_in f a) c.given (part_of c.after), times_parts c.after a some);
  edges = (law.edges.0, all_push (λ (f : Frontier). AreEdges f.edges) c.given (part_of c.after) law.edges.1 (edges_part c.after.edges law.edges.2), edges_rest c.after.edges law.edges.2);
  proper = λ h. (all_push (IsProper c.model.variables) c.given (part_of c.after) (law.proper h).0 (proper_part c.model.variables [] c.after.edges (law.proper h).1), proper_rest c.model.variables [] c.after.edges (law.proper h).1);
}

suits_witness : (mode : Mode) (found : List (List ℤ)) (witness new : Option (List ℤ)) → mode ≡ Best → SuitsMode mode found witness → SuitsMode mode found new
suits_witness All found witness new is suits = absurd (cc is)
suits_witness Rows found witness new is suits = absurd (cc is)
suits_witness Best found witness new is suits = suits

pub learns : (c : Account) (w : List ℤ) → AccountLaw c → c.mode ≡ Best → Satisfies c.model w → Betters c.model w c.witness → AccountLaw (with_witness c w)
learns c w law best satisfies better = record {
  own_mode = law.own_mode;
  sound = law.sound;
  witness = satisfies;
  suits = suits_witness c.mode c.found c.witness (Some w) best law.suits;
  about = law.about;
  sums = λ h a of_a new. law.sums h a of_a (betters_before c.model a w c.witness better new);
  edges = law.edges;
  proper = law.proper;
}

suits_none : (mode : Mode) (found : List (List ℤ)) (witness : Option (List ℤ)) → SuitsMode mode found witness → SuitsMode mode [] witness
suits_none All found witness suits = suits
suits_none Rows found witness suits = suits
suits_none Best found witness suits = refl

pub hands_out : (c : Account) → AccountLaw c → AccountLaw (rest_begun c)
hands_out c law = begins c.model c.mode c.after c.witness law.own_mode law.edges.2 (suits_none c.mode c.found c.witness law.suits) law.witness
