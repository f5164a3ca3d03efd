-- What moving and cutting make of the edges, at the place where they do it.
use Rattle.std.proofs.Common.{◌≡◌, ℕ, zero, suc, ◌+◌, ◌-◌, ◌<◌, ◌≤◌, List, [], ◌∷◌, ◌++◌, ap, sym, ◌∙◌, arith, true, false, length, take, drop, set, get_or, subst, Option, Some, None}
use Rattle.std.specs.Prelude.{ℤ, MatchOption, is_some}
use Rattle.std.proofs.lemmas.List.{get_or-take, get_or-drop, length-take, length-drop}
use Rattle.fz_tree.specs.declared.decision.Decision.{Decision}
use Rattle.fz_tree.specs.Choice.{meets}
use Rattle.std.specs.List.{list_any}
use Rattle.std.proofs.lemmas.Bool.{or_parts, cond-true, cond-false, or_from}
use Rattle.std.proofs.lemmas.List.Folds.{list_any_at, list_any_more}
use Rattle.fz_tree.specs.Frontier.{Edge, Frontier, AreEdges, AreParts, others, edge_has_rest, can_cut, next_edges, cut_part, cut_rest, cut_edge, kept_edge, part_of, rest_of}
use Rattle.fz_tree.proofs.Cuts.{cut_parts}
use Rattle.fz_region.specs.Places.{IsTopmost, IsDeepest, next_edge}

-- ---- the deepest

deepest_some : (es : List Edge) (i : ℕ) (d : Edge) → IsDeepest es i → list_any edge_has_rest es ≡ true
deepest_some es i d deep = list_any_at edge_has_rest es i d deep.within (deep.has_rest d)

below : (e : Edge) (es : List Edge) (i : ℕ) → IsDeepest (e ∷ es) (suc i) → IsDeepest es i
below e es i deep = record { within = omega (arith, deep.within); has_rest = deep.has_rest; none_below = deep.none_below }

next_at_deepest : (es : List Edge) (i : ℕ) (e : Edge) → IsDeepest es i → e ≡ get_or es i e → next_edges es ≡ take (suc i) (set es i (next_edge e))
next_at_deepest [] i e deep is = absurd (omega (arith, deep.within))
next_at_deepest (x ∷ xs) zero e deep is =
    cond-false (list_any edge_has_rest xs) (x ∷ next_edges xs) (next_edge x ∷ []) deep.none_below ∙ ap (λ (y : Edge). next_edge y ∷ []) (sym is)
next_at_deepest (x ∷ xs) (suc i) e deep is =
    cond-true (list_any edge_has_rest xs) (x ∷ next_edges xs) (next_edge x ∷ []) (deepest_some xs i e (below x xs i deep))
    ∙ ap (λ (ys : List Edge). x ∷ ys) (next_at_deepest xs i e (below x xs i deep) is)

pub next_code : (es new : List Edge) (i : ℕ) (e : Edge) → IsDeepest es i → e ≡ get_or es i e → new ≡ take (i + 1) (set es i (next_edge e)) → new ≡ next_edges es
next_code es new i e deep is made =
    let size : i + 1 ≡ suc i = omega arith in
    made ∙ ap (λ n. take n (set es i (next_edge e))) size ∙ sym (next_at_deepest es i e deep is)

pub some_deepest : (es : List Edge) (o : Option ℕ) → MatchOption o (list_any edge_has_rest es ≡ false) (IsDeepest es) → is_some o ≡ list_any edge_has_rest es
some_deepest es None h = sym h
some_deepest [] (Some i) h = absurd (omega (arith, h.within))
some_deepest (e ∷ es) (Some i) h = sym (deepest_some (e ∷ es) i e h)

-- ---- the topmost

topmost_some : (es : List Edge) (i : ℕ) (d : Edge) → IsTopmost es i → list_any edge_has_rest es ≡ true
topmost_some es i d top = list_any_at edge_has_rest es i d top.within (top.has_rest d)

under : (e : Edge) (es : List Edge) (i : ℕ) → IsTopmost (e ∷ es) (suc i) → IsTopmost es i
under e es i top = record { within = omega (arith, top.within); has_rest = top.has_rest; none_above = (or_parts (edge_has_rest e) (list_any edge_has_rest (take i es)) top.none_above).1 }

part_at_topmost : (es : List Edge) (i : ℕ) (e : Edge) → IsTopmost es i → e ≡ get_or es i e → cut_part es ≡ take i es ++ cut_edge e ∷ []
part_at_topmost [] i e top is = absurd (omega (arith, top.within))
part_at_topmost (x ∷ xs) zero e top is =
    cond-true (edge_has_rest x) (cut_edge x ∷ []) (x ∷ cut_part xs) (top.has_rest e) ∙ ap (λ (y : Edge). cut_edge y ∷ []) (sym is)
part_at_topmost (x ∷ xs) (suc i) e top is =
    cond-false (edge_has_rest x) (cut_edge x ∷ []) (x ∷ cut_part xs) (or_parts (edge_has_rest x) (list_any edge_has_rest (take i xs)) top.none_above).0
    ∙ ap (λ (ys : List Edge). x ∷ ys) (part_at_topmost xs i e (under x xs i top) is)

rest_at_topmost : (es : List Edge) (i : ℕ) (e : Edge) → IsTopmost es i → e ≡ get_or es i e → cut_rest es ≡ set es i (kept_edge e)
rest_at_topmost [] i e top is = absurd (omega (arith, top.within))
rest_at_topmost (x ∷ xs) zero e top is =
    cond-true (edge_has_rest x) (kept_edge x ∷ xs) (x ∷ cut_rest xs) (top.has_rest e) ∙ ap (λ (y : Edge). kept_edge y ∷ xs) (sym is)
rest_at_topmost (x ∷ xs) (suc i) e top is =
    cond-false (edge_has_rest x) (kept_edge x ∷ xs) (x ∷ cut_rest xs) (or_parts (edge_has_rest x) (list_any edge_has_rest (take i xs)) top.none_above).0
    ∙ ap (λ (ys : List Edge). x ∷ ys) (rest_at_topmost xs i e (under x xs i top) is)

pub part_code : (es new : List Edge) (i : ℕ) (e : Edge) → IsTopmost es i → e ≡ get_or es i e → new ≡ take i es ++ cut_edge e ∷ [] → new ≡ cut_part es
part_code es new i e top is made = made ∙ sym (part_at_topmost es i e top is)

pub rest_code : (es new : List Edge) (i : ℕ) (e : Edge) → IsTopmost es i → e ≡ get_or es i e → new ≡ set es i (kept_edge e) → new ≡ cut_rest es
rest_code es new i e top is made = made ∙ sym (rest_at_topmost es i e top is)

pub parts_code : (whole part rest : Frontier) → AreEdges whole.edges → can_cut whole ≡ true → part ≡ part_of whole → rest ≡ rest_of whole → AreParts whole part rest
parts_code whole part rest edges some is_part is_rest =
    subst (λ (f : Frontier). AreParts whole f rest) (sym is_part) (subst (λ (g : Frontier). AreParts whole (part_of whole) g) (sym is_rest) (cut_parts whole edges some))

-- ---- an alternative after the taken one

other_at : (e : Edge) (i : ℕ) (d : Decision) → e.taken < i → i ≤ e.last → get_or (others e) (i - (e.taken + 1)) d ≡ get_or e.choice i d
other_at e i d after upto =
    let within : i - (e.taken + 1) < e.last - e.taken = omega (arith, after, upto) in
    let place : e.taken + 1 + (i - (e.taken + 1)) ≡ i = omega (arith, after) in
    get_or-take (e.last - e.taken) (drop (e.taken + 1) e.choice) (i - (e.taken + 1)) d within
    ∙ get_or-drop (e.taken + 1) e.choice (i - (e.taken + 1)) d ∙ ap (λ k. get_or e.choice k d) place

other_within : (e : Edge) (i : ℕ) → e.taken < i → i ≤ e.last → e.last < length e.choice → i - (e.taken + 1) < length (others e)
other_within e i after upto last =
    omega (arith, after, upto, last, length-take (e.last - e.taken) (drop (e.taken + 1) e.choice), length-drop (e.taken + 1) e.choice)

pub other_met : (e : Edge) (i : ℕ) (a : List ℤ) (d : Decision) → e.taken < i → i ≤ e.last → e.last < length e.choice → d ≡ get_or e.choice i d → meets a d ≡ true → list_any (meets a) (others e) ≡ true
other_met e i a d after upto last is met =
    list_any_at (meets a) (others e) (i - (e.taken + 1)) d (other_within e i after upto last) (ap (meets a) (other_at e i d after upto ∙ sym is) ∙ met)

pub other_unmet : (e : Edge) (i : ℕ) (a : List ℤ) (d : Decision) → e.taken < i → i ≤ e.last → e.last < length e.choice → d ≡ get_or e.choice i d → meets a d ≡ false
    → list_any (meets a) (take (i - (e.taken + 1)) (others e)) ≡ false → list_any (meets a) (take (i + 1 - (e.taken + 1)) (others e)) ≡ false
other_unmet e i a d after upto last is unmet before =
    let size : i + 1 - (e.taken + 1) ≡ i - (e.taken + 1) + 1 = omega (arith, after) in
    let here : meets a (get_or (others e) (i - (e.taken + 1)) d) ≡ false = ap (meets a) (other_at e i d after upto ∙ sym is) ∙ unmet in
    ap (λ n. list_any (meets a) (take n (others e))) size
    ∙ list_any_more (meets a) (others e) (i - (e.taken + 1)) d (other_within e i after upto last) ∙ or_from (list_any (meets a) (take (i - (e.taken + 1)) (others e))) (meets a (get_or (others e) (i - (e.taken + 1)) d)) before here
