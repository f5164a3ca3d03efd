-- Edges without open alternatives, above others: what moving and cutting make of all of them.
use Rattle.std.proofs.Common.{◌≡◌, ◌∙◌, ◌+◌, ℕ, zero, suc, List, [], ◌∷◌, ◌++◌, Bool, true, false, ◌||◌, length, take, drop, ap, ap₂, map, sym, subst, refl, arith, length-append, take_all}
use Rattle.std.specs.Bool.{OnTrue, OnFalse}
use Rattle.std.specs.List.{list_any}
use Rattle.std.proofs.lemmas.Bool.{or_parts, or_from, cond-true, cond-false, ltb-false}
use Rattle.std.proofs.lemmas.List.{get_or-append-add}
use Rattle.std.proofs.Math.Seq.{take-append-add}
use Rattle.std.proofs.lemmas.List.Folds.{list_any-append}
use Rattle.fz_tree.specs.Frontier.{Edge, AreEdges, edge_has_rest, next_edges, cut_part, cut_rest, cut_edge, kept_edge, settled_edge}
use Rattle.fz_tree.proofs.Nodes.{none_settled}
use Rattle.fz_region.specs.Places.{IsTopmost, next_edge}
use Rattle.fz_region.specs.Pieces.{AreSettled, AreSettledTo}

-- ---- which of two

or_behind : (a b : Bool) → a ≡ false → (a || b) ≡ b
or_behind a b h = ap (λ (c : Bool). c || b) h

or_second : (a b : Bool) → b ≡ true → (a || b) ≡ true
or_second true b h = refl
or_second false b h = h

pub settled_all : (es fs : List Edge) → AreSettled es → AreSettled fs → AreSettled (es ++ fs)
settled_all es fs h k = list_any-append edge_has_rest es fs ∙ or_from (list_any edge_has_rest es) (list_any edge_has_rest fs) h k

pub any_past : (es fs : List Edge) → AreSettled es → list_any edge_has_rest (es ++ fs) ≡ list_any edge_has_rest fs
any_past es fs h = list_any-append edge_has_rest es fs ∙ or_behind (list_any edge_has_rest es) (list_any edge_has_rest fs) h

-- ---- after settled ones

pub next_past : (es fs : List Edge) → list_any edge_has_rest fs ≡ true → next_edges (es ++ fs) ≡ es ++ next_edges fs
next_past [] fs some = refl
next_past (e ∷ es) fs some =
    cond-true (list_any edge_has_rest (es ++ fs)) (e ∷ next_edges (es ++ fs)) (next_edge e ∷ []) (list_any-append edge_has_rest es fs ∙ or_second (list_any edge_has_rest es) (list_any edge_has_rest fs) some)
    ∙ ap (λ (l : List Edge). e ∷ l) (next_past es fs some)

pub part_past : (es fs : List Edge) → AreSettled es → cut_part (es ++ fs) ≡ es ++ cut_part fs
part_past [] fs h = refl
part_past (e ∷ es) fs h =
    let both = or_parts (edge_has_rest e) (list_any edge_has_rest es) h in
    cond-false (edge_has_rest e) (cut_edge e ∷ []) (e ∷ cut_part (es ++ fs)) both.0 ∙ ap (λ (l : List Edge). e ∷ l) (part_past es fs both.1)

pub rest_past : (es fs : List Edge) → AreSettled es → cut_rest (es ++ fs) ≡ es ++ cut_rest fs
rest_past [] fs h = refl
rest_past (e ∷ es) fs h =
    let both = or_parts (edge_has_rest e) (list_any edge_has_rest es) h in
    cond-false (edge_has_rest e) (kept_edge e ∷ (es ++ fs)) (e ∷ cut_rest (es ++ fs)) both.0 ∙ ap (λ (l : List Edge). e ∷ l) (rest_past es fs both.1)

-- nothing is cut
pub rest_settled : (es : List Edge) → AreSettled es → cut_rest es ≡ es
rest_settled [] h = refl
rest_settled (e ∷ es) h =
    let both = or_parts (edge_has_rest e) (list_any edge_has_rest es) h in
    cond-false (edge_has_rest e) (kept_edge e ∷ es) (e ∷ cut_rest es) both.0 ∙ ap (λ (l : List Edge). e ∷ l) (rest_settled es both.1)

topmost_past : (es fs : List Edge) (i : ℕ) → AreSettled es → IsTopmost fs i → IsTopmost (es ++ fs) (length es + i)
topmost_past es fs i h top = record {
  within = omega (arith, length-append es fs, top.within);
  has_rest = λ d. ap edge_has_rest (get_or-append-add es fs i d) ∙ top.has_rest d;
  none_above = ap (list_any edge_has_rest) (take-append-add es fs i) ∙ any_past es (take i fs) h ∙ top.none_above;
}

pub topmost_at : (es fs : List Edge) (i place : ℕ) → AreSettled es → place ≡ length es + i → IsTopmost fs i → IsTopmost (es ++ fs) place
topmost_at es fs i place h is top = subst (IsTopmost (es ++ fs)) (sym is) (topmost_past es fs i h top)

-- with nothing open after the taken alternative they stay as they are
pub closed_past : (es fs : List Edge) → AreEdges (es ++ fs) → AreSettled es → map settled_edge (es ++ fs) ≡ es ++ map settled_edge fs
closed_past [] fs edges h = refl
closed_past (e ∷ es) fs edges h =
    let both = or_parts (edge_has_rest e) (list_any edge_has_rest es) h in
    let last : e.taken ≡ e.last = omega (arith, edges.0.taken_to_last, ltb-false e.taken e.last both.0) in
    let here : settled_edge e ≡ e = ap (λ (n : ℕ). record { choice = e.choice; taken = e.taken; last = n }) last in
    ap₂ (λ (x : Edge) (l : List Edge). x ∷ l) here (closed_past es fs edges.1 both.1)

-- then all of them are settled
pub all_closed : (es fs : List Edge) (n : ℕ) → fs ≡ map settled_edge es → n ≡ length fs → AreSettledTo n fs
all_closed es fs n is size = record {
  within = omega (arith, size);
  settled = ap (list_any edge_has_rest) (ap (λ (k : ℕ). take k fs) size ∙ take_all (length fs) fs (omega arith) ∙ is) ∙ none_settled es;
}

-- ---- the first ones that are settled

pub settled_none : (es : List Edge) → AreSettledTo 0 es
settled_none es = record { within = omega arith; settled = refl }

first_settled : (e : Edge) (es : List Edge) (n : ℕ) → AreSettledTo (suc n) (e ∷ es) → (edge_has_rest e ≡ false) × AreSettledTo n es
first_settled e es n front =
    let both = or_parts (edge_has_rest e) (list_any edge_has_rest (take n es)) front.settled in
    (both.0, record { within = omega (arith, front.within); settled = both.1 })

one_more : (e : Edge) (es : List Edge) (n : ℕ) → edge_has_rest e ≡ false → AreSettledTo n es → AreSettledTo (suc n) (e ∷ es)
one_more e es n here front = record {
  within = omega (arith, front.within);
  settled = or_from (edge_has_rest e) (list_any edge_has_rest (take n es)) here front.settled;
}

pub settled_above : (n m : ℕ) (es : List Edge) → AreSettledTo (n + m) es → AreSettled (take n es)
settled_above zero m es front = refl
settled_above (suc n) m [] front = refl
settled_above (suc n) m (e ∷ es) front =
    let size : suc n + m ≡ suc (n + m) = omega arith in
    let both = first_settled e es (n + m) (subst (λ (k : ℕ). AreSettledTo k (e ∷ es)) size front) in
    or_from (edge_has_rest e) (list_any edge_has_rest (take n es)) both.0 (settled_above n m es both.1)

pub settled_below : (n m : ℕ) (es : List Edge) → AreSettledTo (n + m) es → AreSettledTo m (drop n es)
settled_below zero m es front = let size : 0 + m ≡ m = omega arith in subst (λ (k : ℕ). AreSettledTo k es) size front
settled_below (suc n) m [] front = absurd (omega (arith, front.within))
settled_below (suc n) m (e ∷ es) front =
    let size : suc n + m ≡ suc (n + m) = omega arith in
    settled_below n m es (first_settled e es (n + m) (subst (λ (k : ℕ). AreSettledTo k (e ∷ es)) size front)).1

-- They stay.

pub settled_next : (n : ℕ) (es : List Edge) → list_any edge_has_rest es ≡ true → AreSettledTo n es → AreSettledTo n (next_edges es)
settled_next zero es some front = settled_none (next_edges es)
settled_next (suc n) [] some front = absurd (omega (arith, front.within))
settled_next (suc n) (e ∷ es) some front =
    let both = first_settled e es n front in
    let behind : list_any edge_has_rest es ≡ true = sym (or_behind (edge_has_rest e) (list_any edge_has_rest es) both.0) ∙ some in
    subst (AreSettledTo (suc n)) (sym (cond-true (list_any edge_has_rest es) (e ∷ next_edges es) (next_edge e ∷ []) behind)) (one_more e (next_edges es) n both.0 (settled_next n es behind both.1))

pub settled_part : (n : ℕ) (es : List Edge) → AreSettledTo n es → AreSettledTo n (cut_part es)
settled_part zero es front = settled_none (cut_part es)
settled_part (suc n) [] front = absurd (omega (arith, front.within))
settled_part (suc n) (e ∷ es) front =
    let both = first_settled e es n front in
    subst (AreSettledTo (suc n)) (sym (cond-false (edge_has_rest e) (cut_edge e ∷ []) (e ∷ cut_part es) both.0)) (one_more e (cut_part es) n both.0 (settled_part n es both.1))

pub settled_rest : (n : ℕ) (es : List Edge) → AreSettledTo n es → AreSettledTo n (cut_rest es)
settled_rest zero es front = settled_none (cut_rest es)
settled_rest (suc n) [] front = absurd (omega (arith, front.within))
settled_rest (suc n) (e ∷ es) front =
    let both = first_settled e es n front in
    subst (AreSettledTo (suc n)) (sym (cond-false (edge_has_rest e) (kept_edge e ∷ es) (e ∷ cut_rest es) both.0)) (one_more e (cut_rest es) n both.0 (settled_rest n es both.1))

-- ---- as the code says it

pub moved_past : (b : Bool) (front tail new : List Edge) → b ≡ list_any edge_has_rest tail → OnTrue b (new ≡ next_edges tail) → OnTrue b (front ++ new ≡ next_edges (front ++ tail))
moved_past false front tail new some moved = tt
moved_past true front tail new some moved = ap (λ (l : List Edge). front ++ l) moved ∙ sym (next_past front tail (sym some))

pub settled_moved : (b : Bool) (n : ℕ) (tail new : List Edge) → b ≡ list_any edge_has_rest tail → OnTrue b (new ≡ next_edges tail) → OnFalse b (new ≡ tail) → AreSettledTo n tail → AreSettledTo n new
settled_moved false n tail new some moved same front = subst (AreSettledTo n) (sym same) front
settled_moved true n tail new some moved same front = subst (AreSettledTo n) (sym moved) (settled_next n tail (sym some) front)
