-- Frontiers told apart: how often a frontier is one of several counts as much as any other measure of it.
use Rattle.std.proofs.Common.{◌≡◌, ◌∙◌, ℕ, List, Bool, true, false, cond, eqb, ◌&&◌, ap, sym, refl}
use Rattle.std.specs.Prelude.{ℤ}
use Rattle.std.specs.Bool.{Decides}
use Rattle.std.specs.Ordering.{int_eq}
use Rattle.std.specs.Cmp.Lexicographic.{pointwise}
use Rattle.std.proofs.lemmas.Bool.Decides.{Decides-eqb, Decides-int_eq, Decides-and, Decides-like}
use Rattle.std.proofs.lemmas.Slice.Eq.{slice_eq-Decides}
use Rattle.fz_tree.specs.declared.decision.Comparison.{Comparison}
use Rattle.fz_tree.specs.declared.decision.Comparison.TheVariants.{Equal, NotEqual, AtMost, Above}
use Rattle.fz_tree.specs.declared.decision.Decision.{Decision}
use Rattle.fz_tree.specs.Frontier.{Edge, Frontier}

abbrev tag : Comparison → ℕ
tag Equal = 0
tag NotEqual = 1
tag AtMost = 2
tag Above = 3

abbrev untag : ℕ → Comparison
untag n = cond (eqb n 0) Equal (cond (eqb n 1) NotEqual (cond (eqb n 2) AtMost Above))

untag_tag : (c : Comparison) → untag (tag c) ≡ c
untag_tag Equal = refl
untag_tag NotEqual = refl
untag_tag AtMost = refl
untag_tag Above = refl

abbrev same_decision : Decision → Decision → Bool
same_decision d e = eqb d.variable e.variable && (eqb (tag d.comparison) (tag e.comparison) && int_eq d.value e.value)

decision_parts : (d e : Decision) → d.variable ≡ e.variable → tag d.comparison ≡ tag e.comparison → d.value ≡ e.value → d ≡ e
decision_parts d e variable tags value =
    let comparison : d.comparison ≡ e.comparison = sym (untag_tag d.comparison) ∙ ap untag tags ∙ untag_tag e.comparison in
    let first : Comparison → ℤ → ℕ → Decision = λ c v n. record { variable = n; comparison = c; value = v } in
    ap (first d.comparison d.value) variable ∙ ap (λ (c : Comparison). first c d.value e.variable) comparison ∙ ap (λ (v : ℤ). first e.comparison v e.variable) value

decides_decision : (d e : Decision) → Decides (same_decision d e) (d ≡ e)
decides_decision d e =
    Decides-like (same_decision d e) (λ h. decision_parts d e h.0 h.1.0 h.1.1) (λ is. (ap (λ (x : Decision). x.variable) is, (ap (λ (x : Decision). tag x.comparison) is, ap (λ (x : Decision). x.value) is)))
    (Decides-and (eqb d.variable e.variable) (eqb (tag d.comparison) (tag e.comparison) && int_eq d.value e.value) (Decides-eqb d.variable e.variable)
    (Decides-and (eqb (tag d.comparison) (tag e.comparison)) (int_eq d.value e.value) (Decides-eqb (tag d.comparison) (tag e.comparison)) (Decides-int_eq d.value e.value)))

abbrev same_edge : Edge → Edge → Bool
same_edge d e = pointwise same_decision d.choice e.choice && (eqb d.taken e.taken && eqb d.last e.last)

edge_parts : (d e : Edge) → d.choice ≡ e.choice → d.taken ≡ e.taken → d.last ≡ e.last → d ≡ e
edge_parts d e choice taken last =
    let made : List Decision → ℕ → ℕ → Edge = λ c t l. record { choice = c; taken = t; last = l } in
    ap (λ (c : List Decision). made c d.taken d.last) choice ∙ ap (λ t. made e.choice t d.last) taken ∙ ap (made e.choice e.taken) last

decides_edge : (d e : Edge) → Decides (same_edge d e) (d ≡ e)
decides_edge d e =
    Decides-like (same_edge d e) (λ h. edge_parts d e h.0 h.1.0 h.1.1) (λ is. (ap (λ (x : Edge). x.choice) is, (ap (λ (x : Edge). x.taken) is, ap (λ (x : Edge). x.last) is)))
    (Decides-and (pointwise same_decision d.choice e.choice) (eqb d.taken e.taken && eqb d.last e.last) (slice_eq-Decides decides_decision d.choice e.choice (pointwise same_decision d.choice e.choice) refl)
    (Decides-and (eqb d.taken e.taken) (eqb d.last e.last) (Decides-eqb d.taken e.taken) (Decides-eqb d.last e.last)))

abbrev same_bool : Bool → Bool → Bool
same_bool true b = b
same_bool false true = false
same_bool false false = true

decides_bool : (a b : Bool) → Decides (same_bool a b) (a ≡ b)
decides_bool true true = (λ h. refl, λ h. refl)
decides_bool true false = (λ h. cc, λ h. cc)
decides_bool false true = (λ h. cc, λ h. cc)
decides_bool false false = (λ h. refl, λ h. refl)

abbrev pub same_frontier : Frontier → Frontier → Bool
same_frontier f g = pointwise same_edge f.edges g.edges && same_bool f.current_open g.current_open

frontier_parts : (f g : Frontier) → f.edges ≡ g.edges → f.current_open ≡ g.current_open → f ≡ g
frontier_parts f g edges current =
    let made : List Edge → Bool → Frontier = λ es b. record { edges = es; current_open = b } in
    ap (λ (es : List Edge). made es f.current_open) edges ∙ ap (made g.edges) current

pub decides_frontier : (f g : Frontier) → Decides (same_frontier f g) (f ≡ g)
decides_frontier f g =
    Decides-like (same_frontier f g) (λ h. frontier_parts f g h.0 h.1) (λ is. (ap (λ (x : Frontier). x.edges) is, ap (λ (x : Frontier). x.current_open) is))
    (Decides-and (pointwise same_edge f.edges g.edges) (same_bool f.current_open g.current_open) (slice_eq-Decides decides_edge f.edges g.edges (pointwise same_edge f.edges g.edges) refl) (decides_bool f.current_open g.current_open))
