-- The law of accounts over the fields, as the calls change them: k is the account by its fields, and now the same as contracts see it.
use Rattle.std.proofs.Common.{◌≡◌, ◌≢◌, ◌∙◌, ◌++◌, ◌∷◌, [], ap, sym, subst, List, true, false, Option, Some}
use Rattle.std.specs.Prelude.{ℤ, is_some, IfSome}
use Rattle.std.specs.List.{AllByRecursion}
use Rattle.fz_tree.specs.declared.decision.Decision.{Decision}
use Rattle.fz_tree.specs.declared.mode.Mode.TheVariants.{Best}
use Rattle.fz_tree.specs.Choice.{IsChoice}
use Rattle.fz_tree.specs.Frontier.{Frontier, can_cut, closed, branched, moved, part_of, rest_of}
use Rattle.fz_tree.specs.Proper.{IsReachable, Fits, IsHopeless, IsOnly}
use Rattle.fz_tree.specs.Rows.{IsAbout}
use Rattle.fz_tree.specs.Account.{Account, AccountLaw, with_after, with_witness}
use Rattle.fz_tree.proofs.Accounts.{branches, fails, adds, moves, gives, learns}
use Rattle.fz_account.specs.Learning.{IsNews}

pub fail_code : (now k : Account) (after : Frontier) → k ≡ now → AccountLaw k → now.after.current_open ≡ true → IsHopeless now.model now.after.edges now.witness → after ≡ closed k.after → AccountLaw (with_after k after)
fail_code now k after same law current hopeless made =
    subst (λ (f : Frontier). AccountLaw (with_after k f)) (sym made)
    (fails k law (ap (λ (c : Account). c.after.current_open) same ∙ current) (subst (λ (c : Account). IsHopeless c.model c.after.edges c.witness) (sym same) hopeless))

pub move_code : (now k : Account) (after : Frontier) → k ≡ now → AccountLaw k → now.after.current_open ≡ false → can_cut k.after ≡ true → after ≡ moved k.after → AccountLaw (with_after k after)
move_code now k after same law current some made =
    subst (λ (f : Frontier). AccountLaw (with_after k f)) (sym made) (moves k law (ap (λ (c : Account). c.after.current_open) same ∙ current) some)

pub branch_code : (now k : Account) (ds : List Decision) (after : Frontier) → k ≡ now → AccountLaw k → now.after.current_open ≡ true → IsChoice ds → AllByRecursion (IsReachable now.model.variables now.after.edges) ds
    → Fits now.model now.after.edges now.witness ds → IsAbout now.mode now.model ds → after ≡ record { edges = (branched k.after ds).edges; current_open = k.after.current_open } → AccountLaw (with_after k after)
branch_code now k ds after same law current choice reachable fits about made =
    let is_open : k.after.current_open ≡ true = ap (λ (c : Account). c.after.current_open) same ∙ current in
    let is : after ≡ branched k.after ds = made ∙ ap (λ b. let f : Frontier = record { edges = (branched k.after ds).edges; current_open = b } in f) is_open in
    subst (λ (f : Frontier). AccountLaw (with_after k f)) (sym is)
    (branches k ds law is_open choice (subst (λ (c : Account). AllByRecursion (IsReachable c.model.variables c.after.edges) ds) (sym same) reachable) (subst (λ (c : Account). Fits c.model c.after.edges c.witness ds) (sym same) fits)
    (subst (λ (c : Account). IsAbout c.mode c.model ds) (sym same) about))

-- what is found and what is left are replaced
abbrev pub with_both : Account → List (List ℤ) → Frontier → Account
with_both k found after = record { model = k.model; mode = k.mode; before = k.before; found = found; witness = k.witness; given = k.given; after = after }

pub add_code : (now k : Account) (x : List ℤ) (found : List (List ℤ)) (after : Frontier) → k ≡ now → AccountLaw k → now.mode ≢ Best → now.after.current_open ≡ true → IsOnly now.mode now.model now.after.edges now.witness x
    → found ≡ k.found ++ x ∷ [] → after ≡ closed k.after → AccountLaw (with_both k found after)
add_code now k x found after same law finds current only is_found is_after =
    subst (λ (l : List (List ℤ)). AccountLaw (with_both k l after)) (sym is_found) (subst (λ (f : Frontier). AccountLaw (with_both k (k.found ++ x ∷ []) f)) (sym is_after)
    (adds k x law (subst (λ (c : Account). c.mode ≢ Best) (sym same) finds) (ap (λ (c : Account). c.after.current_open) same ∙ current) (subst (λ (c : Account). IsOnly c.mode c.model c.after.edges c.witness x) (sym same) only)))

-- what is given and what is left are replaced
abbrev pub with_parts : Account → List Frontier → Frontier → Account
with_parts k given after = record { model = k.model; mode = k.mode; before = k.before; found = k.found; witness = k.witness; given = given; after = after }

pub give_code : (k : Account) (part copy : Frontier) (cut : Option Frontier) (given : List Frontier) (after : Frontier) → AccountLaw k → cut ≡ Some part → is_some cut ≡ can_cut k.after → IfSome cut (λ f. f ≡ part_of k.after)
    → copy ≡ part → given ≡ k.given ++ copy ∷ [] → after ≡ rest_of k.after → AccountLaw (with_parts k given after)
give_code k part copy cut given after law is some of_part is_copy is_given is_after =
    let can : can_cut k.after ≡ true = sym some ∙ ap (λ (o : Option Frontier). is_some o) is in
    let is_part : part ≡ part_of k.after = subst (λ (o : Option Frontier). IfSome o (λ f. f ≡ part_of k.after)) is of_part in
    let all : given ≡ k.given ++ part_of k.after ∷ [] = is_given ∙ ap (λ (f : Frontier). k.given ++ f ∷ []) (is_copy ∙ is_part) in
    subst (λ (l : List Frontier). AccountLaw (with_parts k l after)) (sym all)
    (subst (λ (f : Frontier). AccountLaw (with_parts k (k.given ++ part_of k.after ∷ []) f)) (sym is_after) (gives k law can))

pub learn_code : (now k : Account) (w copy : List ℤ) → k ≡ now → AccountLaw k → IsNews now w → copy ≡ w → AccountLaw (with_witness k copy)
learn_code now k w copy same law news is_copy =
    let of_k : IsNews k w = subst (λ (c : Account). IsNews c w) (sym same) news in
    subst (λ (v : List ℤ). AccountLaw (with_witness k v)) (sym is_copy) (learns k w law of_k.best of_k.satisfies of_k.better)
