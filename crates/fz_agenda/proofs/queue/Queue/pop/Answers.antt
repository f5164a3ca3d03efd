use Rattle.std.proofs.Common.{◌≡◌, ◌∙◌, ℕ, ◌+◌, List, ◌∷◌, drop, drop-drop, sym, ap}
use Rattle.fz_agenda.proofs.queue.Queue.pop.Goals as goal

next : (xs : List ℕ) (h i : ℕ) (rest : List ℕ) → drop h xs ≡ i ∷ rest → drop (h + 1) xs ≡ rest
next xs h i rest is = sym (drop-drop 1 h xs) ∙ ap (drop 1) is

pub returns : goal.returns
returns c = λ i rest is.
    let left = next c.self.inside.places.items c.self.inside.head i rest (cc (c.self.view_is, is)) in
    cc (c.close_up.ensures, left)
