use Rattle.std.proofs.Common.{◌≡◌, ◌<◌, ℕ, suc, List, ◌∷◌, length, drop, drop-cons, get_or, arith, sym, ap}
use Rattle.fz_agenda.proofs.queue.Queue.first.Goals as goal

first : (xs : List ℕ) (h x : ℕ) → h < length xs → x ≡ get_or xs h x → drop h xs ≡ x ∷ drop (suc h) xs
first xs h x within is = rw (drop-cons xs h x) (ap (λ (z : ℕ). z ∷ drop (suc h) xs) (sym is))

pub returns-then-self-len : goal.returns-then-self-len
returns-then-self-len c =
    let items = c.self.inside.places.items in
    let within : c.self.inside.head < length items = omega arith in
    (drop (suc c.self.inside.head) items, rw (← c.self.view_is) (first items c.self.inside.head c.index.result.now within c.index.ensures))
