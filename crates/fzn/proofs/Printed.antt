-- The text of what is shown is what is printed.
use Rattle.std.proofs.Common.{◌≡◌, append-nil, ℕ, List, Option, None, Some, refl, inl, inr, Bool, true, false}
use Rattle.std.specs.Prelude.{ℤ}
use Rattle.fz_spec.specs.Instance.{Instance}
use Rattle.fz_spec.specs.Run.{blocks}
use Rattle.fz_spec.specs.declared.term.Term.{Term}
use Rattle.fz_spec.specs.declared.goal.Goal.{Goal}
use Rattle.fz_spec.specs.declared.goal.Goal.TheVariants as goals
use Rattle.fz_cmd.specs.Meaning.{Options}
use Rattle.fz_runs.specs.Runs.{AreBest, PrintsWanted, PrintsBest, PrintsGoal, PrintsFor, wanted}
use Rattle.fz_search.specs.Searched.{IsListing, IsShown, shows_all}
use Rattle.fz_printer.specs.Texts.{best_text, listing_text, shown_text}

listing_prints : (d : Bool) (m : Instance) (w : Option ℕ) (l : List (List ℤ)) (complete : Bool) → IsListing d m w l complete → PrintsWanted d w m l (listing_text m l complete)
listing_prints d m None l true h = record { lists = h; text = refl }
listing_prints d m None l false h = absurd h
listing_prints d m (Some n) l true h = inr (h.0, record { lists = h.1; text = refl })
listing_prints d m (Some n) l false h = inl (record { are = h; text = append-nil (blocks m l) })

best_prints : (all : Bool) (m : Instance) (l : List (List ℤ)) (complete : Bool) → complete ≡ true → AreBest all m l → PrintsBest all m l (listing_text m l complete)
best_prints all m l true is best = record { are = best; text = refl }
best_prints all m l false is best = absurd (cc is)

goal_prints : (generate : Option ℕ) (all : Bool) (t : Term) (m : Instance) (l : List (List ℤ)) (complete : Bool) → complete ≡ true → AreBest (shows_all generate all) m l
    → PrintsGoal generate all t m l (best_text generate t m l complete)
goal_prints None all t m l complete is best = best_prints all m l complete is best
goal_prints (Some items) all t m l complete is best = record { are = best; text = refl }

pub shown_prints : (goal : Goal) (m : Instance) (o : Options) (l : List (List ℤ)) (complete : Bool) → IsShown goal o m l complete → PrintsFor goal o m l (shown_text goal o.generate m l complete)
shown_prints goals.Satisfy m o l complete h = listing_prints o.distinct m (wanted o) l complete h
shown_prints (goals.Minimize t) m o l complete h = goal_prints o.generate o.all t m l complete h.0 h.1
shown_prints (goals.Maximize t) m o l complete h = goal_prints o.generate o.all t m l complete h.0 h.1
