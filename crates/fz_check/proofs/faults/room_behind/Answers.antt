use Rattle.std.proofs.Common.{◌≡◌, ◌∙◌, sym, ap, option_map, [], ◌++◌, None}
use Rattle.std.specs.Prelude.{List, slice_get, Result, Ok, Err, MatchResult}
use Rattle.fz_language.specs.declared.fault.RuleFault.TheVariants.{OverLimit}
use Rattle.fz_language.specs.Rules as rules
use Rattle.fz_language.specs.Rules.{Counts, at_places, over, all_counted, additions, Addition}
use Rattle.fz_resolve.specs.declared.fault.Fault.{Fault}
use Rattle.fz_syntax.specs.declared.limits.Room.{Room}
use Rattle.fz_resolve.specs.Meant.{fault_of}
use Rattle.fz_syntax.specs.Rooms.{IsRoom}
use Rattle.fz_syntax.specs.Trees.{item_of}
use Rattle.fz_check.specs.Checked.{IsFirstFault}
use Rattle.fz_check.proofs.FaultLaws.{first_front, behind_none, no_first}
use Rattle.fz_check.proofs.faults.room_behind.Goals as goal

pub returns-in-Some : goal.returns-in-Some
returns-in-Some c = λ faults n e r. first_front faults (at_places OverLimit (over n (additions (item_of c.args.item.now)))) (fault_of c.in-Some.fault) (sym e ∙ ap (option_map fault_of) c.in-Some.is)

turned : (faults : List rules.Fault) (n : Counts) (adds : List Addition) (result : Result Room Fault) → slice_get faults 0 ≡ None → MatchResult result (λ left. (over n adds ≡ []) × IsRoom left (all_counted n adds)) (IsFirstFault (at_places OverLimit (over n adds)))
    → MatchResult result (λ left. (faults ≡ []) × (over n adds ≡ []) × IsRoom left (all_counted n adds)) (IsFirstFault (faults ++ at_places OverLimit (over n adds)))
turned faults n adds (Ok left) e h = (no_first faults e, h.0, h.1)
turned faults n adds (Err fault) e h = behind_none faults (at_places OverLimit (over n adds)) e ∙ h

pub returns-in-None : goal.returns-in-None
returns-in-None c = λ faults n e r. turned faults n (additions (item_of c.args.item.now)) c.room_left.result (sym e ∙ ap (option_map fault_of) c.in-None.is) (c.room_left.ensures n r)
