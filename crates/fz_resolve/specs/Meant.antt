-- What the names and the faults of the checker stand for.
use Rattle.std.specs.Prelude.{ℕ, ◌+◌, ◌*◌, ◌%◌, ◌^◌, List, [], ◌∷◌, option_map}
use Rattle.std.specs.Ordering.{nat_cmp, ordering_then}
use Rattle.std.specs.Cmp.Lexicographic.{slice_cmp}
use Rattle.std.specs.BTreeMap.{get_by}
use Rattle.fz_language.specs.Entries as entries
use Rattle.fz_language.specs.Rules as rules
use Rattle.fz_resolve.specs.declared.fault.Fault.{Fault}
use Rattle.fz_resolve.specs.declared.names.Names.{Names}
use Rattle.fz_resolve.specs.declared.entry.Entry.{Entry}
use Rattle.fz_resolve.specs.declared.entry.Entry.TheVariants as entry

abbrev pub meant : Entry → entries.Entry
meant (entry.Variable kind number) = entries.Variable kind number
meant (entry.Value kind value) = entries.Value kind value
meant (entry.Set set) = entries.Set set.value
meant (entry.Numbers list) = entries.Numbers list.value.kind list.value.items
meant (entry.Terms list) = entries.Terms list.value.kind list.value.items
meant entry.Sets = entries.Sets

-- the number that eight bytes make, and its last eight after it if there are more
abbrev pub tail_from : ℕ → List ℕ → ℕ
tail_from tail [] = tail
tail_from tail (b ∷ bs) = tail_from ((tail * 256 % 2 ^ 64 + b) % 2 ^ 64) bs

-- what each name stands for, by its bytes
abbrev pub environment_of : Names → entries.Environment
environment_of names name = option_map meant (get_by (λ k. ordering_then (nat_cmp (tail_from 0 name) k.0) (slice_cmp nat_cmp name k.1.now)) names.known)

abbrev pub fault_of : Fault → rules.Fault
fault_of f = record { rule = f.rule; at = f.at }
