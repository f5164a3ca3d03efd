-- Seats as contracts see them.
use Rattle.std.specs.Prelude.{ℕ, ◌+◌, ◌-◌, min}
use Rattle.atomic_table.specs.Seated.{TableId}
use Rattle.fz_bound.specs.declared.known.Known.{Known}
use Rattle.fz_bound.specs.Rule.{UNSET, PARTS}

pub record Seated : Type 0 where
  pub bound : TableId
  pub least : ℕ
  pub seen : ℕ
  pub parts : ℕ

abbrev pub seated : TableId → Known → Seated
seated b v = record { bound = b; least = v.least; seen = v.seen; parts = v.parts }

-- nothing was put, and all parts are there
abbrev pub first_of : TableId → Seated
first_of b = record { bound = b; least = UNSET; seen = UNSET; parts = PARTS }

abbrev pub with_seen : Seated → ℕ → Seated
with_seen s n = record { bound = s.bound; least = s.least; seen = n; parts = s.parts }

-- one part goes to a seat that has put nothing
abbrev pub split_from : Seated → Seated
split_from s = record { bound = s.bound; least = s.least; seen = s.seen; parts = s.parts - 1 }

abbrev pub split_off : Seated → Seated
split_off s = record { bound = s.bound; least = UNSET; seen = s.seen; parts = 1 }

abbrev pub joined : Seated → Seated → Seated
joined s t = record { bound = s.bound; least = min s.least t.least; seen = min s.seen t.seen; parts = s.parts + t.parts }
