-- What declarations add to a model.
use Rattle.std.specs.Prelude.{ℕ}
use Rattle.fz_language.specs.Entries.{Environment}
use Rattle.fz_language.specs.Models.{Scope}

abbrev pub scope : Environment → ℕ → Scope
scope env variables = record { entries = env; variables = variables }
