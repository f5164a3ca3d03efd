-- What a step of propagation answers.
use Rattle.std.specs.Prelude.{◌≡◌, ℕ, ◌+◌, ◌*◌, ◌<◌, List, length, slice_get, Some}
use Rattle.fz_spec.specs.Instance.{Instance}
use Rattle.fz_strength.specs.Domains.{room}
use Rattle.fz_strength.specs.Promises.{RestsForGood}
use Rattle.fz_strength.specs.Sayings.{Saying, line_of}
use Rattle.fz_prop.specs.declared.answer.Answer.{Answer}
use Rattle.fz_prop.specs.declared.answer.Answer.TheVariants.{Fix, NoFix, Subsumed, Failed as Fails}
use Rattle.fz_prop.specs.Stores.{Stored}
use Rattle.fz_agenda.specs.Wakes.{IsDrained}
use Rattle.fz_engine.specs.declared.engine.Progress.{Progress}
use Rattle.fz_engine.specs.declared.engine.Progress.TheVariants.{Rested, Failed, Going}
use Rattle.fz_engine.specs.Networks.{Networked}
use Rattle.fz_engine.specs.Runs.{AllRest, AreNeverTrue, work}

-- a run of the propagator at a place, from one store to another
abbrev pub IsAnswerAt : Answer → Networked → ℕ → Stored → Stored → Type 0
IsAnswerAt Fix n place s t = (saying : Saying) × (slice_get n.sayings place ≡ Some saying) × line_of saying t.doms
IsAnswerAt NoFix n place s t = room t.doms < room s.doms
IsAnswerAt Subsumed n place s t = (saying : Saying) × (slice_get n.sayings place ≡ Some saying) × RestsForGood saying t.doms
IsAnswerAt Fails n place s t = AreNeverTrue n.model.constraints s.doms

abbrev pub IsProgress : Progress → Instance → Stored → List ℕ → Stored → List ℕ → Type 0
IsProgress Rested m s states t after = (t.doms ≡ s.doms) × AllRest m t.doms
IsProgress Failed m s states t after = AreNeverTrue m.constraints s.doms
IsProgress Going m s states t after = IsDrained t × (work t after < work s states)

-- how much may still happen where a store may list changes, which may queue every propagator
abbrev pub most_work : Stored → List ℕ → ℕ
most_work s states = room s.doms * (length states + 1) + length states

-- a step after the waking of those that wait for what the store lists, from there
abbrev pub IsAdvance : Progress → Instance → Stored → List ℕ → Stored → List ℕ → Type 0
IsAdvance Rested m s states t after = (t.doms ≡ s.doms) × AllRest m t.doms
IsAdvance Failed m s states t after = AreNeverTrue m.constraints s.doms
IsAdvance Going m s states t after = IsDrained t × (work t after < most_work s states) × (IsDrained s → work t after < work s states)
