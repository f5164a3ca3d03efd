-- What a guess gives back: what was printed, where a certificate was.
use Rattle.std.specs.Prelude.{◌≡◌, ℕ, ◌^◌, ◌<◌, ◌≤◌, List, [], ◌∷◌, Option, Some, None}
use Rattle.std.specs.List.{AllByRecursion}
use Rattle.fz_refutes.specs.Boxes.{IsWord}
use Rattle.fz_refutes.specs.Trees.{Line, IsEmpty, Fails, IsBehind, Splits}
use Rattle.fz_cert.specs.declared.step.Step.{Step}
use Rattle.fz_cert.specs.Steps.{line_of}

-- neither a blank nor the end of a line, nor anything below them
abbrev pub IsInWord : ℕ → Type 0
IsInWord byte = 32 < byte

-- here a word that stands before has its end
abbrev pub EndsWord : List ℕ → Type 0
EndsWord [] = Unit {0}
EndsWord (byte ∷ bytes) = byte ≤ 32

-- the numbers of a line are numbers of 32 bits
abbrev pub HasWords : Line → Type 0
HasWords IsEmpty = Unit {0}
HasWords (Fails c) = c < 2 ^ 32
HasWords IsBehind = Unit {0}
HasWords (Splits v n) = (v < 2 ^ 32) × IsWord n

-- the line was guessed
abbrev pub IsGuessed : Option Step → Line → Type 0
IsGuessed None line = ⊥
IsGuessed (Some step) line = line_of step ≡ line

-- each byte stands before the letter z
abbrev pub AreBeforeZ : List ℕ → Type 0
AreBeforeZ bytes = AllByRecursion (λ (byte : ℕ). byte < 122) bytes
