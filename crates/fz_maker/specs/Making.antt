-- What a maker has still to write, and what a line makes of it.
use Rattle.std.specs.Prelude.{◌≡◌, ◌≢◌, ℕ, ◌+◌, ◌<◌, ℤ, List, [], ◌∷◌, ◌++◌, length, Option, codes}
use Rattle.std.specs.List.{AllByRecursion}
use Rattle.fz_spec.specs.Instance.{Instance, Variable}
use Rattle.fz_refutes.specs.Boxes.{AreSets, declared_box}
use Rattle.fz_refutes.specs.Trees.{Line, Splits}
use Rattle.fz_refutes.specs.Texts.{IsHead, comment, head_text, lines_text, cert_text}
use Rattle.fz_refutes.specs.Makers.{HasNoBetter, IsPartOf, IsFirstFit, boxes_after, AreTreesOf, most_lines_of}
use Rattle.fz_cert.specs.Walks.{IsPlace}
use Rattle.fz_maker.specs.declared.maker.Stage.{Stage}
use Rattle.fz_maker.specs.declared.maker.Stage.TheVariants as stages

-- ---- boxes

-- rising ranges, parts of the declared sets
pub record IsBoxOf (vs : List Variable) (box : List (List (ℤ × ℤ))) : Type 0 where
  pub part : IsPartOf vs box
  pub sets : AreSets box

abbrev pub AreBoxes : List Variable → List (List (List (ℤ × ℤ))) → Type 0
AreBoxes vs boxes = AllByRecursion (IsBoxOf vs) boxes

-- a line of the box that is next can be taken
abbrev pub CanGoOn : Line → List (List (List (ℤ × ℤ))) → Type 0
CanGoOn (Splits v n) boxes = IsPlace v boxes
CanGoOn line boxes = Unit {0}

-- what it leaves
abbrev pub IsGoneOn : Line → List (List (List (ℤ × ℤ))) → List (List (List (ℤ × ℤ))) → Type 0
IsGoneOn line [] new = ⊥
IsGoneOn line (box ∷ boxes) new = new ≡ boxes_after line box boxes

-- the line of the box that is next, and what it leaves
pub record IsMadeOf (m : Instance) (head : Option (List ℤ)) (line : Line) (box : List (List (ℤ × ℤ))) (boxes new : List (List (List (ℤ × ℤ)))) : Type 0 where
  pub sets : AreSets box
  pub fits : IsFirstFit m head box line
  pub left : new ≡ boxes_after line box boxes

abbrev pub IsMade : Instance → Option (List ℤ) → Line → List (List (List (ℤ × ℤ))) → List (List (List (ℤ × ℤ))) → Type 0
IsMade m head line [] new = ⊥
IsMade m head line (box ∷ boxes) new = IsMadeOf m head line box boxes new

-- ---- makers

-- a model, the head, what is next, and the boxes that are to be refuted
pub record Making : Type 0 where
  pub model : Instance
  pub head : Option (List ℤ)
  pub stage : Stage
  pub boxes : List (List (List (ℤ × ℤ)))

-- nothing is written yet
abbrev pub begun : Instance → Option (List ℤ) → Making
begun m head = record { model = m; head = head; stage = stages.First; boxes = declared_box m.variables ∷ [] }

-- what is to be written, where these are the lines of the trees of the boxes
abbrev pub AreAhead : Stage → Option (List ℤ) → List Line → List ℕ → Type 0
AreAhead stages.First head lines text = text ≡ cert_text head lines
AreAhead stages.Head head lines text = text ≡ comment (head_text head) ++ (lines_text lines ++ comment (codes "end"))
AreAhead stages.Tree head lines text = text ≡ lines_text lines ++ comment (codes "end")
AreAhead stages.Done head lines text = text ≡ []
AreAhead stages.Failed head lines text = ⊥

pub record IsAhead (k : Making) (text : List ℕ) : Type 0 where
  pub lines : List Line
  pub are : AreTreesOf k.model k.head k.boxes lines
  pub ahead : AreAhead k.stage k.head lines text

-- how many lines can come
abbrev pub most_ahead : Stage → ℕ → ℕ
most_ahead stages.First lines = lines + 3
most_ahead stages.Head lines = lines + 2
most_ahead stages.Tree lines = lines + 1
most_ahead stages.Done lines = 0
most_ahead stages.Failed lines = 0

abbrev pub lines_ahead : Making → ℕ
lines_ahead k = most_ahead k.stage (most_lines_of k.boxes)

-- a line is written: with what is ahead then it is what was ahead before
pub record IsWritten (line : List ℕ) (old new : Making) : Type 0 where
  pub text : (later : List ℕ) → IsAhead new later → IsAhead old (line ++ later)
  pub fewer : lines_ahead new < lines_ahead old
  pub sound : new.stage ≢ stages.Failed

-- there was no memory: there was something to write, and nothing is written from then on
abbrev pub IsFailed : Making → Making → Type 0
IsFailed old new = (old.stage ≢ stages.Done) × (new.stage ≡ stages.Failed)

-- the whole certificate is written
pub record IsEnded (k : Making) : Type 0 where
  pub done : k.stage ≡ stages.Done
  pub nothing : IsAhead k []

-- the rest of the certificate, whether or not there is memory to make it
abbrev pub HasRest : Making → Type 0
HasRest k = (text : List ℕ) × IsAhead k text

-- ---- what makers keep

abbrev pub AreKept : Stage → List Variable → List (List (List (ℤ × ℤ))) → Type 0
AreKept stages.Done vs boxes = boxes ≡ []
AreKept stages.Failed vs boxes = Unit {0}
AreKept stage vs boxes = AreBoxes vs boxes

pub record IsMaker (k : Making) (values : List ℤ) : Type 0 where
  pub is_head : IsHead k.model k.head
  pub best : HasNoBetter k.model k.head
  pub boxes : AreKept k.stage k.model.variables k.boxes
  pub room : length values ≡ length k.model.variables
