-- Certificates as text, and what proves a model.
use Rattle.std.specs.Prelude.{◌≡◌, ◌≢◌, ℕ, ℤ, List, ◌++◌, Option, Some, None, codes, decimal, flat_map}
use Rattle.std.specs.Fmt.{signed_decimal}
use Rattle.fz_spec.specs.declared.goal.Goal.TheVariants.{Satisfy}
use Rattle.fz_spec.specs.Instance.{Instance, Satisfies}
use Rattle.fz_spec.specs.Run.{block}
use Rattle.fz_refutes.specs.Boxes.{declared_box}
use Rattle.fz_refutes.specs.Trees.{Tree, IsRefutedBy, IsTreeOf, Line, IsEmpty, Fails, IsBehind, Splits, lines_of}

-- a line of a certificate, as it is printed
abbrev pub comment : List ℕ → List ℕ
comment text = codes "%c " ++ (text ++ codes "\n")

abbrev pub line_text : Line → List ℕ
line_text IsEmpty = codes "e"
line_text (Fails c) = codes "f " ++ decimal c
line_text IsBehind = codes "g"
line_text (Splits v n) = codes "s " ++ (decimal v ++ (codes " " ++ signed_decimal n))

-- "best 4 0", or "none"
abbrev pub head_text : Option (List ℤ) → List ℕ
head_text None = codes "none"
head_text (Some a) = codes "best" ++ flat_map (λ x. codes " " ++ signed_decimal x) a

abbrev pub lines_text : List Line → List ℕ
lines_text lines = flat_map (λ line. comment (line_text line)) lines

abbrev pub cert_text : Option (List ℤ) → List Line → List ℕ
cert_text head lines = comment (codes "fzcert 1") ++ (comment (head_text head) ++ (lines_text lines ++ comment (codes "end")))

-- the certificate of a model
pub record IsCert (m : Instance) (head : Option (List ℤ)) (text : List ℕ) : Type 0 where
  pub tree : Tree
  pub is_tree : IsTreeOf m head (declared_box m.variables) tree
  pub is_text : text ≡ cert_text head (lines_of tree)

-- what stands before a certificate: the block of an assignment and the line of a complete search, or the unsatisfiable line
abbrev pub front_text : Instance → Option (List ℤ) → List ℕ
front_text m None = codes "=====UNSATISFIABLE=====\n"
front_text m (Some a) = block m a ++ codes "==========\n"

-- an assignment of an optimisation, which satisfies; or none
abbrev pub IsHead : Instance → Option (List ℤ) → Type 0
IsHead m None = Unit {0}
IsHead m (Some a) = Satisfies m a × (m.goal ≢ Satisfy)

pub record ProvesHead (m : Instance) (head : Option (List ℤ)) (output : List ℕ) : Type 0 where
  pub is_head : IsHead m head
  pub tree : Tree
  pub refuted : IsRefutedBy m head (declared_box m.variables) tree
  pub text : output ≡ front_text m head ++ cert_text head (lines_of tree)

abbrev pub Proves : Instance → List ℕ → Type 0
Proves m output = (head : Option (List ℤ)) × ProvesHead m head output
