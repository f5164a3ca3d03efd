-- Search annotations, as the code reads them.
use Rattle.std.specs.Prelude.{ℕ, List, [], ◌∷◌, Option, Some, None, Bool, false, cond, not, ◌||◌, bytes_eq, codes, flat_map}
use Rattle.fz_spec.specs.Instance.{SearchPart}
use Rattle.fz_language.specs.Trees.{Call}
use Rattle.fz_language.specs.Trees as lang
use Rattle.fz_language.specs.Entries.{Environment}
use Rattle.fz_language.specs.Search.{parts_in, part_of, as_argument}
use Rattle.fz_syntax.specs.declared.annotation.Argument.{Argument}
use Rattle.fz_syntax.specs.Trees.{arguments_of}
use Rattle.fz_solve.specs.declared.search.Words.{Words}

-- the parts of a call of this name and these arguments
abbrev pub parts_of_call : Environment → lang.Name → List Argument → List SearchPart
parts_of_call env name arguments = parts_in env (Call name (arguments_of arguments))

-- the one, or none
abbrev pub option_list : Option ℕ → List ℕ
option_list (Some v) = v ∷ []
option_list None = []

-- the name that an argument is
abbrev pub word_of : lang.Argument → Option lang.Name
word_of (lang.Simple (lang.Named name)) = Some name
word_of (lang.Simple (lang.Truth value at)) = None
word_of (lang.Simple (lang.Numeral number)) = None
word_of (lang.Simple (lang.Literal set)) = None
word_of (lang.Text at) = None
word_of (Call name arguments) = None
word_of (lang.Brackets at arguments) = None

abbrev pub part_of_words : Environment → lang.Argument → Option lang.Name → Option lang.Name → List SearchPart
part_of_words env variables (Some pick) (Some value) = part_of env variables pick value
part_of_words env variables pick value = []

-- these search words, and this one, if it is one
abbrev pub and_word : Words → List ℕ → Words
and_word words name = record {
  int_search = words.int_search || bytes_eq name (codes "int_search");
  bool_search = words.bool_search || bytes_eq name (codes "bool_search");
  seq_search = words.seq_search || bytes_eq name (codes "seq_search");
}

-- a search word, and none of these
abbrev pub is_new : Words → List ℕ → Bool
is_new words name =
    cond (bytes_eq name (codes "int_search")) (not words.int_search)
    (cond (bytes_eq name (codes "bool_search")) (not words.bool_search) (cond (bytes_eq name (codes "seq_search")) (not words.seq_search) false))

-- the parts of an annotation, if its name is a search word and none of these
abbrev pub parts_of_new : Environment → Words → lang.Annotation → List SearchPart
parts_of_new env words a = cond (is_new words a.name.bytes) (flat_map (parts_in env) (as_argument a)) []
