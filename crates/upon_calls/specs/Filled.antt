-- What an engine holds as a call fills it: formatters, functions, and the call's templates.
use Rattle.std.specs.Prelude.{ℕ, List, [], ◌∷◌, Bool, if◌then◌else◌, codes, Option, Some, None}
use Rattle.upon_types.specs.Answers.{formatter, function}
use Rattle.upon_meaning_spec.specs.DefaultFormat.{default_format}
use Rattle.upon_engine.specs.Changes.{empty_engine, with_callable, with_default_formatter, with_depth, with_syntax, with_text}
use Rattle.upon_engine.specs.Texts.{Texts}
use Rattle.upon_std.specs.Table.{standard_answer, standard_name}
use Rattle.upon_std.specs.declared.table.TheConstants.{ALL}
use Rattle.upon_std.specs.declared.table.StandardFunction.{StandardFunction}
use Rattle.upon_calls.specs.Asked.{Asked}
use Rattle.upon_calls.specs.Escaping.{language_format}
use Rattle.upon_calls.specs.declared.escaping.Language.{Language}

-- an engine for a language into which values are written: with its formatter, and `verbatim`
abbrev pub escaping_engine : Option Language → Texts
escaping_engine None = empty_engine
escaping_engine (Some language) = with_default_formatter (language_format language)
    (with_callable (codes "verbatim") (formatter default_format) empty_engine)

-- with functions under their names, one after the other
abbrev pub with_functions : List StandardFunction → Texts → Texts
with_functions [] e = e
with_functions (f ∷ fs) e = with_functions fs (with_callable (standard_name f) (function (standard_answer f)) e)

-- the functions that templates may call: the standard ones if they are wanted, else none
abbrev pub functions_if : Bool → List StandardFunction
functions_if wanted = if wanted then ALL else []

-- what an engine holds before its templates
abbrev pub engine_for : Asked → Texts
engine_for asked = with_functions (functions_if asked.functions)
    (with_depth asked.depth (with_syntax asked.delimiters (escaping_engine asked.escape)))

-- with texts under their names, one after the other
abbrev pub with_sources : List (List ℕ × List ℕ) → Texts → Texts
with_sources [] e = e
with_sources (s ∷ ss) e = with_sources ss (with_text s.0 s.1 e)

-- what an engine holds that is filled with the templates of a call
abbrev pub filled : Asked → List (List ℕ × List ℕ) → Texts
filled asked sources = with_sources sources (engine_for asked)
