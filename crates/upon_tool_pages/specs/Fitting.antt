-- The engine of a check on contexts.
use Rattle.std.specs.Prelude.{ℕ, List, [], ◌∷◌, ◌++◌, Bool, Option, Some, None}
use Rattle.upon_language_spec.specs.DefaultDelimiters.{default_delimiters}
use Rattle.upon_shape_spec.specs.Shape.{Shape}
use Rattle.upon_calls.specs.Asked.{Asked}
use Rattle.upon_calls.specs.Contexts.{EndsOnEach}
use Rattle.upon_calls.specs.Filled.{filled}
use Rattle.upon_calls.specs.Rendering.{EachHasTree}
use Rattle.upon_calls.specs.declared.escaping.Language.{Language}
use Rattle.upon_calls.specs.declared.escaping.Language.TheVariants.{Html, Json, Shell, Yaml}
use Rattle.upon_tool_io.specs.declared.arguments.Escape.{Escape}
use Rattle.upon_tool_io.specs.declared.arguments.Escape.TheVariants.{Html as HtmlAsked, Json as JsonAsked, Shell as ShellAsked, Yaml as YamlAsked}

-- the language that values are escaped for
abbrev pub language_for : Option Escape → Option Language
language_for None = None
language_for (Some HtmlAsked) = Some Html
language_for (Some JsonAsked) = Some Json
language_for (Some ShellAsked) = Some Shell
language_for (Some YamlAsked) = Some Yaml

-- what an engine of the tool is asked for: the default delimiters, includes at most 64 deep, and no limits
abbrev pub asked_of : Option Escape → Bool → Asked
asked_of escape standard = record {
  escape = language_for escape;
  delimiters = default_delimiters;
  depth = 64;
  functions = standard;
  limits = record { steps = None; output = None; values = None };
}

-- a template of a name and text ends without a fault on each value of a shape, but that includes may be too deep one
-- inside another, where an engine holds the texts of a folder and then this one, each of which has a tree
abbrev pub FileFits : Option Escape → Bool → List (List ℕ × List ℕ) → Shape → List ℕ → List ℕ → Type 0
FileFits escape standard folder s name text =
    let e = filled (asked_of escape standard) (folder ++ (name, text) ∷ []) in EachHasTree e × EndsOnEach e name s
