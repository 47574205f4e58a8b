-- What the calls that make or change an engine make of what it holds.
use Rattle.std.specs.Prelude.{ℕ, List, Some, None, Result, Ok, Err}
use Rattle.std.specs.Map.{update}
use Rattle.std.specs.Str.{bytes_eq}
use Rattle.upon_types.specs.Answers.{Callable, Formatter}
use Rattle.upon_language_spec.specs.DefaultDelimiters.{default_delimiters}
use Rattle.upon_language_spec.specs.Search.{DelimiterText}
use Rattle.upon_engine.specs.Texts.{Texts}

-- what a new engine holds: nothing, with the depth of 64 and the default delimiters
abbrev pub empty_engine : Texts
empty_engine = record {
  texts = λ name. None;
  callables = λ name. None;
  default_formatter = None;
  depth = 64;
  syntax = default_delimiters;
}

-- with a text under a name, which has the delimiters that the engine compiles with
abbrev pub with_text : List ℕ → List ℕ → Texts → Texts
with_text name text e =
    record e { texts = update bytes_eq e.texts name (Some (record { text = text; syntax = e.syntax })) }

-- without a text under a name
abbrev pub without_text : List ℕ → Texts → Texts
without_text name e = record e { texts = update bytes_eq e.texts name None }

-- with a formatter or a function under a name
abbrev pub with_callable : List ℕ → Callable → Texts → Texts
with_callable name callable e = record e { callables = update bytes_eq e.callables name (Some callable) }

-- without a callable under a name
abbrev pub without_callable : List ℕ → Texts → Texts
without_callable name e = record e { callables = update bytes_eq e.callables name None }

-- with another default formatter
abbrev pub with_default_formatter : Formatter → Texts → Texts
with_default_formatter formatter e = record e { default_formatter = Some formatter }

-- with another depth of includes
abbrev pub with_depth : ℕ → Texts → Texts
with_depth depth e = record e { depth = depth }

-- with other delimiters for the texts to come: those that are held keep theirs
abbrev pub with_syntax : List DelimiterText → Texts → Texts
with_syntax delimiters e = record e { syntax = delimiters }

-- changed if the call ended well, and otherwise as it was
abbrev pub unless_refused : {A E : Type 0} → Result A E → (Texts → Texts) → Texts → Texts
unless_refused (Ok answer) change e = change e
unless_refused (Err error) change e = e
