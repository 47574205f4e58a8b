-- Pages of an engine whose formatters escape.
use Rattle.std.specs.Prelude.{◌≡◌, ℕ, List, Some, None}
use Rattle.upon_types.specs.Answers.{Formatter, formatter}
use Rattle.upon_types.specs.Tree.{Statements}
use Rattle.upon_meaning_spec.specs.Engine.{Table}
use Rattle.upon_engine.specs.Changes.{empty_engine, with_default_formatter}
use Rattle.upon_engine.specs.Texts.{Texts}
use Rattle.upon_engine.specs.Theorem.{rendering}
use Rattle.upon_html.specs.EscapedPage.{page}
use Rattle.upon_html.specs.Escaped.{escaped}
use Rattle.upon_html.specs.Page.{EscapesAll}

-- the default formatter, and each one that the page or a template that it reaches names, escapes
abbrev pub CallsEscape : Texts → Table → List ℕ → Statements → Type 0
CallsEscape e table source tree =
    EscapesAll (rendering e table).calls (rendering e table).resolve (page source tree)

-- the engine's formatters are the escaping one alone: the default one, and each one that has a name
abbrev pub OnlyEscapes : Texts → Type 0
OnlyEscapes e = (e.default_formatter ≡ Some escaped)
    × ((name : List ℕ) (f : Formatter) → e.callables name ≡ Some (formatter f) → f ≡ escaped)

-- an engine without templates
abbrev pub no_templates : Table
no_templates name = None

-- an engine that holds nothing, and whose default formatter escapes
abbrev pub escaping_alone : Texts
escaping_alone = with_default_formatter escaped empty_engine
