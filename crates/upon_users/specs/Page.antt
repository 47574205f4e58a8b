-- A page of two templates, and the engine that holds them.
use Rattle.std.specs.Prelude.{ℕ, List, ◌++◌, None, codes}
use Rattle.upon_types.specs.Answers.{Formatter, Function, formatter, function, gives}
use Rattle.upon_types.specs.Expression.{base, filtered, call, no_arguments}
use Rattle.upon_types.specs.Tree.{Statements, raw, include, inline_expr}
use Rattle.upon_types.specs.Val.{text_val}
use Rattle.upon_language_spec.specs.Search.{DelimiterText}
use Rattle.upon_language_spec.specs.ShortTrees.{at, word, name, two}
use Rattle.upon_delimiters.specs.SetTexts.{nothing_set, with_block, built_delimiters}
use Rattle.upon_meaning_spec.specs.DefaultFormat.{default_format}
use Rattle.upon_engine.specs.Texts.{Texts}
use Rattle.upon_engine.specs.Changes.{empty_engine, with_text, with_callable, with_syntax}

-- blocks alone, in angle brackets
abbrev pub angles : List DelimiterText
angles = built_delimiters (with_block (codes "<%") (codes "%>") nothing_set)

-- a star, and then what is usual
abbrev pub starred : Formatter
starred v = record { text = codes "*" ++ (default_format v).text; end = (default_format v).end }

-- an exclamation mark
abbrev pub banged : Function
banged vs = gives (text_val (codes "!"))

-- the text of each template
abbrev pub name_text : List ℕ
name_text = codes "{{ name | star }}{{ bang() }}"

abbrev pub page_text : List ℕ
page_text = codes "Hello <% include \"name\" %>"

-- the trees of these texts
abbrev pub name_tree : Statements
name_tree =
    two
    (inline_expr (filtered (base (name (codes "name") 3 7)) (word (codes "star") 10 14) no_arguments (at 3 14))
    (at 0 17))
    (inline_expr (base (call (word (codes "bang") 20 24) no_arguments (at 20 26))) (at 17 29))

abbrev pub page_tree : Statements
page_tree = two (raw (at 0 6)) (include (word (codes "name") 17 23) None)

-- the engine as it is built: the one template under the default delimiters, the other under those in angle brackets
abbrev pub name_engine : Texts
name_engine =
    with_text (codes "name") name_text
    (with_callable (codes "bang") (function banged) (with_callable (codes "star") (formatter starred) empty_engine))

abbrev pub page_engine : Texts
page_engine = with_text (codes "page") page_text (with_syntax angles name_engine)
