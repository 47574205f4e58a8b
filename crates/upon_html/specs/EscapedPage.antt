-- Pages of an engine, with the text of each formatter escaped.
use Rattle.std.specs.Prelude.{ℕ, List, Option, Some, Result, Ok, Err, String, string_bytes, option_map}
use Rattle.std.specs.declared.alloc.Global.{Global}
use Rattle.upon_types.specs.Tree.{Statements}
use Rattle.upon_types.specs.Val.{Val}
use Rattle.upon_types.specs.declared.error.Error.{Error}
use Rattle.upon_lookup.specs.Environment.{context}
use Rattle.upon_meaning_spec.specs.DefaultFormat.{formatter_or_default}
use Rattle.upon_meaning_spec.specs.Engine.{Template, Table}
use Rattle.upon_meaning_spec.specs.Outcome.{states}
use Rattle.upon_meaning_spec.specs.Marks.{FromRawParts}
use Rattle.upon_meaning_spec.specs.Pieces.{TextPiece, pieces_of}
use Rattle.upon_engine.specs.Texts.{Texts}
use Rattle.upon_engine.specs.Theorem.{rendering}
use Rattle.upon_html.specs.Escape.{is_markup}
use Rattle.upon_html.specs.Escaped.{escaping, escaping_callable}

-- what an engine holds, with the text of each formatter escaped
abbrev pub escaping_all : Texts → Texts
escaping_all e = record e {
  callables = λ name. option_map escaping_callable (e.callables name);
  default_formatter = Some (escaping (formatter_or_default e.default_formatter));
}

-- a text with its tree
abbrev pub page : List ℕ → Statements → Template
page source tree = record { source = source; tree = tree }

-- of which pieces the text of a page on a value is made, under a name or none
abbrev pub page_pieces : Texts → Table → Option (List ℕ) → List ℕ → Statements → Val → List TextPiece
page_pieces e table name source tree v =
    pieces_of (rendering e table) (page source tree) name (context v) (states tt tt)

-- The text that is answered is the page's pieces joined, in their order, of which the raw parts alone hold `<`, `>`,
-- `"` and `'`: those of the text are those of these raw parts, in their order.
abbrev pub MarkupIsRaw : Texts → Table → Option (List ℕ) → List ℕ → Statements → Val → Result (String Global) Error
    → Type 0
MarkupIsRaw e table name source tree v (Ok text) =
    FromRawParts is_markup (page_pieces e table name source tree v) (string_bytes text)
MarkupIsRaw e table name source tree v (Err x) = Unit {0}
