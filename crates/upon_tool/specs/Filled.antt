-- What an engine holds as it is filled: its formatters, the files of a folder, and a template.
use Rattle.std.specs.Prelude.{◌≡◌, ◌⊎◌, ℕ, List, [], ◌∷◌, Bool, if◌then◌else◌, Option, Some, None, Result, Ok, Err, String, string_bytes}
use Rattle.std.specs.Borrow.{Bor}
use Rattle.std.specs.declared.alloc.Global.{Global}
use Rattle.upon_types.specs.Tree.{Statements}
use Rattle.upon_language_spec.specs.Grammar.{HasTree}
use Rattle.upon_engine.specs.Changes.{with_text}
use Rattle.upon_engine.specs.Texts.{Texts}
use Rattle.upon_std.specs.declared.table.StandardFunction.{StandardFunction}
use Rattle.upon_calls.specs.Filled.{escaping_engine, with_functions}
use Rattle.upon_tool_io.specs.declared.files.ReadFault.{ReadFault}
use Rattle.upon_tool_io.specs.declared.arguments.Escape.{Escape}
use Rattle.upon_tool_pages.specs.Fitting.{language_for}
use Rattle.upon_tool_pages.specs.declared.sources.FolderFile.{FolderFile}
use Rattle.upon_tool.specs.declared.work.Templates.{Templates}

-- what an engine holds before its templates: formatters and functions
abbrev pub tool_engine : Option Escape → List StandardFunction → Texts
tool_engine escape functions = with_functions functions (escaping_engine (language_for escape))

-- a text is held under a name, or it has no tree and nothing changes
abbrev pub TakesText : List ℕ → List ℕ → Texts → Texts → Type 0
TakesText name text old new =
    (new ≡ with_text name text old) ⊎ (((tree : Statements) → HasTree old.syntax text tree → ⊥) × (new ≡ old))

-- what was read is taken, if it is a text
abbrev pub TakesRead : List ℕ → Result (String Global) ReadFault → Texts → Texts → Type 0
TakesRead name (Ok text) old new = TakesText name (string_bytes text) old new
TakesRead name (Err fault) old new = new ≡ old

-- the files of a folder are taken, one after the other
abbrev pub TakesFiles : List FolderFile → Texts → Texts → Type 0
TakesFiles [] old new = new ≡ old
TakesFiles (file ∷ files) old new =
    (next : Texts) × TakesRead (string_bytes file.name) file.read old next × TakesFiles files next new

-- with a template under its name, if one is given
abbrev pub with_page : Option (Bor (List ℕ) × String Global) → Texts → Texts
with_page None e = e
with_page (Some page) e = with_text page.0.now (string_bytes page.1) e

-- an engine holds the files of a folder, and then a template in place of one of its name
abbrev pub Fills : Templates → Texts → Type 0
Fills templates e = (folder : Texts)
    × TakesFiles templates.files.items (tool_engine templates.escape templates.functions.now) folder
    × (e ≡ with_page templates.page folder)
