-- What an engine holds of compiled templates, and what it compiles and renders with.
use Rattle.std.specs.Prelude.{ℕ, List, String, option_map}
use Rattle.std.specs.BTreeMap.{BTreeMap, get_by_text}
use Rattle.upon_language_spec.specs.Search.{DelimiterText}
use Rattle.upon_delimiters.specs.Searcher.{searcher_delimiters}
use Rattle.upon_meaning_spec.specs.Engine.{Table}
use Rattle.upon_engine.specs.Template.{template_of}
use Rattle.upon_engine.specs.declared.engine.Engine.{Engine as Held}
use Rattle.upon_engine.specs.declared.template.Template.{Template as HeldTemplate}

-- the templates of a map by their names
abbrev pub table_in : {A : Type 0} → BTreeMap (String A) HeldTemplate → Table
table_in templates name = option_map template_of (get_by_text templates name)

-- the templates by their names: each text that is held, with its tree
abbrev pub engine_templates : {X Y : Type 0} {P : X → Type 0} {Q : Y → Type 0} → Held X Y P Q → Table
engine_templates e = table_in e.templates

-- the delimiters that an engine compiles with
abbrev pub engine_syntax : {X Y : Type 0} {P : X → Type 0} {Q : Y → Type 0} → Held X Y P Q → List DelimiterText
engine_syntax e = searcher_delimiters e.searcher

-- how deep includes may go
abbrev pub engine_depth : {X Y : Type 0} {P : X → Type 0} {Q : Y → Type 0} → Held X Y P Q → ℕ
engine_depth e = e.depth
