-- What a call asks for, by what its words may say.
use Rattle.std.specs.Prelude.{◌≡◌, ◌⊎◌, ◌||◌, ◌==◌, ℕ, List, [], Bool, true, false, not, Option, Some, None, is_some, bytes_eq, codes, length, if◌then◌else◌}
use Rattle.upon_tool_io.specs.Said.{lent_text, lent_texts, Said}
use Rattle.upon_tool_io.specs.declared.arguments.BuildCall.{BuildCall}
use Rattle.upon_tool_io.specs.declared.arguments.Call.{Call}
use Rattle.upon_tool_io.specs.declared.arguments.Call.TheVariants.{Render, Check, Fit, Shape, Names, Each, Build}
use Rattle.upon_tool_io.specs.declared.arguments.CheckCall.{CheckCall}
use Rattle.upon_tool_io.specs.declared.arguments.Color.{Color}
use Rattle.upon_tool_io.specs.declared.arguments.Color.TheVariants.{Auto, Always, Never}
use Rattle.upon_tool_io.specs.declared.arguments.ContextsCall.{ContextsCall}
use Rattle.upon_tool_io.specs.declared.arguments.DataCall.{DataCall}
use Rattle.upon_tool_io.specs.declared.arguments.EachCall.{EachCall}
use Rattle.upon_tool_io.specs.declared.arguments.Escape.{Escape}
use Rattle.upon_tool_io.specs.declared.arguments.Escape.TheVariants.{Html, Json, Shell, Yaml}
use Rattle.upon_tool_io.specs.declared.arguments.FitCall.{FitCall}
use Rattle.upon_tool_io.specs.declared.arguments.NamesCall.{NamesCall}
use Rattle.upon_tool_io.specs.declared.arguments.RenderCall.{RenderCall}
use Rattle.upon_tool_io.specs.declared.arguments.ShapeCall.{ShapeCall}

-- HTML, if its own flag is there
abbrev pub html_if : Bool → Option Escape
html_if true = Some Html
html_if false = None

-- the language of a name; without one of these names HTML, if its own flag is there
abbrev pub escape_of_words : Option (List ℕ) → Bool → Option Escape
escape_of_words None html = html_if html
escape_of_words (Some name) html = if bytes_eq name (codes "html") then Some Html else
    (if bytes_eq name (codes "json") then Some Json else
    (if bytes_eq name (codes "shell") then Some Shell else
    (if bytes_eq name (codes "yaml") then Some Yaml else html_if html)))

-- when there are colors, by a word
abbrev pub color_of_word : Option (List ℕ) → Color
color_of_word None = Auto
color_of_word (Some word) = if bytes_eq word (codes "always") then Always else
    (if bytes_eq word (codes "never") then Never else Auto)

-- there are contexts: a schema, or data of samples
abbrev pub has_contexts : ContextsCall → Bool
has_contexts contexts = is_some contexts.schema || contexts.data.env || not (length contexts.data.files.items == 0)
    || not (length contexts.data.set_json.items == 0) || not (length contexts.data.set.items == 0)

-- a check, on contexts if there are some
abbrev pub check_on : CheckCall → ContextsCall → Call
check_on check contexts =
    if has_contexts contexts then Fit (record { check = check; contexts = contexts }) else Check check

-- it is a check on contexts, of no file
abbrev pub lacks_file : Call → Bool
lacks_file (Render call) = false
lacks_file (Check call) = false
lacks_file (Fit call) = length call.check.files.items == 0
lacks_file (Shape call) = false
lacks_file (Names call) = false
lacks_file (Each call) = false
lacks_file (Build call) = false

-- when pictures of errors of a call have colors
abbrev pub call_color : Call → Color
call_color (Render call) = call.color
call_color (Check call) = call.color
call_color (Fit call) = call.check.color
call_color (Shape call) = call.color
call_color (Names call) = call.color
call_color (Each call) = call.render.color
call_color (Build call) = call.render.color

-- a command of the program has this name
abbrev pub is_command : List ℕ → Bool
is_command name = bytes_eq name (codes "render") || bytes_eq name (codes "build")
    || bytes_eq name (codes "check") || bytes_eq name (codes "names")

-- an argument has this text; or it has none, and the text is empty
abbrev pub HasText : Said → List ℕ → List ℕ → Type 0
HasText said name text = said.text name (Some text) ⊎ (said.text name None × (text ≡ []))

-- values are escaped so, by what `--escape` and `--html` say
abbrev pub HasEscape : Said → Option Escape → Type 0
HasEscape said escape = (name : Option (List ℕ)) × (html : Bool)
    × said.text (codes "escape") name × said.flag (codes "html") html × (escape ≡ escape_of_words name html)

-- there are colors then, by what `--color` says
abbrev pub HasColor : Said → Color → Type 0
HasColor said color = (word : Option (List ℕ)) × said.text (codes "color") word × (color ≡ color_of_word word)

-- the data of a context, or of samples, that are asked for
pub record AsksForData (said : Said) (call : DataCall) : Type 0 where
  pub env : said.flag (codes "env") call.env
  pub files : said.texts (codes "data") (lent_texts call.files.items)
  pub format : said.text (codes "format") (lent_text call.format)
  pub set_json : said.texts (codes "set-json") (lent_texts call.set_json.items)
  pub set : said.texts (codes "set") (lent_texts call.set.items)

-- the rendering that is asked for, of what the argument `source` names
pub record AsksForRendering (said : Said) (source : List ℕ) (call : RenderCall) : Type 0 where
  pub file : HasText said source call.file.now
  pub «data» : AsksForData said call.data
  pub templates : said.text (codes "templates") (lent_text call.templates)
  pub follow : said.flag (codes "follow") call.follow
  pub escape : HasEscape said call.escape
  pub standard : said.flag (codes "std") call.standard
  pub out : said.text (codes "out") (lent_text call.out)
  pub max_steps : said.number (codes "max-steps") call.max_steps
  pub max_output : said.number (codes "max-output") call.max_output
  pub max_memory : said.number (codes "max-memory") call.max_memory
  pub color : HasColor said call.color

-- the rendering for each item of a list that is asked for
pub record AsksForEach (said : Said) (call : EachCall) : Type 0 where
  pub render : AsksForRendering said (codes "FILE") call.render
  pub key : said.text (codes "each") (Some call.key.now)
  pub name : HasText said (codes "name") call.name.now
  pub out : HasText said (codes "out") call.out.now
  pub keep_going : said.flag (codes "keep-going") call.keep_going

-- the build that is asked for
pub record AsksForBuild (said : Said) (call : BuildCall) : Type 0 where
  pub render : AsksForRendering said (codes "SRC") call.render
  pub layout : said.text (codes "layout") (lent_text call.layout)
  pub out : HasText said (codes "out") call.out.now
  pub keep_going : said.flag (codes "keep-going") call.keep_going

-- the check that is asked for
pub record AsksForCheck (said : Said) (call : CheckCall) : Type 0 where
  pub files : said.texts (codes "FILE") (lent_texts call.files.items)
  pub templates : said.text (codes "templates") (lent_text call.templates)
  pub follow : said.flag (codes "follow") call.follow
  pub escape : HasEscape said call.escape
  pub standard : said.flag (codes "std") call.standard
  pub functions : said.texts (codes "function") (lent_texts call.functions.items)
  pub color : HasColor said call.color

-- the contexts that are asked for
pub record AsksForContexts (said : Said) (call : ContextsCall) : Type 0 where
  pub schema : said.text (codes "schema") (lent_text call.schema)
  pub «data» : AsksForData said call.data

-- no contexts are asked for
pub record AsksForNoContexts (said : Said) : Type 0 where
  pub schema : said.text (codes "schema") None
  pub env : said.flag (codes "env") false
  pub files : said.texts (codes "data") []
  pub set_json : said.texts (codes "set-json") []
  pub set : said.texts (codes "set") []

-- the check on contexts that is asked for
pub record AsksForFit (said : Said) (call : FitCall) : Type 0 where
  pub check : AsksForCheck said call.check
  pub contexts : AsksForContexts said call.contexts
  pub some : has_contexts call.contexts ≡ true

-- the shape of contexts that is asked for
pub record AsksForShape (said : Said) (call : ShapeCall) : Type 0 where
  pub contexts : AsksForContexts said call.contexts
  pub color : HasColor said call.color

-- the list that is asked for, of what a template needs
pub record AsksForNames (said : Said) (call : NamesCall) : Type 0 where
  pub file : HasText said (codes "FILE") call.file.now
  pub templates : said.text (codes "templates") (lent_text call.templates)
  pub follow : said.flag (codes "follow") call.follow
  pub json : said.flag (codes "json") call.json
  pub color : HasColor said call.color

-- What a command's words ask for, by the command's name: to render once, or for each item if `--each` is there; to
-- build; to check, on contexts if there are some, or to write their shape if `--shape-out` is there; or to list names.
abbrev pub AsksFor : Said → List ℕ → Call → Type 0
AsksFor said command (Render call) =
    (command ≡ codes "render") × said.text (codes "each") None × AsksForRendering said (codes "FILE") call
AsksFor said command (Each call) = (command ≡ codes "render") × AsksForEach said call
AsksFor said command (Build call) = (command ≡ codes "build") × AsksForBuild said call
AsksFor said command (Check call) = (command ≡ codes "check")
    × said.flag (codes "shape-out") false × AsksForNoContexts said × AsksForCheck said call
AsksFor said command (Fit call) =
    (command ≡ codes "check") × said.flag (codes "shape-out") false × AsksForFit said call
AsksFor said command (Shape call) =
    (command ≡ codes "check") × said.flag (codes "shape-out") true × AsksForShape said call
AsksFor said command (Names call) = (command ≡ codes "names") × AsksForNames said call
