-- Short names that let the templates of the examples read well. A part is written with the span where it begins.
use Rattle.std.specs.Prelude.{ℕ, ◌+◌, ℤ, List, [], ◌∷◌, length, Option, Some, None, option_map, bytes_eq, if◌then◌else◌}
use Rattle.upon_types.specs.declared.types.Span.{Span}
use Rattle.upon_types.specs.declared.types.ast.path.AccessOp.TheVariants.{Direct, Optional}
use Rattle.upon_types.specs.Expression.{base, Base, var, literal, Bases, no_bases, base_then, Items, no_items, item_then}
use Rattle.upon_types.specs.Fault.{Fault, Kind, bare_fault}
use Rattle.upon_types.specs.Path.{Ident, by_index, by_key, Member}
use Rattle.upon_types.specs.Tree.{Statement, raw, inline_expr, Statements, no_statements, statement_then}
use Rattle.upon_types.specs.Val.{Val, int_val, text_val, list_val, map_val, Entries, no_entries}
use Rattle.upon_types.specs.View.{vals_of}
use Rattle.upon_lookup.specs.Environment.{context}
use Rattle.upon_lookup.specs.Finding.{reply}
use Rattle.upon_lookup.specs.Source.{refuses, Source}
use Rattle.upon_meaning_spec.specs.Alone.{alone, fault_of_end}
use Rattle.upon_types.specs.Answers.{Callable}
use Rattle.upon_meaning_spec.specs.Engine.{Template, Engine, rendering_of}
use Rattle.upon_meaning_spec.specs.Entries.{with_entry}
use Rattle.upon_meaning_spec.specs.Outcome.{Outcome, States, states}

-- ---- spans, names and paths
abbrev pub at : ℕ → ℕ → Span
at m n = record { m = m; n = n }

abbrev pub behind : ℕ → List ℕ → Span
behind m text = at m (m + length text)

abbrev pub word : ℕ → List ℕ → Ident
word m text = record { text = text; span = behind m text }

-- a text in quotes
abbrev pub quoted : ℕ → List ℕ → Ident
quoted m text = record { text = text; span = at m (m + 2 + length text) }

abbrev pub first : ℕ → List ℕ → Member
first m text = record { op = Direct; access = by_key (word m text); span = behind m text }

abbrev pub name : ℕ → List ℕ → Base
name m text = var (first m text) []

-- the members `.text` and `?.text`
abbrev pub dot : ℕ → List ℕ → Member
dot m text = record { op = Direct; access = by_key (word (m + 1) text); span = at m (m + 1 + length text) }

abbrev pub maybe : ℕ → List ℕ → Member
maybe m text = record { op = Optional; access = by_key (word (m + 2) text); span = at m (m + 2 + length text) }

-- the member `.n` or `?.n` of one digit
abbrev pub dot_index : ℕ → ℕ → Member
dot_index m n = record { op = Direct; access = by_index n (at (m + 1) (m + 2)); span = at m (m + 2) }

abbrev pub maybe_index : ℕ → ℕ → Member
maybe_index m n = record { op = Optional; access = by_index n (at (m + 2) (m + 3)); span = at m (m + 3) }

-- ---- expressions
abbrev pub number : ℕ → ℕ → ℤ → Base
number m n z = literal (int_val z) (at m n)

abbrev pub quote : ℕ → List ℕ → Base
quote m text = literal (text_val text) (quoted m text).span

abbrev pub bases : List Base → Bases
bases [] = no_bases
bases (b ∷ bs) = base_then b (bases bs)

abbrev pub items : List (Ident × Base) → Items
items [] = no_items
items (i ∷ is) = item_then i.0 i.1 (items is)

-- ---- statements
abbrev pub statements : List Statement → Statements
statements [] = no_statements
statements (t ∷ ts) = statement_then t (statements ts)

abbrev pub shows : ℕ → ℕ → Base → Statement
shows m n b = inline_expr (base b) (at m n)

abbrev pub text : ℕ → ℕ → Statement
text m n = raw (at m n)

-- ---- values
abbrev pub list_of : List Val → Val
list_of vs = list_val (vals_of vs)

abbrev pub entries : List (List ℕ × Val) → Entries
entries [] = no_entries
entries (e ∷ es) = with_entry e.0 e.1 (entries es)

abbrev pub map_of : List (List ℕ × Val) → Val
map_of es = map_val (entries es)

-- ---- renderings
abbrev pub held : {A : Type 0} → List (List ℕ × A) → List ℕ → Option A
held [] name = None
held (e ∷ es) name = if bytes_eq name e.0 then Some e.1 else held es name

abbrev pub template : List ℕ → List Statement → Template
template source ts = record { source = source; tree = statements ts }

-- an engine with these templates and callables, and the usual depth
abbrev pub engine : List (List ℕ × Template) → List (List ℕ × Callable) → Engine
engine templates callables = record { templates = held templates; callables = held callables; default_formatter = None; depth = 64 }

abbrev pub no_source : Source (Unit {0})
no_source q path = reply (refuses []) q

abbrev pub no_states : States (Unit {0}) (Unit {0})
no_states = states tt tt

-- the text of a rendering, and its fault where there is one, without the picture of its span
abbrev pub Seen : Type 0
Seen = List ℕ × Option Fault

abbrev pub without_picture : Fault → Fault
without_picture f = record f { picture = None }

abbrev pub seen : {Q : Type 0} → ℕ → Outcome Q → Seen
seen limit o = (o.text, option_map without_picture (fault_of_end limit o.end))

-- a template on a context: with the engine's depth, with another, and under a name
abbrev pub rendered : Engine → Template → Val → Seen
rendered e t v = seen e.depth (alone (rendering_of e no_source None) t None (context v) no_states)

abbrev pub rendered_to : ℕ → Engine → Template → Val → Seen
rendered_to depth e t v = seen depth (alone (rendering_of e no_source (Some depth)) t None (context v) no_states)

abbrev pub rendered_as : List ℕ → Engine → Template → Val → Seen
rendered_as name e t v = seen e.depth (alone (rendering_of e no_source None) t (Some name) (context v) no_states)

abbrev pub gives : List ℕ → Seen
gives text = (text, None)

-- a text, and then a fault
abbrev pub breaks : List ℕ → Fault → Seen
breaks text f = (text, Some f)

abbrev pub fault_at : Kind → List ℕ → ℕ → ℕ → Fault
fault_at kind reason m n = bare_fault kind (Some reason) (Some (at m n))
