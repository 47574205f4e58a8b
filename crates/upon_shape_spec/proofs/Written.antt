-- Short names that let the examples read well. Whether a template is accepted has nothing to do with spans: all are empty.
use Rattle.std.specs.Prelude.{ℕ, ℤ, List, [], ◌∷◌, true, false, Option, Some, None, bytes_eq, codes, if◌then◌else◌}
use Rattle.upon_types.specs.declared.types.Span.{Span}
use Rattle.upon_types.specs.declared.types.ast.path.AccessOp.{AccessOp}
use Rattle.upon_types.specs.declared.types.ast.path.AccessOp.TheVariants.{Direct, Optional}
use Rattle.upon_types.specs.Expression.{Expression, base, filtered, Base, var, literal, list, Bases, no_bases, base_then, Items, no_items, item_then, mapping, no_arguments}
use Rattle.upon_types.specs.Path.{Ident, by_index, by_key, Member, item, key_value}
use Rattle.upon_types.specs.Tree.{Statement, inline_expr, include, if_else, for_loop, with, Statements, no_statements, statement_then, no_else, otherwise}
use Rattle.upon_types.specs.Val.{Val, int_val, text_val, list_val, map_val, Entries, no_entries, entry_then}
use Rattle.upon_types.specs.View.{vals_of}
use Rattle.upon_meaning_spec.specs.Engine.{Template}
use Rattle.upon_shape_spec.specs.Accepted.{AcceptedWithin, Planned}
use Rattle.upon_shape_spec.specs.Declared.{gives_by, formats, Declared, given_by}
use Rattle.upon_shape_spec.specs.Scope.{Scope}
use Rattle.upon_shape_spec.specs.Shape.{Shape, any_shape, Keys, key_then, text_shape, shown_values}

-- ---- paths and expressions
abbrev pub nowhere : Span
nowhere = record { m = 0; n = 0 }

abbrev pub word : List ℕ → Ident
word text = record { text = text; span = nowhere }

abbrev pub key : AccessOp → List ℕ → Member
key op text = record { op = op; access = by_key (word text); span = nowhere }

-- the members `.text`, `?.text`, `.n` and `?.n`
abbrev pub dot : List ℕ → Member
dot text = key Direct text

abbrev pub maybe : List ℕ → Member
maybe text = key Optional text

abbrev pub dot_index : ℕ → Member
dot_index n = record { op = Direct; access = by_index n nowhere; span = nowhere }

abbrev pub maybe_index : ℕ → Member
maybe_index n = record { op = Optional; access = by_index n nowhere; span = nowhere }

-- a name, and what follows it
abbrev pub path : List ℕ → List Member → Base
path text members = var (dot text) members

abbrev pub name : List ℕ → Base
name text = path text []

abbrev pub number : ℤ → Base
number z = literal (int_val z) nowhere

abbrev pub quote : List ℕ → Base
quote text = literal (text_val text) nowhere

abbrev pub bases : List Base → Bases
bases [] = no_bases
bases (b ∷ bs) = base_then b (bases bs)

abbrev pub list_literal : List Base → Base
list_literal bs = list (bases bs) nowhere

abbrev pub items : List (List ℕ × Base) → Items
items [] = no_items
items (i ∷ is) = item_then (word i.0) i.1 (items is)

abbrev pub map_literal : List (List ℕ × Base) → Base
map_literal is = mapping (items is) nowhere

-- `b | text`
abbrev pub filter_of : Base → List ℕ → Expression
filter_of b text = filtered (base b) (word text) no_arguments nowhere

-- ---- statements
abbrev pub statements : List Statement → Statements
statements [] = no_statements
statements (t ∷ ts) = statement_then t (statements ts)

abbrev pub shows : Expression → Statement
shows e = inline_expr e nowhere

abbrev pub show : Base → Statement
show b = shows (base b)

-- `{% if b %}..{% endif %}`, and with another branch
abbrev pub if_true : Base → List Statement → Statement
if_true b ts = if_else false (base b) (statements ts) no_else

abbrev pub if_not : Base → List Statement → List Statement → Statement
if_not b ts us = if_else true (base b) (statements ts) (otherwise (statements us))

abbrev pub for_each : List ℕ → Base → List Statement → Statement
for_each x b ts = for_loop (item (word x)) (base b) (statements ts) no_else

abbrev pub for_entries : List ℕ → List ℕ → Base → List Statement → Statement
for_entries k v b ts = for_loop (key_value (word k) (word v) nowhere) (base b) (statements ts) no_else

abbrev pub with_as : Base → List ℕ → List Statement → Statement
with_as b x ts = with (base b) (word x) (statements ts)

abbrev pub includes : List ℕ → Statement
includes text = include (word text) None

abbrev pub includes_with : List ℕ → Base → Statement
includes_with text b = include (word text) (Some (base b))

abbrev pub template : List Statement → Template
template ts = record { source = []; tree = statements ts }

-- ---- values and shapes
abbrev pub list_value : List Val → Val
list_value vs = list_val (vals_of vs)

abbrev pub entries : List (List ℕ × Val) → Entries
entries [] = no_entries
entries (e ∷ es) = entry_then e.0 e.1 (entries es)

abbrev pub map_value : List (List ℕ × Val) → Val
map_value es = map_val (entries es)

-- a key that is required, and one that may be missing
abbrev pub required : List ℕ → Shape → Keys → Keys
required k s ks = key_then k true s ks

abbrev pub may_be : List ℕ → Shape → Keys → Keys
may_be k s ks = key_then k false s ks

-- ---- engines
abbrev pub held : {A : Type 0} → List (List ℕ × A) → List ℕ → Option A
held [] name = None
held (e ∷ es) name = if bytes_eq name e.0 then Some e.1 else held es name

-- `upper` takes a text and gives one, and `debug` is a formatter of anything
abbrev pub declared : Declared
declared = record {
  callables = held
      ((codes "upper", gives_by (given_by (record { takes = text_shape ∷ []; gives = text_shape } ∷ [])))
      ∷ (codes "debug", formats any_shape) ∷ []);
  default_formats = shown_values;
}

-- a template alone, and with others that it includes, at most so deep
abbrev pub accepted : List Statement → Shape → Type 0
accepted ts s = AcceptedWithin declared (held []) 0 (template ts) s

abbrev pub accepted_with : List (List ℕ × Template) → ℕ → List Statement → Shape → Type 0
accepted_with table n ts s = AcceptedWithin declared (held table) n (template ts) s

abbrev pub planned : List ℕ → Scope → Planned
planned name scope = record { name = name; scope = scope }
