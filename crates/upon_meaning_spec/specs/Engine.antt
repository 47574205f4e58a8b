-- What a rendering is on: the engine's templates and callables, its sources, the depth.
use Rattle.std.specs.Prelude.{ℕ, List, Option, Some, None, codes}
use Rattle.upon_types.specs.Tree.{Statements}
use Rattle.upon_lookup.specs.Finding.{Reply, reply}
use Rattle.upon_lookup.specs.Source.{SourceAnswer, says, refuses, Source}
use Rattle.upon_types.specs.Answers.{Callable, Formatter}
use Rattle.upon_meaning_spec.specs.DefaultFormat.{formatter_or_default}

-- a template: its text, and the tree that the text has
pub record Template : Type 0 where
  pub source : List ℕ
  pub tree : Statements

-- templates by their names
abbrev pub Table : Type 0
Table = List ℕ → Option Template

-- an engine: templates and callables by their names, the formatter that was set as the default, and how deep includes
-- may go
pub record Engine : Type 0 where
  pub templates : Table
  pub callables : List ℕ → Option Callable
  pub default_formatter : Option Formatter
  pub depth : ℕ

-- what expressions are on: the callables, the default formatter, and the value source
pub record Calls (V : Type 0) : Type 0 where
  pub callables : List ℕ → Option Callable
  pub default_formatter : Formatter
  pub ask : Source V

-- what answers the names of includes, and its next state
abbrev pub Resolver : Type 0 → Type 0
Resolver T = T → List ℕ → Reply T (SourceAnswer Template)

-- a rendering: what its expressions are on, what answers its includes, and the depth as it was set
pub record Rendering (V T : Type 0) : Type 0 where
  pub calls : Calls V
  pub resolve : Resolver T
  pub limit : ℕ

-- what is answered for a name that a table has or has not
abbrev pub table_answer : Option Template → SourceAnswer Template
table_answer None = refuses (codes "unknown template")
table_answer (Some t) = says t

-- a table answers the names that it holds
abbrev pub from_table : {T : Type 0} → Table → Resolver T
from_table table q name = reply (table_answer (table name)) q

-- what expressions are on, with an engine and a value source
abbrev pub calls_of : {V : Type 0} → Engine → Source V → Calls V
calls_of engine ask = record {
  callables = engine.callables;
  default_formatter = formatter_or_default engine.default_formatter;
  ask = ask;
}

-- the limit of a rendering: its own, or else the engine's
abbrev pub limit_of : Option ℕ → Engine → ℕ
limit_of None engine = engine.depth
limit_of (Some depth) engine = depth

-- a rendering with the engine's templates, and a depth of its own if one is given
abbrev pub rendering_of : {V T : Type 0} → Engine → Source V → Option ℕ → Rendering V T
rendering_of engine ask depth =
    record { calls = calls_of engine ask; resolve = from_table engine.templates; limit = limit_of depth engine }

-- a rendering with a template source: the engine's templates are not asked
abbrev pub rendering_by : {V T : Type 0} → Engine → Source V → Resolver T → Option ℕ → Rendering V T
rendering_by engine ask resolve depth =
    record { calls = calls_of engine ask; resolve = resolve; limit = limit_of depth engine }
