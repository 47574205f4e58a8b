-- What rendering a text answers, by texts and trees alone.
use Rattle.std.specs.Prelude.{◌≡◌, ℕ, List, Option, Some, None, Result, String}
use Rattle.std.specs.declared.alloc.Global.{Global}
use Rattle.upon_types.specs.Tree.{Statements}
use Rattle.upon_types.specs.Val.{Val}
use Rattle.upon_types.specs.declared.error.Error.{Error}
use Rattle.upon_language_spec.specs.Grammar.{HasTree}
use Rattle.upon_lookup.specs.Asked.{refuses_all}
use Rattle.upon_lookup.specs.Environment.{context}
use Rattle.upon_meaning_spec.specs.Alone.{alone}
use Rattle.upon_meaning_spec.specs.Engine.{Engine, Table, Template, Rendering, rendering_of}
use Rattle.upon_meaning_spec.specs.Outcome.{Outcome, States, states}
use Rattle.upon_vm.specs.Reports.{IsAnyIo, WritesReported}
use Rattle.upon_engine.specs.Answers.{AnswersText}
use Rattle.upon_engine.specs.Texts.{Stored, Texts}

-- the template of a text: this text and a tree that it has
abbrev pub IsTemplateOf : Option Stored → Option Template → Type 0
IsTemplateOf None None = Unit {0}
IsTemplateOf (Some s) (Some t) = (t.source ≡ s.text) × ∥ HasTree s.syntax s.text t.tree ∥₁
IsTemplateOf _ _ = ⊥

-- under each name the table has the text that is held, and the tree of this text
abbrev pub IsTable : (List ℕ → Option Stored) → Table → Type 0
IsTable texts table = (name : List ℕ) → IsTemplateOf (texts name) (table name)

-- an engine as the meaning of templates sees it: what is held as texts, and a table for includes
abbrev pub engine_meant : Texts → Table → Engine
engine_meant e table = record {
  templates = table;
  callables = e.callables;
  default_formatter = e.default_formatter;
  depth = e.depth;
}

-- a rendering on a value, with the engine's callables and depth, and the templates of a table for includes
abbrev pub rendering : Texts → Table → Rendering (Unit {0}) (Unit {0})
rendering e table = rendering_of (engine_meant e table) refuses_all None

-- what a tree of a text means on a value, under a name or none
abbrev pub meaning : Texts → Table → Option (List ℕ) → List ℕ → Statements → Val
    → Outcome (States (Unit {0}) (Unit {0}))
meaning e table name source tree v =
    alone (rendering e table) (record { source = source; tree = tree }) name (context v) (states tt tt)

-- a rendering of the tree of a text answers what the tree means, whatever the table of the texts that are held
abbrev pub AnswersTree : Texts → Option (List ℕ) → List ℕ → Statements → Val → Result (String Global) Error → Type 0
AnswersTree e name source tree v result =
    (table : Table) → IsTable e.texts table → AnswersText e.depth (meaning e table name source tree v) result

-- a writer that may fail receives what the tree of a text means, or a beginning of it, by what it has and had
abbrev pub Sends : Texts → Option (List ℕ) → List ℕ → Statements → Val → Result (Unit {0}) Error
    → Option (List ℕ) → Option (List ℕ) → Type 0
Sends e name s tree v r old new =
    (table : Table) → IsTable e.texts table → WritesReported e.depth IsAnyIo r old new (meaning e table name s tree v)
