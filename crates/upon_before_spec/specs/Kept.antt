-- When all that a template reaches was a template before `for .. else`.
use Rattle.std.specs.Prelude.{◌≡◌, ℕ, List, option_map}
use Rattle.upon_lookup.specs.Source.{Source, says}
use Rattle.upon_meaning_spec.specs.Engine.{Engine, Resolver, Table, calls_of}
use Rattle.upon_meaning_spec.specs.Includes.{Includes, Reaches}
use Rattle.upon_before_spec.specs.Tree.{Statements}
use Rattle.upon_before_spec.specs.Alone.{Template, Resolver as ResolverBefore, Rendering as RenderingBefore, Table as TableBefore, from_table}
use Rattle.upon_before_spec.specs.Now.{statements_now, template_now, reply_now}

-- a tree includes no name but these
abbrev pub IncludesOnly : (List ℕ → Type 0) → Statements → Type 0
IncludesOnly names tree = (name : List ℕ) → Includes name (statements_now tree) → names name

-- under these names both answer alike in all states, and the templates that answer include no name but these
pub record AnswersAlike {T : Type 0} (names : List ℕ → Type 0) (before : ResolverBefore T) (now : Resolver T)
    : Type 0 where
  pub same : (q : T) (name : List ℕ) → names name → now q name ≡ reply_now (before q name)
  pub closed : (q : T) (name : List ℕ) (t : Template) → names name → (before q name).answer ≡ says t
      → IncludesOnly names t.tree

-- under each name that a template reaches both tables hold the same, or neither holds any
abbrev pub HoldAlike : Statements → TableBefore → Table → Type 0
HoldAlike tree before now = (name : List ℕ) → Reaches now (statements_now tree) name
    → now name ≡ option_map template_now (before name)

-- a rendering of before, with an engine's callables and depth, and these templates
abbrev pub rendering_before : {V T : Type 0} → Engine → Source V → TableBefore → RenderingBefore V T
rendering_before engine ask before =
    record { calls = calls_of engine ask; resolve = from_table before; limit = engine.depth }
