-- What a rendering is made of, and what its template means in it.
use Rattle.std.specs.Prelude.{ℕ, List, Option, option_map}
use Rattle.upon_types.specs.Answers.{Callable, Formatter}
use Rattle.upon_lookup.specs.Source.{Source}
use Rattle.upon_meaning_spec.specs.Engine.{Template, Resolver, Rendering}
use Rattle.upon_meaning_spec.specs.Outcome.{Outcome, States, states}
use Rattle.upon_engine.specs.Base.{ContextBase, outcome_over}
use Rattle.upon_engine.specs.Template.{template_of}
use Rattle.upon_engine.specs.declared.renderer.Renderer.{Renderer}

-- what it is on, the template with its name, what it is over, and the states of the sources
pub record Call (V T : Type 0) : Type 0 where
  pub rendering : Rendering V T
  pub template : Template
  pub name : Option (List ℕ)
  pub base : ContextBase
  pub from : States V T

-- what the template means by itself
abbrev pub outcome : {V T : Type 0} → Call V T → Outcome (States V T)
outcome c = outcome_over c.rendering c.template c.name c.base c.from

-- a call, with this depth in place of its own
abbrev pub at_depth : {V T : Type 0} → ℕ → Call V T → Call V T
at_depth limit c = record c { rendering = record c.rendering { limit = limit } }

-- over another base
abbrev pub on_base : {V T : Type 0} → ContextBase → Call V T → Call V T
on_base base c = record c { base = base }

-- with another source of templates
abbrev pub answered_by : {V T : Type 0} → Resolver T → Call V T → Call V T
answered_by resolve c = record c { rendering = record c.rendering { resolve = resolve } }

-- what a renderer holds: what its engine's names call
abbrev pub engine_in : {E V T : Type 0} → Renderer E V T → E
engine_in r = r.engine

-- what it is rendered on
abbrev pub renderer_values : {E V T : Type 0} → Renderer E V T → V
renderer_values r = r.values

-- where templates come from
abbrev pub templates_in : {E V T : Type 0} → Renderer E V T → T
templates_in r = r.templates

-- the template
abbrev pub template_in : {E V T : Type 0} → Renderer E V T → Template
template_in r = template_of r.template.now

-- its name, if it has one
abbrev pub name_in : {E V T : Type 0} → Renderer E V T → Option (List ℕ)
name_in r = option_map (λ name. name.now) r.name

-- how deep includes may go
abbrev pub limit_in : {E V T : Type 0} → Renderer E V T → ℕ
limit_in r = r.limit

-- what a renderer denotes, by the ghost members of what it holds
abbrev pub call_of : {E V T P Q : Type 0} → (E → List ℕ → Option Callable) → (E → Formatter) → (V → Source P)
    → (V → ContextBase)
    → (V → P) → (T → Resolver Q) → (T → Q) → Renderer E V T → Call P Q
call_of callables default_formatter asks base values_state resolve template_state r = record {
  rendering = record {
    calls =
        record { callables = callables r.engine; default_formatter = default_formatter r.engine; ask = asks r.values };
    resolve = resolve r.templates;
    limit = r.limit;
  };
  template = template_in r;
  name = name_in r;
  base = base r.values;
  from = states (values_state r.values) (template_state r.templates);
}
