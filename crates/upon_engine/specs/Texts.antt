-- What an engine holds, as texts: nothing here speaks of compiled templates.
use Rattle.std.specs.Prelude.{ℕ, List, Option, option_map}
use Rattle.std.specs.BTreeMap.{get_by_text}
use Rattle.std.specs.Cow.{cow_str_bytes}
use Rattle.std.specs.declared.alloc.Global.{Global}
use Rattle.std.specs.declared.dyn_box.DynBox.{DynBox}
use Rattle.upon_types.specs.Answers.{Callable, Formatter, Function}
use Rattle.upon_language_spec.specs.Search.{DelimiterText}
use Rattle.upon_delimiters.specs.Searcher.{searcher_delimiters}
use Rattle.upon_delimiters.specs.Syntax.{syntax_delimiters}
use Rattle.upon_engine.specs.Callables.{callable_of}
use Rattle.upon_engine.specs.declared.engine.Engine.{Engine as Held}
use Rattle.upon_engine.specs.declared.template.Template.{Template as HeldTemplate}

-- a text that is held, and the delimiters that it was compiled under
pub record Stored : Type 0 where
  pub text : List ℕ
  pub syntax : List DelimiterText

-- what an engine holds: texts and callables by their names, the default formatter that was set, the depth, and the
-- delimiters that it compiles with
pub record Texts : Type 0 where
  pub texts : List ℕ → Option Stored
  pub callables : List ℕ → Option Callable
  pub default_formatter : Option Formatter
  pub depth : ℕ
  pub syntax : List DelimiterText

-- what a template was made of
abbrev pub stored_template : HeldTemplate → Stored
stored_template t = record { text = cow_str_bytes t.source; syntax = syntax_delimiters t.syntax }

-- what an engine holds, by what its boxes denote
abbrev pub texts_of : {X Y : Type 0} {P : X → Type 0} {Q : Y → Type 0} → (DynBox X Global P → Formatter)
    → (DynBox Y Global Q → Function) → Held X Y P Q → Texts
texts_of formats answers e = record {
  texts = λ name. option_map stored_template (get_by_text e.templates name);
  callables = λ name. option_map (callable_of formats answers) (get_by_text e.callables name);
  default_formatter = option_map formats e.default_formatter;
  depth = e.depth;
  syntax = searcher_delimiters e.searcher;
}
