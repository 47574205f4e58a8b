-- What the sources of a rendering hold.
use Rattle.upon_types.specs.Val.{Val}
use Rattle.upon_types.specs.View.{view}
use Rattle.upon_engine.specs.Base.{ContextBase, base_of}
use Rattle.upon_engine.specs.declared.engine.Engine.{Engine as Held}
use Rattle.upon_engine.specs.declared.sources.EngineTemplates.{EngineTemplates}
use Rattle.upon_engine.specs.declared.values.Context.{Context}
use Rattle.upon_engine.specs.declared.values.SerdeContext.{SerdeContext}
use Rattle.upon_engine.specs.declared.values.SourceValues.{SourceValues}

-- the engine whose templates are asked
abbrev pub engine_of_templates : {X Y : Type 0} {P : X → Type 0} {Q : Y → Type 0} → EngineTemplates X Y P Q
    → Held X Y P Q
engine_of_templates t = t.engine.now

-- the value that is a context
abbrev pub value_in : Context → Val
value_in c = view c.value.now

-- the source of values
abbrev pub source_in : {S : Type 0} → SourceValues S → S
source_in v = v.source

-- what a rendering is over, whose context was made of what serde writes
abbrev pub base_in : SerdeContext → ContextBase
base_in c = base_of c.value
