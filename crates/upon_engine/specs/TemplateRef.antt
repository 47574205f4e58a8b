-- What a template of an engine denotes.
use Rattle.std.specs.Prelude.{ℕ, List}
use Rattle.upon_meaning_spec.specs.Engine.{Template}
use Rattle.upon_engine.specs.Template.{template_of}
use Rattle.upon_engine.specs.declared.engine.Engine.{Engine as Held}
use Rattle.upon_engine.specs.declared.template_ref.TemplateRef.{TemplateRef}

-- the engine
abbrev pub ref_engine : {X Y : Type 0} {P : X → Type 0} {Q : Y → Type 0} → TemplateRef X Y P Q → Held X Y P Q
ref_engine t = t.engine.now

-- the name
abbrev pub ref_name : {X Y : Type 0} {P : X → Type 0} {Q : Y → Type 0} → TemplateRef X Y P Q → List ℕ
ref_name t = t.name.now

-- the text and the tree
abbrev pub ref_template : {X Y : Type 0} {P : X → Type 0} {Q : Y → Type 0} → TemplateRef X Y P Q → Template
ref_template t = template_of t.template.now
