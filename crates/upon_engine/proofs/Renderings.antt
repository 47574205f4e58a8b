-- What a renderer with an engine that is lent denotes, by what its parts are.
use Rattle.std.proofs.Common.{◌≡◌, ℕ, List, Option, Bor, subst}
use Rattle.std.specs.declared.alloc.Global.{Global}
use Rattle.std.specs.declared.dyn_box.DynBox.{DynBox}
use Rattle.upon_types.specs.Answers.{Formatter, Function}
use Rattle.upon_types.specs.Val.{Val}
use Rattle.upon_lookup.specs.Asked.{refuses_all}
use Rattle.upon_lookup.specs.Environment.{context, value_source}
use Rattle.upon_lookup.specs.Source.{Source}
use Rattle.upon_meaning_spec.specs.Engine.{Engine, Template, Resolver, calls_of, from_table}
use Rattle.upon_meaning_spec.specs.Outcome.{Outcome, States, states}
use Rattle.upon_engine.specs.Base.{ContextBase, on_root, outcome_over}
use Rattle.upon_engine.specs.Calls.{engine_in, renderer_values, templates_in, template_in, name_in, limit_in}
use Rattle.upon_engine.specs.Engine.{engine_templates}
use Rattle.upon_engine.specs.Texts.{texts_of}
use Rattle.upon_engine.specs.Theorem.{engine_meant}
use Rattle.upon_engine.specs.Sources.{engine_of_templates, source_in, value_in}
use Rattle.upon_engine.specs.declared.engine.Engine.{Engine as Held}
use Rattle.upon_engine.specs.declared.renderer.Renderer.{Renderer}
use Rattle.upon_engine.specs.declared.sources.EngineTemplates.{EngineTemplates}
use Rattle.upon_engine.specs.declared.values.Context.{Context}
use Rattle.upon_engine.specs.declared.values.SourceValues.{SourceValues}

-- an engine, as templates see it
abbrev pub engine_of : {X Y : Type 0} {P : X → Type 0} {Q : Y → Type 0} → (DynBox X Global P → Formatter) → (DynBox Y Global Q → Function) → Held X Y P Q → Engine
engine_of formats answers e = engine_meant (texts_of formats answers e) (engine_templates e)

-- whatever is said of the outcome, with the depth
module _ {X Y : Type 0} {P : X → Type 0} {Q : Y → Type 0} (formats : DynBox X Global P → Formatter) (answers : DynBox Y Global Q → Function) {S : Type 0} (Says : ℕ → Outcome (States S (Unit {0})) → Type 0) where
  -- with the engine's templates, by what it is over and the source's state
  abbrev pub Gives : Source S → ContextBase → S → Held X Y P Q → Held X Y P Q → Template → Option (List ℕ) → ℕ → Type 0
  Gives ask base s e behind t name limit = Says limit (outcome_over (record { calls = calls_of (engine_of formats answers e) ask; resolve = from_table (engine_of formats answers behind).templates; limit = limit }) t name base (states s (tt {0})))

  -- whatever it is over
  pub on_base : {V : Type 0} (ask : Source S) (base : ContextBase) (s : S) (r : Renderer (Bor (Held X Y P Q)) V (EngineTemplates X Y P Q)) (e : Held X Y P Q) (t : Template) (name : Option (List ℕ)) (limit : ℕ)
      → (engine_in r).now ≡ e → engine_of_templates (templates_in r) ≡ e → template_in r ≡ t → name_in r ≡ name → limit_in r ≡ limit
      → Gives ask base s (engine_in r).now (engine_of_templates (templates_in r)) (template_in r) (name_in r) (limit_in r) → Gives ask base s e e t name limit
  on_base ask base s r e t name limit ee ff tt' nn ll h =
      subst (λ z. Gives ask base s e e t name z) ll
      (subst (λ z. Gives ask base s e e t z (limit_in r)) nn
      (subst (λ z. Gives ask base s e e z (name_in r) (limit_in r)) tt'
      (subst (λ z. Gives ask base s e z (template_in r) (name_in r) (limit_in r)) ff
      (subst (λ z. Gives ask base s z (engine_of_templates (templates_in r)) (template_in r) (name_in r) (limit_in r)) ee h))))

  -- on a value
  pub on_value : (ask : Source S) (s : S) (r : Renderer (Bor (Held X Y P Q)) Context (EngineTemplates X Y P Q)) (e : Held X Y P Q) (t : Template) (name : Option (List ℕ)) (limit : ℕ) (v : Val)
      → (engine_in r).now ≡ e → engine_of_templates (templates_in r) ≡ e → template_in r ≡ t → name_in r ≡ name → limit_in r ≡ limit → value_in (renderer_values r) ≡ v
      → Gives ask (on_root (context (value_in (renderer_values r)))) s (engine_in r).now (engine_of_templates (templates_in r)) (template_in r) (name_in r) (limit_in r) → Gives ask (on_root (context v)) s e e t name limit
  on_value ask s r e t name limit v ee ff tt' nn ll vv h =
      subst (λ z. Gives ask (on_root (context z)) s e e t name limit) vv (on_base ask (on_root (context (value_in (renderer_values r)))) s r e t name limit ee ff tt' nn ll h)

  -- on a source of values
  pub on_source : {Z : Type 0} (ask : Z → Source S) (state : Z → S) (r : Renderer (Bor (Held X Y P Q)) (SourceValues Z) (EngineTemplates X Y P Q)) (e : Held X Y P Q) (t : Template) (name : Option (List ℕ)) (limit : ℕ) (z : Z)
      → (engine_in r).now ≡ e → engine_of_templates (templates_in r) ≡ e → template_in r ≡ t → name_in r ≡ name → limit_in r ≡ limit → source_in (renderer_values r) ≡ z
      → Gives (ask (source_in (renderer_values r))) (on_root value_source) (state (source_in (renderer_values r))) (engine_in r).now (engine_of_templates (templates_in r)) (template_in r) (name_in r) (limit_in r)
      → Gives (ask z) (on_root value_source) (state z) e e t name limit
  on_source ask state r e t name limit z ee ff tt' nn ll zz h =
      subst (λ z. Gives (ask z) (on_root value_source) (state z) e e t name limit) zz
      (on_base (ask (source_in (renderer_values r))) (on_root value_source) (state (source_in (renderer_values r))) r e t name limit ee ff tt' nn ll h)

-- on a value, with any source of templates
module _ {X Y : Type 0} {P : X → Type 0} {Q : Y → Type 0} (formats : DynBox X Global P → Formatter) (answers : DynBox Y Global Q → Function) {Z S : Type 0} (resolve : Z → Resolver S) (state : Z → S) (Says : ℕ → Outcome (States (Unit {0}) S) → Type 0) where
  abbrev pub GivesBy : Held X Y P Q → Z → Template → Option (List ℕ) → ℕ → Val → Type 0
  GivesBy e z t name limit v = Says limit (outcome_over (record { calls = calls_of (engine_of formats answers e) refuses_all; resolve = resolve z; limit = limit }) t name (on_root (context v)) (states (tt {0}) (state z)))

  pub by_source : (r : Renderer (Bor (Held X Y P Q)) Context Z) (e : Held X Y P Q) (z : Z) (t : Template) (name : Option (List ℕ)) (limit : ℕ) (v : Val)
      → (engine_in r).now ≡ e → templates_in r ≡ z → template_in r ≡ t → name_in r ≡ name → limit_in r ≡ limit → value_in (renderer_values r) ≡ v
      → GivesBy (engine_in r).now (templates_in r) (template_in r) (name_in r) (limit_in r) (value_in (renderer_values r)) → GivesBy e z t name limit v
  by_source r e z t name limit v ee zz tt' nn ll vv h =
      subst (λ x. GivesBy e z t name limit x) vv
      (subst (λ x. GivesBy e z t name x (value_in (renderer_values r))) ll
      (subst (λ x. GivesBy e z t x (limit_in r) (value_in (renderer_values r))) nn
      (subst (λ x. GivesBy e z x (name_in r) (limit_in r) (value_in (renderer_values r))) tt'
      (subst (λ x. GivesBy e x (template_in r) (name_in r) (limit_in r) (value_in (renderer_values r))) zz
      (subst (λ x. GivesBy x (templates_in r) (template_in r) (name_in r) (limit_in r) (value_in (renderer_values r))) ee h)))))
