-- What is so of a renderer's call is so of the call on what the renderer is made of.
use Rattle.std.proofs.Common.{◌≡◌, ℕ, List, Option, Bor, subst}
use Rattle.std.specs.declared.alloc.Global.{Global}
use Rattle.std.specs.declared.dyn_box.DynBox.{DynBox}
use Rattle.upon_types.specs.Answers.{Formatter, Function}
use Rattle.upon_types.specs.Val.{Val}
use Rattle.upon_lookup.specs.Asked.{refuses_all}
use Rattle.upon_lookup.specs.Environment.{context}
use Rattle.upon_meaning_spec.specs.Engine.{Template, calls_of, from_table}
use Rattle.upon_meaning_spec.specs.Outcome.{states}
use Rattle.upon_engine.specs.Base.{on_root}
use Rattle.upon_engine.specs.Calls.{Call, engine_in, renderer_values, templates_in, template_in, name_in, limit_in}
use Rattle.upon_engine.proofs.Renderings.{engine_of}
use Rattle.upon_engine.specs.Sources.{engine_of_templates, value_in}
use Rattle.upon_engine.specs.declared.engine.Engine.{Engine as Held}
use Rattle.upon_engine.specs.declared.renderer.Renderer.{Renderer}
use Rattle.upon_engine.specs.declared.sources.EngineTemplates.{EngineTemplates}
use Rattle.upon_engine.specs.declared.values.Context.{Context}

module _ {X Y : Type 0} {P : X → Type 0} {Q : Y → Type 0} (formats : DynBox X Global P → Formatter) (answers : DynBox Y Global Q → Function) (Says : Call (Unit {0}) (Unit {0}) → Type 0) where
  abbrev pub Of : Held X Y P Q → Held X Y P Q → Template → Option (List ℕ) → ℕ → Val → Type 0
  Of e behind t name limit v = Says (record {
    rendering = record { calls = calls_of (engine_of formats answers e) refuses_all; resolve = from_table (engine_of formats answers behind).templates; limit = limit };
    template = t;
    name = name;
    base = on_root (context v);
    from = states (tt {0}) (tt {0});
  })

  pub on_call : (r : Renderer (Bor (Held X Y P Q)) Context (EngineTemplates X Y P Q)) (e : Held X Y P Q) (t : Template) (name : Option (List ℕ)) (limit : ℕ) (v : Val)
      → (engine_in r).now ≡ e → engine_of_templates (templates_in r) ≡ e → template_in r ≡ t → name_in r ≡ name → limit_in r ≡ limit → value_in (renderer_values r) ≡ v
      → Of (engine_in r).now (engine_of_templates (templates_in r)) (template_in r) (name_in r) (limit_in r) (value_in (renderer_values r)) → Of e e t name limit v
  on_call r e t name limit v ee ff tt' nn ll vv h =
      subst (λ z. Of e e t name limit z) vv
      (subst (λ z. Of e e t name z (value_in (renderer_values r))) ll
      (subst (λ z. Of e e t z (limit_in r) (value_in (renderer_values r))) nn
      (subst (λ z. Of e e z (name_in r) (limit_in r) (value_in (renderer_values r))) tt'
      (subst (λ z. Of e z (template_in r) (name_in r) (limit_in r) (value_in (renderer_values r))) ff
      (subst (λ z. Of z (engine_of_templates (templates_in r)) (template_in r) (name_in r) (limit_in r) (value_in (renderer_values r))) ee h)))))
