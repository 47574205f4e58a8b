-- The places for which a template is refused lie in the texts that are held.
use Rattle.std.proofs.Common.{ℕ, List, [], ◌∷◌, Option, Some, None, inl, inr, option_map, refl, subst}
use Rattle.std.specs.BTreeMap.{get_by_text}
use Rattle.std.specs.declared.alloc.Global.{Global}
use Rattle.std.specs.declared.dyn_box.DynBox.{DynBox}
use Rattle.upon_types.specs.Answers.{Formatter, Function}
use Rattle.upon_types.specs.Span.{LiesIn}
use Rattle.upon_types.specs.declared.types.Span.{Span}
use Rattle.upon_meaning_spec.specs.MapOrder.{IsAmong}
use Rattle.upon_machine_spec.specs.Code.{program_of}
use Rattle.upon_shape_spec.specs.Accepted.{OnSome, is_planned, Planned}
use Rattle.upon_shape_spec.specs.Declared.{Declared}
use Rattle.upon_shape_spec.specs.Doubted.{PlaceInDoubt, none_included}
use Rattle.upon_shape_spec.specs.Doubts.{Doubt, statements_doubts}
use Rattle.upon_shape_spec.specs.Known.{known_at_begin}
use Rattle.upon_shape_spec.specs.Scope.{Scope}
use Rattle.upon_shape_spec.specs.Shape.{Shape}
use Rattle.upon_engine.specs.Engine.{engine_templates}
use Rattle.upon_engine.specs.Template.{template_of, template_source, template_tree}
use Rattle.upon_engine.specs.Texts.{Texts, stored_template, texts_of}
use Rattle.upon_engine.specs.Theorem.{IsTable}
use Rattle.upon_engine.specs.declared.engine.Engine.{Engine as Held}
use Rattle.upon_engine.specs.declared.template.Template.{Template as HeldTemplate}
use Rattle.upon_engine.proofs.Tables.{held_is}
use Rattle.upon_engine.proofs.TemplateSpans.{template_lies}
use Rattle.upon_shape_check.specs.DeepLiterals.{program_too_deep}
use Rattle.upon_shape_check.specs.Doubted.{DoubtedOn, misfits_view}
use Rattle.upon_shape_check.specs.Pictures.{EachLies, places_of, spots_of, text_or_empty}
use Rattle.upon_shape_check.specs.declared.refusal.Refusal.{Refusal}
use Rattle.upon_shape_check.specs.declared.refusal.Refusal.TheVariants.{NoTemplate, Misfits, TooDeep, Memory}
use Rattle.upon_shape_check.proofs.DeepLie.{deep_lies}
use Rattle.upon_shape_check.proofs.DoubtsLie.{doubt_lies}

doubt_held : (declared : Declared) (scope : Scope) (d : Doubt) (o : Option HeldTemplate) → OnSome (option_map template_of o) (λ t. IsAmong d (statements_doubts declared none_included scope t.tree))
    → LiesIn (text_or_empty (option_map stored_template o)) d.place
doubt_held declared scope d None among = absurd among
doubt_held declared scope d (Some h) among = doubt_lies (template_source h) declared none_included scope (template_tree h) d (template_lies h) among

deep_held : (declared : Declared) (plan : List Planned) (scope : Scope) (at : Span) (o : Option HeldTemplate)
    → OnSome (option_map template_of o) (λ t. IsAmong at (program_too_deep declared (is_planned plan) 0 (known_at_begin scope) (program_of t.tree))) → LiesIn (text_or_empty (option_map stored_template o)) at
deep_held declared plan scope at None among = absurd among
deep_held declared plan scope at (Some h) among = deep_lies (template_source h) declared (is_planned plan) scope (template_tree h) at (template_lies h) among

each_lies : (e : Texts) (ms : List PlaceInDoubt) → ((m : PlaceInDoubt) → IsAmong m ms → LiesIn (text_or_empty (e.texts m.template)) m.doubt.place) → EachLies e (spots_of ms)
each_lies e [] lie = tt
each_lies e (m ∷ ms) lie = (lie m (inl refl), each_lies e ms (λ other among. lie other (inr among)))

module _ {X Y : Type 0} {P : X → Type 0} {Q : Y → Type 0} (formats : DynBox X Global P → Formatter) (answers : DynBox Y Global Q → Function) (e : Held X Y P Q) where
  own_table : IsTable (texts_of formats answers e).texts (engine_templates e)
  own_table name = held_is (get_by_text e.templates name)

  pub refused_places : (declared : Declared) (name : List ℕ) (s : Shape) (r : Refusal) → DoubtedOn (texts_of formats answers e) declared name s r → EachLies (texts_of formats answers e) (places_of r)
  refused_places declared name s NoTemplate doubted = tt
  refused_places declared name s (Misfits ms) doubted =
      let are = doubted (engine_templates e) own_table in
      each_lies (texts_of formats answers e) (misfits_view ms.items)
      (λ m among. let it = are.1 m among in doubt_held declared it.scope m.doubt (get_by_text e.templates m.template) it.is_in_doubt)
  refused_places declared name s (TooDeep at place) doubted =
      let p = doubted.0 in
      let deep = (doubted.2 (engine_templates e) own_table).1 in
      (subst (λ (n : List ℕ). LiesIn (text_or_empty ((texts_of formats answers e).texts n)) place) doubted.1 (deep_held declared deep.0 p.scope place (get_by_text e.templates p.name) deep.1), tt)
  refused_places declared name s (Memory error) doubted = tt
