-- What is refused is said of texts and their table.
use Rattle.std.proofs.Common.{◌≡◌, ◌++◌, ℕ, List, [], Option, Some, None, option_map, refl, sym, subst}
use Rattle.std.specs.BTreeMap.{get_by_text}
use Rattle.std.specs.declared.alloc.Global.{Global}
use Rattle.std.specs.declared.dyn_box.DynBox.{DynBox}
use Rattle.upon_types.specs.Answers.{Formatter, Function}
use Rattle.upon_meaning_spec.specs.Engine.{Table}
use Rattle.upon_shape_spec.specs.Accepted.{Planned}
use Rattle.upon_shape_spec.specs.Declared.{Declared}
use Rattle.upon_shape_spec.specs.Doubted.{planned, AreDoubted, IsReached}
use Rattle.upon_shape_spec.specs.Doubted as spec
use Rattle.upon_shape_spec.specs.Scope.{scope_over}
use Rattle.upon_shape_spec.specs.Shape.{Shape}
use Rattle.upon_engine.specs.Engine.{engine_templates}
use Rattle.upon_engine.specs.Template.{template_of}
use Rattle.upon_engine.specs.Texts.{stored_template, texts_of}
use Rattle.upon_engine.specs.declared.engine.Engine.{Engine as Held}
use Rattle.upon_engine.specs.declared.template.Template.{Template as HeldTemplate}
use Rattle.upon_engine.proofs.Tables.{only_table}
use Rattle.upon_shape_check.specs.Doubted.{DoubtedOn, IsMissing, each_misfits, template_misfits}
use Rattle.upon_shape_check.specs.Planning.{IsPlanFor}
use Rattle.upon_shape_check.specs.Verdict.{IsDeepAt, IsUntoldFrom}
use Rattle.upon_shape_check.specs.declared.plan.TheConstants.{MOST_PLANNED}
use Rattle.upon_shape_check.specs.declared.refusal.Refusal.{Refusal}
use Rattle.upon_shape_check.specs.declared.refusal.Refusal.TheVariants.{NoTemplate, Misfits, TooDeep, Memory}
use Rattle.upon_shape_check.proofs.Reaching.{are_doubted}

none_held : (o : Option HeldTemplate) → option_map template_of o ≡ None → option_map stored_template o ≡ None
none_held None h = refl
none_held (Some t) h = absurd (cc)

module _ {X Y : Type 0} {P : X → Type 0} {Q : Y → Type 0} (formats : DynBox X Global P → Formatter) (answers : DynBox Y Global Q → Function) (e : Held X Y P Q) where
  pub untold_missing : (declared : Declared) (asked : Planned) (r : Refusal) → IsUntoldFrom declared (engine_templates e) asked r → IsMissing (texts_of formats answers e) asked.name r
  untold_missing declared asked NoTemplate h = none_held (get_by_text e.templates asked.name) h
  untold_missing declared asked (Misfits ms) h = absurd h
  untold_missing declared asked (TooDeep at place) h = tt
  untold_missing declared asked (Memory error) h = tt

  pub untold_doubts : (declared : Declared) (name : List ℕ) (s : Shape) (r : Refusal) → IsUntoldFrom declared (engine_templates e) (planned name (scope_over s)) r
      → DoubtedOn (texts_of formats answers e) declared name s r
  untold_doubts declared name s NoTemplate h = tt
  untold_doubts declared name s (Misfits ms) h = absurd h
  untold_doubts declared name s (TooDeep at place) h = (
    h.0,
    h.2,
    λ table is.
        subst (λ (t : Table). IsReached declared t (planned name (scope_over s)) h.0 × IsDeepAt declared t h.0 place) (sym (only_table (get_by_text e.templates) table is)) (h.1, h.3),
  )
  untold_doubts declared name s (Memory error) h = tt

  pub doubted_on : (declared : Declared) (plan : List Planned) (name : List ℕ) (s : Shape) (ms : List spec.PlaceInDoubt)
      → IsPlanFor declared (engine_templates e) (planned name (scope_over s)) plan
      → ms ≡ template_misfits declared plan (planned name (scope_over s)) (engine_templates e name) ++ each_misfits declared (engine_templates e) plan plan
      → (ms ≡ [] → ⊥) → (table : Table) → table ≡ engine_templates e
      → AreDoubted declared table (planned name (scope_over s)) MOST_PLANNED ms
  doubted_on declared plan name s ms is_plan told some table same =
      subst (λ (t : Table). AreDoubted declared t (planned name (scope_over s)) MOST_PLANNED ms) (sym same)
      (are_doubted declared (engine_templates e) (planned name (scope_over s)) plan is_plan ms told some)
