-- A template that is accepted ends without a fault on each value that fits.
use Rattle.std.proofs.Common.{◌≡◌, inl, inr, ℕ, ◌≤◌, List, Option, Some, None, Result, String, Ok, Err, refl, sym, subst, arith}
use Rattle.std.specs.BTreeMap.{get_by_text}
use Rattle.std.specs.declared.alloc.Global.{Global}
use Rattle.std.specs.declared.dyn_box.DynBox.{DynBox}
use Rattle.upon_types.specs.Answers.{Formatter, Function}
use Rattle.upon_types.specs.Error.{fault_of}
use Rattle.upon_types.specs.Fault.{Fault}
use Rattle.upon_types.specs.Tree.{Statements}
use Rattle.upon_types.specs.Val.{Val}
use Rattle.upon_types.specs.declared.error.Error.{Error}
use Rattle.upon_language_spec.specs.Grammar.{HasTree}
use Rattle.upon_lookup.specs.Asked.{refuses_all}
use Rattle.upon_meaning_spec.specs.Alone.{includes_left, fault_of_end}
use Rattle.upon_meaning_spec.specs.DefaultFormat.{formatter_or_default}
use Rattle.upon_meaning_spec.specs.Engine.{Table, Template, calls_of}
use Rattle.upon_meaning_spec.specs.Outcome.{End, good, fails, too_deep, states}
use Rattle.upon_shape_spec.specs.Accepted.{OnSome, StatementsAccepted, IncludedBy, IsClosed, AcceptedBy, Planned}
use Rattle.upon_shape_spec.specs.Declared.{Declared, KeepsDeclared}
use Rattle.upon_shape_spec.specs.Ends.{EndsWell}
use Rattle.upon_shape_spec.specs.Fits.{Fits}
use Rattle.upon_shape_spec.specs.Scope.{scope_over}
use Rattle.upon_shape_spec.specs.Shape.{Shape}
use Rattle.upon_shape_spec.proofs.IncludesFit.{planned_alone, depth_alone}
use Rattle.upon_engine.specs.Changes.{with_depth}
use Rattle.upon_engine.specs.Engine.{engine_templates}
use Rattle.upon_engine.specs.Texts.{Stored, texts_of}
use Rattle.upon_engine.specs.Theorem.{AnswersTree, engine_meant, meaning}
use Rattle.upon_engine.specs.declared.engine.Engine.{Engine as Held}
use Rattle.upon_engine.proofs.Tables.{made, only_table, is_table, template_held}
use Rattle.upon_shape_check.specs.EndsOn.{EndsOn, EndsAtDepth, EndsAs, IsTextUnlessDeep, IsTextOrNoMemory}
use Rattle.upon_shape_check.specs.Levels.{IncludeWithin, IsAcceptedAtDepth, IsAcceptedAs}
use Rattle.upon_shape_check.specs.Verdict.{IsAcceptedBy}
use Rattle.upon_shape_check.specs.declared.accepted.Accepted.{Accepted}
use Rattle.upon_shape_check.specs.declared.accepted.Accepted.TheVariants.{EndsWithin, EndsUnlessDeep}
use Rattle.upon_shape_check.proofs.Deep.{deep_alone}

abbrev named : List ℕ → Shape → Planned
named name s = record { name = name; scope = scope_over s }

-- a good end is no fault
no_fault : (limit : ℕ) (end : End) → EndsWell end → fault_of_end limit end ≡ None
no_fault limit good h = refl
no_fault limit (fails f) h = absurd h
no_fault limit too_deep h = absurd h

-- there is a fault or none
not_both : (limit : ℕ) (end : End) (f : Fault) → fault_of_end limit end ≡ None → fault_of_end limit end ≡ Some f → ⊥
not_both limit end f none some = cc

module _ {X Y : Type 0} {P : X → Type 0} {Q : Y → Type 0} (formats : DynBox X Global P → Formatter) (answers : DynBox Y Global Q → Function) (e : Held X Y P Q) where
  pub ends_on : (declared : Declared) (plan : List Planned) (name : List ℕ) (s : Shape)
      → IsAcceptedBy declared (engine_templates e) plan (named name s)
      → IsClosed declared (engine_templates e) plan
      → EndsOn (texts_of formats answers e) declared name s
  ends_on declared plan name s accepted closed table held tree v f it here has keeps fits fault =
      let same : table ≡ engine_templates e = only_table (get_by_text e.templates) table it in
      let there : engine_templates e name ≡ Some (made held.text tree) = template_held (get_by_text e.templates name) held tree here has in
      let mine : AcceptedBy declared plan (made held.text tree) s =
      subst (λ (o : Option Template). OnSome o (λ t. StatementsAccepted declared (IncludedBy plan) (scope_over s) t.tree)) there accepted in
      let closes : IsClosed declared table plan = subst (λ (t : Table). IsClosed declared t plan) (sym same) closed in
      let engine = engine_meant (texts_of formats answers e) table in
      depth_alone e.depth (meaning (texts_of formats answers e) table (Some name) held.text tree v).end f
      (planned_alone declared table plan (calls_of engine refuses_all) keeps closes (includes_left e.depth) (made held.text tree) (Some name) s v (states tt tt) mine fits)
      fault

  pub ends_at_depth : (declared : Declared) (name : List ℕ) (s : Shape) (depth : ℕ)
      → IsAcceptedAtDepth declared (engine_templates e) (named name s) depth
      → EndsAtDepth depth (texts_of formats answers e) declared name s
  ends_at_depth declared name s depth at more less table held tree v it here has keeps fits =
      let same : table ≡ engine_templates e = only_table (get_by_text e.templates) table it in
      let there : engine_templates e name ≡ Some (made held.text tree) = template_held (get_by_text e.templates name) held tree here has in
      let mine : AcceptedBy declared at.plan (made held.text tree) s =
      subst (λ (o : Option Template). OnSome o (λ t. StatementsAccepted declared (IncludedBy at.plan) (scope_over s) t.tree)) there at.accepted in
      let within : IncludeWithin declared table at.levels at.plan = subst (λ (t : Table). IncludeWithin declared t at.levels at.plan) (sym same) at.within in
      let deeper = with_depth more (texts_of formats answers e) in
      let enough : at.levels ≤ includes_left more = omega (arith, at.is_more, less) in
      no_fault more (meaning deeper table (Some name) held.text tree v).end
      (deep_alone declared table (calls_of (engine_meant deeper table) refuses_all) keeps at.levels at.plan within (includes_left more) enough (made held.text tree) (Some name) s v (states tt tt) mine fits)

  pub ends_as : (declared : Declared) (name : List ℕ) (s : Shape) (accepted : Accepted)
      → IsAcceptedAs declared (engine_templates e) (named name s) accepted
      → EndsAs (texts_of formats answers e) declared name s accepted
  ends_as declared name s (EndsWithin depth) at = ends_at_depth declared name s depth at
  ends_as declared name s EndsUnlessDeep at = tt

  -- what is answered is a text, unless includes are too deep or memory is out
  pub text_unless_deep : (declared : Declared) (name : List ℕ) (s : Shape) (held : Stored) (tree : Statements) (v : Val)
      (result : Result (String Global) Error)
      → EndsOn (texts_of formats answers e) declared name s
      → (texts_of formats answers e).texts name ≡ Some held → ∥ HasTree held.syntax held.text tree ∥₁
      → KeepsDeclared declared (texts_of formats answers e).callables (formatter_or_default (texts_of formats answers e).default_formatter)
      → Fits s v
      → AnswersTree (texts_of formats answers e) (Some name) held.text tree v result
      → IsTextUnlessDeep e.depth result
  text_unless_deep declared name s held tree v (Ok text) ends here has keeps fits said = tt
  text_unless_deep declared name s held tree v (Err error) ends here has keeps fits said =
      elim (said (engine_templates e) (is_table (get_by_text e.templates))) [
        | inl fault ↦ inl (ends (engine_templates e) held tree v (fault_of error) (is_table (get_by_text e.templates)) here has keeps fits fault)
        | inr out ↦ inr out
      ]

  -- what is answered is a text, unless memory is out
  pub text_within_depth : (declared : Declared) (name : List ℕ) (s : Shape) (depth : ℕ) (held : Stored) (tree : Statements) (v : Val)
      (result : Result (String Global) Error)
      → EndsAtDepth depth (texts_of formats answers e) declared name s → depth ≤ e.depth
      → (texts_of formats answers e).texts name ≡ Some held → ∥ HasTree held.syntax held.text tree ∥₁
      → KeepsDeclared declared (texts_of formats answers e).callables (formatter_or_default (texts_of formats answers e).default_formatter)
      → Fits s v
      → AnswersTree (texts_of formats answers e) (Some name) held.text tree v result
      → IsTextOrNoMemory result
  text_within_depth declared name s depth held tree v (Ok text) ends less here has keeps fits said = tt
  text_within_depth declared name s depth held tree v (Err error) ends less here has keeps fits said =
      let table = engine_templates e in
      elim (said table (is_table (get_by_text e.templates))) [
        | inl fault ↦ absurd (not_both e.depth (meaning (texts_of formats answers e) table (Some name) held.text tree v).end (fault_of error)
            (ends e.depth less table held tree v (is_table (get_by_text e.templates)) here has keeps fits) fault)
        | inr out ↦ out
      ]
