use Rattle.std.proofs.Common.{◌≡◌, Some, ap, is_some}
use Rattle.std.specs.Cow.{cow_str_bytes}
use Rattle.upon_types.specs.Error.{fault_of}
use Rattle.upon_types.specs.Fault.{syntax}
use Rattle.upon_types.specs.Tree.{Statements}
use Rattle.upon_types.specs.declared.error.Error.{Error}
use Rattle.upon_language_spec.specs.Grammar.{HasTree}
use Rattle.upon_syntax.proofs.NextTokens.{handed_on}
use Rattle.upon_engine.specs.Engine.{engine_syntax}
use Rattle.upon_engine.specs.Texts.{stored_template}
use Rattle.upon_engine.proofs.OldTrees.{refused_had_none}
use Rattle.upon_engine.proofs.Updates.{refused_stays, templates_after, templates_kept, written}
use Rattle.upon_engine.proofs.engine.Engine.add_template.Goals as goal

pub returns-in_err-template-clause-no_tree : goal.returns-in_err-template-clause-no_tree
returns-in_err-template-clause-no_tree g c =
    let P : Error → Type 0 = λ e. (fault_of e).kind ≡ syntax → (tree : Statements) → HasTree (engine_syntax c.args.self.now) (cow_str_bytes c.args.source) tree → ⊥ in
    let e : Error = c.in_err-template.field-0.0 in
    handed_on P e c.from_residual.result c.from_residual.ensures.1 c.in_err-template.ensures.no_tree

pub returns-in_err-template-clause-engine : goal.returns-in_err-template-clause-engine
returns-in_err-template-clause-engine g c = refused_stays _ c.from_residual.result _ _ c.from_residual.ensures.1

pub returns-in_err-name-clause-engine : goal.returns-in_err-name-clause-engine
returns-in_err-name-clause-engine g c = refused_stays _ c.from_residual-in_err-name.result _ _ c.from_residual-in_err-name.ensures.1

pub returns-in-Ok-clause-engine : goal.returns-in-Ok-clause-engine
returns-in-Ok-clause-engine g c =
    let made = c.in_ok-template.ensures in
    templates_after _ _ c.args.self.now c.insert.new.self _ _ _ _ c.in_ok-name.ensures.ok c.in-Ok.ensures.updates (λ i. Some (record { text = made.source i; syntax = made.syntax i }))

pub returns-in-Ok-clause-held : goal.returns-in-Ok-clause-held
returns-in-Ok-clause-held g c = ap is_some (written stored_template _ _ c.args.self.now.templates c.insert.new.self _ c.in_ok-name.ensures.ok c.in-Ok.ensures.updates)

pub returns-in-Err-clause-engine : goal.returns-in-Err-clause-engine
returns-in-Err-clause-engine g c = templates_kept _ _ c.args.self.now c.insert.new.self c.in-Err.ensures.err

pub returns-in_err-template-clause-accepted : goal.returns-in_err-template-clause-accepted
returns-in_err-template-clause-accepted g c = refused_had_none _ _ _ (returns-in_err-template-clause-no_tree g c)
