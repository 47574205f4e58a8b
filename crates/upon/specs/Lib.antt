pub mod Program
pub mod Sources
pub mod RenderingLaws
-- Definitions of the crates below that callers cite, so that a crate which lists `upon` alone can name them. Where two
-- have one name, one of them has another here.
pub use Rattle.upon_types.specs.Answers
pub use Rattle.upon_types.specs.Error
pub use Rattle.upon_types.specs.Expression
pub use Rattle.upon_types.specs.Fault
pub use Rattle.upon_types.specs.Misfits
pub use Rattle.upon_types.specs.Path
pub use Rattle.upon_types.specs.Tree
pub use Rattle.upon_types.specs.Val
pub use Rattle.upon_types.specs.View
pub use Rattle.upon_types.specs.declared.error.Error as DeclaredError
pub use Rattle.upon_types.specs.declared.types.Span as DeclaredSpan
pub use Rattle.upon_types.specs.declared.value.Value as DeclaredValue
pub use Rattle.upon_language_spec.specs.DefaultDelimiters
pub use Rattle.upon_language_spec.specs.Grammar
pub use Rattle.upon_language_spec.specs.Search
pub use Rattle.upon_language_spec.specs.ShortTrees
pub use Rattle.upon_delimiters.specs.SetTexts
pub use Rattle.upon_delimiters.specs.Syntax
pub use Rattle.upon_syntax.specs.TagReading
pub use Rattle.upon_tree.specs.Ast as TemplateTree
pub use Rattle.upon_lookup.specs.Asked
pub use Rattle.upon_lookup.specs.Environment
pub use Rattle.upon_lookup.specs.Finding
pub use Rattle.upon_lookup.specs.LookupFaults
pub use Rattle.upon_lookup.specs.Source
pub use Rattle.upon_functions.specs.Integers
pub use Rattle.upon_functions.specs.Outcome as FunctionOutcome
pub use Rattle.upon_functions.specs.Says
pub use Rattle.upon_functions.specs.Adapters
pub use Rattle.upon_fmt.specs.Error as FormatError
pub use Rattle.upon_fmt.specs.Formatter
pub use Rattle.upon_meaning_spec.specs.Alone
pub use Rattle.upon_meaning_spec.specs.DefaultFormat
pub use Rattle.upon_meaning_spec.specs.Engine
pub use Rattle.upon_meaning_spec.specs.Evaluation
pub use Rattle.upon_meaning_spec.specs.IncludeFinds
pub use Rattle.upon_meaning_spec.specs.Includes
pub use Rattle.upon_meaning_spec.specs.Meaning
pub use Rattle.upon_meaning_spec.specs.Names
pub use Rattle.upon_meaning_spec.specs.Outcome
pub use Rattle.upon_vm.specs.Reports
pub use Rattle.upon_engine.specs.Answers as TextAnswers
pub use Rattle.upon_engine.specs.Base
pub use Rattle.upon_engine.specs.Calls
pub use Rattle.upon_engine.specs.Changes
pub use Rattle.upon_engine.specs.Engine as EngineParts
pub use Rattle.upon_engine.specs.KeepsLaws
pub use Rattle.upon_engine.specs.Pieces
pub use Rattle.upon_engine.specs.Template
pub use Rattle.upon_engine.specs.Texts
pub use Rattle.upon_engine.specs.Theorem
pub use Rattle.upon_engine.specs.declared.template.Template as DeclaredTemplate
pub use Rattle.upon_needs.specs.EngineNeeds
