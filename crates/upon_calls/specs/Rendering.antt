-- The text that a template means on a value, and the fault with which its rendering ends, by what an engine holds.
use Rattle.std.specs.Prelude.{◌≡◌, ◌⊎◌, ℕ, List, Bool, true, false, Option, Some, None, Result, String, Contains}
use Rattle.std.specs.declared.alloc.Global.{Global}
use Rattle.upon_types.specs.Fault.{Fault, syntax, bare_fault, fault_with_name, fault_with_picture}
use Rattle.upon_types.specs.Tree.{Statements}
use Rattle.upon_types.specs.Val.{Val}
use Rattle.upon_types.specs.declared.error.Error.{Error}
use Rattle.upon_types.specs.declared.types.Span.{Span}
use Rattle.upon_language_spec.specs.FirstFault.{IsFirstFault}
use Rattle.upon_language_spec.specs.Grammar.{HasTree}
use Rattle.upon_language_spec.specs.Search.{DelimiterText}
use Rattle.upon_meaning_spec.specs.Alone.{fault_of_end}
use Rattle.upon_meaning_spec.specs.Engine.{Table}
use Rattle.upon_meaning_spec.specs.Outcome.{good}
use Rattle.upon_vm.specs.Within.{FitsLimits, NamesLimit}
use Rattle.upon_vm.specs.declared.limits.Limits.{Limits}
use Rattle.upon_engine.specs.Texts.{Stored, Texts}
use Rattle.upon_engine.specs.Theorem.{AnswersTree, IsTable, meaning}
use Rattle.upon_engine.specs.Within.{AnswersWithin, runs}

-- what is answered of the tree of a text: without limits, or within them
abbrev pub AnswersIf : Bool → Limits → Texts → Option (List ℕ) → List ℕ → Statements → Val
    → Result (String Global) Error → Type 0
AnswersIf false limits e name source tree v result = AnswersTree e name source tree v result
AnswersIf true limits e name source tree v result = AnswersWithin e limits name source tree v result

-- a text is what the tree of a text means on a value by a table, and the limits that are set let it be
abbrev pub IsMeaningBy : Limits → Texts → Table → Option (List ℕ) → List ℕ → Statements → Val → List ℕ → Type 0
IsMeaningBy limits e table name source tree v text =
    ((meaning e table name source tree v).end ≡ good) × (text ≡ (meaning e table name source tree v).text)
    × FitsLimits limits (runs e table name source tree v) (meaning e table name source tree v)

-- so by each table of the texts that are held
abbrev pub IsMeaning : Limits → Texts → Option (List ℕ) → List ℕ → Statements → Val → List ℕ → Type 0
IsMeaning limits e name source tree v text =
    (table : Table) → IsTable e.texts table → IsMeaningBy limits e table name source tree v text

-- a fault is the one with which the meaning of a tree ends by a table, or it names a limit beyond which that goes
abbrev pub EndsWithBy : Limits → Texts → Table → Option (List ℕ) → List ℕ → Statements → Val → Fault → Type 0
EndsWithBy limits e table name source tree v fault =
    ((fault_of_end e.depth (meaning e table name source tree v).end ≡ Some fault)
    × FitsLimits limits (runs e table name source tree v) (meaning e table name source tree v))
    ⊎ NamesLimit limits (runs e table name source tree v) (meaning e table name source tree v) fault

-- so by each table of the texts that are held
abbrev pub EndsWith : Limits → Texts → Option (List ℕ) → List ℕ → Statements → Val → Fault → Type 0
EndsWith limits e name source tree v fault =
    (table : Table) → IsTable e.texts table → EndsWithBy limits e table name source tree v fault

-- each text that is held has a tree, so that there is a table of them
abbrev pub EachHasTree : Texts → Type 0
EachHasTree e = (name : List ℕ) (held : Stored) → e.texts name ≡ Some held
    → (tree : Statements) × ∥ HasTree held.syntax held.text tree ∥₁

-- a text is what the template of a name means on a value
abbrev pub MeansNamed : Limits → Texts → List ℕ → Val → List ℕ → Type 0
MeansNamed limits e name v text =
    EachHasTree e × (held : Stored) × (tree : Statements) × (e.texts name ≡ Some held)
    × ∥ HasTree held.syntax held.text tree ∥₁ × IsMeaning limits e (Some name) held.text tree v text

-- the rendering of the template of a name on a value ends with a fault
abbrev pub FailsNamed : Limits → Texts → List ℕ → Val → Fault → Type 0
FailsNamed limits e name v fault =
    EachHasTree e × (held : Stored) × (tree : Statements) × (e.texts name ≡ Some held)
    × ∥ HasTree held.syntax held.text tree ∥₁ × EndsWith limits e (Some name) held.text tree v fault

-- a text is what the template that another text is means on a value
abbrev pub MeansText : Limits → Texts → List ℕ → Val → List ℕ → Type 0
MeansText limits e source v text =
    (tree : Statements) × HasTree e.syntax source tree × IsMeaning limits e None source tree v text

-- a fault is the first one of a text
abbrev pub IsFirstFaultOf : List DelimiterText → List ℕ → Fault → Type 0
IsFirstFaultOf delimiters s fault = (span : Span) × (reason : List ℕ) × IsFirstFault delimiters s span reason
    × (fault ≡ fault_with_picture s (bare_fault syntax (Some reason) (Some span)))

-- a text has a first fault, or its rendering on a value ends with one
abbrev pub FailsText : Limits → Texts → List ℕ → Val → Fault → Type 0
FailsText limits e source v fault = IsFirstFaultOf e.syntax source fault
    ⊎ ((tree : Statements) × HasTree e.syntax source tree × EndsWith limits e None source tree v fault)

-- a fault is the first one of a text, with the name of its template
abbrev pub IsFirstNamed : List ℕ → List DelimiterText → List ℕ → Fault → Type 0
IsFirstNamed name delimiters s fault = (span : Span) × (reason : List ℕ) × IsFirstFault delimiters s span reason
    × (fault ≡ fault_with_name name (fault_with_picture s (bare_fault syntax (Some reason) (Some span))))

-- a fault is the first one of the text of one of some templates
abbrev pub IsFirstOfOne : List DelimiterText → List (List ℕ × List ℕ) → Fault → Type 0
IsFirstOfOne delimiters sources fault =
    (s : List ℕ × List ℕ) × Contains sources s × IsFirstNamed s.0 delimiters s.1 fault
