-- What is known of a template that is accepted on a shape.
use Rattle.std.specs.Prelude.{◌≡◌, ◌⊎◌, ℕ, ◌≤◌, List, Some, None, Result, Ok, Err, String}
use Rattle.std.specs.declared.alloc.Global.{Global}
use Rattle.upon_types.specs.Error.{fault_of}
use Rattle.upon_types.specs.Fault.{Fault, out_of_memory}
use Rattle.upon_types.specs.Tree.{Statements}
use Rattle.upon_types.specs.Val.{Val}
use Rattle.upon_types.specs.declared.error.Error.{Error}
use Rattle.upon_language_spec.specs.Grammar.{HasTree}
use Rattle.upon_meaning_spec.specs.Alone.{fault_of_end}
use Rattle.upon_meaning_spec.specs.CallFaults.{depth_reached}
use Rattle.upon_meaning_spec.specs.DefaultFormat.{formatter_or_default}
use Rattle.upon_meaning_spec.specs.Engine.{Table}
use Rattle.upon_shape_spec.specs.Declared.{Declared, KeepsDeclared}
use Rattle.upon_shape_spec.specs.Fits.{Fits}
use Rattle.upon_shape_spec.specs.Shape.{Shape}
use Rattle.upon_engine.specs.Changes.{with_depth}
use Rattle.upon_engine.specs.Texts.{Texts, Stored}
use Rattle.upon_engine.specs.Theorem.{IsTable, meaning}
use Rattle.upon_shape_check.specs.declared.accepted.Accepted.{Accepted}
use Rattle.upon_shape_check.specs.declared.accepted.Accepted.TheVariants.{EndsWithin, EndsUnlessDeep}

-- if callables keep what is declared of them: what the template of a name means on a value that fits ends without a
-- fault, but that includes may be too deep one inside another
abbrev pub EndsOn : Texts → Declared → List ℕ → Shape → Type 0
EndsOn e declared name s =
    (table : Table) (held : Stored) (tree : Statements) (v : Val) (f : Fault)
    → IsTable e.texts table → e.texts name ≡ Some held → ∥ HasTree held.syntax held.text tree ∥₁
    → KeepsDeclared declared e.callables (formatter_or_default e.default_formatter) → Fits s v
    → fault_of_end e.depth (meaning e table (Some name) held.text tree v).end ≡ Some f → f ≡ depth_reached e.depth

-- if callables keep what is declared of them: what the template of a name means on a value that fits ends without a
-- fault
abbrev pub AlwaysEndsOn : Texts → Declared → List ℕ → Shape → Type 0
AlwaysEndsOn e declared name s =
    (table : Table) (held : Stored) (tree : Statements) (v : Val)
    → IsTable e.texts table → e.texts name ≡ Some held → ∥ HasTree held.syntax held.text tree ∥₁
    → KeepsDeclared declared e.callables (formatter_or_default e.default_formatter) → Fits s v
    → fault_of_end e.depth (meaning e table (Some name) held.text tree v).end ≡ None

-- so it ends where includes may be this deep, or deeper, and all else is as in the engine
abbrev pub EndsAtDepth : ℕ → Texts → Declared → List ℕ → Shape → Type 0
EndsAtDepth depth e declared name s = (more : ℕ) → depth ≤ more → AlwaysEndsOn (with_depth more e) declared name s

-- it ends as is said of one that is accepted
abbrev pub EndsAs : Texts → Declared → List ℕ → Shape → Accepted → Type 0
EndsAs e declared name s (EndsWithin depth) = EndsAtDepth depth e declared name s
EndsAs e declared name s EndsUnlessDeep = Unit {0}

-- there is a text; or includes are too deep, or memory is out
abbrev pub IsTextUnlessDeep : ℕ → Result (String Global) Error → Type 0
IsTextUnlessDeep depth (Ok text) = Unit {0}
IsTextUnlessDeep depth (Err e) = (fault_of e ≡ depth_reached depth) ⊎ (fault_of e ≡ out_of_memory)

-- there is a text, or memory is out
abbrev pub IsTextOrNoMemory : Result (String Global) Error → Type 0
IsTextOrNoMemory (Ok text) = Unit {0}
IsTextOrNoMemory (Err e) = fault_of e ≡ out_of_memory
