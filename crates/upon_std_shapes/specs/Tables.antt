-- What is declared, and what is called, after standard functions are added under their names.
use Rattle.std.specs.Prelude.{ℕ, List, [], ◌∷◌, Option, Some, bytes_eq}
use Rattle.std.specs.Map.{update}
use Rattle.upon_types.specs.Answers.{Callable, function}
use Rattle.upon_shape_spec.specs.Declared.{DeclaredCallable, gives_by, given_by}
use Rattle.upon_std.specs.Table.{standard_answer, standard_name}
use Rattle.upon_std.specs.declared.table.StandardFunction.{StandardFunction}
use Rattle.upon_std_shapes.specs.Signatures.{standard_signatures}

-- what is declared of callables, by their names
abbrev pub Declarations : Type 0
Declarations = List ℕ → Option DeclaredCallable

-- a function declared under its name, by its signatures
abbrev pub with_declared : StandardFunction → Declarations → Declarations
with_declared f declared =
    update bytes_eq declared (standard_name f) (Some (gives_by (given_by (standard_signatures f))))

-- functions declared one after the other
abbrev pub with_all_declared : List StandardFunction → Declarations → Declarations
with_all_declared [] declared = declared
with_all_declared (f ∷ fs) declared = with_all_declared fs (with_declared f declared)

-- callables, with functions added one after the other under their names
abbrev pub with_all_added : List StandardFunction → (List ℕ → Option Callable) → List ℕ → Option Callable
with_all_added [] callables = callables
with_all_added (f ∷ fs) callables =
    with_all_added fs (update bytes_eq callables (standard_name f) (Some (function (standard_answer f))))
