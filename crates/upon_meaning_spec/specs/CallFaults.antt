-- What is reported where a callable or an include fails. Each fault is without a name.
use Rattle.std.specs.Prelude.{ℕ, List, [], ◌++◌, Option, Some, None, codes}
use Rattle.std.specs.Fmt.{decimal, signed_decimal}
use Rattle.upon_types.specs.declared.types.Span.{Span}
use Rattle.upon_types.specs.Fault.{Fault, render, function, format, bare_fault}
use Rattle.upon_types.specs.Val.{Val, int_val, kind_word}
use Rattle.upon_lookup.specs.LookupFaults.{wrong}
use Rattle.upon_types.specs.Answers.{Misfit, wrong_type, out_of_range}

-- nothing has the name, if the value is emitted
abbrev pub unknown_callable : Span → Fault
unknown_callable at = wrong (codes "unknown formatter or function") at

-- nothing has the name, if the value is not emitted
abbrev pub unknown_function : Span → Fault
unknown_function at = wrong (codes "unknown function") at

-- a formatter has the name, where a function has to
abbrev pub formatter_found : Span → Fault
formatter_found at = wrong (codes "expected function, found formatter") at

-- a formatter is given another number of values than one
abbrev pub formatter_expects : ℕ → Span → Fault
formatter_expects n at = wrong (codes "formatter expects 1 argument, " ++ (decimal n ++ codes " provided")) at

-- a function is given another number of arguments
abbrev pub function_expects : ℕ → ℕ → Span → Fault
function_expects n m at =
    wrong (codes "function expects " ++ (decimal n ++ (codes " arguments, " ++ (decimal m ++ codes " provided")))) at

-- the digits of an argument that is out of range: only an integer is
abbrev pub number_text : Val → List ℕ
number_text (int_val z) = signed_decimal z
number_text v = []

-- what is wrong with an argument
abbrev pub misfit_text : Misfit → Val → List ℕ
misfit_text (wrong_type word) v = word ++ (codes " argument, found " ++ kind_word v)
misfit_text (out_of_range word) v = word ++ (codes " argument, but `" ++ (number_text v ++ codes "` is out of range"))

-- an argument does not fit
abbrev pub argument_misfits : List ℕ → Misfit → Val → Span → Fault
argument_misfits name misfit v at =
    wrong (codes "function `" ++ (name ++ (codes "` expects " ++ misfit_text misfit v))) at

-- a function refuses
abbrev pub function_declined : List ℕ → Span → Fault
function_declined text at = bare_fault function (Some text) (Some at)

-- a formatter refuses
abbrev pub not_formatted : Option (List ℕ) → Span → Fault
not_formatted message at = bare_fault format message (Some at)

-- of includes that are too deep inside each other: the depth as it was set, and no span
abbrev pub depth_reached : ℕ → Fault
depth_reached limit =
    bare_fault render (Some (codes "reached maximum include depth (" ++ (decimal limit ++ codes ")"))) None
