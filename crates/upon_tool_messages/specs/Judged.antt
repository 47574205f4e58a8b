-- What is wrong with a call, by what templates may call.
use Rattle.std.specs.Prelude.{ℕ, ◌==◌, List, [], ◌∷◌, ◌++◌, Bool, ◌&&◌, Option, Some, None, bytes_eq, codes, is_none, map, option_map, find, replicate, if◌then◌else◌}
use Rattle.std.specs.List.{list_any, list_all}
use Rattle.upon_types.specs.Answers.{Answer, gives, wrong_number, wrong_argument, declines}
use Rattle.upon_types.specs.Path.{Ident}
use Rattle.upon_types.specs.Tree.{Statements}
use Rattle.upon_types.specs.Val.{none_val}
use Rattle.upon_types.specs.declared.error.cause.Cause.{Cause}
use Rattle.upon_types.specs.declared.error.cause.Cause.TheVariants.{FormatterExpects, FunctionExpects, UnknownFunction}
use Rattle.upon_machine_spec.specs.Code.{program_of}
use Rattle.upon_needs.specs.Names.{texts}
use Rattle.upon_needs.specs.Places.{calls_in}
use Rattle.upon_std.specs.Table.{standard_answer, standard_name}
use Rattle.upon_std.specs.declared.table.StandardFunction.{StandardFunction}
use Rattle.upon_tool_messages.specs.declared.judge.CallFault.{CallFault}
use Rattle.upon_tool_messages.specs.declared.judge.CallFault.TheVariants.{Unknown, Arguments, FormatterArguments}
use Rattle.upon_tool_messages.specs.declared.judge.Declared.{Declared}

-- the name of the formatter
abbrev pub verbatim_name : List ℕ
verbatim_name = codes "verbatim"

-- the names of all that templates may call
abbrev pub callable_names : Declared → List (List ℕ)
callable_names declared = texts declared.others.now ++ (if declared.has_verbatim then verbatim_name ∷ [] else [])
    ++ map standard_name declared.functions.now

-- how many arguments are expected, if an answer says that another number is given
abbrev pub number_wanted : Answer → Option ℕ
number_wanted (gives v) = None
number_wanted (wrong_number n) = Some n
number_wanted (wrong_argument i misfit) = None
number_wanted (declines text) = None

-- how many arguments a function expects, if not as many as are given: it is asked with no values
abbrev pub arguments_wanted : StandardFunction → ℕ → Option ℕ
arguments_wanted function given = number_wanted (standard_answer function (replicate given none_val))

-- what is wrong with a call of the formatter, which takes one argument
abbrev pub formatter_fault : ℕ → Option CallFault
formatter_fault given = if given == 1 then None else Some FormatterArguments

-- what is wrong with a call of a function, if there is one
abbrev pub function_fault : Option StandardFunction → ℕ → Option CallFault
function_fault None given = Some Unknown
function_fault (Some function) given = option_map Arguments (arguments_wanted function given)

-- the first function of a name
abbrev pub function_named : List StandardFunction → List ℕ → Option StandardFunction
function_named functions name = find (λ function. bytes_eq (standard_name function) name) functions

-- What is wrong with a call of a name, with so many arguments: nothing, if it is among the others; else what is wrong
-- with one of the formatter, or of the function.
abbrev pub call_fault : Declared → List ℕ → ℕ → Option CallFault
call_fault declared name given =
    if list_any (λ other. bytes_eq other.now name) declared.others.now then None
    else if declared.has_verbatim && bytes_eq name verbatim_name then formatter_fault given
    else function_fault (function_named declared.functions.now name) given

-- why a call fails that has so many arguments
abbrev pub fault_cause : CallFault → ℕ → Cause
fault_cause Unknown given = UnknownFunction
fault_cause (Arguments wanted) given = FunctionExpects wanted given
fault_cause FormatterArguments given = FormatterExpects given

-- whether nothing is wrong with a call
abbrev pub is_right_call : Declared → Ident × ℕ → Bool
is_right_call declared call = is_none (call_fault declared call.0.text call.1)

-- whether nothing is wrong with each call of a template
abbrev pub calls_are_right : Declared → Statements → Bool
calls_are_right declared tree = list_all (is_right_call declared) (calls_in (program_of tree))
