-- What callables call whose formatters escape.
use Rattle.std.proofs.Common.{◌≡◌, List, Option, Some, None, option_map, ap, refl}
use Rattle.upon_types.specs.Answers.{Callable, Formatter, formatter, function}
use Rattle.upon_types.specs.Val.{Val}
use Rattle.upon_vm_steps.specs.Calls.{WasCalled}
use Rattle.upon_vm_steps.specs.declared.callables.Called.{Called}
use Rattle.upon_vm_steps.specs.declared.callables.Called.TheVariants as called
use Rattle.upon_html.specs.Escaped.{escaping, escaping_callable}

-- what was called is what is called where formatters escape
pub calls_escaped : (r : Called) (vs : List Val) (c : Option Callable) → WasCalled r vs c → WasCalled r vs (option_map escaping_callable c)
calls_escaped called.Unknown vs c is = ap (option_map escaping_callable) is
calls_escaped called.Formatter vs c is = (escaping is.0, ap (option_map escaping_callable) is.1)
calls_escaped (called.Function answer) vs c is = (is.0, ap (option_map escaping_callable) is.1, is.2, is.3)

-- a formatter that escapes was made of one
pub was_formatter : (o : Option Callable) (g : Formatter) → option_map escaping_callable o ≡ Some (formatter g) → (f : Formatter) × (o ≡ Some (formatter f)) × (escaping f ≡ g)
was_formatter None g e = absurd cc
was_formatter (Some (formatter f)) g e = (f, refl, cc)
was_formatter (Some (function f)) g e = absurd cc
