-- What an expression comes to if it is not emitted: a value and its span, or a fault.
use Rattle.std.specs.Prelude.{List, [], ◌∷◌, map, length, slice_get, Option, Some, None}
use Rattle.upon_types.specs.declared.types.Span.{Span}
use Rattle.upon_types.specs.Expression.{Expression, base, filtered, Base, var, literal, list, mapping, paren, call, Bases, no_bases, base_then, Items, no_items, item_then, Arguments, no_arguments, arguments}
use Rattle.upon_types.specs.Fault.{Fault}
use Rattle.upon_types.specs.Path.{Ident, path_span}
use Rattle.upon_types.specs.Val.{Val, list_val, map_val, Entries, no_entries}
use Rattle.upon_types.specs.View.{vals_of}
use Rattle.upon_lookup.specs.Environment.{Environment}
use Rattle.upon_lookup.specs.Finding.{Finding, found, at_fault, Reply, reply, with_found}
use Rattle.upon_lookup.specs.Lookup.{lookup}
use Rattle.upon_types.specs.Answers.{Misfit, Answer, gives, wrong_number, wrong_argument, declines, Callable, formatter, function}
use Rattle.upon_meaning_spec.specs.CallFaults.{unknown_function, formatter_found, function_expects, argument_misfits, function_declined}
use Rattle.upon_meaning_spec.specs.Engine.{Calls}
use Rattle.upon_meaning_spec.specs.Entries.{with_entry}

-- a value, and where the expression that gives it is, without the parentheses around it
pub record Operand : Type 0 where
  pub value : Val
  pub span : Span

-- a value and its span
abbrev pub operand : Val → Span → Operand
operand v at = record { value = v; span = at }

-- the values of operands
abbrev pub values_of : List Operand → List Val
values_of given = map (λ o. o.value) given

-- an argument that does not fit is reported at its span (each function names one that it was given)
abbrev pub misfit_at : Ident → Misfit → Option Operand → Span → Fault
misfit_at name misfit (Some o) whole = argument_misfits name.text misfit o.value o.span
misfit_at name misfit None whole = function_declined [] whole

-- the value that a function gives, or its fault: of an argument at the argument, else where `whole` says
abbrev pub answer_value : Ident → Span → List Operand → Answer → Finding Val
answer_value name whole given (gives v) = found v
answer_value name whole given (wrong_number n) = at_fault (function_expects n (length given) whole)
answer_value name whole given (wrong_argument i misfit) = at_fault (misfit_at name misfit (slice_get given i) whole)
answer_value name whole given (declines text) = at_fault (function_declined text whole)

-- all values are there: now the name is looked up, then the function answers
abbrev pub call_value : Ident → Span → List Operand → Option Callable → Finding Val
call_value name whole given None = at_fault (unknown_function name.span)
call_value name whole given (Some (formatter f)) = at_fault (formatter_found name.span)
call_value name whole given (Some (function f)) = answer_value name whole given (f (values_of given))

-- a value of a span
abbrev pub with_span : {V : Type 0} → Reply V (Finding Val) → Span → Reply V (Finding Operand)
with_span r at = with_found r (λ v q. reply (found (operand v at)) q)

-- one value ahead of others
abbrev pub prepend : {V : Type 0} → Operand → Reply V (Finding (List Operand)) → Reply V (Finding (List Operand))
prepend o r = with_found r (λ os q. reply (found (o ∷ os)) q)

-- one value, and then others
abbrev pub append_operand : {V : Type 0} → Reply V (Finding Operand) → (V → Reply V (Finding (List Operand)))
    → Reply V (Finding (List Operand))
append_operand first others = with_found first (λ o q. prepend o (others q))

-- the operand that a list of values is
abbrev pub as_list : {V : Type 0} → Reply V (Finding (List Operand)) → Span → Reply V (Finding Operand)
as_list r at = with_found r (λ os q. reply (found (operand (list_val (vals_of (values_of os))) at)) q)

-- the operand that a map of entries is
abbrev pub as_map : {V : Type 0} → Reply V (Finding Entries) → Span → Reply V (Finding Operand)
as_map r at = with_found r (λ es q. reply (found (operand (map_val es) at)) q)

-- a filter or a call: it is where `whole` says
abbrev pub application : {V : Type 0} → Calls V → Ident → Span → Reply V (Finding (List Operand))
    → Reply V (Finding Operand)
application calls name whole r = with_found r (λ os q. with_span
    (reply (call_value name whole os (calls.callables name.text)) q) whole)

module _ {V : Type 0} (calls : Calls V) where
  -- from the left, a filter's receiver before its arguments
  abbrev mutual
    -- of an expression
    pub evaluate : Expression → Environment → V → Reply V (Finding Operand)
    evaluate (base b) env q = evaluate_base b env q
    evaluate (filtered receiver name args span) env q =
        application calls name span (append_operand (evaluate receiver env q) (evaluate_arguments args env))

    -- of an expression without a filter
    pub evaluate_base : Base → Environment → V → Reply V (Finding Operand)
    evaluate_base (var first rest) env q = with_span (lookup calls.ask env first rest q) (path_span first rest)
    evaluate_base (literal v span) env q = reply (found (operand v span)) q
    evaluate_base (list bases span) env q = as_list (evaluate_bases bases env q) span
    evaluate_base (mapping items span) env q = as_map (evaluate_items items no_entries env q) span
    evaluate_base (paren e span) env q = evaluate e env q
    evaluate_base (call name args span) env q = application calls name span (evaluate_arguments args env q)

    -- of each of some, one after the other
    pub evaluate_bases : Bases → Environment → V → Reply V (Finding (List Operand))
    evaluate_bases no_bases env q = reply (found []) q
    evaluate_bases (base_then b bs) env q = append_operand (evaluate_base b env q) (evaluate_bases bs env)

    -- the entries so far, and then these
    pub evaluate_items : Items → Entries → Environment → V → Reply V (Finding Entries)
    evaluate_items no_items es env q = reply (found es) q
    evaluate_items (item_then key b items) es env q =
        with_found (evaluate_base b env q) (λ o q'. evaluate_items items (with_entry key.text o.value es) env q')

    pub evaluate_arguments : Arguments → Environment → V → Reply V (Finding (List Operand))
    evaluate_arguments no_arguments env q = reply (found []) q
    evaluate_arguments (arguments bases span) env q = evaluate_bases bases env q
