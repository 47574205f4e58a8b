-- The faults with which a rendering ends, except that includes are nested too deep: kinds and reasons, and the span of
-- each.
use Rattle.std.specs.Prelude.{◌≡◌, ℕ, List, [], ◌∷◌, ◌++◌, Option, Some, None, slice_get, codes}
use Rattle.std.specs.Fmt.{decimal}
use Rattle.upon_types.specs.declared.types.Span.{Span}
use Rattle.upon_types.specs.Answers.{Misfit, wrong_argument, declines, refused, Function, Formatter, formatter}
use Rattle.upon_types.specs.Answers.{function as of_function}
use Rattle.upon_types.specs.Fault.{Kind, render, function, format, Fault}
use Rattle.upon_types.specs.Picture.{picture}
use Rattle.upon_types.specs.TreeSpans.{TreeLiesIn}
use Rattle.upon_types.specs.Val.{Val, kind_word}
use Rattle.upon_lookup.specs.Source.{says, refuses, ValueMember}
use Rattle.upon_meaning_spec.specs.Alone.{running}
use Rattle.upon_meaning_spec.specs.CallFaults.{number_text}
use Rattle.upon_meaning_spec.specs.Engine.{Template, Calls, Resolver}
use Rattle.upon_meaning_spec.specs.Evaluation.{Operand, values_of}
use Rattle.upon_meaning_spec.specs.Meaning.{RunningTemplate}
use Rattle.upon_meaning_spec.specs.Outcome.{End, good, fails, too_deep}

-- These are all. A text that is not written here is one that the value source, the template source, a function or a
-- formatter gave.
pub data IsStated {V T : Type 0} (calls : Calls V) (resolve : Resolver T) : Kind → Option (List ℕ) → Type 0 where
  -- of a path
  not_in_scope : IsStated calls resolve render (Some (codes "not found in this scope"))
  not_in_map : IsStated calls resolve render (Some (codes "not found in map"))
  out_of_bounds : (n : ℕ)
      → IsStated calls resolve render (Some (codes "index out of bounds, the length is " ++ decimal n))
  no_index_access : (v : Val)
      → IsStated calls resolve render (Some (kind_word v ++ codes " does not support integer-based access"))
  no_key_access : (v : Val)
      → IsStated calls resolve render (Some (kind_word v ++ codes " does not support key-based access"))
  index_into_string : IsStated calls resolve render (Some (codes "cannot index into string"))
  integer_index : IsStated calls resolve render (Some (codes "cannot index into map with integer"))
  index_into : (v : Val) → IsStated calls resolve render (Some (codes "cannot index into " ++ kind_word v))
  value_refused : (q : V) (path : List ValueMember) (text : List ℕ) → (calls.ask q path).answer ≡ refuses text
      → IsStated calls resolve render (Some text)
  -- of a loop
  not_iterable : (v : Val)
      → IsStated calls resolve render (Some (codes "expected iterable, but expression evaluated to " ++ kind_word v))
  list_item_into_two : IsStated calls resolve render (Some (codes "cannot unpack list item into two variables"))
  map_item_into_one : IsStated calls resolve render (Some (codes "cannot unpack map item into one variable"))
  -- of a filter or a call
  unknown_callable : IsStated calls resolve render (Some (codes "unknown formatter or function"))
  unknown_function : IsStated calls resolve render (Some (codes "unknown function"))
  formatter_found : IsStated calls resolve render (Some (codes "expected function, found formatter"))
  formatter_expects : (n : ℕ)
      → IsStated calls resolve render
      (Some (codes "formatter expects 1 argument, " ++ (decimal n ++ codes " provided")))
  function_expects : (n m : ℕ)
      → IsStated calls resolve render
      (Some (codes "function expects " ++ (decimal n ++ (codes " arguments, " ++ (decimal m ++ codes " provided")))))
  wrong_type : (name word : List ℕ) (v : Val)
      → IsStated calls resolve render
      (Some (codes "function `" ++ (name ++ (codes "` expects " ++
      (word ++ (codes " argument, found " ++ kind_word v))))))
  out_of_range : (name word : List ℕ) (v : Val)
      → IsStated calls resolve render
      (Some (codes "function `" ++ (name ++ (codes "` expects " ++
      (word ++ (codes " argument, but `" ++ (number_text v ++ codes "` is out of range")))))))
  -- a function refuses, or names an argument that it was not given
  declined : (name : List ℕ) (f : Function) (values : List Val) (text : List ℕ)
      → calls.callables name ≡ Some (of_function f) → f values ≡ declines text
      → IsStated calls resolve function (Some text)
  no_argument : (name : List ℕ) (f : Function) (given : List Operand) (i : ℕ) (misfit : Misfit)
      → calls.callables name ≡ Some (of_function f) → f (values_of given) ≡ wrong_argument i misfit
      → slice_get given i ≡ None → IsStated calls resolve function (Some [])
  -- a formatter refuses, of a name or the default one, which refuses a list with `expression evaluated to
  -- unformattable type list`, and a map alike
  formatter_refused : (name : List ℕ) (f : Formatter) (v : Val) (message : Option (List ℕ))
      → calls.callables name ≡ Some (formatter f) → (f v).end ≡ refused message → IsStated calls resolve format message
  default_refused : (v : Val) (message : Option (List ℕ)) → (calls.default_formatter v).end ≡ refused message
      → IsStated calls resolve format message
  -- of an include: a table of templates refuses with `unknown template`
  template_refused : (q : T) (name text : List ℕ) → (resolve q name).answer ≡ refuses text
      → IsStated calls resolve render (Some text)

-- the templates that run: the one that is rendered, and those that answer the names of includes
pub data Runs {T : Type 0} (resolve : Resolver T) (t : Template) (name : Option (List ℕ)) : RunningTemplate
    → Type 0 where
  itself : Runs resolve t name (running t name)
  included : (q : T) (word : List ℕ) (u : Template) → (resolve q word).answer ≡ says u
      → Runs resolve t name (running u (Some word))

-- one of those faults, of a template that runs: under its name, at a span of its text, which the picture shows
pub record IsFaultOf {V T : Type 0} (calls : Calls V) (resolve : Resolver T) (Lies : List ℕ → Span → Type 0)
    (from : RunningTemplate) (f : Fault) : Type 0 where
  pub stated : IsStated calls resolve f.kind f.reason
  pub name : f.name ≡ from.name
  pub span : Span
  pub placed : f.span ≡ Some span
  pub lies : Lies from.source span
  pub picture : f.picture ≡ Some (picture from.source span)

-- of an end with a fault: it is one of those, of one of those templates
abbrev pub EndStated : {V T : Type 0} → Calls V → Resolver T → Template → Option (List ℕ) → (List ℕ → Span → Type 0)
    → End → Type 0
EndStated calls resolve t name Lies good = Unit {0}
EndStated calls resolve t name Lies (fails f) =
    (from : RunningTemplate) × Runs resolve t name from × IsFaultOf calls resolve Lies from f
EndStated calls resolve t name Lies too_deep = Unit {0}

-- wherever it is
abbrev pub Anywhere : List ℕ → Span → Type 0
Anywhere source span = Unit {0}

-- the spans in the trees of all templates that answer lie in their texts
abbrev pub TemplatesLie : {T : Type 0} → Resolver T → Type 0
TemplatesLie {T} resolve =
    (q : T) (name : List ℕ) (t : Template) → (resolve q name).answer ≡ says t → TreeLiesIn t.source t.tree

-- it holds of the span of each value
abbrev pub EachSpan : (Span → Type 0) → List Operand → Type 0
EachSpan P [] = Unit {0}
EachSpan P (o ∷ os) = P o.span × EachSpan P os
