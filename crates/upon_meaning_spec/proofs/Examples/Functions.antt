-- Functions, and what they give.
use Rattle.std.proofs.Common.{◌≡◌, pos, w64, ℤ, List, [], ◌∷◌, false, refl, codes}
use Rattle.std.specs.Int.{int_wrapping_add}
use Rattle.upon_types.specs.Expression.{base, filtered, list, paren, call, no_arguments, arguments}
use Rattle.upon_types.specs.Fault.{render, function as of_function, format}
use Rattle.upon_types.specs.Tree.{inline_expr, if_else, no_else}
use Rattle.upon_types.specs.Val.{Val, none_val, int_val, text_val}
use Rattle.upon_types.specs.Answers.{Answer, gives as answers, wrong_number, wrong_argument, wrong_type, out_of_range, declines, function}
use Rattle.upon_meaning_spec.proofs.Computing.{computing}
use Rattle.upon_meaning_spec.proofs.Examples.ShortContexts.{at, word, name, number, quote, bases, statements, shows, list_of, map_of, template, engine, rendered, gives, breaks, fault_at}

-- functions of integers of 64 bits: `double` of one, and `add` of two, which wrap; and `low` of a byte
wrapped : ℤ → ℤ → Answer
wrapped y z = answers (int_val (int_wrapping_add w64 y z))

double : List Val → Answer
double (int_val z ∷ []) = wrapped z z
double (v ∷ []) = wrong_argument 0 (wrong_type (codes "i64"))
double vs = wrong_number 1

add : List Val → Answer
add (int_val y ∷ int_val z ∷ []) = wrapped y z
add (int_val y ∷ v ∷ []) = wrong_argument 1 (wrong_type (codes "i64"))
add (v ∷ w ∷ []) = wrong_argument 0 (wrong_type (codes "i64"))
add vs = wrong_number 2

low : List Val → Answer
low vs = wrong_argument 0 (out_of_range (codes "u8"))

-- `{{ 21 | double }}`
integer_argument : rendered (engine [] ((codes "double", function double) ∷ [])) (template (codes "{{ 21 | double }}") (inline_expr (filtered (base (number 3 5 (pos 21))) (word 8 (codes "double")) no_arguments (at 3 14)) (at 0 17) ∷ [])) none_val ≡ gives (codes "42")
unfolding computing wrapped double
integer_argument = refl

-- `{{ add(1, 2) | double }}`
one_of_another : rendered (engine [] ((codes "add", function add) ∷ (codes "double", function double) ∷ [])) (template (codes "{{ add(1, 2) | double }}") (inline_expr (filtered (base (call (word 3 (codes "add")) (arguments (bases (number 7 8 (pos 1) ∷ number 10 11 (pos 2) ∷ [])) (at 3 11)) (at 3 12))) (word 15 (codes "double")) no_arguments (at 3 21)) (at 0 24) ∷ [])) none_val ≡ gives (codes "6")
unfolding computing wrapped double add
one_of_another = refl

-- `{{ 9223372036854775807 | double }}`
sum_wraps : rendered (engine [] ((codes "double", function double) ∷ [])) (template (codes "{{ 9223372036854775807 | double }}") (inline_expr (filtered (base (number 3 22 (pos 9223372036854775807))) (word 25 (codes "double")) no_arguments (at 3 31)) (at 0 34) ∷ [])) none_val ≡ gives (codes "-2")
unfolding computing wrapped double
sum_wraps = refl

-- `{{ "x" | double }}`
text_argument : rendered (engine [] ((codes "double", function double) ∷ [])) (template (codes "{{ \"x\" | double }}") (inline_expr (filtered (base (quote 3 (codes "x"))) (word 9 (codes "double")) no_arguments (at 3 15)) (at 0 18) ∷ [])) none_val ≡ breaks [] (fault_at render (codes "function `double` expects i64 argument, found string") 3 6)
unfolding computing wrapped double
text_argument = refl

-- `{{ ("x") | double }}`: the argument's span is without the parentheses
receiver_in_parentheses : rendered (engine [] ((codes "double", function double) ∷ [])) (template (codes "{{ (\"x\") | double }}") (inline_expr (filtered (base (paren (base (quote 4 (codes "x"))) (at 3 8))) (word 11 (codes "double")) no_arguments (at 3 17)) (at 0 20) ∷ [])) none_val ≡ breaks [] (fault_at render (codes "function `double` expects i64 argument, found string") 4 7)
unfolding computing wrapped double
receiver_in_parentheses = refl

-- `{{ 1 | add: "x" }}`
second_argument : rendered (engine [] ((codes "add", function add) ∷ (codes "double", function double) ∷ [])) (template (codes "{{ 1 | add: \"x\" }}") (inline_expr (filtered (base (number 3 4 (pos 1))) (word 7 (codes "add")) (arguments (bases (quote 12 (codes "x") ∷ [])) (at 10 15)) (at 3 15)) (at 0 18) ∷ [])) none_val ≡ breaks [] (fault_at render (codes "function `add` expects i64 argument, found string") 12 15)
unfolding computing wrapped double add
second_argument = refl

-- `{{ double() }}`, and `{% if double() %}{% endif %}`: at the name where it is emitted, else at the whole call
no_argument : rendered (engine [] ((codes "double", function double) ∷ [])) (template (codes "{{ double() }}") (shows 0 14 (call (word 3 (codes "double")) no_arguments (at 3 11)) ∷ [])) none_val ≡ breaks [] (fault_at render (codes "function expects 1 arguments, 0 provided") 3 9)
unfolding computing wrapped double
no_argument = refl

no_argument_inside : rendered (engine [] ((codes "double", function double) ∷ [])) (template (codes "{% if double() %}{% endif %}") (if_else false (base (call (word 6 (codes "double")) no_arguments (at 6 14))) (statements []) no_else ∷ [])) none_val ≡ breaks [] (fault_at render (codes "function expects 1 arguments, 0 provided") 6 14)
unfolding computing wrapped double
no_argument_inside = refl

-- `{{ 300 | low }}`
number_out_of_range : rendered (engine [] ((codes "low", function low) ∷ [])) (template (codes "{{ 300 | low }}") (inline_expr (filtered (base (number 3 6 (pos 300))) (word 9 (codes "low")) no_arguments (at 3 12)) (at 0 15) ∷ [])) none_val ≡ breaks [] (fault_at render (codes "function `low` expects u8 argument, but `300` is out of range") 3 6)
unfolding computing low
number_out_of_range = refl

-- `no` of a text, which refuses; and `pair` of any value, which answers a list
no : List Val → Answer
no (text_val s ∷ []) = declines (codes "no")
no (v ∷ []) = wrong_argument 0 (wrong_type (codes "&str"))
no vs = wrong_number 1

pair : List Val → Answer
pair (v ∷ []) = answers (list_of (v ∷ v ∷ []))
pair vs = wrong_number 1

-- `{{ "a" | no }}`, and `{% if "a" | no %}{% endif %}`: at the name where it is emitted, else at the whole filter
declined : rendered (engine [] ((codes "no", function no) ∷ [])) (template (codes "{{ \"a\" | no }}") (inline_expr (filtered (base (quote 3 (codes "a"))) (word 9 (codes "no")) no_arguments (at 3 11)) (at 0 14) ∷ [])) none_val ≡ breaks [] (fault_at of_function (codes "no") 9 11)
unfolding computing no
declined = refl

declined_inside : rendered (engine [] ((codes "no", function no) ∷ [])) (template (codes "{% if \"a\" | no %}{% endif %}") (if_else false (filtered (base (quote 6 (codes "a"))) (word 12 (codes "no")) no_arguments (at 6 14)) (statements []) no_else ∷ [])) none_val ≡ breaks [] (fault_at of_function (codes "no") 6 14)
unfolding computing no
declined_inside = refl

-- `{{ 1 | pair }}`: what a function answers is shown, here with a fault at the whole filter
list_answered : rendered (engine [] ((codes "pair", function pair) ∷ [])) (template (codes "{{ 1 | pair }}") (inline_expr (filtered (base (number 3 4 (pos 1))) (word 7 (codes "pair")) no_arguments (at 3 11)) (at 0 14) ∷ [])) none_val ≡ breaks [] (fault_at format (codes "expression evaluated to unformattable type list") 3 11)
unfolding computing pair
list_answered = refl

-- `{{ f(1) }}` on {}
no_such_name : rendered (engine [] []) (template (codes "{{ f(1) }}") (shows 0 10 (call (word 3 (codes "f")) (arguments (bases (number 5 6 (pos 1) ∷ [])) (at 3 6)) (at 3 7)) ∷ [])) (map_of []) ≡ breaks [] (fault_at render (codes "unknown formatter or function") 3 4)
unfolding computing
no_such_name = refl

-- `{{ [zz(1)] }}`
no_such_function : rendered (engine [] []) (template (codes "{{ [zz(1)] }}") (shows 0 13 (list (bases (call (word 4 (codes "zz")) (arguments (bases (number 7 8 (pos 1) ∷ [])) (at 4 8)) (at 4 9) ∷ [])) (at 3 10)) ∷ [])) none_val ≡ breaks [] (fault_at render (codes "unknown function") 4 6)
unfolding computing
no_such_function = refl

-- `{{ zz(b) }}` on {}: an argument's fault comes before that of the name
argument_first : rendered (engine [] []) (template (codes "{{ zz(b) }}") (shows 0 11 (call (word 3 (codes "zz")) (arguments (bases (name 6 (codes "b") ∷ [])) (at 3 7)) (at 3 8)) ∷ [])) (map_of []) ≡ breaks [] (fault_at render (codes "not found in this scope") 6 7)
unfolding computing
argument_first = refl
