-- Formatters, and what they give.
use Rattle.std.proofs.Common.{◌≡◌, pos, [], ◌∷◌, ◌++◌, Some, None, false, refl, codes}
use Rattle.upon_types.specs.Expression.{base, filtered, var, list, paren, call, no_arguments, arguments}
use Rattle.upon_types.specs.Fault.{render, format, bare_fault}
use Rattle.upon_types.specs.Tree.{inline_expr, if_else, no_else}
use Rattle.upon_types.specs.Val.{none_val}
use Rattle.upon_types.specs.Answers.{Formatter, refused, Callable, formatter}
use Rattle.upon_meaning_spec.specs.DefaultFormat.{default_format, format_text}
use Rattle.upon_meaning_spec.specs.Engine.{Engine}
use Rattle.upon_meaning_spec.proofs.Computing.{computing}
use Rattle.upon_meaning_spec.proofs.Examples.ShortContexts.{at, word, maybe, number, bases, statements, shows, text, map_of, template, engine, rendered, gives, breaks, fault_at}

-- a formatter that writes a value in brackets, two that write a text and then refuse, and one that refuses without a message
bracketed : Callable
bracketed = formatter (λ v. format_text (codes "<" ++ (default_format v).text ++ codes ">"))

picky : Callable
picky = formatter (λ v. record { text = codes "("; end = refused (Some (codes "no")) })

half : Callable
half = formatter (λ v. record { text = codes "ab"; end = refused (Some (codes "bad")) })

mute : Callable
mute = formatter (λ v. record { text = []; end = refused None })

-- `{{ (1 | fmt) }}`
in_parentheses : rendered (engine [] ((codes "fmt", bracketed) ∷ [])) (template (codes "{{ (1 | fmt) }}") (shows 0 15 (paren (filtered (base (number 4 5 (pos 1))) (word 8 (codes "fmt")) no_arguments (at 4 11)) (at 3 12)) ∷ [])) none_val ≡ gives (codes "<1>")
unfolding computing bracketed
in_parentheses = refl

-- `{{ 1 | fmt: 2 }}`
two_values : rendered (engine [] ((codes "fmt", bracketed) ∷ [])) (template (codes "{{ 1 | fmt: 2 }}") (inline_expr (filtered (base (number 3 4 (pos 1))) (word 7 (codes "fmt")) (arguments (bases (number 12 13 (pos 2) ∷ [])) (at 10 13)) (at 3 13)) (at 0 16) ∷ [])) none_val ≡ breaks [] (fault_at render (codes "formatter expects 1 argument, 2 provided") 7 10)
unfolding computing bracketed
two_values = refl

-- `{{ fmt() }}`
no_value : rendered (engine [] ((codes "fmt", bracketed) ∷ [])) (template (codes "{{ fmt() }}") (shows 0 11 (call (word 3 (codes "fmt")) no_arguments (at 3 8)) ∷ [])) none_val ≡ breaks [] (fault_at render (codes "formatter expects 1 argument, 0 provided") 3 6)
unfolding computing bracketed
no_value = refl

-- `{{ [(1 | fmt)] }}`
in_a_list : rendered (engine [] ((codes "fmt", bracketed) ∷ [])) (template (codes "{{ [(1 | fmt)] }}") (shows 0 17 (list (bases (paren (filtered (base (number 5 6 (pos 1))) (word 9 (codes "fmt")) no_arguments (at 5 12)) (at 4 13) ∷ [])) (at 3 14)) ∷ [])) none_val ≡ breaks [] (fault_at render (codes "expected function, found formatter") 9 12)
unfolding computing bracketed
in_a_list = refl

-- `{% if 1 | fmt %}{% endif %}`
in_a_condition : rendered (engine [] ((codes "fmt", bracketed) ∷ [])) (template (codes "{% if 1 | fmt %}{% endif %}") (if_else false (filtered (base (number 6 7 (pos 1))) (word 10 (codes "fmt")) no_arguments (at 6 13)) (statements []) no_else ∷ [])) none_val ≡ breaks [] (fault_at render (codes "expected function, found formatter") 10 13)
unfolding computing bracketed
in_a_condition = refl

-- `{{ 1 | picky }}`: a formatter's text is before its fault
text_before_fault : rendered (engine [] ((codes "picky", picky) ∷ [])) (template (codes "{{ 1 | picky }}") (inline_expr (filtered (base (number 3 4 (pos 1))) (word 7 (codes "picky")) no_arguments (at 3 12)) (at 0 15) ∷ [])) none_val ≡ breaks (codes "(") (fault_at format (codes "no") 7 12)
unfolding computing picky
text_before_fault = refl

-- `x{{ 1 | half }}y`: what is after it is not written
text_on_both_sides : rendered (engine [] ((codes "half", half) ∷ [])) (template (codes "x{{ 1 | half }}y") (text 0 1 ∷ inline_expr (filtered (base (number 4 5 (pos 1))) (word 8 (codes "half")) no_arguments (at 4 12)) (at 1 15) ∷ text 15 16 ∷ [])) none_val ≡ breaks (codes "xab") (fault_at format (codes "bad") 8 12)
unfolding computing half
text_on_both_sides = refl

-- `{{ 1 | mute }}`
no_message : rendered (engine [] ((codes "mute", mute) ∷ [])) (template (codes "{{ 1 | mute }}") (inline_expr (filtered (base (number 3 4 (pos 1))) (word 7 (codes "mute")) no_arguments (at 3 11)) (at 0 14) ∷ [])) none_val ≡ breaks [] (bare_fault format None (Some (at 7 11)))
unfolding computing mute
no_message = refl

-- a default formatter that refuses none, and else writes as the usual one does
shy : Formatter
shy none_val = record { text = []; end = refused (Some (codes "unable to format None")) }
shy v = default_format v

shy_engine : Engine
shy_engine = record (engine [] []) { default_formatter = Some shy }

-- `{{ ?.a }}` on {}
none_refused : rendered shy_engine (template (codes "{{ ?.a }}") (shows 0 9 (var (maybe 3 (codes "a")) []) ∷ [])) (map_of []) ≡ breaks [] (fault_at format (codes "unable to format None") 3 6)
unfolding computing shy shy_engine
none_refused = refl

-- `{{ 1 }}`
others_not_refused : rendered shy_engine (template (codes "{{ 1 }}") (shows 0 7 (number 3 4 (pos 1)) ∷ [])) none_val ≡ gives (codes "1")
unfolding computing shy shy_engine
others_not_refused = refl

-- `{{ fmt(1) }}`: a formatter may be written as a call
called : rendered (engine [] ((codes "fmt", bracketed) ∷ [])) (template (codes "{{ fmt(1) }}") (shows 0 12 (call (word 3 (codes "fmt")) (arguments (bases (number 7 8 (pos 1) ∷ [])) (at 3 8)) (at 3 9)) ∷ [])) none_val ≡ gives (codes "<1>")
unfolding computing bracketed
called = refl
