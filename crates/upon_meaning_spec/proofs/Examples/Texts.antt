-- Templates that show a value, and what they give.
use Rattle.std.proofs.Common.{◌≡◌, pos, negsuc, [], ◌∷◌, true, refl, codes, encode_utf8_all}
use Rattle.std.proofs.Math.Utf8.{encode}
use Rattle.upon_types.specs.Expression.{base, var, literal, mapping}
use Rattle.upon_types.specs.Fault.{render, format, fault_with_name}
use Rattle.upon_types.specs.Tree.{with}
use Rattle.upon_types.specs.Val.{none_val, bool_val, int_val, text_val}
use Rattle.upon_meaning_spec.proofs.Computing.{computing}
use Rattle.upon_meaning_spec.proofs.Examples.ShortContexts.{at, word, quoted, first, name, dot, maybe, dot_index, number, quote, items, statements, shows, text, list_of, map_of, template, engine, rendered, rendered_as, gives, breaks, fault_at}

-- the empty text
empty : rendered (engine [] []) (template [] []) none_val ≡ gives []
unfolding computing
empty = refl

-- `Hello {{ user.name }}!`
hello : rendered (engine [] []) (template (codes "Hello {{ user.name }}!") (text 0 6 ∷ shows 6 21 (var (first 9 (codes "user")) (dot 13 (codes "name") ∷ [])) ∷ text 21 22 ∷ [])) (map_of ((codes "user", map_of ((codes "name", text_val (codes "John Smith")) ∷ [])) ∷ [])) ≡ gives (codes "Hello John Smith!")
unfolding computing
hello = refl

-- `Hello {{ name }}!` on {name: "John"}
hello_name : rendered (engine [] []) (template (codes "Hello {{ name }}!") (text 0 6 ∷ shows 6 16 (name 9 (codes "name")) ∷ text 16 17 ∷ [])) (map_of ((codes "name", text_val (codes "John")) ∷ [])) ≡ gives (codes "Hello John!")
unfolding computing
hello_name = refl

-- `{{ a }}{{a}}` on {a: 7}
shown_twice : rendered (engine [] []) (template (codes "{{ a }}{{a}}") (shows 0 7 (name 3 (codes "a")) ∷ shows 7 12 (name 9 (codes "a")) ∷ [])) (map_of ((codes "a", int_val (pos 7)) ∷ [])) ≡ gives (codes "77")
unfolding computing
shown_twice = refl

-- `{{ a }}}`
brace : rendered (engine [] []) (template (codes "{{ a }}}") (shows 0 7 (name 3 (codes "a")) ∷ text 7 8 ∷ [])) (map_of ((codes "a", int_val (pos 1)) ∷ [])) ≡ gives (codes "1}")
unfolding computing
brace = refl

-- `ab{{ 12 }}cd`
text_around : rendered (engine [] []) (template (codes "ab{{ 12 }}cd") (text 0 2 ∷ shows 2 10 (number 5 7 (pos 12)) ∷ text 10 12 ∷ [])) none_val ≡ gives (codes "ab12cd")
unfolding computing
text_around = refl

-- `{{ "\\" }}`: an escape
backslash : rendered (engine [] []) (template (codes "{{ \"\\\\\" }}") (shows 0 10 (literal (text_val (codes "\\")) (at 3 7)) ∷ [])) none_val ≡ gives (codes "\\")
unfolding computing
backslash = refl

-- `{{ "}}" }}`
end_in_quotes : rendered (engine [] []) (template (codes "{{ \"}}\" }}") (shows 0 10 (quote 3 (codes "}}")) ∷ [])) none_val ≡ gives (codes "}}")
unfolding computing
end_in_quotes = refl

-- `{{ -9223372036854775808 }}`
least : rendered (engine [] []) (template (codes "{{ -9223372036854775808 }}") (shows 0 26 (number 3 23 (negsuc 9223372036854775807)) ∷ [])) none_val ≡ gives (codes "-9223372036854775808")
unfolding computing
least = refl

-- `{{ - 5 }}{{ 0x }}`: a sign may be apart, and a prefix alone is 0
signs_and_prefixes : rendered (engine [] []) (template (codes "{{ - 5 }}{{ 0x }}") (shows 0 9 (number 3 6 (negsuc 4)) ∷ shows 9 17 (number 12 14 (pos 0)) ∷ [])) none_val ≡ gives (codes "-50")
unfolding computing
signs_and_prefixes = refl

-- `{% with {"a": 1, "a": 2} as m %}{{ m.a }}{% endwith %}`: of equal keys the last counts
last_key : rendered (engine [] []) (template (codes "{% with {\"a\": 1, \"a\": 2} as m %}{{ m.a }}{% endwith %}") (with (base (mapping (items ((quoted 9 (codes "a"), number 14 15 (pos 1)) ∷ (quoted 17 (codes "a"), number 22 23 (pos 2)) ∷ [])) (at 8 24))) (word 28 (codes "m")) (statements (shows 32 41 (var (first 35 (codes "m")) (dot 36 (codes "a") ∷ [])) ∷ [])) ∷ [])) none_val ≡ gives (codes "2")
unfolding computing
last_key = refl

-- `{{ a.1.b }}` on {a: [1, {b: true}], c: none}
members : rendered (engine [] []) (template (codes "{{ a.1.b }}") (shows 0 11 (var (first 3 (codes "a")) (dot_index 4 1 ∷ dot 6 (codes "b") ∷ [])) ∷ [])) (map_of ((codes "a", list_of (int_val (pos 1) ∷ map_of ((codes "b", bool_val true) ∷ []) ∷ [])) ∷ (codes "c", none_val) ∷ [])) ≡ gives (codes "true")
unfolding computing
members = refl

-- `{{ ?.a }}` on {}
optional : rendered (engine [] []) (template (codes "{{ ?.a }}") (shows 0 9 (var (maybe 3 (codes "a")) []) ∷ [])) (map_of []) ≡ gives []
unfolding computing
optional = refl

-- `{{ x }}` where nothing binds `x`
unbound : rendered (engine [] []) (template (codes "{{ x }}") (shows 0 7 (name 3 (codes "x")) ∷ [])) (map_of []) ≡ breaks [] (fault_at render (codes "not found in this scope") 3 4)
unfolding computing
unbound = refl

-- `x{{ b }}` on {}: the text before the fault is
text_before : rendered (engine [] []) (template (codes "x{{ b }}") (text 0 1 ∷ shows 1 8 (name 4 (codes "b")) ∷ [])) (map_of []) ≡ breaks (codes "x") (fault_at render (codes "not found in this scope") 4 5)
unfolding computing
text_before = refl

-- `Hello {{ name }}!` under the name `hello.txt`, where nothing binds `name`
unbound_in_a_file : rendered_as (codes "hello.txt") (engine [] []) (template (codes "Hello {{ name }}!") (text 0 6 ∷ shows 6 16 (name 9 (codes "name")) ∷ text 16 17 ∷ [])) (map_of []) ≡ breaks (codes "Hello ") (fault_with_name (codes "hello.txt") (fault_at render (codes "not found in this scope") 9 13))
unfolding computing
unbound_in_a_file = refl

-- `é`, a new line, `{{ x }}` on {}: spans are bytes
behind_two_bytes : rendered (engine [] []) (template (encode_utf8_all (codes "é\n{{ x }}")) (text 0 3 ∷ shows 3 10 (name 6 (codes "x")) ∷ [])) (map_of []) ≡ breaks (encode_utf8_all (codes "é\n")) (fault_at render (codes "not found in this scope") 6 7)
unfolding computing encode
behind_two_bytes = refl

-- `日{{ x }}` on {}
behind_three_bytes : rendered (engine [] []) (template (encode_utf8_all (codes "日{{ x }}")) (text 0 3 ∷ shows 3 10 (name 6 (codes "x")) ∷ [])) (map_of []) ≡ breaks (encode_utf8_all (codes "日")) (fault_at render (codes "not found in this scope") 6 7)
unfolding computing encode
behind_three_bytes = refl

-- `{{ {"a": {"b": 1} } }}`: a map has no text
map_shown : rendered (engine [] []) (template (codes "{{ {\"a\": {\"b\": 1} } }}") (shows 0 22 (mapping (items ((quoted 4 (codes "a"), mapping (items ((quoted 10 (codes "b"), number 15 16 (pos 1)) ∷ [])) (at 9 17)) ∷ [])) (at 3 19)) ∷ [])) none_val ≡ breaks [] (fault_at format (codes "expression evaluated to unformattable type map") 3 19)
unfolding computing
map_shown = refl

-- `{{ a }}` on {a: []}: nor has a list
list_shown : rendered (engine [] []) (template (codes "{{ a }}") (shows 0 7 (name 3 (codes "a")) ∷ [])) (map_of ((codes "a", list_of []) ∷ [])) ≡ breaks [] (fault_at format (codes "expression evaluated to unformattable type list") 3 4)
unfolding computing
list_shown = refl

-- `{{ {"a": b, "a": 1} }}` on {}: also the value of a key that comes again is evaluated
key_comes_again : rendered (engine [] []) (template (codes "{{ {\"a\": b, \"a\": 1} }}") (shows 0 22 (mapping (items ((quoted 4 (codes "a"), name 9 (codes "b")) ∷ (quoted 12 (codes "a"), number 17 18 (pos 1)) ∷ [])) (at 3 19)) ∷ [])) (map_of []) ≡ breaks [] (fault_at render (codes "not found in this scope") 9 10)
unfolding computing
key_comes_again = refl
