-- Paths and loops that find nothing, and what is reported.
use Rattle.std.proofs.Common.{◌≡◌, pos, [], ◌∷◌, refl, codes}
use Rattle.upon_types.specs.Expression.{base, var, list, mapping, paren}
use Rattle.upon_types.specs.Fault.{render}
use Rattle.upon_types.specs.Path.{item, key_value}
use Rattle.upon_types.specs.Tree.{for_loop, no_else}
use Rattle.upon_types.specs.Val.{int_val, text_val}
use Rattle.upon_meaning_spec.proofs.Computing.{computing}
use Rattle.upon_meaning_spec.proofs.Examples.ShortContexts.{at, word, first, name, dot, maybe, dot_index, maybe_index, number, bases, items, statements, shows, list_of, map_of, template, engine, rendered, gives, breaks, fault_at}

-- `{{ a.5 }}` on {a: [1]}
length_told : rendered (engine [] []) (template (codes "{{ a.5 }}") (shows 0 9 (var (first 3 (codes "a")) (dot_index 4 5 ∷ [])) ∷ [])) (map_of ((codes "a", list_of (int_val (pos 1) ∷ [])) ∷ [])) ≡ breaks [] (fault_at render (codes "index out of bounds, the length is 1") 4 6)
unfolding computing
length_told = refl

-- `{{ n.a }}` on {n: 1}: only a map has keys, and only a list has indexes
key_of_integer : rendered (engine [] []) (template (codes "{{ n.a }}") (shows 0 9 (var (first 3 (codes "n")) (dot 4 (codes "a") ∷ [])) ∷ [])) (map_of ((codes "n", int_val (pos 1)) ∷ [])) ≡ breaks [] (fault_at render (codes "integer does not support key-based access") 4 6)
unfolding computing
key_of_integer = refl

-- `{{ s.0 }}` on {s: "a"}
index_of_string : rendered (engine [] []) (template (codes "{{ s.0 }}") (shows 0 9 (var (first 3 (codes "s")) (dot_index 4 0 ∷ [])) ∷ [])) (map_of ((codes "s", text_val (codes "a")) ∷ [])) ≡ breaks [] (fault_at render (codes "string does not support integer-based access") 4 6)
unfolding computing
index_of_string = refl

-- `{{ .a }}` on {}: the span has the operator
operator_ahead : rendered (engine [] []) (template (codes "{{ .a }}") (shows 0 8 (var (dot 3 (codes "a")) []) ∷ [])) (map_of []) ≡ breaks [] (fault_at render (codes "not found in this scope") 3 5)
unfolding computing
operator_ahead = refl

-- `{{ ?.a }}` on []: whatever is wrong with the first member, nothing binds it
root_without_keys : rendered (engine [] []) (template (codes "{{ ?.a }}") (shows 0 9 (var (maybe 3 (codes "a")) []) ∷ [])) (list_of []) ≡ breaks [] (fault_at render (codes "not found in this scope") 3 6)
unfolding computing
root_without_keys = refl

-- all that follow, on {xs: [7], m: {k: 7}}

-- `{{ xs.2 }}`, `{{ xs?.2 }}`: past the end
past_the_end : rendered (engine [] []) (template (codes "{{ xs.2 }}") (shows 0 10 (var (first 3 (codes "xs")) (dot_index 5 2 ∷ [])) ∷ [])) (map_of ((codes "xs", list_of (int_val (pos 7) ∷ [])) ∷ (codes "m", map_of ((codes "k", int_val (pos 7)) ∷ [])) ∷ [])) ≡ breaks [] (fault_at render (codes "index out of bounds, the length is 1") 5 7)
unfolding computing
past_the_end = refl

past_the_end_optional : rendered (engine [] []) (template (codes "{{ xs?.2 }}") (shows 0 11 (var (first 3 (codes "xs")) (maybe_index 5 2 ∷ [])) ∷ [])) (map_of ((codes "xs", list_of (int_val (pos 7) ∷ [])) ∷ (codes "m", map_of ((codes "k", int_val (pos 7)) ∷ [])) ∷ [])) ≡ gives []
unfolding computing
past_the_end_optional = refl

-- `{{ xs?.a }}`: a list has no keys, by either operator
key_of_list : rendered (engine [] []) (template (codes "{{ xs?.a }}") (shows 0 11 (var (first 3 (codes "xs")) (maybe 5 (codes "a") ∷ [])) ∷ [])) (map_of ((codes "xs", list_of (int_val (pos 7) ∷ [])) ∷ (codes "m", map_of ((codes "k", int_val (pos 7)) ∷ [])) ∷ [])) ≡ breaks [] (fault_at render (codes "list does not support key-based access") 5 8)
unfolding computing
key_of_list = refl

-- `{{ m.0 }}`: a map has no indexes
index_of_map : rendered (engine [] []) (template (codes "{{ m.0 }}") (shows 0 9 (var (first 3 (codes "m")) (dot_index 4 0 ∷ [])) ∷ [])) (map_of ((codes "xs", list_of (int_val (pos 7) ∷ [])) ∷ (codes "m", map_of ((codes "k", int_val (pos 7)) ∷ [])) ∷ [])) ≡ breaks [] (fault_at render (codes "map does not support integer-based access") 4 6)
unfolding computing
index_of_map = refl

-- `{{ m.x }}`
no_key : rendered (engine [] []) (template (codes "{{ m.x }}") (shows 0 9 (var (first 3 (codes "m")) (dot 4 (codes "x") ∷ [])) ∷ [])) (map_of ((codes "xs", list_of (int_val (pos 7) ∷ [])) ∷ (codes "m", map_of ((codes "k", int_val (pos 7)) ∷ [])) ∷ [])) ≡ breaks [] (fault_at render (codes "not found in map") 4 6)
unfolding computing
no_key = refl

-- `{% for x in (1) %}{% endfor %}`: the span has the parentheses
no_items : rendered (engine [] []) (template (codes "{% for x in (1) %}{% endfor %}") (for_loop (item (word 7 (codes "x"))) (base (paren (base (number 13 14 (pos 1))) (at 12 15))) (statements []) no_else ∷ [])) (map_of ((codes "xs", list_of (int_val (pos 7) ∷ [])) ∷ (codes "m", map_of ((codes "k", int_val (pos 7)) ∷ [])) ∷ [])) ≡ breaks [] (fault_at render (codes "expected iterable, but expression evaluated to integer") 12 15)
unfolding computing
no_items = refl

-- `{% for a, b in [] %}{% endfor %}`: also over no items
two_names : rendered (engine [] []) (template (codes "{% for a, b in [] %}{% endfor %}") (for_loop (key_value (word 7 (codes "a")) (word 10 (codes "b")) (at 7 11)) (base (list (bases []) (at 15 17))) (statements []) no_else ∷ [])) (map_of ((codes "xs", list_of (int_val (pos 7) ∷ [])) ∷ (codes "m", map_of ((codes "k", int_val (pos 7)) ∷ [])) ∷ [])) ≡ breaks [] (fault_at render (codes "cannot unpack list item into two variables") 7 11)
unfolding computing
two_names = refl

-- `{% for a in {} %}{% endfor %}`
one_name : rendered (engine [] []) (template (codes "{% for a in {} %}{% endfor %}") (for_loop (item (word 7 (codes "a"))) (base (mapping (items []) (at 12 14))) (statements []) no_else ∷ [])) (map_of ((codes "xs", list_of (int_val (pos 7) ∷ [])) ∷ (codes "m", map_of ((codes "k", int_val (pos 7)) ∷ [])) ∷ [])) ≡ breaks [] (fault_at render (codes "cannot unpack map item into one variable") 7 8)
unfolding computing
one_name = refl

-- `{% for k, v in m %}{{ k.x }}{% endfor %}`: a key has no members
member_of_key : rendered (engine [] []) (template (codes "{% for k, v in m %}{{ k.x }}{% endfor %}") (for_loop (key_value (word 7 (codes "k")) (word 10 (codes "v")) (at 7 11)) (base (name 15 (codes "m"))) (statements (shows 19 28 (var (first 22 (codes "k")) (dot 23 (codes "x") ∷ [])) ∷ [])) no_else ∷ [])) (map_of ((codes "xs", list_of (int_val (pos 7) ∷ [])) ∷ (codes "m", map_of ((codes "k", int_val (pos 7)) ∷ [])) ∷ [])) ≡ breaks [] (fault_at render (codes "cannot index into string") 23 25)
unfolding computing
member_of_key = refl

-- `{% for x in xs %}{{ loop?.0 }}{% endfor %}`: a loop's state has no indexes, by either operator
index_of_state : rendered (engine [] []) (template (codes "{% for x in xs %}{{ loop?.0 }}{% endfor %}") (for_loop (item (word 7 (codes "x"))) (base (name 12 (codes "xs"))) (statements (shows 17 30 (var (first 20 (codes "loop")) (maybe_index 24 0 ∷ [])) ∷ [])) no_else ∷ [])) (map_of ((codes "xs", list_of (int_val (pos 7) ∷ [])) ∷ (codes "m", map_of ((codes "k", int_val (pos 7)) ∷ [])) ∷ [])) ≡ breaks [] (fault_at render (codes "cannot index into map with integer") 24 27)
unfolding computing
index_of_state = refl

-- `{% for x in xs %}{{ loop?.a?.b }}{% endfor %}`: nothing may be after a miss
behind_a_miss : rendered (engine [] []) (template (codes "{% for x in xs %}{{ loop?.a?.b }}{% endfor %}") (for_loop (item (word 7 (codes "x"))) (base (name 12 (codes "xs"))) (statements (shows 17 33 (var (first 20 (codes "loop")) (maybe 24 (codes "a") ∷ maybe 27 (codes "b") ∷ [])) ∷ [])) no_else ∷ [])) (map_of ((codes "xs", list_of (int_val (pos 7) ∷ [])) ∷ (codes "m", map_of ((codes "k", int_val (pos 7)) ∷ [])) ∷ [])) ≡ breaks [] (fault_at render (codes "cannot index into none") 27 30)
unfolding computing
behind_a_miss = refl

-- `{% for x in xs %}{{ loop.index.b }}{% endfor %}`
behind_the_index : rendered (engine [] []) (template (codes "{% for x in xs %}{{ loop.index.b }}{% endfor %}") (for_loop (item (word 7 (codes "x"))) (base (name 12 (codes "xs"))) (statements (shows 17 35 (var (first 20 (codes "loop")) (dot 24 (codes "index") ∷ dot 30 (codes "b") ∷ [])) ∷ [])) no_else ∷ [])) (map_of ((codes "xs", list_of (int_val (pos 7) ∷ [])) ∷ (codes "m", map_of ((codes "k", int_val (pos 7)) ∷ [])) ∷ [])) ≡ breaks [] (fault_at render (codes "cannot index into integer") 30 32)
unfolding computing
behind_the_index = refl

-- `{% for loop in xs %}{{ loop.index }}{% endfor %}`: a variable named `loop` is never seen
variable_named_loop : rendered (engine [] []) (template (codes "{% for loop in xs %}{{ loop.index }}{% endfor %}") (for_loop (item (word 7 (codes "loop"))) (base (name 15 (codes "xs"))) (statements (shows 20 36 (var (first 23 (codes "loop")) (dot 27 (codes "index") ∷ [])) ∷ [])) no_else ∷ [])) (map_of ((codes "xs", list_of (int_val (pos 7) ∷ [])) ∷ (codes "m", map_of ((codes "k", int_val (pos 7)) ∷ [])) ∷ [])) ≡ gives (codes "0")
unfolding computing
variable_named_loop = refl

-- `{% for a, a in m %}{{ a }}{% endfor %}`: of equal names the key is seen
equal_names : rendered (engine [] []) (template (codes "{% for a, a in m %}{{ a }}{% endfor %}") (for_loop (key_value (word 7 (codes "a")) (word 10 (codes "a")) (at 7 11)) (base (name 15 (codes "m"))) (statements (shows 19 26 (name 22 (codes "a")) ∷ [])) no_else ∷ [])) (map_of ((codes "xs", list_of (int_val (pos 7) ∷ [])) ∷ (codes "m", map_of ((codes "k", int_val (pos 7)) ∷ [])) ∷ [])) ≡ gives (codes "k")
unfolding computing
equal_names = refl
