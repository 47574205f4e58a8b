-- Loops, and what they give.
use Rattle.std.proofs.Common.{◌≡◌, pos, [], ◌∷◌, true, refl, codes}
use Rattle.upon_types.specs.Expression.{base, var, list, mapping}
use Rattle.upon_types.specs.Fault.{render, format}
use Rattle.upon_types.specs.Path.{item, key_value}
use Rattle.upon_types.specs.Tree.{if_else, for_loop, with, no_else, otherwise}
use Rattle.upon_types.specs.Val.{none_val, int_val, text_val}
use Rattle.upon_meaning_spec.proofs.Computing.{computing}
use Rattle.upon_meaning_spec.proofs.Examples.ShortContexts.{at, word, quoted, first, name, dot, maybe, number, bases, items, statements, shows, text, list_of, map_of, template, engine, rendered, gives, breaks, fault_at}

-- `{% for i in [1, 2] %}{{ i }}{% if not loop.last %},{% endif %}{% endfor %}`
commas : rendered (engine [] []) (template (codes "{% for i in [1, 2] %}{{ i }}{% if not loop.last %},{% endif %}{% endfor %}") (for_loop (item (word 7 (codes "i"))) (base (list (bases (number 13 14 (pos 1) ∷ number 16 17 (pos 2) ∷ [])) (at 12 18))) (statements (shows 21 28 (name 24 (codes "i")) ∷ if_else true (base (var (first 38 (codes "loop")) (dot 42 (codes "last") ∷ []))) (statements (text 50 51 ∷ [])) no_else ∷ [])) no_else ∷ [])) none_val ≡ gives (codes "1,2")
unfolding computing
commas = refl

-- `{% for x in [{"a": 1}] %}{{ x?.b }}|{% endfor %}` on {x: {b: 9}}: a miss by `?.` ends the search
optional_miss : rendered (engine [] []) (template (codes "{% for x in [{\"a\": 1}] %}{{ x?.b }}|{% endfor %}") (for_loop (item (word 7 (codes "x"))) (base (list (bases (mapping (items ((quoted 14 (codes "a"), number 19 20 (pos 1)) ∷ [])) (at 13 21) ∷ [])) (at 12 22))) (statements (shows 25 35 (var (first 28 (codes "x")) (maybe 29 (codes "b") ∷ [])) ∷ text 35 36 ∷ [])) no_else ∷ [])) (map_of ((codes "x", map_of ((codes "b", int_val (pos 9)) ∷ [])) ∷ [])) ≡ gives (codes "|")
unfolding computing
optional_miss = refl

-- `{% for k, v in {"b": 1, "a": 2} %}{{ k }}={{ v }};{% endfor %}`: in the order of the keys
keys_in_order : rendered (engine [] []) (template (codes "{% for k, v in {\"b\": 1, \"a\": 2} %}{{ k }}={{ v }};{% endfor %}") (for_loop (key_value (word 7 (codes "k")) (word 10 (codes "v")) (at 7 11)) (base (mapping (items ((quoted 16 (codes "b"), number 21 22 (pos 1)) ∷ (quoted 24 (codes "a"), number 29 30 (pos 2)) ∷ [])) (at 15 31))) (statements (shows 34 41 (name 37 (codes "k")) ∷ text 41 42 ∷ shows 42 49 (name 45 (codes "v")) ∷ text 49 50 ∷ [])) no_else ∷ [])) none_val ≡ gives (codes "a=2;b=1;")
unfolding computing
keys_in_order = refl

-- `{% for x in xs %}{% with x as loop %}{{ loop }}{% endwith %}{% endfor %}`: the inner binding is ahead of the loop's state
loop_bound_again : rendered (engine [] []) (template (codes "{% for x in xs %}{% with x as loop %}{{ loop }}{% endwith %}{% endfor %}") (for_loop (item (word 7 (codes "x"))) (base (name 12 (codes "xs"))) (statements (with (base (name 25 (codes "x"))) (word 30 (codes "loop")) (statements (shows 37 47 (name 40 (codes "loop")) ∷ [])) ∷ [])) no_else ∷ [])) (map_of ((codes "xs", list_of (text_val (codes "a") ∷ text_val (codes "b") ∷ [])) ∷ [])) ≡ gives (codes "ab")
unfolding computing
loop_bound_again = refl

-- `{% for x in xs %}{{ loop.index }}{{ x }}{% endfor %}` on {xs: ["a", "b"]}
indexes : rendered (engine [] []) (template (codes "{% for x in xs %}{{ loop.index }}{{ x }}{% endfor %}") (for_loop (item (word 7 (codes "x"))) (base (name 12 (codes "xs"))) (statements (shows 17 33 (var (first 20 (codes "loop")) (dot 24 (codes "index") ∷ [])) ∷ shows 33 40 (name 36 (codes "x")) ∷ [])) no_else ∷ [])) (map_of ((codes "xs", list_of (text_val (codes "a") ∷ text_val (codes "b") ∷ [])) ∷ [])) ≡ gives (codes "0a1b")
unfolding computing
indexes = refl

-- `{% for a, a in {"k": 1} %}{{ a }}{% endfor %}`: of equal names the key is seen
key_before_value : rendered (engine [] []) (template (codes "{% for a, a in {\"k\": 1} %}{{ a }}{% endfor %}") (for_loop (key_value (word 7 (codes "a")) (word 10 (codes "a")) (at 7 11)) (base (mapping (items ((quoted 16 (codes "k"), number 21 22 (pos 1)) ∷ [])) (at 15 23))) (statements (shows 26 33 (name 29 (codes "a")) ∷ [])) no_else ∷ [])) (map_of []) ≡ gives (codes "k")
unfolding computing
key_before_value = refl

-- `{% for loop in [7] %}{{ loop.last }}{% endfor %}`: the loop's state is ahead of its own variable
state_before_item : rendered (engine [] []) (template (codes "{% for loop in [7] %}{{ loop.last }}{% endfor %}") (for_loop (item (word 7 (codes "loop"))) (base (list (bases (number 16 17 (pos 7) ∷ [])) (at 15 18))) (statements (shows 21 36 (var (first 24 (codes "loop")) (dot 28 (codes "last") ∷ [])) ∷ [])) no_else ∷ [])) (map_of []) ≡ gives (codes "true")
unfolding computing
state_before_item = refl

-- `{% for x in [1] %}{{ loop?.z }}|{{ loop.index }}{% endfor %}`
unknown_of_state : rendered (engine [] []) (template (codes "{% for x in [1] %}{{ loop?.z }}|{{ loop.index }}{% endfor %}") (for_loop (item (word 7 (codes "x"))) (base (list (bases (number 13 14 (pos 1) ∷ [])) (at 12 15))) (statements (shows 18 31 (var (first 21 (codes "loop")) (maybe 25 (codes "z") ∷ [])) ∷ text 31 32 ∷ shows 32 48 (var (first 35 (codes "loop")) (dot 39 (codes "index") ∷ [])) ∷ [])) no_else ∷ [])) (map_of []) ≡ gives (codes "|0")
unfolding computing
unknown_of_state = refl

-- `{% for x in 5 %}{% endfor %}`
over_a_number : rendered (engine [] []) (template (codes "{% for x in 5 %}{% endfor %}") (for_loop (item (word 7 (codes "x"))) (base (number 12 13 (pos 5))) (statements []) no_else ∷ [])) (map_of []) ≡ breaks [] (fault_at render (codes "expected iterable, but expression evaluated to integer") 12 13)
unfolding computing
over_a_number = refl

-- `{% for a, b in [1] %}{% endfor %}`
two_names_for_an_item : rendered (engine [] []) (template (codes "{% for a, b in [1] %}{% endfor %}") (for_loop (key_value (word 7 (codes "a")) (word 10 (codes "b")) (at 7 11)) (base (list (bases (number 16 17 (pos 1) ∷ [])) (at 15 18))) (statements []) no_else ∷ [])) (map_of []) ≡ breaks [] (fault_at render (codes "cannot unpack list item into two variables") 7 11)
unfolding computing
two_names_for_an_item = refl

-- `{% for x in {"k": 1} %}{% endfor %}`
one_name_for_an_entry : rendered (engine [] []) (template (codes "{% for x in {\"k\": 1} %}{% endfor %}") (for_loop (item (word 7 (codes "x"))) (base (mapping (items ((quoted 13 (codes "k"), number 18 19 (pos 1)) ∷ [])) (at 12 20))) (statements []) no_else ∷ [])) (map_of []) ≡ breaks [] (fault_at render (codes "cannot unpack map item into one variable") 7 8)
unfolding computing
one_name_for_an_entry = refl

-- `{% for k, v in {"b": 1} %}{{ k.x }}{% endfor %}`
member_of_a_key : rendered (engine [] []) (template (codes "{% for k, v in {\"b\": 1} %}{{ k.x }}{% endfor %}") (for_loop (key_value (word 7 (codes "k")) (word 10 (codes "v")) (at 7 11)) (base (mapping (items ((quoted 16 (codes "b"), number 21 22 (pos 1)) ∷ [])) (at 15 23))) (statements (shows 26 35 (var (first 29 (codes "k")) (dot 30 (codes "x") ∷ [])) ∷ [])) no_else ∷ [])) (map_of []) ≡ breaks [] (fault_at render (codes "cannot index into string") 30 32)
unfolding computing
member_of_a_key = refl

-- `{% for x in [1] %}{{ loop.index.y }}{% endfor %}`
member_of_the_index : rendered (engine [] []) (template (codes "{% for x in [1] %}{{ loop.index.y }}{% endfor %}") (for_loop (item (word 7 (codes "x"))) (base (list (bases (number 13 14 (pos 1) ∷ [])) (at 12 15))) (statements (shows 18 36 (var (first 21 (codes "loop")) (dot 25 (codes "index") ∷ dot 31 (codes "y") ∷ [])) ∷ [])) no_else ∷ [])) (map_of []) ≡ breaks [] (fault_at render (codes "cannot index into integer") 31 33)
unfolding computing
member_of_the_index = refl

-- `{% for x in [1] %}{{ loop.z }}{% endfor %}`
no_such_state : rendered (engine [] []) (template (codes "{% for x in [1] %}{{ loop.z }}{% endfor %}") (for_loop (item (word 7 (codes "x"))) (base (list (bases (number 13 14 (pos 1) ∷ [])) (at 12 15))) (statements (shows 18 30 (var (first 21 (codes "loop")) (dot 25 (codes "z") ∷ [])) ∷ [])) no_else ∷ [])) (map_of []) ≡ breaks [] (fault_at render (codes "not found in map") 25 27)
unfolding computing
no_such_state = refl

-- `{% for x in [1] %}{{ loop }}{% endfor %}`: the state alone is a map
state_alone : rendered (engine [] []) (template (codes "{% for x in [1] %}{{ loop }}{% endfor %}") (for_loop (item (word 7 (codes "x"))) (base (list (bases (number 13 14 (pos 1) ∷ [])) (at 12 15))) (statements (shows 18 28 (name 21 (codes "loop")) ∷ [])) no_else ∷ [])) (map_of []) ≡ breaks [] (fault_at format (codes "expression evaluated to unformattable type map") 21 25)
unfolding computing
state_alone = refl

-- `{% for x in [] %}a{% else %}b{% endfor %}`: the other branch where there is no item
other_branch : rendered (engine [] []) (template (codes "{% for x in [] %}a{% else %}b{% endfor %}") (for_loop (item (word 7 (codes "x"))) (base (list (bases []) (at 12 14))) (statements (text 17 18 ∷ [])) (otherwise (statements (text 28 29 ∷ []))) ∷ [])) none_val ≡ gives (codes "b")
unfolding computing
other_branch = refl

-- `{% for x in [1] %}a{% else %}b{% endfor %}`
no_other_branch : rendered (engine [] []) (template (codes "{% for x in [1] %}a{% else %}b{% endfor %}") (for_loop (item (word 7 (codes "x"))) (base (list (bases (number 13 14 (pos 1) ∷ [])) (at 12 15))) (statements (text 18 19 ∷ [])) (otherwise (statements (text 29 30 ∷ []))) ∷ [])) none_val ≡ gives (codes "a")
unfolding computing
no_other_branch = refl

-- `{% for x in {} %}{% else %}e{% endfor %}`: a fault comes first
fault_before_other_branch : rendered (engine [] []) (template (codes "{% for x in {} %}{% else %}e{% endfor %}") (for_loop (item (word 7 (codes "x"))) (base (mapping (items []) (at 12 14))) (statements []) (otherwise (statements (text 27 28 ∷ []))) ∷ [])) none_val ≡ breaks [] (fault_at render (codes "cannot unpack map item into one variable") 7 8)
unfolding computing
fault_before_other_branch = refl

-- `{% for y in [7, 8] %}{% for x in [] %}{% else %}{{ loop.index }}{% endfor %}{% endfor %}`: the other branch is outside
-- its loop
other_branch_outside : rendered (engine [] []) (template (codes "{% for y in [7, 8] %}{% for x in [] %}{% else %}{{ loop.index }}{% endfor %}{% endfor %}") (for_loop (item (word 7 (codes "y"))) (base (list (bases (number 13 14 (pos 7) ∷ number 16 17 (pos 8) ∷ [])) (at 12 18))) (statements (for_loop (item (word 28 (codes "x"))) (base (list (bases []) (at 33 35))) (statements []) (otherwise (statements (shows 48 64 (var (first 51 (codes "loop")) (dot 55 (codes "index") ∷ [])) ∷ []))) ∷ [])) no_else ∷ [])) none_val ≡ gives (codes "01")
unfolding computing
other_branch_outside = refl
