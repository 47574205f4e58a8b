-- Which variables are seen where, and which hide others.
use Rattle.std.proofs.Common.{◌≡◌, pos, [], ◌∷◌, Some, None, refl, codes}
use Rattle.upon_types.specs.Expression.{base, var, list, mapping}
use Rattle.upon_types.specs.Fault.{render, fault_with_name}
use Rattle.upon_types.specs.Path.{item, key_value}
use Rattle.upon_types.specs.Tree.{include, for_loop, with, no_else}
use Rattle.upon_types.specs.Val.{none_val}
use Rattle.upon_meaning_spec.proofs.Computing.{computing}
use Rattle.upon_meaning_spec.proofs.Examples.ShortContexts.{at, word, quoted, first, name, dot, number, bases, items, statements, shows, template, engine, rendered, gives, breaks, fault_at}

-- `{% with 1 as x %}{% with 2 as x %}{{ x }}{% endwith %}{{ x }}{% endwith %}`: hidden in the inner body, and found again after it
hidden_and_back : rendered (engine [] []) (template (codes "{% with 1 as x %}{% with 2 as x %}{{ x }}{% endwith %}{{ x }}{% endwith %}") (with (base (number 8 9 (pos 1))) (word 13 (codes "x")) (statements (with (base (number 25 26 (pos 2))) (word 30 (codes "x")) (statements (shows 34 41 (name 37 (codes "x")) ∷ [])) ∷ shows 54 61 (name 57 (codes "x")) ∷ [])) ∷ [])) none_val ≡ gives (codes "21")
unfolding computing
hidden_and_back = refl

-- t = `{{ x }}`, in `{% with 1 as x %}{% with 2 as x %}{% include "t" %}{% endwith %}{% include "t" %}{% endwith %}`
hidden_in_included : rendered (engine ((codes "t", template (codes "{{ x }}") (shows 0 7 (name 3 (codes "x")) ∷ [])) ∷ []) []) (template (codes "{% with 1 as x %}{% with 2 as x %}{% include \"t\" %}{% endwith %}{% include \"t\" %}{% endwith %}") (with (base (number 8 9 (pos 1))) (word 13 (codes "x")) (statements (with (base (number 25 26 (pos 2))) (word 30 (codes "x")) (statements (include (quoted 45 (codes "t")) None ∷ [])) ∷ include (quoted 75 (codes "t")) None ∷ [])) ∷ [])) none_val ≡ gives (codes "21")
unfolding computing
hidden_in_included = refl

-- `{% with 1 as x %}{% for x in [2, 3] %}{{ x }}{% endfor %}{{ x }}{% endwith %}`
hidden_in_loop : rendered (engine [] []) (template (codes "{% with 1 as x %}{% for x in [2, 3] %}{{ x }}{% endfor %}{{ x }}{% endwith %}") (with (base (number 8 9 (pos 1))) (word 13 (codes "x")) (statements (for_loop (item (word 24 (codes "x"))) (base (list (bases (number 30 31 (pos 2) ∷ number 33 34 (pos 3) ∷ [])) (at 29 35))) (statements (shows 38 45 (name 41 (codes "x")) ∷ [])) no_else ∷ shows 57 64 (name 60 (codes "x")) ∷ [])) ∷ [])) none_val ≡ gives (codes "231")
unfolding computing
hidden_in_loop = refl

-- `{% with 9 as loop %}{% for x in [2, 3] %}{{ loop.index }}{% endfor %}{{ loop }}{% endwith %}`: the state hides the variable
state_hides : rendered (engine [] []) (template (codes "{% with 9 as loop %}{% for x in [2, 3] %}{{ loop.index }}{% endfor %}{{ loop }}{% endwith %}") (with (base (number 8 9 (pos 9))) (word 13 (codes "loop")) (statements (for_loop (item (word 27 (codes "x"))) (base (list (bases (number 33 34 (pos 2) ∷ number 36 37 (pos 3) ∷ [])) (at 32 38))) (statements (shows 41 57 (var (first 44 (codes "loop")) (dot 48 (codes "index") ∷ [])) ∷ [])) no_else ∷ shows 69 79 (name 72 (codes "loop")) ∷ [])) ∷ [])) none_val ≡ gives (codes "019")
unfolding computing
state_hides = refl

-- `{% for loop in [7, 8] %}{{ loop.index }}{% endfor %}`: the variable is never seen
variable_unseen : rendered (engine [] []) (template (codes "{% for loop in [7, 8] %}{{ loop.index }}{% endfor %}") (for_loop (item (word 7 (codes "loop"))) (base (list (bases (number 16 17 (pos 7) ∷ number 19 20 (pos 8) ∷ [])) (at 15 21))) (statements (shows 24 40 (var (first 27 (codes "loop")) (dot 31 (codes "index") ∷ [])) ∷ [])) no_else ∷ [])) none_val ≡ gives (codes "01")
unfolding computing
variable_unseen = refl

-- `{% for k, loop in {"a": 7} %}{{ k }}{{ loop.index }}{% endfor %}`
value_unseen : rendered (engine [] []) (template (codes "{% for k, loop in {\"a\": 7} %}{{ k }}{{ loop.index }}{% endfor %}") (for_loop (key_value (word 7 (codes "k")) (word 10 (codes "loop")) (at 7 14)) (base (mapping (items ((quoted 19 (codes "a"), number 24 25 (pos 7)) ∷ [])) (at 18 26))) (statements (shows 29 36 (name 32 (codes "k")) ∷ shows 36 52 (var (first 39 (codes "loop")) (dot 43 (codes "index") ∷ [])) ∷ [])) no_else ∷ [])) none_val ≡ gives (codes "a0")
unfolding computing
value_unseen = refl

-- `{% for x in [5] %}{% with 6 as loop %}{{ loop }}{% endwith %}{{ loop.index }}{% endfor %}`: a `with` inside hides the state
state_hidden : rendered (engine [] []) (template (codes "{% for x in [5] %}{% with 6 as loop %}{{ loop }}{% endwith %}{{ loop.index }}{% endfor %}") (for_loop (item (word 7 (codes "x"))) (base (list (bases (number 13 14 (pos 5) ∷ [])) (at 12 15))) (statements (with (base (number 26 27 (pos 6))) (word 31 (codes "loop")) (statements (shows 38 48 (name 41 (codes "loop")) ∷ [])) ∷ shows 61 77 (var (first 64 (codes "loop")) (dot 68 (codes "index") ∷ [])) ∷ [])) no_else ∷ [])) none_val ≡ gives (codes "60")
unfolding computing
state_hidden = refl

-- t = `{{ x }}`, in `{% with 1 as x %}{% include "t" with {} %}{% endwith %}`: inside a boundary nothing around it is seen
boundary : rendered (engine ((codes "t", template (codes "{{ x }}") (shows 0 7 (name 3 (codes "x")) ∷ [])) ∷ []) []) (template (codes "{% with 1 as x %}{% include \"t\" with {} %}{% endwith %}") (with (base (number 8 9 (pos 1))) (word 13 (codes "x")) (statements (include (quoted 28 (codes "t")) (Some (base (mapping (items []) (at 37 39)))) ∷ [])) ∷ [])) none_val ≡ breaks [] (fault_with_name (codes "t") (fault_at render (codes "not found in this scope") 3 4))
unfolding computing
boundary = refl
