-- What makes no difference to a template, and what an included one does not see.
use Rattle.std.proofs.Common.{◌≡◌, pos, [], ◌∷◌, Some, None, refl, codes}
use Rattle.upon_types.specs.Expression.{base, var, list}
use Rattle.upon_types.specs.Fault.{render, fault_with_name}
use Rattle.upon_types.specs.Path.{item}
use Rattle.upon_types.specs.Tree.{include, for_loop, no_else}
use Rattle.upon_types.specs.Val.{none_val, int_val}
use Rattle.upon_meaning_spec.proofs.Computing.{computing}
use Rattle.upon_meaning_spec.proofs.Examples.ShortContexts.{at, word, quoted, first, name, dot, number, bases, statements, shows, map_of, template, engine, rendered, gives, breaks, fault_at}

-- `{{ a }}` on {a: 1, b: 2} and on {a: 1, c: 3}: what is not read makes no difference
other_entries : rendered (engine [] []) (template (codes "{{ a }}") (shows 0 7 (name 3 (codes "a")) ∷ [])) (map_of ((codes "a", int_val (pos 1)) ∷ (codes "b", int_val (pos 2)) ∷ [])) ≡ gives (codes "1")
unfolding computing
other_entries = refl

other_entries_again : rendered (engine [] []) (template (codes "{{ a }}") (shows 0 7 (name 3 (codes "a")) ∷ [])) (map_of ((codes "a", int_val (pos 1)) ∷ (codes "c", int_val (pos 3)) ∷ [])) ≡ gives (codes "1")
unfolding computing
other_entries_again = refl

-- t = `{{ loop.index }}`, in `{% for x in [1] %}{% include "t" with 5 %}{% endfor %}`: the loop's state is not seen
state_hidden : rendered (engine ((codes "t", template (codes "{{ loop.index }}") (shows 0 16 (var (first 3 (codes "loop")) (dot 7 (codes "index") ∷ [])) ∷ [])) ∷ []) []) (template (codes "{% for x in [1] %}{% include \"t\" with 5 %}{% endfor %}") (for_loop (item (word 7 (codes "x"))) (base (list (bases (number 13 14 (pos 1) ∷ [])) (at 12 15))) (statements (include (quoted 29 (codes "t")) (Some (base (number 38 39 (pos 5)))) ∷ [])) no_else ∷ [])) none_val ≡ breaks [] (fault_with_name (codes "t") (fault_at render (codes "not found in this scope") 3 7))
unfolding computing
state_hidden = refl

-- t = `{{ loop.index }}`, in `{% for x in [1] %}{% include "t" %}{% endfor %}`: a plain include sees it
state_seen : rendered (engine ((codes "t", template (codes "{{ loop.index }}") (shows 0 16 (var (first 3 (codes "loop")) (dot 7 (codes "index") ∷ [])) ∷ [])) ∷ []) []) (template (codes "{% for x in [1] %}{% include \"t\" %}{% endfor %}") (for_loop (item (word 7 (codes "x"))) (base (list (bases (number 13 14 (pos 1) ∷ [])) (at 12 15))) (statements (include (quoted 29 (codes "t")) None ∷ [])) no_else ∷ [])) none_val ≡ gives (codes "0")
unfolding computing
state_seen = refl
