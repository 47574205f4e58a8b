-- Includes, and what they give.
use Rattle.std.proofs.Common.{◌≡◌, pos, [], ◌∷◌, Some, None, false, refl, codes}
use Rattle.upon_types.specs.Expression.{base, var}
use Rattle.upon_types.specs.Fault.{render, fault_with_name}
use Rattle.upon_types.specs.Tree.{include, if_else, with, no_else}
use Rattle.upon_types.specs.Val.{none_val, int_val, text_val}
use Rattle.upon_meaning_spec.proofs.Computing.{computing}
use Rattle.upon_meaning_spec.proofs.Examples.ShortContexts.{word, quoted, first, name, dot, number, statements, shows, text, map_of, template, engine, rendered, rendered_to, gives, breaks, fault_at}

-- t = `a`, in `{% include "t" %}`
text_alone : rendered (engine ((codes "t", template (codes "a") (text 0 1 ∷ [])) ∷ []) []) (template (codes "{% include \"t\" %}") (include (quoted 11 (codes "t")) None ∷ [])) none_val ≡ gives (codes "a")
unfolding computing
text_alone = refl

-- t = `{{ n }}`, in `{% with 1 as n %}{% include "t" %}{% endwith %}`
scopes_seen : rendered (engine ((codes "t", template (codes "{{ n }}") (shows 0 7 (name 3 (codes "n")) ∷ [])) ∷ []) []) (template (codes "{% with 1 as n %}{% include \"t\" %}{% endwith %}") (with (base (number 8 9 (pos 1))) (word 13 (codes "n")) (statements (include (quoted 28 (codes "t")) None ∷ [])) ∷ [])) none_val ≡ gives (codes "1")
unfolding computing
scopes_seen = refl

-- t = `{{ a }}`, in `{% include "t" with 5 %}` on {a: 1}
scopes_hidden : rendered (engine ((codes "t", template (codes "{{ a }}") (shows 0 7 (name 3 (codes "a")) ∷ [])) ∷ []) []) (template (codes "{% include \"t\" with 5 %}") (include (quoted 11 (codes "t")) (Some (base (number 20 21 (pos 5)))) ∷ [])) (map_of ((codes "a", int_val (pos 1)) ∷ [])) ≡ breaks [] (fault_with_name (codes "t") (fault_at render (codes "not found in this scope") 3 4))
unfolding computing
scopes_hidden = refl

-- `{% include "x" %}` where nothing has that name
unknown : rendered (engine [] []) (template (codes "{% include \"x\" %}") (include (quoted 11 (codes "x")) None ∷ [])) none_val ≡ breaks [] (fault_at render (codes "unknown template") 11 14)
unfolding computing
unknown = refl

-- `{% include "zz" %}` at depth 1: that nothing has the name is reported first
unknown_before_depth : rendered_to 1 (engine [] []) (template (codes "{% include \"zz\" %}") (include (quoted 11 (codes "zz")) None ∷ [])) none_val ≡ breaks [] (fault_at render (codes "unknown template") 11 15)
unfolding computing
unknown_before_depth = refl

-- `{% include "zz" with y %}` on {} at depth 1: the fault of the value is reported first
value_before_name : rendered_to 1 (engine [] []) (template (codes "{% include \"zz\" with y %}") (include (quoted 11 (codes "zz")) (Some (base (name 21 (codes "y")))) ∷ [])) (map_of []) ≡ breaks [] (fault_at render (codes "not found in this scope") 21 22)
unfolding computing
value_before_name = refl

-- t = `{% include "zz" %}`, in `{% include "t" %}` at depth 2
unknown_inside : rendered_to 2 (engine ((codes "t", template (codes "{% include \"zz\" %}") (include (quoted 11 (codes "zz")) None ∷ [])) ∷ []) []) (template (codes "{% include \"t\" %}") (include (quoted 11 (codes "t")) None ∷ [])) none_val ≡ breaks [] (fault_with_name (codes "t") (fault_at render (codes "unknown template") 11 15))
unfolding computing
unknown_inside = refl

-- hello = `Hello {{ user.name }}!`, goodbye = `Goodbye {{ user.name }}!`, in `{% include "hello" %}`, a new line, `{% include "goodbye" %}`
two_stored : rendered (engine ((codes "hello", template (codes "Hello {{ user.name }}!") (text 0 6 ∷ shows 6 21 (var (first 9 (codes "user")) (dot 13 (codes "name") ∷ [])) ∷ text 21 22 ∷ [])) ∷ (codes "goodbye", template (codes "Goodbye {{ user.name }}!") (text 0 8 ∷ shows 8 23 (var (first 11 (codes "user")) (dot 15 (codes "name") ∷ [])) ∷ text 23 24 ∷ [])) ∷ []) []) (template (codes "{% include \"hello\" %}\n{% include \"goodbye\" %}") (include (quoted 11 (codes "hello")) None ∷ text 21 22 ∷ include (quoted 33 (codes "goodbye")) None ∷ [])) (map_of ((codes "user", map_of ((codes "name", text_val (codes "John Smith")) ∷ [])) ∷ [])) ≡ gives (codes "Hello John Smith!\nGoodbye John Smith!")
unfolding computing
two_stored = refl

-- s = `{% if more %}{% include "s" %}{% include "s" %}{% endif %}y`: a branch that is not taken means nothing
branch_not_taken : rendered (engine ((codes "s", template (codes "{% if more %}{% include \"s\" %}{% include \"s\" %}{% endif %}y") (if_else false (base (name 6 (codes "more"))) (statements (include (quoted 24 (codes "s")) None ∷ include (quoted 41 (codes "s")) None ∷ [])) no_else ∷ text 58 59 ∷ [])) ∷ []) []) (template (codes "{% include \"s\" %}") (include (quoted 11 (codes "s")) None ∷ [])) (map_of ((codes "more", none_val) ∷ [])) ≡ gives (codes "y")
unfolding computing
branch_not_taken = refl
