-- Conditions, and what they give.
use Rattle.std.proofs.Common.{◌≡◌, pos, [], ◌∷◌, true, false, refl, codes}
use Rattle.upon_types.specs.Expression.{base, literal, list}
use Rattle.upon_types.specs.Tree.{if_else, no_else, otherwise}
use Rattle.upon_types.specs.Val.{none_val, bool_val, int_val}
use Rattle.upon_meaning_spec.proofs.Computing.{computing}
use Rattle.upon_meaning_spec.proofs.Examples.ShortContexts.{at, name, number, quote, bases, statements, shows, text, map_of, template, engine, rendered, gives}

-- `{% if [] %}a{% else if "x" %}b{% endif %}`
else_if : rendered (engine [] []) (template (codes "{% if [] %}a{% else if \"x\" %}b{% endif %}") (if_else false (base (list (bases []) (at 6 8))) (statements (text 11 12 ∷ [])) (otherwise (statements (if_else false (base (quote 23 (codes "x"))) (statements (text 29 30 ∷ [])) no_else ∷ []))) ∷ [])) none_val ≡ gives (codes "b")
unfolding computing
else_if = refl

-- `{% if 1 %}a{% else %}b{% endif %}`
first_branch : rendered (engine [] []) (template (codes "{% if 1 %}a{% else %}b{% endif %}") (if_else false (base (number 6 7 (pos 1))) (statements (text 10 11 ∷ [])) (otherwise (statements (text 21 22 ∷ []))) ∷ [])) none_val ≡ gives (codes "a")
unfolding computing
first_branch = refl

-- `{% if not a %}x{% else %}y{% endif %}` on {a: 1}
turned_round : rendered (engine [] []) (template (codes "{% if not a %}x{% else %}y{% endif %}") (if_else true (base (name 10 (codes "a"))) (statements (text 14 15 ∷ [])) (otherwise (statements (text 25 26 ∷ []))) ∷ [])) (map_of ((codes "a", int_val (pos 1)) ∷ [])) ≡ gives (codes "y")
unfolding computing
turned_round = refl

-- `{% if false %}{{ a }}{% endif %}`: a branch that is not taken is not looked at
no_branch : rendered (engine [] []) (template (codes "{% if false %}{{ a }}{% endif %}") (if_else false (base (literal (bool_val false) (at 6 11))) (statements (shows 14 21 (name 17 (codes "a")) ∷ [])) no_else ∷ [])) (map_of []) ≡ gives []
unfolding computing
no_branch = refl
