-- Two texts whose trees are alike but for spans, one with a condition and the other with its negation.
use Rattle.std.proofs.Common.{◌≡◌, pos, inr, [], ◌∷◌, false, true, refl, codes}
use Rattle.upon_types.specs.Expression.{base}
use Rattle.upon_types.specs.Fault.{render}
use Rattle.upon_types.specs.Tree.{if_else, otherwise}
use Rattle.upon_types.specs.Val.{int_val}
use Rattle.upon_meaning_spec.specs.Alike.{StatementsAlike}
use Rattle.upon_meaning_spec.specs.Engine.{Template}
use Rattle.upon_meaning_spec.proofs.Computing.{computing}
use Rattle.upon_meaning_spec.proofs.Examples.ShortContexts.{name, statements, text, shows, map_of, template, engine, rendered, gives, breaks, fault_at}

-- `{% if a %}x{% else %}{{ b }}{% endif %}`, and `{% if not a %}{{ b }}{% else %}x{% endif %}`
plain_if : Template
plain_if = template (codes "{% if a %}x{% else %}{{ b }}{% endif %}") (if_else false (base (name 6 (codes "a"))) (statements (text 10 11 ∷ [])) (otherwise (statements (shows 21 28 (name 24 (codes "b")) ∷ []))) ∷ [])

negated_if : Template
negated_if = template (codes "{% if not a %}{{ b }}{% else %}x{% endif %}") (if_else true (base (name 10 (codes "a"))) (statements (shows 14 21 (name 17 (codes "b")) ∷ [])) (otherwise (statements (text 31 32 ∷ []))) ∷ [])

alike : StatementsAlike plain_if.source negated_if.source plain_if.tree negated_if.tree
unfolding plain_if negated_if
alike = (((refl, refl, tt), inr (refl, (refl, tt), ((refl, refl, tt), tt))), tt)

-- on {a: 1} both give x; on {a: 0} both end with the same fault, each at its own span
first_branch : rendered (engine [] []) plain_if (map_of ((codes "a", int_val (pos 1)) ∷ [])) ≡ gives (codes "x")
unfolding computing plain_if
first_branch = refl

first_branch_negated : rendered (engine [] []) negated_if (map_of ((codes "a", int_val (pos 1)) ∷ [])) ≡ gives (codes "x")
unfolding computing negated_if
first_branch_negated = refl

second_branch : rendered (engine [] []) plain_if (map_of ((codes "a", int_val (pos 0)) ∷ [])) ≡ breaks [] (fault_at render (codes "not found in this scope") 24 25)
unfolding computing plain_if
second_branch = refl

second_branch_negated : rendered (engine [] []) negated_if (map_of ((codes "a", int_val (pos 0)) ∷ [])) ≡ breaks [] (fault_at render (codes "not found in this scope") 17 18)
unfolding computing negated_if
second_branch_negated = refl
