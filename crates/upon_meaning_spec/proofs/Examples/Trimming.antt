-- Tags that trim the text beside them, and what they give. A text in a tree is without what trimming takes.
use Rattle.std.proofs.Common.{◌≡◌, pos, [], ◌∷◌, true, false, refl, codes}
use Rattle.upon_types.specs.Expression.{base}
use Rattle.upon_types.specs.Tree.{if_else, no_else}
use Rattle.upon_types.specs.Val.{none_val, bool_val, text_val}
use Rattle.upon_meaning_spec.proofs.Computing.{computing}
use Rattle.upon_meaning_spec.proofs.Examples.ShortContexts.{name, number, statements, shows, text, map_of, template, engine, rendered, gives}

-- `a  {{- 1 -}}  b`
both_sides : rendered (engine [] []) (template (codes "a  {{- 1 -}}  b") (text 0 1 ∷ shows 3 12 (number 7 8 (pos 1)) ∷ text 14 15 ∷ [])) none_val ≡ gives (codes "a1b")
unfolding computing
both_sides = refl

-- `Hello,`, a new line, `  {%- if a %} and welcome, {% endif -%}`, a new line, `  {{ name }}!` on {a: true, name: "John"}
beside_blocks : rendered (engine [] []) (template (codes "Hello,\n  {%- if a %} and welcome, {% endif -%}\n  {{ name }}!") (text 0 6 ∷ if_else false (base (name 16 (codes "a"))) (statements (text 20 34 ∷ [])) no_else ∷ text 49 49 ∷ shows 49 59 (name 52 (codes "name")) ∷ text 59 60 ∷ [])) (map_of ((codes "a", bool_val true) ∷ (codes "name", text_val (codes "John")) ∷ [])) ≡ gives (codes "Hello, and welcome, John!")
unfolding computing
beside_blocks = refl
