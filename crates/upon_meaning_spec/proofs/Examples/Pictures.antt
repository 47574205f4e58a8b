-- The texts of several lines that say where renderings end: each shows a line of the template in which the fault lies.
use Rattle.std.proofs.Common.{◌≡◌, ℕ, pos, List, [], ◌∷◌, Option, Some, None, option_map, refl, codes}
use Rattle.upon_types.specs.Expression.{base}
use Rattle.upon_types.specs.Pretty.{pretty}
use Rattle.upon_types.specs.Tree.{include}
use Rattle.upon_types.specs.Val.{Val}
use Rattle.upon_types.proofs.Computing.{computing as columns}
use Rattle.upon_lookup.specs.Environment.{context}
use Rattle.upon_meaning_spec.specs.Alone.{alone, fault_of_end}
use Rattle.upon_meaning_spec.specs.Engine.{Template, Engine, rendering_of}
use Rattle.upon_meaning_spec.proofs.Computing.{computing}
use Rattle.upon_meaning_spec.proofs.Examples.ShortContexts.{quoted, number, name, shows, text, map_of, template, engine, no_source, no_states}

tells : Engine → Template → Option (List ℕ) → Val → Option (List ℕ)
tells e t name v = option_map pretty (fault_of_end e.depth (alone (rendering_of e no_source None) t name (context v) no_states).end)

-- `Hello {{ name }}!` under the name hello.txt, on {}
missing_name : tells (engine [] []) (template (codes "Hello {{ name }}!") (text 0 6 ∷ shows 6 16 (name 9 (codes "name")) ∷ text 16 17 ∷ [])) (Some (codes "hello.txt")) (map_of []) ≡ Some (codes "render error\n\n  --> hello.txt:1:10\n   |\n 1 | Hello {{ name }}!\n   |          ^^^^\n   |\n   = reason: not found in this scope\n")
unfolding computing columns tells
missing_name = refl

-- t = a line feed and `{{ a }}`, in `{% include "t" with 5 %}` on {a: 1}: the line of t
line_of_the_included : tells (engine ((codes "t", template (codes "\n{{ a }}") (text 0 1 ∷ shows 1 8 (name 4 (codes "a")) ∷ [])) ∷ []) []) (template (codes "{% include \"t\" with 5 %}") (include (quoted 11 (codes "t")) (Some (base (number 20 21 (pos 5)))) ∷ [])) None (map_of []) ≡ Some (codes "render error\n\n  --> t:2:4\n   |\n 2 | {{ a }}\n   |    ^--\n   |\n   = reason: not found in this scope\n")
unfolding computing columns tells
line_of_the_included = refl

-- `{% include "x" %}`: the line of the template that includes
line_of_the_include : tells (engine [] []) (template (codes "{% include \"x\" %}") (include (quoted 11 (codes "x")) None ∷ [])) None (map_of []) ≡ Some (codes "render error\n\n  --> <anonymous>:1:12\n   |\n 1 | {% include \"x\" %}\n   |            ^^^\n   |\n   = reason: unknown template\n")
unfolding computing columns tells
line_of_the_include = refl
