-- Includes inside each other, and how deep they may be.
use Rattle.std.proofs.Common.{◌≡◌, pos, [], ◌∷◌, Some, None, refl, codes}
use Rattle.upon_types.specs.Expression.{base}
use Rattle.upon_types.specs.Tree.{include}
use Rattle.upon_types.specs.Val.{none_val}
use Rattle.upon_meaning_spec.specs.CallFaults.{depth_reached}
use Rattle.upon_meaning_spec.specs.Engine.{Template}
use Rattle.upon_meaning_spec.proofs.Computing.{computing}
use Rattle.upon_meaning_spec.proofs.Examples.ShortContexts.{quoted, number, text, template, engine, rendered, rendered_to, gives, breaks}

-- s = `x{% include "s" %}`: the depth counts the template itself, and 0 acts as 1
itself : Template
itself = template (codes "x{% include \"s\" %}") (text 0 1 ∷ include (quoted 12 (codes "s")) None ∷ [])

depth_nought : rendered_to 0 (engine ((codes "s", itself) ∷ []) []) itself none_val ≡ breaks (codes "x") (depth_reached 0)
unfolding computing itself
depth_nought = refl

depth_one : rendered_to 1 (engine ((codes "s", itself) ∷ []) []) itself none_val ≡ breaks (codes "x") (depth_reached 1)
unfolding computing itself
depth_one = refl

depth_three : rendered_to 3 (engine ((codes "s", itself) ∷ []) []) itself none_val ≡ breaks (codes "xxx") (depth_reached 3)
unfolding computing itself
depth_three = refl

depth_as_usual : rendered (engine ((codes "s", itself) ∷ []) []) itself none_val ≡ breaks (codes "xxxxxxxxxxxxxxxxxxxxxxxxxxxxxxxxxxxxxxxxxxxxxxxxxxxxxxxxxxxxxxxx") (depth_reached 64)
unfolding computing itself
depth_as_usual = refl

-- s = `x{% include "s" with 5 %}`: with a value it goes as deep
itself_with : Template
itself_with = template (codes "x{% include \"s\" with 5 %}") (text 0 1 ∷ include (quoted 12 (codes "s")) (Some (base (number 21 22 (pos 5)))) ∷ [])

with_depth_nought : rendered_to 0 (engine ((codes "s", itself_with) ∷ []) []) itself_with none_val ≡ breaks (codes "x") (depth_reached 0)
unfolding computing itself_with
with_depth_nought = refl

with_depth_one : rendered_to 1 (engine ((codes "s", itself_with) ∷ []) []) itself_with none_val ≡ breaks (codes "x") (depth_reached 1)
unfolding computing itself_with
with_depth_one = refl

with_depth_three : rendered_to 3 (engine ((codes "s", itself_with) ∷ []) []) itself_with none_val ≡ breaks (codes "xxx") (depth_reached 3)
unfolding computing itself_with
with_depth_three = refl

with_depth_as_usual : rendered (engine ((codes "s", itself_with) ∷ []) []) itself_with none_val ≡ breaks (codes "xxxxxxxxxxxxxxxxxxxxxxxxxxxxxxxxxxxxxxxxxxxxxxxxxxxxxxxxxxxxxxxx") (depth_reached 64)
unfolding computing itself_with
with_depth_as_usual = refl

-- t = `a`, in `{% include "t" %}{% include "t" %}` at depth 2: includes that are one after the other are not inside each other
one_behind_the_other : rendered_to 2 (engine ((codes "t", template (codes "a") (text 0 1 ∷ [])) ∷ []) []) (template (codes "{% include \"t\" %}{% include \"t\" %}") (include (quoted 11 (codes "t")) None ∷ include (quoted 28 (codes "t")) None ∷ [])) none_val ≡ gives (codes "aa")
unfolding computing
one_behind_the_other = refl

-- a = `a{% include "b" %}`, b = `b{% include "a" %}`
turn_a : Template
turn_a = template (codes "a{% include \"b\" %}") (text 0 1 ∷ include (quoted 12 (codes "b")) None ∷ [])

turn_b : Template
turn_b = template (codes "b{% include \"a\" %}") (text 0 1 ∷ include (quoted 12 (codes "a")) None ∷ [])

in_turns : rendered_to 3 (engine ((codes "a", turn_a) ∷ (codes "b", turn_b) ∷ []) []) turn_a none_val ≡ breaks (codes "aba") (depth_reached 3)
unfolding computing turn_a turn_b
in_turns = refl

-- a = `a{% include "b" %}`, b = `b{% include "c" %}`, c = `c`, and the same where z = `z` is there too
row_b : Template
row_b = template (codes "b{% include \"c\" %}") (text 0 1 ∷ include (quoted 12 (codes "c")) None ∷ [])

row_c : Template
row_c = template (codes "c") (text 0 1 ∷ [])

in_a_row : rendered_to 3 (engine ((codes "a", turn_a) ∷ (codes "b", row_b) ∷ (codes "c", row_c) ∷ []) []) turn_a none_val ≡ gives (codes "abc")
unfolding computing turn_a row_b row_c
in_a_row = refl

in_a_row_beside_another : rendered_to 3 (engine ((codes "a", turn_a) ∷ (codes "b", row_b) ∷ (codes "c", row_c) ∷ (codes "z", template (codes "z") (text 0 1 ∷ [])) ∷ []) []) turn_a none_val ≡ gives (codes "abc")
unfolding computing turn_a row_b row_c
in_a_row_beside_another = refl
