-- Includes: of templates that are accepted where they are included, and in a ring.
use Rattle.std.proofs.Common.{ℕ, List, [], ◌∷◌, codes, refl}
use Rattle.upon_meaning_spec.specs.Engine.{Template}
use Rattle.upon_shape_spec.specs.Accepted.{IsClosed, AcceptedBy, Planned}
use Rattle.upon_shape_spec.specs.Scope.{Scope, value_of, a_loop, name_shape, scope_over}
use Rattle.upon_shape_spec.specs.Shape.{Shape, text_shape, list_of, never, map_of, no_others}
use Rattle.upon_shape_spec.proofs.Written.{dot, path, name, show, for_each, with_as, includes, includes_with, template, required, held, declared, accepted_with, planned}

-- ---- `row` shows the name of what it is on
abbrev row : List (List ℕ × Template)
row = (codes "row", template (show (name (codes "name")) ∷ [])) ∷ []

abbrev named : Shape
named = map_of (required (codes "name") text_shape no_others)

abbrev rows : Shape
rows = map_of (required (codes "rows") (list_of named) no_others)

-- `{% for r in rows %}{% include "row" with r %}{% endfor %}`, with one include inside
each_row : accepted_with row 1 (for_each (codes "r") (name (codes "rows")) (includes_with (codes "row") (name (codes "r")) ∷ []) ∷ []) rows
each_row = ((((refl, tt), tt), tt), tt)

-- too deep
too_deep_row : accepted_with row 0 (for_each (codes "r") (name (codes "rows")) (includes_with (codes "row") (name (codes "r")) ∷ []) ∷ []) rows → ⊥
too_deep_row h = h.0.0.0

-- `{% for name in rows %}{% include "row" %}{% endfor %}`: the include sees the loop's variable, which has no text
row_in_a_loop : accepted_with row 1 (for_each (codes "name") (name (codes "rows")) (includes (codes "row") ∷ []) ∷ []) rows → ⊥
row_in_a_loop h = let one = h.0.0.0.0 in cc

-- no such template
no_template : accepted_with [] 1 (includes (codes "row") ∷ []) named → ⊥
no_template h = h.0

-- ---- a ring: `tree` shows a name, and includes itself for each child
abbrev tree : List (List ℕ × Template)
tree = (codes "tree", template (show (name (codes "name")) ∷ for_each (codes "c") (name (codes "children")) (includes_with (codes "tree") (name (codes "c")) ∷ []) ∷ [])) ∷ []

abbrev leaf : Shape
leaf = map_of (required (codes "children") (list_of never) (required (codes "name") text_shape no_others))

abbrev branch : Shape
branch = map_of (required (codes "children") (list_of leaf) (required (codes "name") text_shape no_others))

-- the shapes that it is included with: of leaves, of branches, and of no child
abbrev plan : List Planned
plan = planned (codes "tree") (scope_over branch) ∷ planned (codes "tree") (scope_over leaf) ∷ planned (codes "tree") (scope_over never) ∷ []

closed : IsClosed declared (held tree) plan
closed = ((refl, (((refl, tt), tt), tt)), ((refl, (((refl, tt), tt), tt)), ((refl, (((refl, tt), tt), tt)), tt)))

grown : AcceptedBy declared plan (template (includes (codes "tree") ∷ [])) branch
grown = (refl, tt)

-- ---- a ring in which names are bound again and again: `{{ node.name }}{% for c in node.children %}{% with c as node %}
-- {% include "tree" %}{% endwith %}{% endfor %}`
abbrev inner_tree : List (List ℕ × Template)
inner_tree = (codes "tree", template (show (path (codes "node") (dot (codes "name") ∷ [])) ∷ for_each (codes "c") (path (codes "node") (dot (codes "children") ∷ [])) (with_as (name (codes "c")) (codes "node") (includes (codes "tree") ∷ []) ∷ []) ∷ [])) ∷ []

abbrev page : Shape
page = map_of (required (codes "node") branch no_others)

-- inside the loop, on a node of this shape
abbrev inside : Shape → Scope
inside s = record { names = name_shape (codes "node") (value_of s) ∷ name_shape (codes "loop") a_loop ∷ name_shape (codes "c") (value_of s) ∷ []; root = page }

-- deeper in nothing else is found by any name
abbrev inner_plan : List Planned
inner_plan = planned (codes "tree") (scope_over page) ∷ planned (codes "tree") (inside leaf) ∷ planned (codes "tree") (inside never) ∷ []

inner_closed : IsClosed declared (held inner_tree) inner_plan
inner_closed = ((refl, (((((refl, tt), tt), tt), tt), tt)), ((refl, (((((refl, tt), tt), tt), tt), tt)), ((refl, (((((refl, tt), tt), tt), tt), tt)), tt)))

inner_grown : AcceptedBy declared inner_plan (template (includes (codes "tree") ∷ [])) page
inner_grown = (refl, tt)
