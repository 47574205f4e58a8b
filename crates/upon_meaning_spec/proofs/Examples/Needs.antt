-- Names that are read and needed, read and not needed, and needed through an include.
use Rattle.std.proofs.Common.{◌≡◌, ℕ, List, [], ◌∷◌, Some, None, inl, inr, refl, codes}
use Rattle.upon_types.specs.Expression.{base}
use Rattle.upon_types.specs.Path.{item}
use Rattle.upon_types.specs.Tree.{include, for_loop, with, Statements, no_else, otherwise}
use Rattle.upon_meaning_spec.specs.Engine.{Template, Table}
use Rattle.upon_meaning_spec.specs.Names.{StatementsRead}
use Rattle.upon_meaning_spec.proofs.Examples.ShortContexts.{word, quoted, name, statements, shows}
use Rattle.upon_meaning_spec.specs.Needs.{a_name, NeedsBy, NeedsName}

-- `{% for x in xs %}{{ x }}{{ loop }}{% endfor %}`
abbrev loop_tree : Statements
loop_tree = statements (for_loop (item (word 7 (codes "x"))) (base (name 12 (codes "xs"))) (statements (shows 17 24 (name 20 (codes "x")) ∷ (shows 24 34 (name 27 (codes "loop")) ∷ []))) no_else ∷ [])

-- it needs `xs`
loop_needs_xs : (table : Table) → NeedsName table loop_tree (codes "xs")
loop_needs_xs table = ([], inl (inl refl))

-- it reads `x`, and needs it not
loop_reads_x : StatementsRead (codes "x") loop_tree
loop_reads_x = inl (inr (inl (inl refl)))

x_bound : (table : Table) (names : List (List ℕ)) → NeedsBy table loop_tree names (a_name (codes "x")) → ⊥
x_bound table [] (inl (inl same)) = absurd (cc)
x_bound table [] (inl (inr (inl (free, begins)))) = free (inr (inl refl))
x_bound table [] (inl (inr (inr none))) = none
x_bound table [] (inr none) = none
x_bound table (via ∷ names) (inl (inl (free, passes)), more) = free (inr (inl refl))
x_bound table (via ∷ names) (inl (inr none), more) = none
x_bound table (via ∷ names) (inr none, more) = none

loop_needs_no_x : (table : Table) → NeedsName table loop_tree (codes "x") → ⊥
loop_needs_no_x table (names, by) = x_bound table names by

-- `{% for x in xs %}{% else %}{{ x }}{% endfor %}` needs `x`
else_needs_x : (table : Table) → NeedsName table (statements (for_loop (item (word 7 (codes "x"))) (base (name 12 (codes "xs"))) (statements []) (otherwise (statements (shows 27 34 (name 30 (codes "x")) ∷ []))) ∷ [])) (codes "x")
else_needs_x table = ([], inl (inr (inr (inl refl))))

-- `{% with a as a %}{{ a }}{% endwith %}` needs `a`
with_needs_a : (table : Table) → NeedsName table (statements (with (base (name 8 (codes "a"))) (word 13 (codes "a")) (statements (shows 17 24 (name 20 (codes "a")) ∷ [])) ∷ [])) (codes "a")
with_needs_a table = ([], inl (inl refl))

-- t = `{{ a }}`: `{% include "t" %}` needs `a`
abbrev one : Template
one = record { source = codes "{{ a }}"; tree = statements (shows 0 7 (name 3 (codes "a")) ∷ []) }

include_needs_a : (table : Table) → table (codes "t") ≡ Some one → NeedsName table (statements (include (quoted 11 (codes "t")) None ∷ [])) (codes "a")
include_needs_a table holds = (codes "t" ∷ [], (inl refl, (one, holds, inl refl)))

-- `{% with user as a %}{% include "t" %}{% endwith %}` needs no `a`, whatever t is
bound_include : (table : Table) (names : List (List ℕ)) → NeedsBy table (statements (with (base (name 8 (codes "user"))) (word 16 (codes "a")) (statements (include (quoted 31 (codes "t")) None ∷ [])) ∷ [])) names (a_name (codes "a")) → ⊥
bound_include table [] (inl (inl same)) = absurd (cc)
bound_include table [] (inl (inr (inl (free, begins)))) = free (inl refl)
bound_include table [] (inl (inr (inr none))) = none
bound_include table [] (inr none) = none
bound_include table (via ∷ names) (inl (inl (free, passes)), more) = free (inl refl)
bound_include table (via ∷ names) (inl (inr none), more) = none
bound_include table (via ∷ names) (inr none, more) = none
