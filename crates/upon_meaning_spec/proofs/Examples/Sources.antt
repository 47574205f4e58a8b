-- Renderings with a value source or a template source, and what they give.
use Rattle.std.proofs.Common.{◌≡◌, ℕ, ◌+◌, pos, List, [], ◌∷◌, Option, Some, None, true, false, refl, codes}
use Rattle.upon_types.specs.Expression.{base, var, list}
use Rattle.upon_types.specs.Fault.{render, fault_with_name, fault_with_picture}
use Rattle.upon_types.specs.Path.{item}
use Rattle.upon_types.specs.Tree.{include, for_loop, no_else}
use Rattle.upon_types.specs.Val.{Val, none_val, int_val, text_val}
use Rattle.upon_lookup.specs.Environment.{context, value_source}
use Rattle.upon_lookup.specs.Finding.{Reply, reply}
use Rattle.upon_lookup.specs.Source.{SourceAnswer, says, refuses, ValueMember, key}
use Rattle.upon_meaning_spec.specs.Alone.{alone}
use Rattle.upon_meaning_spec.specs.Engine.{Template, rendering_of, rendering_by}
use Rattle.upon_meaning_spec.specs.Outcome.{good, fails, states}
use Rattle.upon_meaning_spec.proofs.Computing.{computing}
use Rattle.upon_meaning_spec.proofs.Examples.ShortContexts.{at, word, quoted, first, name, dot, maybe, number, bases, statements, shows, text, map_of, template, held, engine, no_source, fault_at}

-- a value source that keeps the paths that it was asked for, and refuses
keeps : List (List ValueMember) → List ValueMember → Reply (List (List ValueMember)) (SourceAnswer Val)
keeps asked path = reply (refuses (codes "no user")) (path ∷ asked)

-- `{{ user?.name }}`: the whole path is asked for, once
asked_once : alone (rendering_of {T = Unit {0}} (engine [] []) keeps None) (template (codes "{{ user?.name }}") (shows 0 16 (var (first 3 (codes "user")) (maybe 7 (codes "name") ∷ [])) ∷ [])) None value_source (states [] tt) ≡ record { text = []; end = fails (fault_with_picture (codes "{{ user?.name }}") (fault_at render (codes "no user") 3 13)); next = states ((record { is_optional = false; access = key (codes "user") } ∷ record { is_optional = true; access = key (codes "name") } ∷ []) ∷ []) tt }
unfolding computing keeps
asked_once = refl

-- a value source that answers 1, 2 and so on in turn; its state is how often it was asked
in_turn : ℕ → List ValueMember → Reply ℕ (SourceAnswer Val)
in_turn asked path = reply (says (int_val (pos (asked + 1)))) (asked + 1)

-- `{{ a }}{% for a in [9] %}{{ a }}{% endfor %}{{ a }}`: it is asked twice, as the loop binds the name
asked_twice : alone (rendering_of {T = Unit {0}} (engine [] []) in_turn None) (template (codes "{{ a }}{% for a in [9] %}{{ a }}{% endfor %}{{ a }}") (shows 0 7 (name 3 (codes "a")) ∷ for_loop (item (word 14 (codes "a"))) (base (list (bases (number 20 21 (pos 9) ∷ [])) (at 19 22))) (statements (shows 25 32 (name 28 (codes "a")) ∷ [])) no_else ∷ shows 44 51 (name 47 (codes "a")) ∷ [])) None value_source (states 0 tt) ≡ record { text = codes "192"; end = good; next = states 2 tt }
unfolding computing in_turn
asked_twice = refl

-- t = `{{ a }}`, in `{% include "t" with 5 %}`: it is never asked
never_asked : alone (rendering_of {T = Unit {0}} (engine ((codes "t", template (codes "{{ a }}") (shows 0 7 (name 3 (codes "a")) ∷ [])) ∷ []) []) in_turn None) (template (codes "{% include \"t\" with 5 %}") (include (quoted 11 (codes "t")) (Some (base (number 20 21 (pos 5)))) ∷ [])) None value_source (states 0 tt) ≡ record { text = []; end = fails (fault_with_name (codes "t") (fault_with_picture (codes "{{ a }}") (fault_at render (codes "not found in this scope") 3 4))); next = states 0 tt }
unfolding computing in_turn
never_asked = refl

-- a template source over two templates, which counts what it is asked
hello : Template
hello = template (codes "Hello {{ user.name }}!") (text 0 6 ∷ shows 6 21 (var (first 9 (codes "user")) (dot 13 (codes "name") ∷ [])) ∷ text 21 22 ∷ [])

goodbye : Template
goodbye = template (codes "Goodbye {{ user.name }}!") (text 0 8 ∷ shows 8 23 (var (first 11 (codes "user")) (dot 15 (codes "name") ∷ [])) ∷ text 23 24 ∷ [])

answered : Option Template → SourceAnswer Template
answered (Some t) = says t
answered None = refuses (codes "template not found")

counts : ℕ → List ℕ → Reply ℕ (SourceAnswer Template)
counts n name = reply (answered (held ((codes "hello", hello) ∷ (codes "goodbye", goodbye) ∷ []) name)) (n + 1)

-- `{% include "hello" %}`, a new line, `{% include "goodbye" %}`
two_included : alone (rendering_by (engine [] []) no_source counts None) (template (codes "{% include \"hello\" %}\n{% include \"goodbye\" %}") (include (quoted 11 (codes "hello")) None ∷ text 21 22 ∷ include (quoted 33 (codes "goodbye")) None ∷ [])) None (context (map_of ((codes "user", map_of ((codes "name", text_val (codes "John Smith")) ∷ [])) ∷ []))) (states tt 0) ≡ record { text = codes "Hello John Smith!\nGoodbye John Smith!"; end = good; next = states tt 2 }
unfolding computing hello goodbye answered counts
two_included = refl

-- `{% include "x" %}`
not_answered : alone (rendering_by (engine [] []) no_source counts None) (template (codes "{% include \"x\" %}") (include (quoted 11 (codes "x")) None ∷ [])) None (context none_val) (states tt 0) ≡ record { text = []; end = fails (fault_with_picture (codes "{% include \"x\" %}") (fault_at render (codes "template not found") 11 14)); next = states tt 1 }
unfolding computing answered counts
not_answered = refl
