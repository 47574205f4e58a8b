-- Templates under other delimiters, and what they give. Of the delimiters, only their spans are left in a tree.
use Rattle.std.proofs.Common.{◌≡◌, pos, [], ◌∷◌, false, refl, codes}
use Rattle.upon_types.specs.Expression.{base}
use Rattle.upon_types.specs.Tree.{if_else, no_else}
use Rattle.upon_types.specs.Val.{none_val, int_val}
use Rattle.upon_meaning_spec.proofs.Computing.{computing}
use Rattle.upon_meaning_spec.proofs.Examples.ShortContexts.{name, number, statements, shows, text, map_of, template, engine, rendered, gives}

-- `%% a -%%` on {a: 1}, where `%%` begins and ends an expression: the end has the hyphen
equal_delimiters : rendered (engine [] []) (template (codes "%% a -%%") (shows 0 8 (name 3 (codes "a")) ∷ [])) (map_of ((codes "a", int_val (pos 1)) ∷ [])) ≡ gives (codes "1")
unfolding computing
equal_delimiters = refl

-- `<% 1 %>   <%- 2 %> `, where `<%` begins an expression, and `%> ` ends it
blank_in_end : rendered (engine [] []) (template (codes "<% 1 %>   <%- 2 %> ") (shows 0 8 (number 3 4 (pos 1)) ∷ text 8 8 ∷ shows 10 19 (number 14 15 (pos 2)) ∷ [])) none_val ≡ gives (codes "12")
unfolding computing
blank_in_end = refl

-- `< a <<` on {a: 1}, where `<` begins an expression, and `<<` ends it
longest_is_best : rendered (engine [] []) (template (codes "< a <<") (shows 0 6 (name 2 (codes "a")) ∷ [])) (map_of ((codes "a", int_val (pos 1)) ∷ [])) ≡ gives (codes "1")
unfolding computing
longest_is_best = refl

-- `- 1 --`, where `-` begins an expression, and `--` ends it
first_is_best : rendered (engine [] []) (template (codes "- 1 --") (shows 0 6 (number 2 3 (pos 1)) ∷ [])) none_val ≡ gives (codes "1")
unfolding computing
first_is_best = refl

-- `- 1 ---` under the same: the end has the hyphen
end_with_hyphen : rendered (engine [] []) (template (codes "- 1 ---") (shows 0 7 (number 2 3 (pos 1)) ∷ [])) none_val ≡ gives (codes "1")
unfolding computing
end_with_hyphen = refl

-- `a  < 1 >`, where ` <` begins an expression, and `>` ends it
blank_in_begin : rendered (engine [] []) (template (codes "a  < 1 >") (text 0 2 ∷ shows 2 8 (number 5 6 (pos 1)) ∷ [])) none_val ≡ gives (codes "a 1")
unfolding computing
blank_in_begin = refl

-- `a  <- 1 >` under the same
blank_in_begin_with_hyphen : rendered (engine [] []) (template (codes "a  <- 1 >") (text 0 1 ∷ shows 2 9 (number 6 7 (pos 1)) ∷ [])) none_val ≡ gives (codes "a1")
unfolding computing
blank_in_begin_with_hyphen = refl

-- `<[ if a ]><{ a }><[ endif ]>{{ a }}` on {a: 1}, where expressions are in `<{` and `}>`, and blocks in `<[` and `]>`
usual_braces_are_text : rendered (engine [] []) (template (codes "<[ if a ]><{ a }><[ endif ]>{{ a }}") (if_else false (base (name 6 (codes "a"))) (statements (shows 10 17 (name 13 (codes "a")) ∷ [])) no_else ∷ text 28 35 ∷ [])) (map_of ((codes "a", int_val (pos 1)) ∷ [])) ≡ gives (codes "1{{ a }}")
unfolding computing
usual_braces_are_text = refl

-- `(( if u ))<? u ?>(( endif ))` on {u: 1}, where expressions are in `<?` and `?>`, and blocks in `((` and `))`
parentheses_around_blocks : rendered (engine [] []) (template (codes "(( if u ))<? u ?>(( endif ))") (if_else false (base (name 6 (codes "u"))) (statements (shows 10 17 (name 13 (codes "u")) ∷ [])) no_else ∷ [])) (map_of ((codes "u", int_val (pos 1)) ∷ [])) ≡ gives (codes "1")
unfolding computing
parentheses_around_blocks = refl

-- `{{ a }}` where there are no delimiters
no_delimiters : rendered (engine [] []) (template (codes "{{ a }}") (text 0 7 ∷ [])) (map_of ((codes "a", int_val (pos 1)) ∷ [])) ≡ gives (codes "{{ a }}")
unfolding computing
no_delimiters = refl
