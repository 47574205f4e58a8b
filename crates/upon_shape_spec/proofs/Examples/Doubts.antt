-- Where templates that are not accepted are in doubt.
use Rattle.std.proofs.Common.{◌≡◌, List, [], ◌∷◌, ◌++◌, false, codes, refl}
use Rattle.upon_types.specs.declared.types.Span.{Span}
use Rattle.upon_types.specs.declared.types.ast.path.AccessOp.TheVariants.{Direct}
use Rattle.upon_types.specs.Expression.{var}
use Rattle.upon_types.specs.Path.{Member, by_key}
use Rattle.upon_types.specs.Tree.{Statement}
use Rattle.upon_shape_spec.specs.Doubts.{Doubt, has_member, has_text, has_items, takes_values, doubt, statements_doubts}
use Rattle.upon_shape_spec.specs.Scope.{scope_over}
use Rattle.upon_shape_spec.specs.Shape.{Shape, text_shape, optional, list_of, map_of, no_others}
use Rattle.upon_shape_spec.proofs.Written.{nowhere, word, dot, path, name, filter_of, shows, show, for_each, statements, required, may_be, declared}

-- what is in doubt in statements, where nothing is included
abbrev doubts : List Statement → Shape → List Doubt
doubts ts s = statements_doubts declared (λ name scope. false) (scope_over s) (statements ts)

-- a user with a name, who may have a nickname, and perhaps some texts
abbrev user : Shape
user = map_of (required (codes "name") text_shape (may_be (codes "nick") text_shape no_others))

abbrev page : Shape
page = map_of (required (codes "user") user (required (codes "xs") (optional (list_of text_shape)) no_others))

-- `.nick`, where it is in a text
abbrev nick_at : Span → Member
nick_at at = record { op = Direct; access = by_key (word (codes "nick")); span = at }

-- `{{ user.nick }}`: the key of this user, at its span
no_nick : doubts (show (var (dot (codes "user")) (nick_at (record { m = 7; n = 12 }) ∷ [])) ∷ []) page ≡ doubt (record { m = 7; n = 12 }) (has_member user)
no_nick = refl

-- `{{ title }}`: the context has no such key
no_title : doubts (show (name (codes "title")) ∷ []) page ≡ doubt nowhere (has_member page)
no_title = refl

-- `{{ user }}`, `{{ user | upper }}` and a loop over what may be no list: three places, in their order
three_places : doubts (show (name (codes "user")) ∷ shows (filter_of (name (codes "user")) (codes "upper")) ∷ for_each (codes "x") (name (codes "xs")) [] ∷ []) page
    ≡ doubt nowhere (has_text user) ++ (doubt nowhere (takes_values (user ∷ [])) ++ doubt nowhere (has_items (optional (list_of text_shape))))
three_places = refl

-- `{{ user.name }}`: none
no_doubt : doubts (show (path (codes "user") (dot (codes "name") ∷ [])) ∷ []) page ≡ []
no_doubt = refl

-- `{% for x in user.nicks %}{{ x | upper }}{{ title }}{% endfor %}`: of an item of what may not be there nothing is in doubt, and the
-- body's own doubts are told
also_in_the_body : doubts (for_each (codes "x") (path (codes "user") (dot (codes "nicks") ∷ [])) (shows (filter_of (name (codes "x")) (codes "upper")) ∷ show (name (codes "title")) ∷ []) ∷ []) page
    ≡ doubt nowhere (has_member user) ++ doubt nowhere (has_member page)
also_in_the_body = refl
