-- Templates that are accepted on a shape, and some that are not.
use Rattle.std.proofs.Common.{pos, [], ◌∷◌, codes, refl}
use Rattle.upon_shape_spec.specs.Shape.{Shape, text_shape, integer_shape, optional, list_of, map_of, map_each, any_others, no_others}
use Rattle.upon_shape_spec.proofs.Written.{dot, maybe, maybe_index, dot_index, path, name, number, quote, list_literal, map_literal, filter_of, shows, show, if_true, if_not, for_each, for_entries, with_as, required, may_be, accepted}

-- a context with a user, who has a name and may have a nickname
abbrev user : Shape
user = map_of (required (codes "user") (map_of (required (codes "name") text_shape (may_be (codes "nick") text_shape no_others))) any_others)

-- and one with some texts, of which there may be none
abbrev maybe_texts : Shape
maybe_texts = map_of (required (codes "xs") (optional (list_of text_shape)) any_others)

abbrev texts : Shape
texts = map_of (required (codes "xs") (list_of text_shape) any_others)

-- `{{ user.name }}`
a_name : accepted (show (path (codes "user") (dot (codes "name") ∷ [])) ∷ []) user
a_name = (refl, tt)

-- `{{ user.nick }}`: it may be missing
a_nickname : accepted (show (path (codes "user") (dot (codes "nick") ∷ [])) ∷ []) user → ⊥
a_nickname h = let one = h.0 in cc

-- `{{ user?.nick }}`
maybe_a_nickname : accepted (show (path (codes "user") (maybe (codes "nick") ∷ [])) ∷ []) user
maybe_a_nickname = (refl, tt)

-- `{% if user?.nick %}{{ user.nick }}{% endif %}`
tested_nickname : accepted (if_true (path (codes "user") (maybe (codes "nick") ∷ [])) (show (path (codes "user") (dot (codes "nick") ∷ [])) ∷ []) ∷ []) user
tested_nickname = (((refl, tt), tt), tt)

-- `{% if not user?.nick %}{{ user.name }}{% else %}{{ user.nick }}{% endif %}`
nickname_or_name : accepted (if_not (path (codes "user") (maybe (codes "nick") ∷ [])) (show (path (codes "user") (dot (codes "name") ∷ [])) ∷ []) (show (path (codes "user") (dot (codes "nick") ∷ [])) ∷ []) ∷ []) user
nickname_or_name = (((refl, tt), (refl, tt)), tt)

-- `{{ user }}`: a map has no text
a_user : accepted (show (name (codes "user")) ∷ []) user → ⊥
a_user h = let one = h.0 in cc

-- `{% for x in xs %}{{ loop.index }}{{ x }}{% endfor %}`
each_text : accepted (for_each (codes "x") (name (codes "xs")) (show (path (codes "loop") (dot (codes "index") ∷ [])) ∷ show (name (codes "x")) ∷ []) ∷ []) texts
each_text = (((refl, (refl, tt)), tt), tt)

-- a `for` over what may be no list is not accepted
each_of_maybe : accepted (for_each (codes "x") (name (codes "xs")) (show (name (codes "x")) ∷ []) ∷ []) maybe_texts → ⊥
each_of_maybe h = h.0.0

-- `{% if xs %}{% for x in xs %}{{ x }}{% endfor %}{% endif %}`
each_if_there : accepted (if_true (name (codes "xs")) (for_each (codes "x") (name (codes "xs")) (show (name (codes "x")) ∷ []) ∷ []) ∷ []) maybe_texts
each_if_there = (((((refl, tt), tt), tt), tt), tt)

-- `{% for k, v in m %}{{ k }}{{ v }}{% endfor %}`
each_entry : accepted (for_entries (codes "k") (codes "v") (name (codes "m")) (show (name (codes "k")) ∷ show (name (codes "v")) ∷ []) ∷ []) (map_of (required (codes "m") (map_each integer_shape) no_others))
each_entry = (((refl, (refl, tt)), tt), tt)

-- `{{ xs.0 }}`: how long a list is isn't known
first_text : accepted (show (path (codes "xs") (dot_index 0 ∷ [])) ∷ []) texts → ⊥
first_text h = let one = h.0 in cc

-- `{{ xs?.0 }}`
maybe_first_text : accepted (show (path (codes "xs") (maybe_index 0 ∷ [])) ∷ []) texts
maybe_first_text = (refl, tt)

-- `{% with user.name as n %}{{ n }}{% endwith %}`
with_a_name : accepted (with_as (path (codes "user") (dot (codes "name") ∷ [])) (codes "n") (show (name (codes "n")) ∷ []) ∷ []) user
with_a_name = (((refl, tt), tt), tt)

-- `{% for x in [1, "a"] %}{{ x }}{% endfor %}`
list_of_two_kinds : accepted (for_each (codes "x") (list_literal (number (pos 1) ∷ quote (codes "a") ∷ [])) (show (name (codes "x")) ∷ []) ∷ []) user
list_of_two_kinds = (((refl, tt), tt), tt)

-- `{% with {"a": 1} as m %}{{ m.a }}{% endwith %}`
map_literal_key : accepted (with_as (map_literal ((codes "a", number (pos 1)) ∷ [])) (codes "m") (show (path (codes "m") (dot (codes "a") ∷ [])) ∷ []) ∷ []) user
map_literal_key = (((refl, tt), tt), tt)

-- `{{ user.name | upper }}`, where `upper` takes a text
a_filter : accepted (shows (filter_of (path (codes "user") (dot (codes "name") ∷ [])) (codes "upper")) ∷ []) user
a_filter = (refl, tt)

-- `{{ user | upper }}`
no_text_for_filter : accepted (shows (filter_of (name (codes "user")) (codes "upper")) ∷ []) user → ⊥
no_text_for_filter h = let one = h.0 in cc

-- `{{ user | debug }}`, where `debug` is a formatter of anything
a_formatter : accepted (shows (filter_of (name (codes "user")) (codes "debug")) ∷ []) user
a_formatter = (refl, tt)
