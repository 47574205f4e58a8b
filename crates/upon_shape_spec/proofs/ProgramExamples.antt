-- What walks along small programs doubt.
use Rattle.std.proofs.Common.{◌≡◌, pos, List, [], ◌∷◌, ◌++◌, false, codes, refl}
use Rattle.upon_types.specs.Tree.{Statement}
use Rattle.upon_machine_spec.specs.Code.{program_of}
use Rattle.upon_machine_spec.specs.Instr.{jump}
use Rattle.upon_shape_spec.specs.Doubts.{Doubt, doubt, has_member, takes_values}
use Rattle.upon_shape_spec.specs.Join.{join_shapes}
use Rattle.upon_shape_spec.specs.Scope.{Scope, scope_over}
use Rattle.upon_shape_spec.specs.Shape.{Shape, text_shape, integer_shape, map_of, no_others}
use Rattle.upon_shape_spec.proofs.Written.{nowhere, dot, maybe, path, name, number, quote, list_literal, filter_of, shows, show, if_true, if_not, for_each, required, may_be, declared}
use Rattle.upon_shape_spec.proofs.Written.{statements as tree}
use Rattle.upon_shape_spec.specs.Known.{known, known_at_begin, other_to, body_to}
use Rattle.upon_shape_spec.specs.ProgramDoubts.{known_after, program_doubts}

-- what a walk along the program of these statements doubts, where nothing is included
abbrev doubts : List Statement → Shape → List Doubt
doubts ts s = program_doubts declared (λ name scope. false) 0 (known_at_begin (scope_over s)) (program_of (tree ts))

-- a context with a user, who has a name and may have a nickname
abbrev user : Shape
user = map_of (required (codes "name") text_shape (may_be (codes "nick") text_shape no_others))

abbrev page : Shape
page = map_of (required (codes "user") user no_others)

abbrev nick : Statement
nick = show (path (codes "user") (dot (codes "nick") ∷ []))

-- `{% if user?.nick %}{{ user.nick }}{% endif %}`: none
tested : doubts (if_true (path (codes "user") (maybe (codes "nick") ∷ [])) (nick ∷ []) ∷ []) page ≡ []
tested = refl

-- `{% if not user?.nick %}{{ user.nick }}{% else %}{{ user.nick }}{% endif %}{{ user.nick }}`: in the body and after the end
but_in_one_case : doubts (if_not (path (codes "user") (maybe (codes "nick") ∷ [])) (nick ∷ []) (nick ∷ []) ∷ nick ∷ []) page ≡ doubt nowhere (has_member user) ++ doubt nowhere (has_member user)
but_in_one_case = refl

-- `{% if user?.nick %}{% if not user %}{% else %}{% endif %}{% endif %}{{ user.nick }}`: both blocks end at once
both_end : doubts (if_true (path (codes "user") (maybe (codes "nick") ∷ [])) (if_not (name (codes "user")) [] [] ∷ []) ∷ nick ∷ []) page ≡ doubt nowhere (has_member user)
both_end = refl

-- `{% for x in user.nicks %}{{ x | upper }}{{ title }}{% endfor %}`: of what may not be there nothing more is in doubt
told_once : doubts (for_each (codes "x") (path (codes "user") (dot (codes "nicks") ∷ [])) (shows (filter_of (name (codes "x")) (codes "upper")) ∷ show (name (codes "title")) ∷ []) ∷ []) page
    ≡ doubt nowhere (has_member user) ++ doubt nowhere (has_member page)
told_once = refl

-- `{% for x in ["a", 1] %}{{ x | upper }}{% endfor %}`: each is a text or an integer
of_two_kinds : doubts (for_each (codes "x") (list_literal (quote (codes "a") ∷ number (pos 1) ∷ [])) (shows (filter_of (name (codes "x")) (codes "upper")) ∷ []) ∷ []) page
    ≡ doubt nowhere (takes_values (join_shapes text_shape integer_shape ∷ []))
of_two_kinds = refl

-- at the end of a body: the other case
to_the_other_case : (s t outer : Scope) → known_after declared (λ name scope. false) 4 (known [] s (body_to 5 t outer ∷ [])) (jump 7) ≡ known [] t (other_to 7 outer ∷ [])
to_the_other_case s t outer = refl

-- at the end of a body whose other case is empty: past both, with what was known around them
past_both : (s t outer : Scope) → known_after declared (λ name scope. false) 4 (known [] s (body_to 5 t outer ∷ [])) (jump 5) ≡ known [] outer []
past_both s t outer = refl
