-- Paths whose steps lie in a source.
use Rattle.std.specs.Prelude.{ℕ, List, [], ◌∷◌}
use Rattle.upon_types.specs.Path.{Member}
use Rattle.upon_types.specs.Span.{LiesIn}

-- each step lies in the source
abbrev pub MembersLieIn : List ℕ → List Member → Type 0
MembersLieIn source [] = Unit {0}
MembersLieIn source (member ∷ members) = LiesIn source member.span × MembersLieIn source members
