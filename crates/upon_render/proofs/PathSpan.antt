-- Where a path lies, of which each step lies in a source.
use Rattle.std.proofs.Common.{ℕ, List, [], ◌∷◌}
use Rattle.upon_types.specs.Path.{Member, last_member, path_span}
use Rattle.upon_types.specs.Span.{LiesIn}
use Rattle.upon_types.proofs.CombinedSpans.{combined_lies_in}
use Rattle.upon_lookup.specs.PathSpans.{MembersLieIn}

last_step_lies_in : (source : List ℕ) (first : Member) (rest : List Member) → LiesIn source first.span → MembersLieIn source rest → LiesIn source (last_member first rest).span
last_step_lies_in source first [] lies lie = lies
last_step_lies_in source first (step ∷ steps) lies lie = last_step_lies_in source step steps lie.0 lie.1

pub path_span_lies_in : (source : List ℕ) (first : Member) (rest : List Member) → MembersLieIn source (first ∷ rest) → LiesIn source (path_span first rest)
path_span_lies_in source first rest lie = combined_lies_in source first.span (last_member first rest).span lie.0 (last_step_lies_in source first rest lie.0 lie.1)
