use Rattle.std.proofs.Common.{ℕ, List}
use Rattle.upon_types.specs.Val.{entry_at, key_of}
use Rattle.upon_types.specs.View.{view, entries_view}
use Rattle.upon_schema.specs.Valid.{IsThere}
use Rattle.upon_schema.proofs.keywords.check_keywords.Given as goal

-- each keyword to come is one of the schema
abbrev pub invariant-loop-keyword : goal.invariant-loop-keyword
invariant-loop-keyword l =
    (key : List ℕ) → IsThere (entry_at key (entries_view l.keyword-iterator)) → IsThere (key_of key (view l.schema))
