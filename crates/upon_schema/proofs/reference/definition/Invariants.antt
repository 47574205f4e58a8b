use Rattle.std.proofs.Common.{◌≡◌, ℕ, List, Some}
use Rattle.upon_types.specs.Val.{entry_at, key_of}
use Rattle.upon_types.specs.View.{view, entries_view}
use Rattle.upon_schema.specs.Counted.{spelled_entry}
use Rattle.upon_schema.specs.Reference.{spelled}
use Rattle.upon_schema.specs.Valid.{entries_or_none}
use Rattle.upon_schema.proofs.reference.definition.Given as goal

-- the entries to come decide what is at a key that is spelled so
abbrev pub invariant-loop-key : goal.invariant-loop-key
invariant-loop-key l = record {
  found : spelled_entry l.name (entries_view l.key-iterator) ≡ spelled_entry l.name (entries_or_none (Some (view l.definitions)));
  at_key : (key : List ℕ) → l.name ≡ spelled key → entry_at key (entries_view l.key-iterator) ≡ key_of key (view l.definitions);
}
