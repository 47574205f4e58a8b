use Rattle.std.proofs.Common.{◌≡◌, drop}
use Rattle.upon_schema.specs.Reference.{spelled}
use Rattle.upon_schema.proofs.reference.is_spelled.Given as goal

-- what is left spells the bytes to come just if all is spelled
abbrev pub invariant-loop-byte : goal.invariant-loop-byte
invariant-loop-byte l = record {
  all : l.rest ≡ spelled (drop l.byte-index l.key) → l.name ≡ spelled l.key;
  each : l.name ≡ spelled l.key → l.rest ≡ spelled (drop l.byte-index l.key);
}
