use Rattle.std.proofs.Common.{◌≡◌, map, take}
use Rattle.upon_types.specs.AstPath.{member_of}
use Rattle.upon_lookup.specs.Asked.{asked_path}
use Rattle.upon_lookup.specs.Source.{value_members_of}
use Rattle.upon_lookup.proofs.source.members.Given as goal

abbrev pub invariant-loop-one : goal.invariant-loop-one
invariant-loop-one l = asked_path l.members.items ≡ value_members_of (map member_of (take l.one-index l.path))
