use Rattle.std.proofs.Common.{◌≡◌, drop}
use Rattle.std.specs.List.{list_any}
use Rattle.upon_needs.specs.OpenBlocks.{binds_name, blocks}
use Rattle.upon_needs.proofs.template_names.is_bound.Given as goal

abbrev pub invariant-loop-block : goal.invariant-loop-block
invariant-loop-block l = list_any (binds_name l.name) (blocks (drop l.block-index l.opened)) ≡ list_any (binds_name l.name) (blocks l.opened)
