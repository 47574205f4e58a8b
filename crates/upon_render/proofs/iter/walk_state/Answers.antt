use Rattle.std.proofs.Common.{arith}
use Rattle.std.proofs.lemmas.Grind.{common_steps}
use Rattle.upon_render.proofs.iter.walk_state.Goals as goal

-- the search finds no proof of these, and takes long
pub state_field-requires-clause-span : goal.state_field-requires-clause-span
state_field-requires-clause-span = grind (arith, common_steps)

pub state_field-requires-in-len2-up-clause-span : goal.state_field-requires-in-len2-up-clause-span
state_field-requires-in-len2-up-clause-span = grind (arith, common_steps)

pub returns-in_err-value-in-len2-up : goal.returns-in_err-value-in-len2-up
returns-in_err-value-in-len2-up = grind (arith, common_steps)

pub index_into-requires : goal.index_into-requires
index_into-requires = grind (arith, common_steps)

pub returns-in_ok-state_map-in-empty : goal.returns-in_ok-state_map-in-empty
returns-in_ok-state_map-in-empty = grind (arith, common_steps)

pub returns-in-len1 : goal.returns-in-len1
returns-in-len1 = grind (arith, common_steps)

pub returns-in_ok-value-in-len2-up : goal.returns-in_ok-value-in-len2-up
returns-in_ok-value-in-len2-up = grind (arith, common_steps)
