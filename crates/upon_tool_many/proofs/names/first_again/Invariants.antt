use Rattle.upon_tool_many.specs.Names.{page_names}
use Rattle.upon_tool_many.proofs.Places.{PlacesSoFar}
use Rattle.upon_tool_many.proofs.names.first_again.Given as goal

abbrev pub invariant-loop-place : goal.invariant-loop-place
invariant-loop-place g l = PlacesSoFar (page_names l.pages) l.places l.place
