use Rattle.upon_engine.proofs.OldTrees.{answered_keeps, refused_had_none}
use Rattle.upon_engine.proofs.engine.Engine.compile.Goals as goal

pub returns-clause-kept : goal.returns-clause-kept
returns-clause-kept g c = answered_keeps _ _ _ c.with_searcher.ensures.only_tree

pub returns-clause-accepted : goal.returns-clause-accepted
returns-clause-accepted g c = refused_had_none _ _ _ c.with_searcher.ensures.no_tree
