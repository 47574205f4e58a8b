use Rattle.upon_engine.proofs.compile.with_name.Goals as goal

pub returns-in-Err-clause-fault : goal.returns-in-Err-clause-fault
returns-in-Err-clause-fault c = c.named.ensures.fault _ _ c.in-Err.ensures.fault

pub returns-in-Err-clause-no_tree : goal.returns-in-Err-clause-no_tree
returns-in-Err-clause-no_tree c kind tree has = c.in-Err.ensures.no_tree (c.named.ensures.kind kind) tree has
