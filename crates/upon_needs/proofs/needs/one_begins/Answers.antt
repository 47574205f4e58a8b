use Rattle.std.proofs.Common.{rules, ◌≡◌, ◌∷◌, ◌++◌}
use Rattle.upon_needs.specs.EngineNeeds.{start_of}
use Rattle.upon_engine.specs.Engine.{table_in}
use Rattle.upon_needs.proofs.Begun.{none_begin, none_more, one_found, none_found}
use Rattle.upon_needs.proofs.SetsOfNames.{taken_on}
use Rattle.upon_needs.proofs.needs.one_begins.Goals as goal

pub loop-name-init : goal.loop-name-init
loop-name-init c = (search rules, none_begin (table_in c.args.templates.now) (start_of c.args.start))

pub loop-name-preserved : goal.loop-name-preserved
loop-name-preserved c =
    (taken_on _ _ _ _ _ c.in-Some.ensures.steps c.loop-name.invariant.0, none_more _ _ _ _ c.begins_in.result c.loop-name.invariant.1 c.begins_in.ensures c.if-begins_in.false)

pub returns-then-begins_in : goal.returns-then-begins_in
returns-then-begins_in c =
    let all : c.loop-name.yielded ++ c.in-Some.name ∷ c.next.new.self ≡ c.args.names.keys = search rules in
    one_found _ _ c.args.names c.loop-name.yielded c.next.new.self c.in-Some.name c.begins_in.result all c.begins_in.ensures c.if-begins_in.true

pub returns : goal.returns
returns c =
    let all : c.loop-name.yielded ≡ c.args.names.keys = search rules in
    none_found _ _ c.args.names c.loop-name.yielded all c.loop-name.invariant.1
