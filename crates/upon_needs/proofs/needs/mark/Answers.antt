use Rattle.std.proofs.Common.{rules, arith, ◌≡◌, ◌||◌, ◌<◌, ◌+◌, ◌∙◌, ap, sym, subst, bytes_eq, length, take}
use Rattle.std.specs.List.{list_any}
use Rattle.std.proofs.lemmas.List.{take_all, take_more}
use Rattle.upon_needs.specs.Names.{texts, has_name}
use Rattle.upon_needs.proofs.SearchSteps.{Marking, marking_none, mark_so, marked_by, or_nothing, seen_step}
use Rattle.upon_needs.proofs.needs.mark.Goals as goal

pub loop-name-init : goal.loop-name-init
loop-name-init c = record {
  seen = λ name. or_nothing (has_name c.args.seen.now name);
  marking = marking_none c.args.templates.now c.args.seen.now c.args.waiting.now.items;
}

pub loop-name-preserved : goal.loop-name-preserved
loop-name-preserved c =
    let names = c.args.names.now in
    let at = c.loop-name.name-index in
    let inside : at < length names = search rules in
    record {
      seen = λ name. seen_step c.args.seen.now c.loop-name.seen c.insert.new.self _ (take at names) (take (at + 1) names) name c.in_ok-is_new.ensures.updates (take_more names at _ inside) (c.loop-name.invariant.seen name);
      marking = subst (λ w. Marking c.args.templates.now c.args.seen.now c.insert.new.self c.args.waiting.now.items w) (sym c.in_ok-push_if.ensures) (mark_so c.args.templates.now c.args.seen.now c.loop-name.seen c.insert.new.self c.args.waiting.now.items c.loop-name.waiting.items _ c.loop-name.invariant.marking c.in_ok-is_new.ensures.updates c.in_ok-is_new.is_new c.contains_key-is_held.result c.in_ok-is_new.ensures.added c.contains_key-is_held.ensures);
    }

pub returns-clause-marked : goal.returns-clause-marked
returns-clause-marked c =
    let names = c.args.names.now in
    let whole : take c.loop-name.name-index names ≡ names = take_all c.loop-name.name-index names (omega (arith, c.loop-name-test.false)) in
    marked_by c.args.templates.now c.args.seen.now c.loop-name.seen c.args.waiting.now.items c.loop-name.waiting.items _ c.loop-name.invariant.marking (λ name. c.loop-name.invariant.seen name ∙ ap (λ l. has_name c.args.seen.now name || list_any (bytes_eq name) (texts l)) whole)

pub returns-clause-less : goal.returns-clause-less
returns-clause-less c = c.loop-name.invariant.marking.less
