use Rattle.std.proofs.Common.{◌≡◌, inl, subst, sym, ap, ◌∙◌, Ok, Err, true}
use Rattle.upon_types.specs.AstPath.{first_member, rest_members}
use Rattle.upon_types.specs.Cow.{cow_view}
use Rattle.upon_types.specs.Val.{Val}
use Rattle.upon_lookup.specs.Answer.{Answers, IsLent, Lends}
use Rattle.upon_lookup.specs.Environment.{root_environment}
use Rattle.upon_lookup.specs.Finding.{Finding, Reply}
use Rattle.upon_render.specs.Roots.{pure_root, root_lends, HasSource, OrOutOfMemory}
use Rattle.upon_lookup.specs.Settled.{SettledPath}
use Rattle.upon_render.specs.Stack.{stack_environment, root_of, frames_of, stack_lends}
use Rattle.upon_render.proofs.Searches.{some_known, none_known, error_known, lookup_answer, lookup_next, lookup_lends, lookup_in_root}
use Rattle.upon_render.proofs.stack.Stack.lookup_var.Goals as goal

pub returns-in-Ok-Some-clause-answer : goal.returns-in-Ok-Some-clause-answer
returns-in-Ok-Some-clause-answer g c ask q has =
    let stack = c.args.self.now in
    let first = first_member c.args.var.now in
    let rest = rest_members c.args.var.now in
    let root = pure_root (root_of stack) in
    let lent = root_lends (root_of stack) in
    let is = some_known c.args.source.now (root_environment root) lent (frames_of stack) c.as_slice.result.now first rest c.search.result _ _ c.as_slice.ensures.value c.in-Ok-Some.is c.in-Ok-Some.field-0-is (c.search.ensures (root_environment root) lent) in
    lookup_answer c.args.source.now ask (stack_environment stack) (stack_lends stack first.access) first rest q (Ok c.in-Ok-Some.found) is

pub returns-in-Ok-Some-clause-next : goal.returns-in-Ok-Some-clause-next
returns-in-Ok-Some-clause-next g c ask q has =
    let stack = c.args.self.now in
    let first = first_member c.args.var.now in
    let rest = rest_members c.args.var.now in
    let root = pure_root (root_of stack) in
    let lent = root_lends (root_of stack) in
    let is = some_known c.args.source.now (root_environment root) lent (frames_of stack) c.as_slice.result.now first rest c.search.result _ _ c.as_slice.ensures.value c.in-Ok-Some.is c.in-Ok-Some.field-0-is (c.search.ensures (root_environment root) lent) in
    let P : g.V.ValueSource.State → Type 0 = λ s. HasSource g.V.ValueSource.ask g.V.ValueSource.value_state (root_of stack) ask s in
    subst P (sym (lookup_next c.args.source.now ask (stack_environment stack) (stack_lends stack first.access) first rest q (Ok c.in-Ok-Some.found) is)) has

pub returns-in-Ok-Some-clause-lent : goal.returns-in-Ok-Some-clause-lent
returns-in-Ok-Some-clause-lent g c ask q lends =
    let stack = c.args.self.now in
    let first = first_member c.args.var.now in
    let rest = rest_members c.args.var.now in
    let root = pure_root (root_of stack) in
    let lent = root_lends (root_of stack) in
    let is = some_known c.args.source.now (root_environment root) lent (frames_of stack) c.as_slice.result.now first rest c.search.result _ _ c.as_slice.ensures.value c.in-Ok-Some.is c.in-Ok-Some.field-0-is (c.search.ensures (root_environment root) lent) in
    lookup_lends c.args.source.now ask (stack_environment stack) (stack_lends stack first.access) first rest q (Ok c.in-Ok-Some.found) is lends

pub returns-in-Err-clause-answer : goal.returns-in-Err-clause-answer
returns-in-Err-clause-answer g c ask q has =
    let stack = c.args.self.now in
    let first = first_member c.args.var.now in
    let rest = rest_members c.args.var.now in
    let root = pure_root (root_of stack) in
    let lent = root_lends (root_of stack) in
    let is = error_known c.args.source.now (root_environment root) lent (frames_of stack) c.as_slice.result.now first rest c.search.result _ c.as_slice.ensures.value c.in-Err.is (c.search.ensures (root_environment root) lent) in
    lookup_answer c.args.source.now ask (stack_environment stack) (stack_lends stack first.access) first rest q (Err c.in-Err.error) is

pub returns-in-Err-clause-next : goal.returns-in-Err-clause-next
returns-in-Err-clause-next g c ask q has =
    let stack = c.args.self.now in
    let first = first_member c.args.var.now in
    let rest = rest_members c.args.var.now in
    let root = pure_root (root_of stack) in
    let lent = root_lends (root_of stack) in
    let is = error_known c.args.source.now (root_environment root) lent (frames_of stack) c.as_slice.result.now first rest c.search.result _ c.as_slice.ensures.value c.in-Err.is (c.search.ensures (root_environment root) lent) in
    let P : g.V.ValueSource.State → Type 0 = λ s. HasSource g.V.ValueSource.ask g.V.ValueSource.value_state (root_of stack) ask s in
    inl (subst P (sym (lookup_next c.args.source.now ask (stack_environment stack) (stack_lends stack first.access) first rest q (Err c.in-Err.error) is)) has)

pub returns-in-Err-clause-lent : goal.returns-in-Err-clause-lent
returns-in-Err-clause-lent g c ask q lends =
    let stack = c.args.self.now in
    let first = first_member c.args.var.now in
    let rest = rest_members c.args.var.now in
    let root = pure_root (root_of stack) in
    let lent = root_lends (root_of stack) in
    let is = error_known c.args.source.now (root_environment root) lent (frames_of stack) c.as_slice.result.now first rest c.search.result _ c.as_slice.ensures.value c.in-Err.is (c.search.ensures (root_environment root) lent) in
    lookup_lends c.args.source.now ask (stack_environment stack) (stack_lends stack first.access) first rest q (Err c.in-Err.error) is lends

pub returns-in-Ok-None-clause-answer : goal.returns-in-Ok-None-clause-answer
returns-in-Ok-None-clause-answer g c ask q has =
    let stack = c.args.self.now in
    let first = first_member c.args.var.now in
    let rest = rest_members c.args.var.now in
    let root = pure_root (root_of stack) in
    let lent = root_lends (root_of stack) in
    let is = none_known c.args.source.now (root_environment root) lent (frames_of stack) c.as_slice.result.now first rest c.search.result _ c.as_slice.ensures.value c.in-Ok-None.is c.in-Ok-None.field-0-is (c.search.ensures (root_environment root) lent) in
    let e = lookup_in_root ask (stack_environment stack) root (stack_lends stack first.access) lent first rest q is in
    let P : Reply g.V.ValueSource.State (Finding Val) → Type 0 = λ s. Answers cow_view c.args.source.now s.answer c.lookup_root.result in
    subst P (sym e) (c.lookup_root.ensures.answer ask q has)

pub returns-in-Ok-None-clause-next : goal.returns-in-Ok-None-clause-next
returns-in-Ok-None-clause-next g c ask q has =
    let stack = c.args.self.now in
    let first = first_member c.args.var.now in
    let rest = rest_members c.args.var.now in
    let root = pure_root (root_of stack) in
    let lent = root_lends (root_of stack) in
    let is = none_known c.args.source.now (root_environment root) lent (frames_of stack) c.as_slice.result.now first rest c.search.result _ c.as_slice.ensures.value c.in-Ok-None.is c.in-Ok-None.field-0-is (c.search.ensures (root_environment root) lent) in
    let e = lookup_in_root ask (stack_environment stack) root (stack_lends stack first.access) lent first rest q is in
    let P : Reply g.V.ValueSource.State (Finding Val) → Type 0 = λ s. OrOutOfMemory c.lookup_root.result (HasSource g.V.ValueSource.ask g.V.ValueSource.value_state c.lookup_root.new.root ask s.next) in
    subst P (sym e) (c.lookup_root.ensures.next ask q has)

pub returns-in-Ok-None-clause-lent : goal.returns-in-Ok-None-clause-lent
returns-in-Ok-None-clause-lent g c ask q lends =
    let stack = c.args.self.now in
    let first = first_member c.args.var.now in
    let rest = rest_members c.args.var.now in
    let root = pure_root (root_of stack) in
    let lent = root_lends (root_of stack) in
    let is = none_known c.args.source.now (root_environment root) lent (frames_of stack) c.as_slice.result.now first rest c.search.result _ c.as_slice.ensures.value c.in-Ok-None.is c.in-Ok-None.field-0-is (c.search.ensures (root_environment root) lent) in
    let e = lookup_in_root ask (stack_environment stack) root (stack_lends stack first.access) lent first rest q is in
    let P : Reply g.V.ValueSource.State (Finding Val) → Type 0 = λ s. Lends IsLent s.answer c.lookup_root.result in
    let root_is : lent ≡ true = sym (ap (λ (k : SettledPath). k.is_lent) is) ∙ lends in
    subst P (sym e) (c.lookup_root.ensures.lent ask q root_is)
