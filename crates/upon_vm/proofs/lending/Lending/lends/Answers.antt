use Rattle.std.proofs.Common.{◌≡◌, ◌∙◌, [], true, drop, map, ap, sym, arith}
use Rattle.std.proofs.lemmas.List.{drop_all}
use Rattle.upon_types.specs.AstPath.{access_of}
use Rattle.upon_vm.specs.Lending.{lender_of, lenders_lend}
use Rattle.upon_vm.proofs.lending.Lending.lends.Goals as goal

pub returns : goal.returns
returns c =
    let items = c.deref-lender-items.result.now in
    let first = access_of c.args.first.now in
    let none : drop c.loop-lender.lender-index items ≡ [] = drop_all c.loop-lender.lender-index items (omega (arith, c.loop-lender-test.false)) in
    sym (ap (λ ls. lenders_lend c.loop-lender.lent (map lender_of ls) first) none)
    ∙ c.loop-lender.invariant
    ∙ ap (λ ls. lenders_lend true (map lender_of ls) first) c.deref-lender-items.ensures.value
