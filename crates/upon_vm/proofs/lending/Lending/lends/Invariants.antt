use Rattle.std.proofs.Common.{◌≡◌, true, drop, map}
use Rattle.upon_types.specs.AstPath.{access_of}
use Rattle.upon_vm.specs.Lending.{lender_of, lenders_lend}
use Rattle.upon_vm.proofs.lending.Lending.lends.Given as goal

-- the blocks so far, and those to come
abbrev pub invariant-loop-lender : goal.invariant-loop-lender
invariant-loop-lender l =
    lenders_lend l.lent (map lender_of (drop l.lender-index l.lender-items)) (access_of l.fn.first) ≡ lenders_lend true (map lender_of l.lender-items) (access_of l.fn.first)
