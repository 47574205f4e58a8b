use Rattle.std.proofs.Common.{◌≡◌, ◌+◌, ◌-◌, ℕ, length, vec_len, get_or, refl, arith}
use Rattle.upon_types.proofs.Walks.{goes-on, goes-out}
use Rattle.upon_types.proofs.value.walk.Walk.go_on.Goals.{then-is_none, else-is_none}
use Rattle.upon_types.proofs.value.walk.Walk.go_on.Goals as goal

pub returns : goal.returns
returns c =
    let old = c.args.self.now.inside.items in
    let n : ℕ = vec_len c.args.self.now.inside - 1 in
    let before = c.in_ok-innermost.innermost.now in
    let inner = c.step.new.self in
    let at : n + 1 ≡ length old = omega (arith, c.in_ok-innermost.ensures.item) in
    let is_last : before ≡ get_or old n before = c.in_ok-innermost.ensures.value in
    elim c.if-is_none.branch [
      | then-is_none w ↦ rw w.self-is (goes-out _ _ old w.pop.new.self.items n before inner _ c.requires at is_last c.step.ensures w.if-is_none.ensures w.pop.ensures.rest)
      | else-is_none w ↦ rw w.self-is (goes-on _ _ old _ n before inner _ c.requires at is_last c.step.ensures w.if-is_none.ensures refl)
    ]
