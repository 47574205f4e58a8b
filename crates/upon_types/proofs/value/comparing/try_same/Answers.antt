-- proofs/value/comparing/try_same/Answers.antt
use Rattle.std.proofs.Common.{◌≡◌, ◌+◌, ◌-◌, ◌&&◌, ◌∙◌, ℕ, length, vec_len, get_or, ap, sym, arith}
use Rattle.upon_types.specs.Comparing.{agree_all}
use Rattle.upon_types.specs.View.{view}
use Rattle.upon_types.proofs.Comparing.{goes-on, less-on, goes-out, less-out, differs, first_met, all_done}
use Rattle.upon_types.proofs.ValueEquality.{part_by_part}
use Rattle.upon_types.proofs.value.comparing.try_same.Goals as goal

pub returns-then-not-branch : goal.returns-then-not-branch
returns-then-not-branch c =
    let all = c.meet.new.inside.items in
    ap (λ b. b && agree_all all) (sym c.if-not-branch.true)
    ∙ first_met (view c.args.a.now) (view c.args.b.now) _ all _ c.new-inside.ensures.items c.in_ok-meet.ensures.agrees
    ∙ part_by_part (view c.args.a.now) (view c.args.b.now)

pub returns-then-not-branch-2 : goal.returns-then-not-branch-2
returns-then-not-branch-2 c =
    let old = c.loop-innermost.inside.items in
    let n : ℕ = vec_len c.loop-innermost.inside - 1 in
    let before = c.in-Some.innermost.now in
    let at : n + 1 ≡ length old = omega (arith, c.in-Some.ensures.item) in
    let is_last : before ≡ get_or old n before = c.in-Some.ensures.value in
    ap (λ b. b && agree_all c.meet-in-Both.new.inside.items) (sym c.if-not-branch-2.true)
    ∙ c.in_ok-meet-in-Both.ensures.agrees
    ∙ goes-on old n before c.step.new.self c.in-Both.x c.in-Both.y at is_last c.in-Both.ensures.agrees
    ∙ c.loop-innermost.invariant
    ∙ part_by_part (view c.args.a.now) (view c.args.b.now)

pub loop-innermost-smaller-else-not-branch-2 : goal.loop-innermost-smaller-else-not-branch-2
loop-innermost-smaller-else-not-branch-2 c =
    let old = c.loop-innermost.inside.items in
    let n : ℕ = vec_len c.loop-innermost.inside - 1 in
    let before = c.in-Some.innermost.now in
    let at : n + 1 ≡ length old = omega (arith, c.in-Some.ensures.item) in
    let is_last : before ≡ get_or old n before = c.in-Some.ensures.value in
    less-on old n before c.step.new.self c.in-Both.x c.in-Both.y _ at is_last c.in-Both.ensures.left c.in_ok-meet-in-Both.ensures.less

pub loop-innermost-preserved-else-not-branch-2 : goal.loop-innermost-preserved-else-not-branch-2
loop-innermost-preserved-else-not-branch-2 c =
    let old = c.loop-innermost.inside.items in
    let n : ℕ = vec_len c.loop-innermost.inside - 1 in
    let before = c.in-Some.innermost.now in
    let at : n + 1 ≡ length old = omega (arith, c.in-Some.ensures.item) in
    let is_last : before ≡ get_or old n before = c.in-Some.ensures.value in
    ap (λ b. b && agree_all c.meet-in-Both.new.inside.items) (sym c.if-not-branch-2.false)
    ∙ c.in_ok-meet-in-Both.ensures.agrees
    ∙ goes-on old n before c.step.new.self c.in-Both.x c.in-Both.y at is_last c.in-Both.ensures.agrees
    ∙ c.loop-innermost.invariant

pub loop-innermost-smaller : goal.loop-innermost-smaller
loop-innermost-smaller c =
    let old = c.loop-innermost.inside.items in
    let n : ℕ = vec_len c.loop-innermost.inside - 1 in
    let before = c.in-Some.innermost.now in
    let at : n + 1 ≡ length old = omega (arith, c.in-Some.ensures.item) in
    let is_last : before ≡ get_or old n before = c.in-Some.ensures.value in
    less-out old c.pop.new.self.items n before c.step.new.self at is_last c.pop.ensures.rest

pub loop-innermost-preserved : goal.loop-innermost-preserved
loop-innermost-preserved c =
    let old = c.loop-innermost.inside.items in
    let n : ℕ = vec_len c.loop-innermost.inside - 1 in
    let before = c.in-Some.innermost.now in
    let at : n + 1 ≡ length old = omega (arith, c.in-Some.ensures.item) in
    let is_last : before ≡ get_or old n before = c.in-Some.ensures.value in
    goes-out old c.pop.new.self.items n before c.step.new.self at is_last c.in-End.ensures.agrees c.pop.ensures.rest
    ∙ c.loop-innermost.invariant

pub returns-in-Differ : goal.returns-in-Differ
returns-in-Differ c =
    let old = c.loop-innermost.inside.items in
    let n : ℕ = vec_len c.loop-innermost.inside - 1 in
    let before = c.in-Some.innermost.now in
    let at : n + 1 ≡ length old = omega (arith, c.in-Some.ensures.item) in
    let is_last : before ≡ get_or old n before = c.in-Some.ensures.value in
    sym (differs old n before at is_last c.in-Differ.ensures.agrees)
    ∙ c.loop-innermost.invariant
    ∙ part_by_part (view c.args.a.now) (view c.args.b.now)

pub returns : goal.returns
returns c =
    let none : length c.loop-innermost.inside.items ≡ 0 = omega (arith, c.loop-innermost.inside.ok.0, c.in_default.ensures.item) in
    sym (all_done c.loop-innermost.inside.items none)
    ∙ c.loop-innermost.invariant
    ∙ part_by_part (view c.args.a.now) (view c.args.b.now)
