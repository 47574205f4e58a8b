use Rattle.std.proofs.Common.{arith, rules, length, ◌≡◌, refl}
use Rattle.upon_delimiters.specs.Syntax.{syntax_delimiters}
use Rattle.upon_delimiters.proofs.SameDelimiters.{same_list, same_further}
use Rattle.upon_delimiters.proofs.syntax.same.is_same.Goals as goal

pub loop-i-preserved : goal.loop-i-preserved
loop-i-preserved c =
    let here = c.is_same_at.ensures.0 (search rules) in
    same_further (syntax_delimiters c.args.a.now) (syntax_delimiters c.args.b.now) c.loop-i.i c.loop-i.invariant here

pub returns : goal.returns
returns c =
    let lengths : length (syntax_delimiters c.args.a.now) ≡ length (syntax_delimiters c.args.b.now) = search rules in
    let first = syntax_delimiters c.args.a.now in
    let same = same_list first (syntax_delimiters c.args.b.now) lengths (λ i l. c.loop-i.invariant i (grind (arith, l))) in
    (λ _. same, λ _. refl)
