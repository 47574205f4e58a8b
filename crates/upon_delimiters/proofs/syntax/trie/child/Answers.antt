use Rattle.std.proofs.Common.{◌<◌, arith, sym, ap, ◌∙◌}
use Rattle.upon_delimiters.specs.Nodes.{sibling_with}
use Rattle.upon_delimiters.proofs.Siblings.{sibling_with-here, sibling_with-further, sibling_with-zero}
use Rattle.upon_delimiters.proofs.syntax.trie.child.Goals as goal

pub returns-then-node-byte : goal.returns-then-node-byte
returns-then-node-byte c =
    let some : 0 < c.loop-at.at = omega (arith, c.loop-at-test.true) in
    sym (sibling_with-here c.args.nodes.now c.requires.linked c.loop-at.at c.args.byte some c.loop-at.invariant.inside c.if-node-byte.true)
    ∙ c.loop-at.invariant.found

pub loop-at-preserved : goal.loop-at-preserved
loop-at-preserved c =
    let some : 0 < c.loop-at.at = omega (arith, c.loop-at-test.true) in
    let lower = c.requires.linked.siblings c.loop-at.at some c.loop-at.invariant.inside in
    record {
      inside = omega (arith, lower, c.loop-at.invariant.inside);
      found = sym (sibling_with-further c.args.nodes.now c.requires.linked c.loop-at.at c.args.byte some c.loop-at.invariant.inside c.if-node-byte.false)
          ∙ c.loop-at.invariant.found;
    }

pub returns : goal.returns
returns c =
    sym (sibling_with-zero c.args.nodes.now c.args.byte)
    ∙ ap (λ x. sibling_with c.args.nodes.now x c.args.byte) (sym c.loop-at-test.false)
    ∙ c.loop-at.invariant.found
