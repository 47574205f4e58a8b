use Rattle.std.proofs.Common.{◌≡◌, ◌≤◌, ◌<◌, length, arith, sym, ap, subst, ◌∙◌, ℕ, get_or}
use Rattle.upon_delimiters.specs.Nodes.{node_at}
use Rattle.upon_delimiters.specs.Trie.{longer_of}
use Rattle.upon_delimiters.proofs.Leads.{child_inside}
use Rattle.upon_delimiters.proofs.Walk.{next_leads, more_known, all_known, whole_known}
use Rattle.upon_delimiters.proofs.syntax.trie.longest_at.Goals as goal

pub loop-end-preserved : goal.loop-end-preserved
loop-end-preserved c =
    let nodes = c.args.nodes.now in
    let s = c.args.source.now in
    let at = c.args.at in
    let end = c.loop-end.end in
    let kept = c.loop-end.invariant in
    let after = c.loop-end.auto.end in
    let inside = c.loop-end-test.true in
    let Below : ℕ → Type 0 = λ x. x < length nodes in
    record {
      inside = subst Below (sym c.child-node.ensures) (child_inside nodes c.requires.linked c.loop-end.node (get_or s end 0) kept.inside);
      leads = next_leads nodes s at end c.loop-end.node after kept.leads c.child-node.result inside c.child-node.ensures c.if-node-eq0.false;
      longest = λ ds trie. more_known nodes s at end c.loop-end.node after kept.leads ds trie c.loop-end.longest c.longer-longest.result
          (kept.longest ds trie) c.longer-longest.ensures (omega (arith, inside));
    }

pub returns-then-node-eq0 : goal.returns-then-node-eq0
returns-then-node-eq0 c = λ ds trie.
    let kept = c.loop-end.invariant in
    let inside = c.loop-end-test.true in
    all_known c.args.nodes.now c.args.source.now c.args.at c.loop-end.end c.loop-end.node c.loop-end.auto.end kept.leads ds trie
    c.loop-end.longest c.longer-longest.result (kept.longest ds trie) c.longer-longest.ensures (omega (arith, inside))
    inside (sym c.child-node.ensures ∙ c.if-node-eq0.true)

pub returns : goal.returns
returns c = λ ds trie.
    let kept = c.loop-end.invariant in
    let s = c.args.source.now in
    let end = c.loop-end.end in
    let past = c.loop-end-test.false in
    let within : end ≤ length s = c.loop-end.auto.end-end c.requires.offset in
    let same : length s ≡ end = omega (arith, past, within) in
    whole_known c.args.nodes.now s c.args.at end c.loop-end.node c.loop-end.auto.end kept.leads ds trie
    c.loop-end.longest c.longer.result (kept.longest ds trie)
    (c.longer.ensures ∙ ap (λ x. longer_of (node_at c.args.nodes.now c.loop-end.node).pair x c.loop-end.longest) same) within past
