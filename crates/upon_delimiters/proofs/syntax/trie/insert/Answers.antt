use Rattle.std.proofs.Common.{◌≡◌, ◌<◌, ℕ, List, length, get_or, sym, subst, ◌∙◌, ap}
use Rattle.upon_delimiters.specs.declared.syntax.trie.Node.{Node}
use Rattle.upon_delimiters.specs.Nodes.{IsLinked}
use Rattle.upon_delimiters.specs.Grown.{with_child, made_child, with_path, path_end, marked}
use Rattle.upon_delimiters.proofs.Written.{with_child-linked, made_child-inside, path_more, end_more, path_whole, end_whole, marked_is, not_marked}
use Rattle.upon_delimiters.proofs.syntax.trie.insert.Goals as goal

pub loop-byte-preserved : goal.loop-byte-preserved
loop-byte-preserved c =
    let text = c.args.text.now in
    let i = c.loop-byte.byte-index in
    let old = c.loop-byte.nodes.items in
    let n = c.loop-byte.at in
    let b = get_or text i 0 in
    let kept = c.loop-byte.invariant in
    let new = c.child_or_new.new.nodes.items in
    let m = c.in_ok-at.at in
    let new_is : new ≡ with_child old n b = c.in_ok-at.ensures.nodes in
    let m_is : m ≡ made_child old n b = c.in_ok-at.ensures.node in
    let Below : List Node → Type 0 = λ x. m < length x in
    let Inside : ℕ → Type 0 = λ x. x < length (with_child old n b) in
    record {
      linked = subst IsLinked (sym new_is) (with_child-linked old kept.linked n b kept.inside);
      inside = subst Below (sym new_is) (subst Inside (sym m_is) (made_child-inside old kept.linked n b kept.inside));
      nodes = path_more old new n m i text c.loop-byte-test.true new_is m_is ∙ kept.nodes;
      ends = end_more old new n m i text c.loop-byte-test.true new_is m_is ∙ kept.ends;
    }

-- the nodes that the loop leaves, marked at the node that it leaves
same_marked : (old new : List Node) (m n i : ℕ) → old ≡ new → m ≡ n → marked old m i ≡ marked new n i
same_marked old new m n i nodes at = ap (λ x. marked x m i) nodes ∙ ap (λ y. marked new y i) at

pub returns-then-is_none : goal.returns-then-is_none
returns-then-is_none c =
    let text = c.args.text.now in
    let nodes = c.loop-byte.nodes.items in
    let n = c.loop-byte.at in
    let i = c.loop-byte.byte-index in
    let past = c.loop-byte-test.false in
    marked_is nodes n c.args.pair c.loop-byte.invariant.inside c.index.result.now c.index.ensures
    c.index_mut.result.now c.index_mut.ensures.value c.if-is_none.ensures
    ∙ same_marked nodes (with_path c.args.nodes.now.items 0 text) n (path_end c.args.nodes.now.items 0 text) c.args.pair
    (path_whole nodes n i text past ∙ c.loop-byte.invariant.nodes) (end_whole nodes n i text past ∙ c.loop-byte.invariant.ends)

pub returns-else-is_none : goal.returns-else-is_none
returns-else-is_none c =
    let text = c.args.text.now in
    let nodes = c.loop-byte.nodes.items in
    let n = c.loop-byte.at in
    let i = c.loop-byte.byte-index in
    let past = c.loop-byte-test.false in
    not_marked nodes n c.args.pair c.loop-byte.invariant.inside c.index.result.now c.index.ensures c.if-is_none.ensures
    ∙ same_marked nodes (with_path c.args.nodes.now.items 0 text) n (path_end c.args.nodes.now.items 0 text) c.args.pair
    (path_whole nodes n i text past ∙ c.loop-byte.invariant.nodes) (end_whole nodes n i text past ∙ c.loop-byte.invariant.ends)
