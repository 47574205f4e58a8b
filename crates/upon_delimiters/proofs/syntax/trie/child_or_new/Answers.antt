use Rattle.std.proofs.Common.{◌≡◌, rules, length, sym, ap, ◌∙◌}
use Rattle.upon_delimiters.specs.Nodes.{child_of}
use Rattle.upon_delimiters.proofs.Written.{grown_is}
use Rattle.upon_delimiters.proofs.syntax.trie.child_or_new.Goals as goal

pub returns-clause-nodes : goal.returns-clause-nodes
returns-clause-nodes c =
    let nodes = c.args.nodes.now.items in
    let absent : child_of nodes c.args.of c.args.byte ≡ 0 =
    ap (λ x. child_of x c.args.of c.args.byte) (sym c.deref.ensures.value) ∙ sym c.child-found.ensures ∙ c.if-found-ne0.false in
    let count : c.len-made.result ≡ length nodes = search rules in
    grown_is nodes c.push.new.self.items c.args.of c.args.byte c.len-made.result c.index.result.now c.index_mut.result.now
    c.requires.inside absent count c.index.ensures c.in_ok-push.ensures.items c.index_mut.ensures.value
