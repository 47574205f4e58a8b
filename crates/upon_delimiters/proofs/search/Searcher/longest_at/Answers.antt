use Rattle.std.proofs.Common.{ℕ, List, length, sym, subst}
use Rattle.upon_language_spec.specs.Search.{NoneAt, IsBest}
use Rattle.upon_delimiters.specs.Nodes.{IsLinked}
use Rattle.upon_delimiters.specs.Syntax.{syntax_delimiters}
use Rattle.upon_delimiters.specs.Trie.{IsTrieOf}
use Rattle.upon_delimiters.specs.declared.syntax.trie.Node.{Node}
use Rattle.upon_delimiters.proofs.TrieOf.{nodes_of-trie}
use Rattle.upon_delimiters.proofs.search.Searcher.longest_at.Goals as goal

pub longest_at-requires-clause-linked : goal.longest_at-requires-clause-linked
longest_at-requires-clause-linked c =
    let ds = syntax_delimiters c.args.self.now.syntax in
    subst IsLinked (sym c.nodes.ensures) (nodes_of-trie ds).linked

pub returns-in-Some : goal.returns-in-Some
returns-in-Some c =
    let ds = syntax_delimiters c.args.self.now.syntax in
    let Trie : List Node → Type 0 = λ x. IsTrieOf (length ds) ds x in
    let Best : List ℕ → Type 0 = λ s. IsBest ds s c.args.at c.in-Some.longest in
    subst Best c.as_bytes.ensures.value (c.in-Some.ensures ds (subst Trie (sym c.nodes.ensures) (nodes_of-trie ds))).0

pub returns-in-None : goal.returns-in-None
returns-in-None c =
    let ds = syntax_delimiters c.args.self.now.syntax in
    let Trie : List Node → Type 0 = λ x. IsTrieOf (length ds) ds x in
    let None : List ℕ → Type 0 = λ s. NoneAt ds s c.args.at in
    subst None c.as_bytes.ensures.value (c.in-None.ensures ds (subst Trie (sym c.nodes.ensures) (nodes_of-trie ds)))
