use Rattle.std.proofs.Common.{◌≡◌, ◌<◌, ◌≤◌, [], ◌∷◌, rules, map, length, arith, sym, ap, ◌∙◌}
use Rattle.std.specs.Prelude.{string_bytes}
use Rattle.std.proofs.lemmas.List.{length-map}
use Rattle.upon_language_spec.specs.Search.{text_at}
use Rattle.upon_delimiters.specs.Entries.{delimiter_text_of}
use Rattle.upon_delimiters.specs.Nodes.{blank}
use Rattle.upon_delimiters.specs.declared.syntax.Entry.{Entry}
use Rattle.upon_delimiters.proofs.Entries.{text_of_entry}
use Rattle.upon_delimiters.proofs.Built.{first_trie, first_nodes, next_trie, next_nodes, last_nodes}
use Rattle.upon_delimiters.proofs.syntax.builder.nodes_of_entries.Goals as goal

pub loop-i-init : goal.loop-i-init
loop-i-init c =
    let ds = map delimiter_text_of c.args.entries.now.items in
    let nodes = c.push.new.self.items in
    let is : nodes ≡ blank ∷ [] = search rules in
    record { trie = first_trie ds nodes is; nodes = first_nodes ds nodes is }

pub loop-i-preserved : goal.loop-i-preserved
loop-i-preserved c =
    let items = c.args.entries.now.items in
    let ds = map delimiter_text_of items in
    let i = c.loop-i.i in
    let t = c.as_bytes.result.now in
    let inside : i < length items = search rules in
    let listed : i < length ds = omega (arith, inside, length-map items delimiter_text_of) in
    let same : t ≡ text_at ds i =
    c.as_bytes.ensures.value
    ∙ ap (λ (e : Entry). string_bytes e.text) c.index-entry.ensures
    ∙ sym (text_of_entry delimiter_text_of items i c.index-entry.result.now inside) in
    record {
      trie = next_trie ds i c.loop-i.nodes.items c.insert.new.nodes.items t same c.in_ok-insert.ensures c.loop-i.invariant.trie;
      nodes = next_nodes ds i c.loop-i.nodes.items c.insert.new.nodes.items t same c.in_ok-insert.ensures listed c.loop-i.invariant.nodes;
    }

pub returns : goal.returns
returns c =
    let items = c.args.entries.now.items in
    let past : length items ≤ c.loop-i.i = search rules in
    last_nodes (map delimiter_text_of items) c.loop-i.i c.loop-i.nodes.items
    (omega (arith, past, length-map items delimiter_text_of)) c.loop-i.invariant.nodes
