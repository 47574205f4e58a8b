use Rattle.std.proofs.Common.{◌<◌, length, arith, sym, ap, ◌∙◌}
use Rattle.std.specs.Prelude.{string_bytes}
use Rattle.std.proofs.lemmas.List.{length-map}
use Rattle.upon_language_spec.specs.Search.{kind_at, text_at}
use Rattle.upon_delimiters.specs.declared.syntax.Entry.{Entry}
use Rattle.upon_delimiters.specs.Entries.{delimiter_text_of, entries_list}
use Rattle.upon_delimiters.proofs.Entries.{text_of_entry, kind_of_entry}
use Rattle.upon_delimiters.proofs.syntax.Entries.get.Goals as goal

pub returns-in-Built-clause-kind : goal.returns-in-Built-clause-kind
returns-in-Built-clause-kind c =
    let items = c.in-Built.entries.items in
    let listed = rw c.in-Built.is at c.requires in
    let inside : c.args.i < length items = omega (arith, listed, length-map items delimiter_text_of) in
    ap (λ (e : Entry). e.kind) c.index-entry.ensures
    ∙ sym (kind_of_entry delimiter_text_of items c.args.i c.index-entry.result.now inside)
    ∙ ap (λ entries. kind_at (entries_list entries) c.args.i) (sym c.in-Built.is)

pub returns-in-Built-clause-text : goal.returns-in-Built-clause-text
returns-in-Built-clause-text c =
    let items = c.in-Built.entries.items in
    let listed = rw c.in-Built.is at c.requires in
    let inside : c.args.i < length items = omega (arith, listed, length-map items delimiter_text_of) in
    c.as_str.ensures.value
    ∙ ap (λ (e : Entry). string_bytes e.text) c.index-entry.ensures
    ∙ sym (text_of_entry delimiter_text_of items c.args.i c.index-entry.result.now inside)
    ∙ ap (λ entries. text_at (entries_list entries) c.args.i) (sym c.in-Built.is)
