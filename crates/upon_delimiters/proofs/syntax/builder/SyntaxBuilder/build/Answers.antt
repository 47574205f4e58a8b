use Rattle.std.proofs.Common.{map, ap, sym, subst}
use Rattle.upon_delimiters.specs.Entries.{delimiter_text_of}
use Rattle.upon_delimiters.proofs.SetTexts.{EachHasByte, by_index, more_bytes, entries_utf8}
use Rattle.upon_delimiters.proofs.syntax.builder.SyntaxBuilder.build.Goals as goal

pub invariant_of-result : goal.invariant_of-result
invariant_of-result c =
    let builder = c.args.self.now in
    let none = subst EachHasByte (sym (ap (map delimiter_text_of) c.new-entries.ensures.items)) tt in
    let expr = more_bytes _ _ _ _ builder.expr _ _ builder.expr_bytes c.in_ok-push_tag.ensures none in
    let block = more_bytes _ _ _ _ builder.block _ _ builder.block_bytes c.in_ok-push_tag-2.ensures expr in
    let comment = more_bytes _ _ _ _ builder.comment _ _ builder.comment_bytes c.in_ok-push_tag-3.ensures block in
    record { has_texts = by_index _ comment; has_utf8 = ∣ entries_utf8 c.push_tag-3.new.entries.items ∣₁; is_trie = c.in_ok-nodes.ensures }
