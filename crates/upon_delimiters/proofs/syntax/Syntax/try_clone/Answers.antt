use Rattle.std.proofs.Common.{List, sym, subst, ap, ◌∙◌}
use Rattle.upon_language_spec.specs.LiesIn.{HasUtf8}
use Rattle.upon_language_spec.specs.Search.{DelimiterText, HasTexts}
use Rattle.upon_delimiters.specs.Grown.{nodes_of}
use Rattle.upon_delimiters.proofs.syntax.Syntax.try_clone.Goals as goal

pub invariant_of-result : goal.invariant_of-result
invariant_of-result c =
    let same = sym c.in_ok-try_clone.ensures.list in
    let Utf8 : List DelimiterText → Type 0 = λ ds. ∥ HasUtf8 ds ∥₁ in
    record {
      has_texts = subst HasTexts same c.args.self.now.has_texts;
      has_utf8 = subst Utf8 same c.args.self.now.has_utf8;
      is_trie = c.in_ok-try_clone-2.ensures.list ∙ c.args.self.now.is_trie ∙ ap nodes_of same;
    }
