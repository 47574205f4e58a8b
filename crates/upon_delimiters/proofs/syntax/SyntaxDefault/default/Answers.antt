use Rattle.std.proofs.Common.{refl}
use Rattle.upon_language_spec.proofs.Computation.DefaultTexts.{default_texts, default_utf8}
use Rattle.upon_delimiters.proofs.syntax.SyntaxDefault.default.Goals as goal

pub invariant_of-result : goal.invariant_of-result
invariant_of-result c = record { has_texts = default_texts; has_utf8 = ∣ default_utf8 ∣₁; is_trie = refl }
