-- What is left of a UTF-8 text after some of its characters is UTF-8, and so are texts that are known to be.
use Rattle.std.proofs.Common.{◌≡◌, ℕ, List, [], ◌∷◌, ◌++◌, encode_utf8, encode_utf8_all, ◌∙◌, subst, append_assoc}
use Rattle.std.specs.Str.{IsUtf8}
use Rattle.std.proofs.lemmas.Str.{IsUtf8-past_char, IsUtf8-had}
use Rattle.std.proofs.Math.Logic.{∥∥₁_map}
use Rattle.upon_language_spec.specs.Search.{DelimiterText, text_at}
use Rattle.upon_language_spec.specs.LiesIn.{HasUtf8}

pub past_chars : (cs rest bs : List ℕ) → IsUtf8 bs → bs ≡ encode_utf8_all cs ++ rest → IsUtf8 rest
past_chars [] rest bs text e = subst IsUtf8 e text
past_chars (c ∷ cs) rest bs text e =
    past_chars cs rest (encode_utf8_all cs ++ rest)
    (IsUtf8-past_char bs (encode_utf8_all cs ++ rest) c text (e ∙ append_assoc (encode_utf8 c) (encode_utf8_all cs) rest))
    (λ i. encode_utf8_all cs ++ rest)

-- delimiters of which it is known that their texts are UTF-8 have such texts
pub had_utf8 : (delimiters : List DelimiterText) → ∥ HasUtf8 delimiters ∥₁ → HasUtf8 delimiters
had_utf8 delimiters h = λ i below. IsUtf8-had (text_at delimiters i) (∥∥₁_map h (λ each. each i below))
