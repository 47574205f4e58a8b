-- Texts without a delimiter, and their trees.
use Rattle.std.proofs.Common.{ℕ, ◌<◌, inl, List, [], ◌∷◌, length, false, refl, arith}
use Rattle.upon_types.specs.declared.types.token.Token.TheVariants.{Raw}
use Rattle.upon_types.specs.Tree.{raw, no_statements, statement_then}
use Rattle.upon_language_spec.specs.Search.{DelimiterText, NoneFrom}
use Rattle.upon_language_spec.specs.Grammar.{HasTree}
use Rattle.upon_language_spec.specs.Faults.{span_of, lexeme_at}

-- one raw part, which is the whole text
pub raw_text : (delimiters : List DelimiterText) (s : List ℕ) → NoneFrom delimiters s 0 (length s) → 0 < length s → HasTree delimiters s (statement_then (raw (span_of 0 (length s))) no_statements)
raw_text delimiters s bare some = record {
  lexemes = lexeme_at Raw false 0 (length s) ∷ [];
  cut = (refl, inl (refl, refl, record { some = some; within = omega arith; bare = bare; ends = inl refl }), (refl, refl));
  reads = ([], record { lexeme = lexeme_at Raw false 0 (length s); is = refl; of_token = refl; at = refl }, refl);
}

pub empty_text : (delimiters : List DelimiterText) → HasTree delimiters [] no_statements
empty_text delimiters = record { lexemes = []; cut = (refl, refl); reads = refl }
