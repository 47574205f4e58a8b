-- The characters of the bytes that are written.
use Rattle.std.proofs.Common.{◌≡◌, ◌<◌, ℕ, List, [], ◌∷◌, ◌++◌, Option, Some, None, true, refl, sym, ap, ◌∙◌, arith, append-nil}
use Rattle.std.proofs.Math.Utf8.{scalar, scalars, low_scalar}
use Rattle.std.proofs.lemmas.Bool.{and_from, and_parts, ltb-true}
use Rattle.std.proofs.lemmas.Str.{chars-encodes, encodes-append, encode_ascii, scalars-chars}
use Rattle.std.specs.Char.{encode_utf8, is_ascii}
use Rattle.std.specs.List.{list_all}
use Rattle.std.specs.Str.{IsUtf8, chars, encode_utf8_all}
use Rattle.upon_quote.specs.Quoted.{Escapes, or_itself, quoted_by}
use Rattle.upon_quote.specs.Tokens.{bytes_or_itself, bytes_by, quoted_bytes}
use Rattle.upon_quote.proofs.QuoteLemmas.{IsAsciiEscape}

-- ASCII
ascii_bytes : (text : List ℕ) → list_all is_ascii text ≡ true → encode_utf8_all text ≡ text
ascii_bytes [] h = refl
ascii_bytes (c ∷ cs) h =
    let parts = and_parts (is_ascii c) (list_all is_ascii cs) h in
    ap (λ t. t ++ encode_utf8_all cs) (encode_ascii c (ltb-true c 128 parts.0)) ∙ ap (λ t. c ∷ t) (ascii_bytes cs parts.1)

ascii_scalars : (text : List ℕ) → list_all is_ascii text ≡ true → scalars text ≡ true
ascii_scalars [] h = refl
ascii_scalars (c ∷ cs) h =
    let parts = and_parts (is_ascii c) (list_all is_ascii cs) h in
    let small : c < 128 = ltb-true c 128 parts.0 in
    and_from (scalar c) (scalars cs) (low_scalar c (omega arith)) (ascii_scalars cs parts.1)

pub scalars_append : (a b : List ℕ) → scalars a ≡ true → scalars b ≡ true → scalars (a ++ b) ≡ true
scalars_append [] b h k = k
scalars_append (c ∷ cs) b h k =
    let parts = and_parts (scalar c) (scalars cs) h in
    and_from (scalar c) (scalars (cs ++ b)) parts.0 (scalars_append cs b parts.1 k)

-- one character
piece_bytes : (r : Option (List ℕ)) (c : ℕ) → IsAsciiEscape r → encode_utf8_all (or_itself r c) ≡ bytes_or_itself r c
piece_bytes (Some escape) c h = ascii_bytes escape h
piece_bytes None c h = append-nil (encode_utf8 c)

piece_scalars : (r : Option (List ℕ)) (c : ℕ) → IsAsciiEscape r → scalar c ≡ true → scalars (or_itself r c) ≡ true
piece_scalars (Some escape) c h k = ascii_scalars escape h
piece_scalars None c h k = and_from (scalar c) true k refl

module _ (escape_of : Escapes) (ascii : (c : ℕ) → IsAsciiEscape (escape_of c)) where
  pub all_bytes : (cs : List ℕ) → encode_utf8_all (quoted_by escape_of cs) ≡ bytes_by escape_of cs
  all_bytes [] = refl
  all_bytes (c ∷ cs) =
      encodes-append (or_itself (escape_of c) c) (quoted_by escape_of cs)
      ∙ (ap (λ t. t ++ encode_utf8_all (quoted_by escape_of cs)) (piece_bytes (escape_of c) c (ascii c))
      ∙ ap (λ t. bytes_or_itself (escape_of c) c ++ t) (all_bytes cs))

  pub all_scalars : (cs : List ℕ) → scalars cs ≡ true → scalars (quoted_by escape_of cs) ≡ true
  all_scalars [] h = refl
  all_scalars (c ∷ cs) h =
      let parts = and_parts (scalar c) (scalars cs) h in
      scalars_append (or_itself (escape_of c) c) (quoted_by escape_of cs) (piece_scalars (escape_of c) c (ascii c) parts.0) (all_scalars cs parts.1)

  -- what is written is the UTF-8 of the text's characters with their escapes
  pub chars_written : (text : List ℕ) → IsUtf8 text → chars (quoted_bytes escape_of text) ≡ quoted_by escape_of (chars text)
  chars_written text u =
      ap chars (sym (all_bytes (chars text)))
      ∙ chars-encodes (quoted_by escape_of (chars text)) (all_scalars (chars text) (scalars-chars text u))
