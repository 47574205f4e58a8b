-- A byte below 128 at an offset of a text: it is a character, and the text may be cut after it.
use Rattle.std.proofs.Common.{◌≡◌, ℕ, ◌+◌, ◌<◌, List, [], ◌∷◌, ◌++◌, length, drop, encode_utf8, refl, sym, ap, ◌∙◌, subst}
use Rattle.std.specs.Str.{IsUtf8, IsCharBoundary}
use Rattle.std.proofs.lemmas.List.{drop-drop}
use Rattle.std.proofs.lemmas.Str.{encode_ascii}
use Rattle.upon_language_spec.specs.Search.{Occurs}
use Rattle.upon_language_spec.proofs.SpansLieIn.Offsets.{drop-Occurs, Occurs-from_drop}
use Rattle.upon_language_spec.proofs.SpansLieIn.Token.{low_between}

module _ (s : List ℕ) (at b : ℕ) where
  pub byte_as_char : b < 128 → Occurs s at (b ∷ []) → Occurs s at (encode_utf8 b)
  byte_as_char low o = subst (Occurs s at) (sym (encode_ascii b low)) o

  pub char_as_byte : (c : ℕ) → b < 128 → c ≡ b → Occurs s at (encode_utf8 c) → Occurs s at (b ∷ [])
  char_as_byte c low e o = subst (Occurs s at) (ap encode_utf8 e ∙ encode_ascii b low) o

  pub behind_byte : b < 128 → IsUtf8 s → IsCharBoundary s at → Occurs s at (b ∷ []) → IsCharBoundary s (at + 1)
  behind_byte low text start o = low_between s text at start b (at + 1) low (byte_as_char low o) refl

  -- a text that begins with the byte, taken apart and put together
  pub first_of : (bs : List ℕ) → Occurs s at (b ∷ bs) → Occurs s at (b ∷ [])
  first_of bs o = Occurs-from_drop s at (b ∷ []) (bs ++ drop (at + length (b ∷ bs)) s) (drop-Occurs s at (b ∷ bs) o)

  pub others_of : (bs : List ℕ) → Occurs s at (b ∷ bs) → Occurs s (at + 1) bs
  others_of bs o =
      Occurs-from_drop s (at + 1) bs (drop (at + length (b ∷ bs)) s)
      (sym (drop-drop 1 at s) ∙ ap (λ t. drop 1 t) (drop-Occurs s at (b ∷ bs) o))

  pub joined : (bs : List ℕ) → Occurs s at (b ∷ []) → Occurs s (at + 1) bs → Occurs s at (b ∷ bs)
  joined bs o q =
      Occurs-from_drop s at (b ∷ bs) (drop (at + 1 + length bs) s)
      (drop-Occurs s at (b ∷ []) o ∙ ap (λ t. b ∷ t) (drop-Occurs s (at + 1) bs q))
