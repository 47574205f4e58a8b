-- A character that begins no token, as it is reported.
use Rattle.std.proofs.Common.{◌≡◌, ℕ, ◌+◌, ◌∷◌, [], List, Bool, inl, inr, codes, encode_utf8, arith, refl}
use Rattle.upon_types.specs.declared.types.Span.{Span}
use Rattle.upon_language_spec.specs.Search.{Occurs}
use Rattle.upon_language_spec.specs.Faults.{span_of, BeginsNoToken, EndsQuestion}
use Rattle.upon_language_spec.specs.InsideStart.{NoInside}
use Rattle.upon_language_spec.proofs.Offsets.Bytes.{byte_as_char, others_of}

pub same_span : (place : Span) (m n : ℕ) → place.m ≡ m → place.n ≡ n → place ≡ span_of m n
same_span place m n start end = λ i. record { m = start i; n = end i }

module _ (s : List ℕ) (in_path : Bool) (at to : ℕ) (place : Span) (reason : List ℕ) where
  pub no_token : (c : ℕ) → place.m ≡ at → place.n ≡ to → reason ≡ codes "unexpected character" → Occurs s at (encode_utf8 c) → BeginsNoToken s in_path c at to → NoInside s in_path at place reason
  no_token c start end told stands nothing = inl (record {
    c = c;
    occurs = stands;
    to = to;
    nothing = nothing;
    at = same_span place at to start end;
    words = told;
  })

  -- a question mark with no dot after it
  pub no_question : place.m ≡ at → place.n ≡ to → reason ≡ codes "unexpected character" → Occurs s at (63 ∷ []) → (Occurs s (at + 1) (encode_utf8 46) → ⊥) → EndsQuestion s at to → NoInside s in_path at place reason
  no_question start end told stands no_dot ends =
      no_token 63 start end told (byte_as_char s at 63 (omega arith) stands)
      (inr (refl, λ o. no_dot (byte_as_char s (at + 1) 46 (omega arith) (others_of s at 63 (46 ∷ []) o)), ends))
