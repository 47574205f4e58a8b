-- Lists of texts are joined.
use Rattle.std.proofs.Common.{ℕ, List, [], ◌∷◌, ◌++◌, Some, refl}
use Rattle.std.specs.Prelude.{Result, Ok, Err}
use Rattle.std.specs.List.{AllByRecursion}
use Rattle.upon_functions.specs.Outcome.{answer_of}
use Rattle.upon_types.specs.Val.{Val}
use Rattle.upon_std.specs.Basic.Joined.{text_in, prefixed, piece_then, joined_from, joined_result}
use Rattle.upon_shape_spec.specs.Declared.{GivesOf}
use Rattle.upon_shape_spec.specs.Fits.{Fits}
use Rattle.upon_shape_spec.specs.Shape.{text_shape}
use Rattle.upon_std_shapes.proofs.OneKind.{of_text}

-- a text comes of it
abbrev pub IsJoinedText : Result (List ℕ) Val → Type 0
IsJoinedText r = GivesOf (Some text_shape) (answer_of (joined_result r))

prefixed_too : (start : List ℕ) (r : Result (List ℕ) Val) → IsJoinedText r → IsJoinedText (prefixed start r)
prefixed_too start (Ok text) h = refl
prefixed_too start (Err v) h = absurd h

pub texts_joined : (before separator : List ℕ) (vs : List Val) → AllByRecursion (Fits text_shape) vs → IsJoinedText (joined_from before separator vs)
texts_joined before separator [] h = refl
texts_joined before separator (v ∷ vs) h =
    let rest = joined_from separator separator vs in
    of_text (λ v. IsJoinedText (piece_then before (text_in v) v rest))
    (λ t. prefixed_too (before ++ t) rest (texts_joined separator separator vs h.1)) v h.0
