-- What is known of the contexts of a check.
use Rattle.std.specs.Prelude.{◌≡◌, ℕ, List, Option, Some, None}
use Rattle.std.specs.Borrow.{Bor}
use Rattle.upon_types.specs.Val.{Val}
use Rattle.upon_data.specs.declared.format.Format.TheVariants.{Json}
use Rattle.upon_meaning_spec.specs.MapOrder.{IsAmong}
use Rattle.upon_shape_spec.specs.Fits.{Fits}
use Rattle.upon_shape_spec.specs.Shape.{Shape}
use Rattle.upon_calls.specs.Contexts.{ValidFit}
use Rattle.upon_tool_io.specs.World.{World}
use Rattle.upon_tool_io.specs.declared.arguments.ContextsCall.{ContextsCall}
use Rattle.upon_tool_data.specs.Files.{IsRead}
use Rattle.upon_tool_data.specs.Samples.{sample_files, AreSamples}
use Rattle.upon_tool_data.specs.Words.{AreWordsOf}
use Rattle.upon_tool_data.specs.declared.words.DataWords.{DataWords}

module _ (world : World) where
  -- Samples were read, by what standard input had left, if that is known, and each of them fits a shape.
  pub record EachSampleFits (call : ContextsCall) (input : Option (List ℕ)) (s : Shape) : Type 0 where
    pub words : DataWords
    pub samples : List Val
    pub later : Option (List ℕ)
    pub asked : AreWordsOf call.data words
    pub read : AreSamples world words (sample_files words.files.now) input samples later
    pub fit : (sample : Val) → IsAmong sample samples → Fits s sample

  -- A schema was read, and each value that is valid by it fits a shape.
  pub record SchemaFits (name : List ℕ) (input : Option (List ℕ)) (s : Shape) : Type 0 where
    pub schema : Val
    pub later : Option (List ℕ)
    pub read : IsRead world Json name input schema later
    pub fit : ValidFit schema s

  -- the shape of the contexts: by the schema of a name if there is one, and else by samples
  abbrev pub HasShapeBy : Option (Bor (List ℕ)) → ContextsCall → Option (List ℕ) → Shape → Type 0
  HasShapeBy None call input s = EachSampleFits call input s
  HasShapeBy (Some name) call input s = SchemaFits name.now input s

  -- of the contexts that a call gives
  abbrev pub HasShape : ContextsCall → Option (List ℕ) → Shape → Type 0
  HasShape call input s = HasShapeBy call.schema call input s
