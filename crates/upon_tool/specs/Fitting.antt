-- What a check on contexts shows, and the shape that is written of them.
use Rattle.std.specs.Prelude.{◌≡◌, ℕ, List, [], ◌∷◌, ◌++◌, All, Bool, Option, None, Result, Ok, Err, String, string_bytes}
use Rattle.std.specs.Borrow.{Bor}
use Rattle.std.specs.Io.KnownBytes.{Appends}
use Rattle.std.specs.declared.alloc.Global.{Global}
use Rattle.upon_shape_spec.specs.Shape.{Shape}
use Rattle.upon_tool_io.specs.World.{World}
use Rattle.upon_tool_io.specs.declared.files.ReadFault.{ReadFault}
use Rattle.upon_tool_data.specs.Sources.{IsTextOf}
use Rattle.upon_tool_io.specs.declared.arguments.Escape.{Escape}
use Rattle.upon_tool_io.specs.declared.arguments.FitCall.{FitCall}
use Rattle.upon_tool_io.specs.declared.arguments.ShapeCall.{ShapeCall}
use Rattle.upon_tool_pages.specs.Contexts.{HasShape}
use Rattle.upon_tool_pages.specs.Fitting.{FileFits}
use Rattle.upon_tool_pages.specs.Sources.{AreFolderFiles}
use Rattle.upon_tool_pages.specs.declared.sources.FolderFile.{FolderFile}
use Rattle.upon_tool_pages.specs.Written.{schema_line}
use Rattle.upon_tool.specs.Checked.{ChecksCall}

-- the name and text of a file, if it is a text
abbrev pub text_if : List ℕ → Result (String Global) ReadFault → List (List ℕ × List ℕ)
text_if name (Ok text) = (name, string_bytes text) ∷ []
text_if name (Err fault) = []

-- the names and texts of those files that are texts
abbrev pub texts_read : List FolderFile → List (List ℕ × List ℕ)
texts_read [] = []
texts_read (file ∷ files) = text_if (string_bytes file.name) file.read ++ texts_read files

module _ (world : World) where
  -- a text that a file of a name may hold ends on each value of a shape, over the texts of a folder
  abbrev pub TextFits : Option Escape → Bool → List (List ℕ × List ℕ) → Shape → List ℕ → Type 0
  TextFits escape standard folder s name =
      (text : List ℕ) × IsTextOf world name None text × FileFits escape standard folder s name text

  -- so of each of some files
  abbrev pub EachFits : Option Escape → Bool → List (List ℕ × List ℕ) → Shape → List (Bor (List ℕ)) → Type 0
  EachFits escape standard folder s files = All (λ file. TextFits escape standard folder s file.now) files

  -- A call of `check` on contexts found nothing wrong. A shape is known of the contexts; the files are right, as a
  -- check without contexts says it; and each of them, read again, ends on each value of the shape, with the texts of
  -- the folder's files, which are read again.
  pub record FitsWell (call : FitCall) (input : Option (List ℕ)) : Type 0 where
    pub shape : Shape
    pub later : Option (List ℕ)
    pub files : List FolderFile
    pub known : HasShape world call.contexts input shape
    pub checked : ChecksCall world call.check later 0
    pub listed : AreFolderFiles world call.check.templates call.check.follow files
    pub ends : EachFits call.check.escape call.check.standard (texts_read files) shape call.check.files.items

  -- it ends with a status
  abbrev pub FitsCall : FitCall → Option (List ℕ) → ℕ → Type 0
  FitsCall call input status = status ≡ 0 → FitsWell call input

  -- A shape is known of the contexts of a call, and its schema was written.
  pub record WritesWell (call : ShapeCall) (input old new : Option (List ℕ)) : Type 0 where
    pub shape : Shape
    pub known : HasShape world call.contexts input shape
    pub written : Appends old new (schema_line shape)

  -- the call ends with a status
  abbrev pub WritesShape : ShapeCall → Option (List ℕ) → ℕ → Option (List ℕ) → Option (List ℕ) → Type 0
  WritesShape call input status old new = status ≡ 0 → WritesWell call input old new
