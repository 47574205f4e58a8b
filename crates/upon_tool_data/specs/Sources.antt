-- The texts that are read.
use Rattle.std.specs.Prelude.{◌≡◌, ℕ, List, Bool, true, false, Option, IfSome, codes, bytes_eq}
use Rattle.std.specs.Str.{IsUtf8}
use Rattle.upon_tool_io.specs.World.{World, IsNoFileText}
use Rattle.upon_tool_io.specs.declared.files.ReadFault.{ReadFault}
use Rattle.upon_tool_io.specs.declared.files.ReadFault.TheVariants.{NotText}

-- the name of standard input and output
abbrev pub is_standard : List ℕ → Bool
is_standard name = bytes_eq name (codes "-")

module _ (world : World) where
  -- The text of a file: of standard input, what that had left, if it is known; of any other, what the file may hold.
  abbrev pub IsTextOf : List ℕ → Option (List ℕ) → List ℕ → Type 0
  IsTextOf name input text = (is_standard name ≡ true → IfSome input (λ bytes. text ≡ bytes))
      × (is_standard name ≡ false → world.holds name text)

  -- Why a file gives no text: of standard input, what that had left is no UTF-8, if this is said and that is known; of
  -- any other, the file is refused, or may hold what is no UTF-8.
  abbrev pub IsNoTextOf : List ℕ → Option (List ℕ) → ReadFault → Type 0
  IsNoTextOf name input fault = (is_standard name ≡ true → fault ≡ NotText → IfSome input (λ bytes. ¬ IsUtf8 bytes))
      × (is_standard name ≡ false → IsNoFileText world name fault)
