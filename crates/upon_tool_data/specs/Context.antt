-- The value that a template is rendered on, by the words of a call and what is read.
use Rattle.std.specs.Prelude.{◌≡◌, ◌⊎◌, ℕ, List, Bool, Option, Some}
use Rattle.std.specs.Borrow.{Bor}
use Rattle.upon_types.specs.Val.{Val, map_val, Entries}
use Rattle.upon_tool_io.specs.World.{World}
use Rattle.upon_tool_data.specs.Environment.{HasEnvironment, RefusesEnvironment}
use Rattle.upon_tool_data.specs.Files.{AddsFiles, RefusesFiles}
use Rattle.upon_tool_data.specs.Settings.{set_each, RefusesSettings}
use Rattle.upon_tool_data.specs.Words.{format_asked}
use Rattle.upon_tool_data.specs.declared.fault.ContextFault.{ContextFault}
use Rattle.upon_tool_data.specs.declared.settings.Writing.TheVariants.{Text, Json}

module _ (world : World) where
  -- The value is the map of the entries of the files, over the environment if that is asked for, which are read by what
  -- standard input had left and has left, if that is known; with the values of JSON set over them, and then the texts.
  abbrev pub IsContext : Bool → List (Bor (List ℕ)) → Option (Bor (List ℕ)) → List (Bor (List ℕ)) → List (Bor (List ℕ))
      → Option (List ℕ) → Val → Option (List ℕ) → Type 0
  IsContext env files format values texts input v later =
      (start : Entries) × (es : Entries) × (mid : Entries) × (new : Entries)
      × HasEnvironment world env start × AddsFiles world (format_asked format) files input start later es
      × (set_each Json values es ≡ Some mid) × (set_each Text texts mid ≡ Some new) × (v ≡ map_val new)

  -- The environment is refused; or a file; or a value of JSON that is set over the entries of the files, or a text
  -- after those.
  abbrev pub RefusesContext : Bool → List (Bor (List ℕ)) → Option (Bor (List ℕ)) → List (Bor (List ℕ))
      → List (Bor (List ℕ)) → Option (List ℕ) → ContextFault → Type 0
  RefusesContext env files format values texts input fault = RefusesEnvironment world env fault
      ⊎ ((start : Entries) × HasEnvironment world env start
      × (RefusesFiles world (format_asked format) files input start fault
      ⊎ ((es : Entries) × (later : Option (List ℕ)) × AddsFiles world (format_asked format) files input start later es
      × (RefusesSettings Json values es fault
      ⊎ ((mid : Entries) × (set_each Json values es ≡ Some mid) × RefusesSettings Text texts mid fault)))))
