-- What a call of `check` shows.
use Rattle.std.specs.Prelude.{◌≡◌, ℕ, List, [], Option, None, is_some}
use Rattle.upon_engine.specs.Texts.{Texts}
use Rattle.upon_tool_io.specs.World.{World}
use Rattle.upon_tool_io.specs.declared.arguments.CheckCall.{CheckCall}
use Rattle.upon_tool_messages.specs.declared.judge.Declared.{Declared}
use Rattle.upon_calls.specs.Filled.{functions_if}
use Rattle.upon_tool.specs.Filled.{tool_engine, TakesFiles}
use Rattle.upon_tool.specs.Work.{ChecksFiles, EachFileIsRight}
use Rattle.upon_tool_pages.specs.Sources.{AreFolderFiles}
use Rattle.upon_tool_pages.specs.declared.sources.FolderFile.{FolderFile}
use Rattle.upon_calls.specs.Rendering.{EachHasTree}

-- what templates that are checked may call: the standard functions, if they are asked for; `verbatim`, if values are
-- escaped for a language; and the functions that are named
abbrev pub MayCall : CheckCall → Declared → Type 0
MayCall call callables = (callables.functions.now ≡ functions_if call.standard)
    × (callables.has_verbatim ≡ is_some call.escape) × (callables.others.now ≡ call.functions.items)

module _ (world : World) where
  -- A call of `check` ends with a status, so. The folder's files were read. If the status is 0, each FILE's text has a
  -- tree, no include in it names nothing, with the folder's files, and nothing is wrong with its calls, by what they
  -- may call; and so it is of each file of the folder.
  pub record ChecksCall (call : CheckCall) (input : Option (List ℕ)) (status : ℕ) : Type 0 where
    pub files : List FolderFile
    pub folder : Texts
    pub listed : AreFolderFiles world call.templates call.follow files
    pub taken : TakesFiles files (tool_engine None []) folder
    pub trees : EachHasTree folder
    pub callables : Declared
    pub may_call : MayCall call callables
    pub checked : ChecksFiles world callables folder call.files.items input status
    pub folder_checked : status ≡ 0 → EachFileIsRight callables folder files
