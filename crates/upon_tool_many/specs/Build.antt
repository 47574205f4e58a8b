-- What a folder is built into.
use Rattle.std.specs.Prelude.{◌≡◌, ◌⊎◌, ℕ, List, [], length, Bool, true, false, Option, Some, None, Result, Ok, Err, String, string_bytes, slice_index_or}
use Rattle.std.specs.Borrow.{Bor}
use Rattle.std.specs.declared.alloc.Global.{Global}
use Rattle.upon_types.specs.Val.{Val}
use Rattle.upon_tool_io.specs.Paths.{joined_path}
use Rattle.upon_tool_io.specs.World.{World, IsNoFileText, RefusesName}
use Rattle.upon_tool_io.specs.Written.{Log}
use Rattle.upon_tool_io.specs.declared.files.ReadFault.{ReadFault}
use Rattle.upon_vm.specs.declared.limits.Limits.{Limits}
use Rattle.upon_engine.specs.Texts.{Texts}
use Rattle.upon_tool_many.specs.Names.{page_name, page_names, DifferBelow, IsFirstAgain}
use Rattle.upon_tool_many.specs.Pages.{DoneInOrder, EachWith, IsHeldText, IsMemoryOut, IsOfWriting, IsSourceText, PageEndsBy}
use Rattle.upon_tool_many.specs.Values.{IsContentValue}
use Rattle.upon_tool_many.specs.declared.build.Build.{Build}
use Rattle.upon_tool_many.specs.declared.build.BuildFault.{BuildFault}
use Rattle.upon_tool_many.specs.declared.build.BuildFault.TheVariants.{Unread as FolderUnread, OutInSource, Twice, OutOfMemory}
use Rattle.upon_tool_many.specs.declared.build.Source.{Source}
use Rattle.upon_tool_many.specs.declared.pages.DonePage.{DonePage}
use Rattle.upon_tool_many.specs.declared.pages.Page.{Page}
use Rattle.upon_tool_many.specs.declared.pages.PageEnd.{PageEnd}
use Rattle.upon_tool_many.specs.declared.pages.PageEnd.TheVariants.{Failed}
use Rattle.upon_tool_many.specs.declared.pages.PageFault.{PageFault}
use Rattle.upon_tool_many.specs.declared.pages.PageFault.TheVariants.{Unread}

-- the name of a page, and whether its file is a template: so it is if its path has the extension of templates
abbrev pub IsNamedBy : Option (List ℕ) → Page Source → Type 0
IsNamedBy None page = (page.from.is_template ≡ false) × (string_bytes page.name ≡ string_bytes page.from.path)
IsNamedBy (Some name) page = (page.from.is_template ≡ true) × (string_bytes page.name ≡ name)

-- the page of a file, by its path and why it can't be read, if that is known
abbrev pub IsPageOf : String Global × Option ReadFault → Page Source → Type 0
IsPageOf file page = (page.from.path ≡ file.0) × (page.from.fault ≡ file.1)
    × IsNamedBy (page_name (string_bytes file.0)) page

-- the text of a page in its layout: as it is if there is no layout, else what that answers on the context with the text
abbrev pub FramesText : Option Limits → Texts → Option (Bor (List ℕ)) → Val → Result (String Global) PageFault
    → Result (String Global) PageFault → Type 0
FramesText limits e layout context (Err fault) result = result ≡ Err fault
FramesText limits e None context (Ok text) result = result ≡ Ok text
FramesText limits e (Some layout) context (Ok text) result = ((v : Val) × IsContentValue context (string_bytes text) v
    × IsHeldText limits e layout.now v result) ⊎ IsMemoryOut result

-- the text of the page of a template's source: what that answers on the context, in the layout
abbrev pub IsPageText : Texts → Build → Val → List ℕ → Result (String Global) PageFault → Type 0
IsPageText e asked context source result = (text : Result (String Global) PageFault)
    × IsSourceText asked.limits e source context text × FramesText asked.limits e asked.layout context text result

module _ (world : World) where
  -- a page failed, as the file of a path was not read, for a reason that there may be, and nothing was written
  abbrev pub IsUnreadPage : List ℕ → PageEnd → Log → Log → Type 0
  IsUnreadPage path end old new =
      (fault : ReadFault) × (end ≡ Failed (Unread fault)) × IsNoFileText world path fault × (new ≡ old)

  -- How the copy of a file ends: by the bytes that it may hold; or it was not read.
  abbrev pub EndsOfCopy : List ℕ → Build → PageEnd → Log → Log → Type 0
  EndsOfCopy path asked end old new = ((bytes : List ℕ) × world.holds (joined_path asked.source.now path) bytes
      × IsOfWriting world (joined_path asked.out.now path) bytes end old new)
      ⊎ IsUnreadPage (joined_path asked.source.now path) end old new

  -- How the page of a name ends that is made of a template's file: by the text of what that may hold; or it was not
  -- read.
  abbrev pub EndsOfTemplate : List ℕ → List ℕ → Texts → Build → Val → PageEnd → Log → Log → Type 0
  EndsOfTemplate name path e asked context end old new = ((source : String Global)
      × (text : Result (String Global) PageFault)
      × world.holds (joined_path asked.source.now path) (string_bytes source)
      × IsPageText e asked context (string_bytes source) text
      × PageEndsBy world (joined_path asked.out.now name) text end old new)
      ⊎ IsUnreadPage (joined_path asked.source.now path) end old new

  -- how the page of a file ends, by whether that is a template
  abbrev pub EndsOfRead : Bool → List ℕ → List ℕ → Texts → Build → Val → PageEnd → Log → Log → Type 0
  EndsOfRead false name path e asked context end old new = EndsOfCopy path asked end old new
  EndsOfRead true name path e asked context end old new = EndsOfTemplate name path e asked context end old new

  -- how the page of a file ends: if it is known why the file can't be read, it failed for that
  abbrev pub EndsOf : Option ReadFault → Bool → List ℕ → List ℕ → Texts → Build → Val → PageEnd → Log → Log → Type 0
  EndsOf (Some fault) is_template name path e asked context end old new = (end ≡ Failed (Unread fault)) × (new ≡ old)
  EndsOf None is_template name path e asked context end old new =
      EndsOfRead is_template name path e asked context end old new

  -- the page of a file is done
  abbrev pub DoesPage : Texts → Build → Val → Page Source → DonePage → Log → Log → Type 0
  DoesPage e asked context page done old new = (done.name ≡ page.name) × EndsOf page.from.fault page.from.is_template
      (string_bytes page.name) (string_bytes page.from.path) e asked context done.end old new

  -- A folder is built that is not in its own: each of its files has a page; no two names are equal; and the pages are
  -- done in the order of the files.
  pub record DoesBuild (e : Texts) (asked : Build) (context : Val) (done : List DonePage) (old new : Log)
      : Type 0 where
    pub files : List (String Global × Option ReadFault)
    pub pages : List (Page Source)
    pub listed : world.lists asked.source.now asked.follows files
    pub apart : world.within asked.out.now asked.source.now false
    pub named : EachWith IsPageOf files pages
    pub differ : DifferBelow (page_names pages) (length (page_names pages))
    pub done_in_order : DoneInOrder asked.keep_going (DoesPage e asked context) pages done old new

-- Why pages are not built: two have this name; or memory was out.
abbrev pub RefusesSame : List (List ℕ) → BuildFault → Type 0
RefusesSame names (FolderUnread fault) = ⊥
RefusesSame names OutInSource = ⊥
RefusesSame names (Twice name) =
    (first : ℕ) × (second : ℕ) × IsFirstAgain names (Some (first, second))
    × (string_bytes name ≡ slice_index_or names second [])
RefusesSame names OutOfMemory = Unit {0}

module _ (world : World) where
  -- why nothing is built: the folder was not read; or that of the pages is in it; or two pages of its files have one
  -- name; or memory was out
  abbrev pub RefusesBuild : Build → BuildFault → Type 0
  RefusesBuild asked (FolderUnread fault) = RefusesName world asked.source.now fault
  RefusesBuild asked OutInSource = world.within asked.out.now asked.source.now true
  RefusesBuild asked (Twice name) = (files : List (String Global × Option ReadFault)) × (pages : List (Page Source))
      × world.lists asked.source.now asked.follows files
      × EachWith IsPageOf files pages × RefusesSame (page_names pages) (Twice name)
  RefusesBuild asked OutOfMemory = Unit {0}
