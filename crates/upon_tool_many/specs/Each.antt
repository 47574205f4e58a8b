-- What a template that is rendered for each item of a list makes.
use Rattle.std.specs.Prelude.{◌≡◌, ◌⊎◌, ◌<◌, ℕ, List, [], length, true, false, Some, Result, Ok, Err, String, string_bytes, slice_index_or}
use Rattle.std.specs.declared.alloc.Global.{Global}
use Rattle.upon_types.specs.Val.{Val, Vals, Entries, key_of, list_val}
use Rattle.upon_types.specs.View.{view, vals_view}
use Rattle.upon_types.specs.declared.value.Value.{Value}
use Rattle.upon_engine.specs.Texts.{Texts}
use Rattle.upon_tool_many.specs.Names.{stays_inside, page_names, DifferBelow, IsFirstAgain}
use Rattle.upon_tool_many.specs.Pages.{DoneInOrder, EachWith, IsHeldText, IsMemoryOut, IsSourceText, PageEndsBy}
use Rattle.upon_tool_many.specs.Values.{IsItemValue, IsSplit}
use Rattle.upon_tool_io.specs.Paths.{joined_path}
use Rattle.upon_tool_io.specs.World.{World}
use Rattle.upon_tool_io.specs.Written.{Log}
use Rattle.upon_tool_many.specs.declared.each.Each.{Each}
use Rattle.upon_tool_many.specs.declared.each.EachFault.{EachFault}
use Rattle.upon_tool_many.specs.declared.each.EachFault.TheVariants.{NoList, Unnamed, Outside, Twice, OutOfMemory}
use Rattle.upon_tool_many.specs.declared.pages.DonePage.{DonePage}
use Rattle.upon_tool_many.specs.declared.pages.Page.{Page}
use Rattle.upon_tool_many.specs.declared.pages.PageFault.{PageFault}

-- this is what is answered on the value of an item, or memory was out
abbrev pub IsItemAnswer : (Val → Result (String Global) PageFault → Type 0) → Entries → Val
    → Result (String Global) PageFault → Type 0
IsItemAnswer Answers others item result =
    ((v : Val) × IsItemValue others item v × Answers v result) ⊎ IsMemoryOut result

-- this is the name of the page of an item: what the text of a template of names answers for it
abbrev pub IsItemName : Texts → Each → Entries → Val → Result (String Global) PageFault → Type 0
IsItemName e asked others item result = IsItemAnswer (IsSourceText asked.limits e asked.name.now) others item result

-- this is the text of the page of an item: what the template of the pages answers for it
abbrev pub IsItemText : Texts → Each → Entries → Val → Result (String Global) PageFault → Type 0
IsItemText e asked others item result = IsItemAnswer (IsHeldText asked.limits e asked.page.now) others item result

-- a page is that of an item, and has its name, which stays in its folder
abbrev pub NamesItem : Texts → Each → Entries → Value → Page Value → Type 0
NamesItem e asked others item page = (page.from ≡ item)
    × IsItemName e asked others (view item) (Ok page.name)
    × (stays_inside (string_bytes page.name) ≡ true)

-- the page of an item is done: it ends by its text
abbrev pub DoesItem : World → Texts → Each → Entries → Page Value → DonePage → Log → Log → Type 0
DoesItem world e asked others page done old new = (done.name ≡ page.name) × ((text : Result (String Global) PageFault)
    × IsItemText e asked others (view page.from) text
    × PageEndsBy world (joined_path asked.out.now (string_bytes page.name)) text done.end old new)

-- the pages of items have names
abbrev pub NamesItems : Texts → Each → Entries → List Value → List (Page Value) → Type 0
NamesItems e asked others items pages = EachWith (NamesItem e asked others) items pages

-- A template is rendered for each item: the context has a list at the key; each item has a page with a name; no two
-- names are equal; and these pages are done in the order of the items.
pub record DoesEach (world : World) (e : Texts) (asked : Each) (context : Val) (done : List DonePage) (old new : Log)
    : Type 0 where
  pub others : Entries
  pub items : List Value
  pub pages : List (Page Value)
  pub listed : IsSplit asked.key.now context others (vals_view items)
  pub named : NamesItems e asked others items pages
  pub differ : DifferBelow (page_names pages) (length (page_names pages))
  pub done_in_order : DoneInOrder asked.keep_going (DoesItem world e asked others) pages done old new

-- Why the item at a place of a list has no page: it has no name, or none that stays in its folder.
abbrev pub RefusesItem : Texts → Each → Entries → ℕ → Value → EachFault → Type 0
RefusesItem e asked others place item NoList = ⊥
RefusesItem e asked others place item (Unnamed at fault) =
    (at ≡ place) × IsItemName e asked others (view item) (Err fault)
RefusesItem e asked others place item (Outside at name) =
    (at ≡ place) × IsItemName e asked others (view item) (Ok name) × (stays_inside (string_bytes name) ≡ false)
RefusesItem e asked others place item (Twice first second name) = ⊥
RefusesItem e asked others place item OutOfMemory = ⊥

-- Why the items of a list have no pages: one of them has none; or memory was out.
abbrev pub RefusesNames : Texts → Each → Entries → List Value → EachFault → Type 0
RefusesNames e asked others items fault = (fault ≡ OutOfMemory)
    ⊎ ((place : ℕ) × (item : Value) × (place < length items) × (slice_index_or items place item ≡ item)
    × RefusesItem e asked others place item fault)

-- Why pages are not rendered: two of their names are equal; or memory was out.
abbrev pub RefusesTwice : List (List ℕ) → EachFault → Type 0
RefusesTwice names NoList = ⊥
RefusesTwice names (Unnamed place fault) = ⊥
RefusesTwice names (Outside place name) = ⊥
RefusesTwice names (Twice first second name) =
    IsFirstAgain names (Some (first, second)) × (string_bytes name ≡ slice_index_or names second [])
RefusesTwice names OutOfMemory = Unit {0}

-- Why no page is rendered: the context has no list at the key; or the names of the items of that list are refused.
abbrev pub RefusesEach : Texts → Each → Val → EachFault → Type 0
RefusesEach e asked context fault =
    ((fault ≡ NoList) × ((items : Vals) → key_of asked.key.now context ≡ Some (list_val items) → ⊥))
    ⊎ ((others : Entries) × (items : List Value) × IsSplit asked.key.now context others (vals_view items)
    × (RefusesNames e asked others items fault
    ⊎ ((pages : List (Page Value)) × NamesItems e asked others items pages × RefusesTwice (page_names pages) fault)))
