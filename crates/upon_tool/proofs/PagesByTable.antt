-- What pages are by one table of trees: those of items, and those of files.
use Rattle.std.proofs.Common.{◌≡◌, ◌∙◌, ℕ, List, Bool, true, false, Bor, Option, Some, None, Result, Ok, Err, String, Global, string_bytes, refl, sym, ap, subst, inl, inr}
use Rattle.std.specs.Prelude.{unwrap_or, MatchOption}
use Rattle.std.specs.Str.{IsUtf8}
use Rattle.std.proofs.lemmas.Str.{IsUtf8-string_bytes}
use Rattle.upon_types.specs.Val.{Val, Entries}
use Rattle.upon_types.specs.View.{view}
use Rattle.upon_types.specs.declared.value.Value.{Value}
use Rattle.upon_language_spec.specs.DefaultDelimiters.{default_delimiters}
use Rattle.upon_meaning_spec.specs.Engine.{Table}
use Rattle.upon_vm.specs.declared.limits.Limits.{Limits}
use Rattle.upon_engine.specs.Changes.{with_text}
use Rattle.upon_engine.specs.Texts.{Stored, Texts}
use Rattle.upon_engine.specs.Theorem.{IsTable}
use Rattle.upon_tool_io.specs.Paths.{joined_path}
use Rattle.upon_tool_io.specs.World.{World}
use Rattle.upon_tool_io.specs.Written.{Log}
use Rattle.upon_tool_io.specs.declared.files.ReadFault.{ReadFault}
use Rattle.upon_tool_many.specs.Build.{DoesPage, EndsOf, EndsOfRead, FramesText, IsNamedBy, IsPageOf}
use Rattle.upon_tool_many.specs.Each.{DoesItem, IsItemAnswer, IsItemName, IsItemText, NamesItem}
use Rattle.upon_tool_many.specs.Names.{page_name}
use Rattle.upon_tool_many.specs.Pages.{is_failed, IsHeldText, IsSourceText, PageEndsBy}
use Rattle.upon_tool_many.specs.declared.build.Build.{Build}
use Rattle.upon_tool_many.specs.declared.build.Source.{Source}
use Rattle.upon_tool_many.specs.declared.each.Each.{Each}
use Rattle.upon_tool_many.specs.declared.pages.DonePage.{DonePage}
use Rattle.upon_tool_many.specs.declared.pages.Page.{Page}
use Rattle.upon_tool_many.specs.declared.pages.PageEnd.{PageEnd}
use Rattle.upon_tool_many.specs.declared.pages.PageEnd.TheVariants.{Failed}
use Rattle.upon_tool_many.specs.declared.pages.PageFault.{PageFault}
use Rattle.upon_tool_many.specs.declared.pages.PageFault.TheVariants.{Unread}
use Rattle.upon_calls.proofs.Tables.{added}
use Rattle.upon_tool.specs.ByTable.{EndsByName, EndsFile, EndsItem, EndsRendered, Framed, FramesTextBy, IsHeldTextBy, IsSourceTextBy, NamedMeans, OnItem, PutsBy, PutsFile, PutsItem, SourceMeans}
use Rattle.upon_tool.specs.Calls.{IsLayout}
use Rattle.upon_tool.specs.Filled.{with_page}
use Rattle.upon_tool.proofs.OneTable.{held_means, held_text, not_failed, not_out, put, put_text, source_means, source_text}

-- ---- a layout
-- is held under its name
pub layout_held : (world : World) (layout : Option (Bor (List ℕ))) (input : Option (List ℕ)) (page : Option (Bor (List ℕ) × String Global)) (folder : Texts) → IsLayout world layout input page
    → (l : Bor (List ℕ)) → layout ≡ Some l → (held : Stored) × ((with_page page folder).texts l.now ≡ Some held)
layout_held world None input page folder is l same = absurd cc
layout_held world (Some name) input None folder is l same = absurd is
layout_held world (Some name) input (Some page) folder is l same =
    let named : name ≡ l = cc in
    let held : Stored = record { text = string_bytes page.1; syntax = folder.syntax } in
    (held, subst (λ n. (with_text page.0.now (string_bytes page.1) folder).texts n.now ≡ Some held) (is.0 ∙ named) (added page.0.now (string_bytes page.1) folder))

pub page_syntax : (page : Option (Bor (List ℕ) × String Global)) (folder : Texts) → (with_page page folder).syntax ≡ folder.syntax
page_syntax None folder = refl
page_syntax (Some page) folder = refl

-- ---- answers on an item's value
on_item : (A B : Val → Result (String Global) PageFault → Type 0) (others : Entries) (item : Val) (result : Result (String Global) PageFault) → ((v : Val) → A v result → B v result) → IsItemAnswer A others item result → IsItemAnswer B others item result
on_item A B others item result so (inl (v, of, says)) = inl (v, of, so v says)
on_item A B others item result so (inr out) = inr out

-- one that is a text
of_item : (A : Val → Result (String Global) PageFault → Type 0) (Holds : Val → Type 0) (others : Entries) (item : Val) (text : String Global) → ((v : Val) → A v (Ok text) → Holds v) → IsItemAnswer A others item (Ok text) → OnItem others item Holds
of_item A Holds others item text so (inl (v, of, says)) = (v, of, so v says)
of_item A Holds others item text so (inr out) = absurd (not_out text out)

-- ---- how pages end
module _ (world : World) (e : Texts) (table : Table) (is : IsTable e.texts table) (syntax : e.syntax ≡ default_delimiters) where
  pub item_ends : (asked : Each) (others : Entries) (held : Stored) → IsUtf8 asked.name.now → e.texts asked.page.now ≡ Some held
      → (item : Value) (page : Page Value) (done : DonePage) (old new : Log) → NamesItem e asked others item page → DoesItem world e asked others page done old new
      → EndsItem world e table asked others item done old new
  item_ends asked others held utf8 there item page done old new names does =
      let (from, named, inside) = names in
      let (same, (text, answered, ends)) = does in (
        text,
        on_item (IsSourceText asked.limits e asked.name.now) (IsSourceTextBy asked.limits e table asked.name.now) others (view item) (Ok done.name) (λ v. source_text asked.limits e table is asked.name.now v (Ok done.name) syntax utf8) (subst (λ name. IsItemName e asked others (view item) (Ok name)) (sym same) named),
        on_item (IsHeldText asked.limits e asked.page.now) (IsHeldTextBy asked.limits e table asked.page.now) others (view item) text (λ v. held_text asked.limits e table is asked.page.now held v text there) (subst (λ v. IsItemText e asked others (view v) text) from answered),
        subst (λ name. PageEndsBy world (joined_path asked.out.now (string_bytes name)) text done.end old new) (sym same) ends,
      )

  -- ---- of a file
  framed : (limits : Option Limits) (layout : Option (Bor (List ℕ))) (context : Val) (text whole : Result (String Global) PageFault) → ((l : Bor (List ℕ)) → layout ≡ Some l → (held : Stored) × (e.texts l.now ≡ Some held))
      → FramesText limits e layout context text whole → FramesTextBy limits e table layout context text whole
  framed limits None context (Ok text) whole there says = says
  framed limits None context (Err fault) whole there says = says
  framed limits (Some layout) context (Ok text) whole there (inl (v, of, says)) =
      let (held, at) = there layout refl in inl (v, of, held_text limits e table is layout.now held v whole at says)
  framed limits (Some layout) context (Ok text) whole there (inr out) = inr out
  framed limits (Some layout) context (Err fault) whole there says = says

  by_name : (asked : Build) (context : Val) (named : Option (List ℕ)) (page : Page Source) (path : List ℕ) (end : PageEnd) (old new : Log) → ((l : Bor (List ℕ)) → asked.layout ≡ Some l → (held : Stored) × (e.texts l.now ≡ Some held))
      → IsNamedBy named page → EndsOfRead world page.from.is_template (string_bytes page.name) path e asked context end old new → EndsByName world e table named asked context path end old new
  by_name asked context None page path end old new there named ends = subst (λ b. EndsOfRead world b (string_bytes page.name) path e asked context end old new) named.0 ends
  by_name asked context (Some name) page path end old new there named ends =
      rendered (subst (λ name. EndsOfRead world true name path e asked context end old new) named.1 (subst (λ b. EndsOfRead world b (string_bytes page.name) path e asked context end old new) named.0 ends))
    where
      rendered : EndsOfRead world true name path e asked context end old new → EndsRendered world e table asked context path name end old new
      rendered (inl (source, whole, holds, (text, says, frames), wrote)) =
          inl (source, text, whole, holds, source_text asked.limits e table is (string_bytes source) context text syntax (IsUtf8-string_bytes source) says, framed asked.limits asked.layout context text whole there frames, wrote)
      rendered (inr unread) = inr unread

  page_name_is : (named : Option (List ℕ)) (page : Page Source) → IsNamedBy named page → string_bytes page.name ≡ unwrap_or named (string_bytes page.from.path)
  page_name_is None page named = named.1
  page_name_is (Some name) page named = named.1

  by_fault : (X : Type 0) (asked : Build) (context : Val) (fault : Option ReadFault) (is_template : Bool) (name path : List ℕ) (end : PageEnd) (old new : Log)
      → (EndsOfRead world is_template name path e asked context end old new → X) → EndsOf world fault is_template name path e asked context end old new → MatchOption fault X (λ fault. (end ≡ Failed (Unread fault)) × (new ≡ old))
  by_fault X asked context None is_template name path end old new so ends = so ends
  by_fault X asked context (Some fault) is_template name path end old new so ends = ends

  pub file_ends : (asked : Build) (context : Val) → ((l : Bor (List ℕ)) → asked.layout ≡ Some l → (held : Stored) × (e.texts l.now ≡ Some held))
      → (file : String Global × Option ReadFault) (page : Page Source) (done : DonePage) (old new : Log) → IsPageOf file page → DoesPage world e asked context page done old new
      → EndsFile world e table asked context file done old new
  file_ends asked context there file page done old new of does =
      let (at, fault, named) = of in
      let template = page_name (string_bytes file.0) in
      let ends = subst (λ path. EndsOf world page.from.fault page.from.is_template (string_bytes page.name) (string_bytes path) e asked context done.end old new) at does.1 in (
        ap string_bytes does.0 ∙ page_name_is template page named ∙ ap (λ path. unwrap_or template (string_bytes path)) at,
        by_fault (EndsByName world e table template asked context (string_bytes file.0) done.end old new) asked context file.1 page.from.is_template (string_bytes page.name) (string_bytes file.0) done.end old new
            (by_name asked context template page (string_bytes file.0) done.end old new there named)
            (subst (λ fault. EndsOf world fault page.from.is_template (string_bytes page.name) (string_bytes file.0) e asked context done.end old new) fault ends),
      )

-- ---- pages that did not fail
module _ (world : World) (e : Texts) (table : Table) where
  pub item_put : (asked : Each) (others : Entries) (item : Value) (page : DonePage) (old new : Log) → is_failed page.end ≡ false → EndsItem world e table asked others item page old new → PutsItem world e table asked others item old new
  item_put asked others item page old new well (text, named, says, ends) =
      let (whole, is_whole, puts) = put_text world (joined_path asked.out.now (string_bytes page.name)) text page.end old new well ends in (
        string_bytes page.name,
        string_bytes whole,
        of_item (IsSourceTextBy asked.limits e table asked.name.now) (λ v. SourceMeans e table asked.name.now v (string_bytes page.name)) others (view item) page.name (λ v. source_means asked.limits e table asked.name.now v page.name) named,
        of_item (IsHeldTextBy asked.limits e table asked.page.now) (λ v. NamedMeans e table asked.page.now v (string_bytes whole)) others (view item) whole (λ v. held_means asked.limits e table asked.page.now v whole) (subst (IsItemAnswer (IsHeldTextBy asked.limits e table asked.page.now) others (view item)) is_whole says),
        puts,
      )

  framed_means : (limits : Option Limits) (layout : Option (Bor (List ℕ))) (context : Val) (source : List ℕ) (text : Result (String Global) PageFault) (page : String Global) → IsSourceTextBy limits e table source context text → FramesTextBy limits e table layout context text (Ok page)
      → (first : List ℕ) × SourceMeans e table source context first × Framed e table layout context first (string_bytes page)
  framed_means limits None context source (Ok text) page says frames =
      let same : page ≡ text = cc in (string_bytes text, source_means limits e table source context text says, ap string_bytes same)
  framed_means limits None context source (Err fault) page says frames = absurd cc
  framed_means limits (Some layout) context source (Ok text) page says (inl (v, of, answers)) =
      (string_bytes text, source_means limits e table source context text says, (v, of, held_means limits e table layout.now v page answers))
  framed_means limits (Some layout) context source (Ok text) page says (inr out) = absurd (not_out page out)
  framed_means limits (Some layout) context source (Err fault) page says frames = absurd cc

  put_by : (asked : Build) (context : Val) (named : Option (List ℕ)) (path : List ℕ) (end : PageEnd) (old new : Log) → is_failed end ≡ false → EndsByName world e table named asked context path end old new → PutsBy world e table named asked context path old new
  put_by asked context None path end old new well (inl (bytes, holds, wrote)) = (bytes, holds, put world (joined_path asked.out.now path) bytes end old new well wrote)
  put_by asked context None path end old new well (inr unread) = absurd (not_failed end well unread.1)
  put_by asked context (Some name) path end old new well (inl (source, text, whole, holds, says, frames, wrote)) =
      let (page, is_whole, puts) = put_text world (joined_path asked.out.now name) whole end old new well wrote in
      let (first, means, framed) = framed_means asked.limits asked.layout context (string_bytes source) text page says (subst (FramesTextBy asked.limits e table asked.layout context text) is_whole frames) in
      (string_bytes source, first, string_bytes page, holds, means, framed, puts)
  put_by asked context (Some name) path end old new well (inr unread) = absurd (not_failed end well unread.1)

  was_read : (X : Type 0) (fault : Option ReadFault) (end : PageEnd) (old new : Log) → is_failed end ≡ false → MatchOption fault X (λ fault. (end ≡ Failed (Unread fault)) × (new ≡ old)) → X
  was_read X None end old new well ends = ends
  was_read X (Some fault) end old new well ends = absurd (not_failed end well ends.0)

  pub file_put : (asked : Build) (context : Val) (file : String Global × Option ReadFault) (page : DonePage) (old new : Log) → is_failed page.end ≡ false → EndsFile world e table asked context file page old new → PutsFile world e table asked context file old new
  file_put asked context file page old new well (named, ends) =
      let template = page_name (string_bytes file.0) in
      put_by asked context template (string_bytes file.0) page.end old new well (was_read (EndsByName world e table template asked context (string_bytes file.0) page.end old new) file.1 page.end old new well ends)
