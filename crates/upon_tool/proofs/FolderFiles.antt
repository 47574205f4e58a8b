-- The files of a folder, as an engine and a library are filled with them.
use Rattle.std.proofs.Common.{append_assoc, ◌≡◌, ◌⊎◌, ◌∷◌, [], ◌++◌, ℕ, List, Bool, true, false, map, Bor, Option, Some, None, Result, Ok, Err, IsSome, String, Global, is_some, string_bytes, refl, sym, ap, subst, ◌∙◌, inl, inr}
use Rattle.std.specs.Map.{update}
use Rattle.std.specs.Str.{bytes_eq}
use Rattle.std.proofs.lemmas.List.{append-nil}
use Rattle.std.proofs.lemmas.Map.{update_other, update_same}
use Rattle.std.proofs.lemmas.Slice.Eq.{bytes_eq-Decides}
use Rattle.upon_types.specs.Conversions.{or_else}
use Rattle.upon_types.specs.declared.error.Error.{Error}
use Rattle.upon_engine.specs.Changes.{unless_refused, with_text}
use Rattle.upon_engine.specs.Texts.{Texts}
use Rattle.upon_tool_messages.specs.Library.{library_names, refused_as, IsOfAdded}
use Rattle.upon_tool_messages.specs.declared.library.Library.{Library}
use Rattle.upon_tool_messages.specs.declared.library.Refusal.{Refusal}
use Rattle.upon_tool.specs.Filled.{with_page}
use Rattle.upon_tool_messages.specs.declared.judge.Declared.{Declared}
use Rattle.upon_tool_pages.specs.Missing.{EachName, HeldIsRight, LibraryIsRight}
use Rattle.upon_tool.specs.Work.{EachFileIsRight, IfChecked}
use Rattle.upon_tool.specs.declared.work.Work.{Work}
use Rattle.upon_tool.specs.declared.work.Work.TheVariants.{Render, Check, Names, Each as EachWork, Build as BuildWork}
use Rattle.upon_tool_pages.specs.declared.sources.FolderFile.{FolderFile}
use Rattle.upon_tool_pages.proofs.CheckedFiles.{each_name, name_more}

-- a text was taken under a name, or there is a reason why none was
abbrev pub Took : List ℕ → Option Refusal → Texts → Texts → Type 0
Took name given old new =
    ((given ≡ None) × ((text : List ℕ) × (new ≡ with_text name text old))) ⊎ ((refusal : Refusal) × (given ≡ Some refusal) × (new ≡ old))

pub took_text : {F : Type 0} (key name text : List ℕ) (old after new : Texts) (added : Result (Unit {0}) Error) (q : Result (Option Refusal) F) (r given : Option Refusal) → key ≡ name → new ≡ after → q ≡ Ok r → IsOfAdded added q
    → after ≡ unless_refused added (with_text key text) old → given ≡ r → Took name given old new
took_text key name text old after new (Ok u) q None given same ends was of_added put is = inl (is, (text, ends ∙ put ∙ ap (λ key. with_text key text old) same))
took_text key name text old after new (Ok u) q (Some refusal) given same ends was of_added put is = absurd (subst (IsOfAdded (Ok u)) was of_added)
took_text key name text old after new (Err e) q None given same ends was of_added put is = absurd (subst (IsOfAdded {A = Unit {0}} (Err e)) was of_added)
took_text key name text old after new (Err e) q (Some refusal) given same ends was of_added put is = inr (refusal, is, ends ∙ put)

-- a name without a reason is held
module _ (name : List ℕ) (given : Option Refusal) (old new : Texts) (was now : List ℕ → Option Refusal) (took : Took name given old new) (refused : (other : List ℕ) → now other ≡ update bytes_eq was name (or_else given (was name)) other) where
  none_given : (refusal : Refusal) → given ≡ Some refusal → now name ≡ None → ⊥
  none_given refusal is none =
      let at : now name ≡ or_else given (was name) = refused name ∙ update_same bytes_eq was name (or_else given (was name)) name ((bytes_eq-Decides name name).1 refl) in
      let never : true ≡ false = sym (ap is_some (at ∙ ap (λ given. or_else given (was name)) is)) ∙ ap is_some none in absurd cc

  held_by : Took name given old new → now name ≡ None → IsSome (new.texts name)
  held_by (inl said) none =
      subst (λ e. IsSome (e.texts name)) (sym said.1.1) (ap is_some (update_same bytes_eq old.texts name (Some (record { text = said.1.0; syntax = old.syntax })) name ((bytes_eq-Decides name name).1 refl)))
  held_by (inr said) none = absurd (none_given said.0 said.1 none)

  apart_held : (n : List ℕ) → bytes_eq name n ≡ false → Took name given old new → IsSome (old.texts n) → IsSome (new.texts n)
  apart_held n apart (inl said) some =
      subst (λ e. IsSome (e.texts n)) (sym said.1.1) (ap is_some (update_other bytes_eq old.texts name (Some (record { text = said.1.0; syntax = old.syntax })) n apart) ∙ some)
  apart_held n apart (inr said) some = subst (λ e. IsSome (e.texts n)) (sym said.2) some

  held_later : (n : List ℕ) (here : Bool) → bytes_eq name n ≡ here → (was n ≡ None → IsSome (old.texts n)) → now n ≡ None → IsSome (new.texts n)
  held_later n true at before none =
      let same = (bytes_eq-Decides name n).0 at in
      subst (λ n. IsSome (new.texts n)) same (held_by took (subst (λ n. now n ≡ None) (sym same) none))
  held_later n false at before none =
      apart_held n at took (before (sym (refused n ∙ update_other bytes_eq was name (or_else given (was name)) n at) ∙ none))

  pub held_more : (names : List (List ℕ)) → EachName (λ n. was n ≡ None → IsSome (old.texts n)) names → EachName (λ n. now n ≡ None → IsSome (new.texts n)) (names ++ name ∷ [])
  held_more names each =
      name_more (λ n. now n ≡ None → IsSome (new.texts n)) names name
      (each_name (λ n. was n ≡ None → IsSome (old.texts n)) (λ n. now n ≡ None → IsSome (new.texts n)) (λ n before. held_later n (bytes_eq name n) refl before) names each) (held_by took)

-- a file's path
abbrev pub file_name : FolderFile → List ℕ
file_name file = string_bytes file.name

-- what is known of a library and of what an engine holds, before the rest of the files
abbrev pub FolderSoFar : Library → Texts → List FolderFile → List FolderFile → Type 0
FolderSoFar library e rest all =
    (library_names library ++ map file_name rest ≡ map file_name all) × EachName (λ name. refused_as library name ≡ None → IsSome (e.texts name)) (library_names library)

pub folder_begun : (library : Library) (e : Texts) (all : List FolderFile) → library_names library ≡ [] → FolderSoFar library e all all
folder_begun library e all none = (
  ap (λ names. names ++ map file_name all) none,
  subst (EachName (λ name. refused_as library name ≡ None → IsSome (e.texts name))) (sym none) tt,
)

pub folder_more : (key : List ℕ) (given : Option Refusal) (old new : Texts) (was now : Library) (file : FolderFile) (items rest all : List FolderFile) → key ≡ file_name file → items ≡ file ∷ rest → Took (file_name file) given old new
    → library_names now ≡ library_names was ++ key ∷ [] → ((other : List ℕ) → refused_as now other ≡ update bytes_eq (refused_as was) key (or_else given (refused_as was key)) other) → FolderSoFar was old items all → FolderSoFar now new rest all
folder_more key given old new was now file items rest all same is took listed refused so_far =
    let names = library_names was in (
      ap (λ l. l ++ map file_name rest) listed
          ∙ append_assoc names (key ∷ []) (map file_name rest)
          ∙ ap (λ key. names ++ key ∷ map file_name rest) same
          ∙ sym (ap (λ items. names ++ map file_name items) is)
          ∙ so_far.0,
      subst (EachName (λ name. refused_as now name ≡ None → IsSome (new.texts name))) (sym (listed ∙ ap (λ key. names ++ key ∷ []) same))
          (held_more (file_name file) given old new (refused_as was) (refused_as now) took
          (subst (λ key. (other : List ℕ) → refused_as now other ≡ update bytes_eq (refused_as was) key (or_else given (refused_as was key)) other) same refused) names so_far.1),
    )

pub folder_ended : (library : Library) (e : Texts) (items listed all : List FolderFile) → items ≡ [] → listed ≡ all → FolderSoFar library e items listed → FolderSoFar library e [] all
folder_ended library e items listed all none same so_far =
    subst (λ all. FolderSoFar library e [] all) same (subst (λ rest. FolderSoFar library e rest listed) none so_far)

-- a template beside them hides none
page_held : (page : Option (Bor (List ℕ) × String Global)) (folder : Texts) (n : List ℕ) → IsSome (folder.texts n) → IsSome ((with_page page folder).texts n)
page_held None folder n some = some
page_held (Some page) folder n some = by_name (bytes_eq page.0.now n) refl
  where
    by_name : (here : Bool) → bytes_eq page.0.now n ≡ here → IsSome ((with_page (Some page) folder).texts n)
    by_name true at = ap is_some (update_same bytes_eq folder.texts page.0.now (Some (record { text = string_bytes page.1; syntax = folder.syntax })) n at)
    by_name false at = ap is_some (update_other bytes_eq folder.texts page.0.now (Some (record { text = string_bytes page.1; syntax = folder.syntax })) n at) ∙ some

both_so : (P Q : List ℕ → Type 0) (names : List (List ℕ)) → EachName P names → EachName Q names → EachName (λ name. P name × Q name) names
both_so P Q [] each other = tt
both_so P Q (name ∷ names) each other = ((each.0, other.0), both_so P Q names each.1 other.1)

-- no file is refused, and what is held is right: so is each file
files_right : (callables : Declared) (library : Library) (folder e : Texts) (page : Option (Bor (List ℕ) × String Global)) (all : List FolderFile) → e ≡ with_page page folder → FolderSoFar library folder [] all → LibraryIsRight callables e library → EachFileIsRight callables e all
files_right callables library folder e page all is so_far right =
    let all_names : library_names library ≡ map file_name all = sym (append-nil (library_names library)) ∙ so_far.0 in
    subst (EachName (λ name. IsSome (e.texts name) × HeldIsRight callables e name)) all_names
    (each_name (λ name. ((refused_as library name ≡ None) × HeldIsRight callables e name) × (refused_as library name ≡ None → IsSome (folder.texts name))) (λ name. IsSome (e.texts name) × HeldIsRight callables e name) (λ name said. (
      subst (λ e. IsSome (e.texts name)) (sym is) (page_held page folder name (said.1 said.0.0)),
      said.0.1,
    )) (library_names library) (both_so (λ name. (refused_as library name ≡ None) × HeldIsRight callables e name) (λ name. refused_as library name ≡ None → IsSome (folder.texts name)) (library_names library) right so_far.1))

-- so it is if files are to be checked
pub folder_checked : (work : Work) (library : Library) (folder e : Texts) (page : Option (Bor (List ℕ) × String Global)) (all : List FolderFile) → e ≡ with_page page folder → FolderSoFar library folder [] all → IfChecked work (λ callables. LibraryIsRight callables e library) → IfChecked work (λ callables. EachFileIsRight callables e all)
folder_checked (Render shown path) library folder e page all is so_far right = tt
folder_checked (Check names callables) library folder e page all is so_far right = files_right callables library folder e page all is so_far right
folder_checked (Names name json) library folder e page all is so_far right = tt
folder_checked (EachWork value asked terminal) library folder e page all is so_far right = tt
folder_checked (BuildWork value asked terminal) library folder e page all is so_far right = tt
