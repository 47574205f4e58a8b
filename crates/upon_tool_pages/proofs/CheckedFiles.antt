-- The files of a folder that are checked.
use Rattle.std.proofs.Common.{◌≡◌, ◌<◌, ◌+◌, ◌&&◌, ◌∷◌, [], ◌++◌, ℕ, List, Bool, true, map, Option, Some, None, String, Global, length, take, get_or, string_bytes, refl, sym, ap, subst, ◌∙◌}
use Rattle.std.proofs.lemmas.List.{map-append, take_more}
use Rattle.upon_language_spec.specs.Search.{DelimiterText}
use Rattle.upon_meaning_spec.specs.Engine.{Table, Template}
use Rattle.upon_engine.specs.Texts.{Stored, Texts}
use Rattle.upon_engine.specs.Theorem.{IsTable, IsTemplateOf}
use Rattle.upon_tool_messages.specs.Library.{library_names, refused_as}
use Rattle.upon_tool_messages.specs.declared.judge.Declared.{Declared}
use Rattle.upon_tool_messages.specs.declared.library.Library.{Library}
use Rattle.upon_tool_pages.specs.Missing.{EachName, HeldIsRight, IsRightTemplate, LibraryIsRight}
use Rattle.upon_calls.proofs.Kept.{first_true, second_true}

-- the template of a table under a name
abbrev source_at : Option Template → List ℕ
source_at None = []
source_at (Some t) = t.source

pub held_right : (callables : Declared) (d : List DelimiterText) (table : Table) (name : List ℕ) (o : Option Template) (held t : Template) (text : List ℕ) → o ≡ Some held → o ≡ Some t → text ≡ held.source → IsRightTemplate callables d table name text → IsRightTemplate callables d table name t.source
held_right callables d table name o held t text is there same right = subst (IsRightTemplate callables d table name) (same ∙ ap source_at (sym is ∙ there)) right

-- each of some names, and one more
pub name_more : (P : List ℕ → Type 0) (names : List (List ℕ)) (name : List ℕ) → EachName P names → P name → EachName P (names ++ name ∷ [])
name_more P [] name each one = (one, tt)
name_more P (n ∷ names) name each one = (each.0, name_more P names name each.1 one)

pub each_name_more : (P : List ℕ → Type 0) (names : List (String Global)) (i : ℕ) (d : String Global) (right one : Bool) → i < length names → (right ≡ true → EachName P (map string_bytes (take i names))) → (one ≡ true → P (string_bytes (get_or names i d)))
    → (right && one) ≡ true → EachName P (map string_bytes (take (i + 1) names))
each_name_more P names i d right one inside so_far is both =
    let whole = name_more P (map string_bytes (take i names)) (string_bytes (get_or names i d)) (so_far (first_true right one both)) (is (second_true right one both)) in
    let listed = subst (EachName P) (sym (map-append string_bytes (take i names) (get_or names i d ∷ []))) whole in
    subst (λ names. EachName P (map string_bytes names)) (sym (take_more names i d inside)) listed

-- what is so of each name
pub each_name : (P Q : List ℕ → Type 0) → ((name : List ℕ) → P name → Q name) → (names : List (List ℕ)) → EachName P names → EachName Q names
each_name P Q so [] each = tt
each_name P Q so (name ∷ names) each = (so name each.0, each_name P Q so names each.1)

abbrev text_at : Option Stored → List ℕ
text_at None = []
text_at (Some held) = held.text

held_template : (o : Option Stored) (m : Option Template) (held : Stored) → o ≡ Some held → IsTemplateOf o m → (t : Template) × (m ≡ Some t) × (t.source ≡ held.text)
held_template None m held is of = absurd cc
held_template (Some s) None held is of = absurd of
held_template (Some s) (Some t) held is of = (t, refl, of.0 ∙ ap text_at is)

-- so a library's files are right by what the engine holds
pub library_right : (callables : Declared) (e : Texts) (library : Library) (mine : Table) → IsTable e.texts mine → (table : Table) × IsTable e.texts table × ((other : Table) → IsTable e.texts other → other ≡ table)
    → EachName (λ name. (refused_as library name ≡ None) × ((t : Template) → mine name ≡ Some t → IsRightTemplate callables e.syntax mine name t.source)) (library_names library) → LibraryIsRight callables e library
library_right callables e library mine is_mine one each =
    each_name (λ name. (refused_as library name ≡ None) × ((t : Template) → mine name ≡ Some t → IsRightTemplate callables e.syntax mine name t.source)) (λ name. (refused_as library name ≡ None) × HeldIsRight callables e name) (λ name right. (
      right.0,
      λ held there table is.
          let found = held_template (e.texts name) (mine name) held there (is_mine name) in
          let same : mine ≡ table = one.2 mine is_mine ∙ sym (one.2 table is) in
          subst (λ table. IsRightTemplate callables e.syntax table name held.text) same (subst (IsRightTemplate callables e.syntax mine name) found.2 (right.1 found.0 found.1)),
    )) (library_names library) each
