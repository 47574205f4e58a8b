-- What is answered and done by texts, by one table of their trees.
use Rattle.std.proofs.Common.{◌≡◌, ◌⊎◌, ℕ, List, [], ◌∷◌, ◌&&◌, ◌||◌, Bool, true, false, not, Option, Some, None, IsSome, Result, Ok, Err, String, Global, string_bytes, refl, sym, subst, inl, inr, MatchBool}
use Rattle.std.specs.List.{list_any}
use Rattle.std.specs.Str.{IsUtf8}
use Rattle.upon_types.specs.Tree.{Statements}
use Rattle.upon_types.specs.Val.{Val}
use Rattle.upon_types.specs.declared.error.Error.{Error}
use Rattle.upon_types.specs.declared.types.Span.{Span}
use Rattle.upon_language_spec.specs.DefaultDelimiters.{default_delimiters}
use Rattle.upon_language_spec.specs.FirstFault.{IsFirstFault}
use Rattle.upon_language_spec.specs.Grammar.{HasTree}
use Rattle.upon_language_spec.proofs.Computation.DefaultTexts.{default_texts, default_utf8}
use Rattle.upon_language_spec.proofs.NoTreeWithFault.Fault.{no_tree_with_fault}
use Rattle.upon_language_spec.proofs.Totality.OneAnswer.{tree_or_fault}
use Rattle.upon_meaning_spec.specs.Engine.{Table}
use Rattle.upon_vm.specs.declared.limits.Limits.{Limits}
use Rattle.upon_engine.specs.Texts.{Stored, Texts}
use Rattle.upon_engine.specs.Theorem.{IsTable}
use Rattle.upon_tool_io.specs.World.{World}
use Rattle.upon_tool_io.specs.Written.{Log}
use Rattle.upon_tool_many.specs.Pages.{is_failed, AnswersIn, DoneInOrder, EachWith, IsHeldText, IsMemoryOut, IsOfWriting, IsSourceText, PageEndsBy}
use Rattle.upon_tool_many.specs.declared.pages.DonePage.{DonePage}
use Rattle.upon_tool_many.specs.declared.pages.PageEnd.{PageEnd}
use Rattle.upon_tool_many.specs.declared.pages.PageEnd.TheVariants.{Written, Unchanged, Failed}
use Rattle.upon_tool_many.specs.declared.pages.PageFault.{PageFault}
use Rattle.upon_tool_many.specs.declared.pages.PageFault.TheVariants.{Fault as PageFaulty}
use Rattle.upon_tool_messages.specs.declared.judge.Declared.{Declared}
use Rattle.upon_tool_pages.specs.Missing.{EachName, HeldIsRight, IsRightTemplate}
use Rattle.upon_calls.proofs.Tables.{of_held}
use Rattle.upon_tool.specs.ByTable.{AnswersBy, InOrder, IsAnswerBy, IsHeldTextBy, IsSourceTextBy, Means, NamedMeans, Puts, SourceMeans}

-- ---- texts
answers_by : (limits : Option Limits) (e : Texts) (table : Table) (name : Option (List ℕ)) (source : List ℕ) (tree : Statements) (v : Val) (answer : Result (String Global) Error) → IsTable e.texts table → AnswersIn limits e name source tree v answer → AnswersBy limits e table name source tree v answer
answers_by None e table name source tree v answer is answers = answers table is
answers_by (Some limits) e table name source tree v answer is answers = answers table is

module _ (limits : Option Limits) (e : Texts) (table : Table) (is : IsTable e.texts table) where
  -- what a text that is held answers
  pub held_text : (name : List ℕ) (held : Stored) (v : Val) (result : Result (String Global) PageFault) → e.texts name ≡ Some held → IsHeldText limits e name v result → IsHeldTextBy limits e table name v result
  held_text name held v result there says =
      let (t, at, same, has) = of_held (e.texts name) (table name) held (is name) there in
      let (answer, answers, page) = says held t.tree there has in
      (t, at, subst (λ source. IsAnswerBy limits e table (Some name) source t.tree v result) (sym same) (answer, answers_by limits e table (Some name) held.text t.tree v answer is answers, page))

  -- what a text answers, which has a tree or a first fault
  pub source_text : (source : List ℕ) (v : Val) (result : Result (String Global) PageFault) → e.syntax ≡ default_delimiters → IsUtf8 source → IsSourceText limits e source v result → IsSourceTextBy limits e table source v result
  source_text source v result syntax utf8 says = by_answer (tree_or_fault default_delimiters source default_texts default_utf8 utf8)
    where
      by_answer : ((tree : Statements) × HasTree default_delimiters source tree) ⊎ ((place : Span) × (reason : List ℕ) × IsFirstFault default_delimiters source place reason) → IsSourceTextBy limits e table source v result
      by_answer (inl (tree, has)) =
          let there = subst (λ d. HasTree d source tree) (sym syntax) has in
          let (answer, answers, page) = says.0 tree there in
          inl (tree, there, (answer, answers_by limits e table None source tree v answer is answers, page))
      by_answer (inr (place, reason, first)) =
          inr (says.1 (λ tree has. no_tree_with_fault default_delimiters source place reason tree default_texts first (subst (λ d. HasTree d source tree) syntax has)))

-- an answer that is a text is that of a meaning
answered : (limits : Option Limits) (e : Texts) (table : Table) (name : Option (List ℕ)) (source : List ℕ) (tree : Statements) (v : Val) (text : String Global) → AnswersBy limits e table name source tree v (Ok text) → Means e table name source tree v (string_bytes text)
answered None e table name source tree v text (end, bytes) = (end, bytes)
answered (Some limits) e table name source tree v text (end, bytes, fits) = (end, bytes)

module _ (limits : Option Limits) (e : Texts) (table : Table) where
  text_means : (name : Option (List ℕ)) (source : List ℕ) (tree : Statements) (v : Val) (text : String Global) → IsAnswerBy limits e table name source tree v (Ok text) → Means e table name source tree v (string_bytes text)
  text_means name source tree v text (Ok said, answers, page) =
      let one : said ≡ text = cc in
      answered limits e table name source tree v text (subst (λ said. AnswersBy limits e table name source tree v (Ok said)) one answers)
  text_means name source tree v text (Err error, answers, page) = absurd cc

  pub held_means : (name : List ℕ) (v : Val) (text : String Global) → IsHeldTextBy limits e table name v (Ok text) → NamedMeans e table name v (string_bytes text)
  held_means name v text (t, at, answers) = (t, at, text_means (Some name) t.source t.tree v text answers)

  pub source_means : (source : List ℕ) (v : Val) (text : String Global) → IsSourceTextBy limits e table source v (Ok text) → SourceMeans e table source v (string_bytes text)
  source_means source v text (inl (tree, has, answers)) = (tree, has, text_means None source tree v text answers)
  source_means source v text (inr (error, faulty, is)) = absurd cc

-- ---- pages
-- one that did not fail ends in no failure
pub not_failed : {fault : PageFault} (end : PageEnd) → is_failed end ≡ false → end ≡ Failed fault → ⊥
not_failed Written well is = absurd cc
not_failed Unchanged well is = absurd cc
not_failed (Failed other) well is = absurd cc

-- it was written, or its file may hold it already
pub put : (world : World) (path bytes : List ℕ) (end : PageEnd) (old new : Log) → is_failed end ≡ false → IsOfWriting world path bytes end old new → Puts world path bytes old new
put world path bytes Written old new well grows = inl grows
put world path bytes Unchanged old new well holds = inr holds
put world path bytes (Failed fault) old new well is = absurd cc

-- and has a text
pub put_text : (world : World) (path : List ℕ) (text : Result (String Global) PageFault) (end : PageEnd) (old new : Log) → is_failed end ≡ false → PageEndsBy world path text end old new
    → (page : String Global) × (text ≡ Ok page) × Puts world path (string_bytes page) old new
put_text world path (Ok page) end old new well ends = (page, refl, put world path (string_bytes page) end old new well ends)
put_text world path (Err fault) end old new well ends = absurd (not_failed end well ends.0)

-- memory was not out where there is a text
pub not_out : (text : String Global) → IsMemoryOut (Ok text) → ⊥
not_out text out = absurd (never out.0 out.2)
  where
    never : (error : Error) → Ok text ≡ Err (PageFaulty error) → ⊥
    never error is = absurd cc

-- the pages of some things: where none failed, each is done
first_well : (page : DonePage) (rest : List DonePage) → list_any (λ page. is_failed page.end) (page ∷ rest) ≡ false → (is_failed page.end ≡ false) × (list_any (λ page. is_failed page.end) rest ≡ false)
first_well page rest well = both (is_failed page.end) (list_any (λ page. is_failed page.end) rest) well
  where
    both : (a b : Bool) → (a || b) ≡ false → (a ≡ false) × (b ≡ false)
    both true b is = absurd cc
    both false b is = (refl, is)

-- what pages do is done of what they are made of
then_matched : {Q S : Type 0} (P : Type 0) (b : Bool) → (Q → S) → MatchBool b P Q → MatchBool b P S
then_matched P true f m = m
then_matched P false f m = f m

pub done_of : {X A : Type 0} (keeps : Bool) (R : A → DonePage → Log → Log → Type 0) (Is : X → A → Type 0) (P : X → DonePage → Log → Log → Type 0)
    → ((x : X) (a : A) (page : DonePage) (old new : Log) → Is x a → R a page old new → P x page old new)
    → (xs : List X) (pages : List A) (done : List DonePage) (old new : Log) → EachWith Is xs pages → DoneInOrder keeps R pages done old new → DoneInOrder keeps P xs done old new
done_of keeps R Is P one [] [] [] old new of does = does
done_of keeps R Is P one [] [] (page ∷ done) old new of does = absurd does
done_of keeps R Is P one [] (a ∷ pages) done old new of does = absurd of
done_of keeps R Is P one (x ∷ xs) [] done old new of does = absurd of
done_of keeps R Is P one (x ∷ xs) (a ∷ pages) [] old new of does = absurd does
done_of keeps R Is P one (x ∷ xs) (a ∷ pages) (page ∷ done) old new of does =
    let (next, did, rest) = does in
    (next, one x a page old next of.0 did, then_matched ((done ≡ []) × (new ≡ next)) (is_failed page.end && not keeps) (done_of keeps R Is P one xs pages done next new of.1) rest)

pub in_order : {X : Type 0} (keeps : Bool) (P : X → DonePage → Log → Log → Type 0) (Q : X → Log → Log → Type 0)
    → ((x : X) (page : DonePage) (old new : Log) → is_failed page.end ≡ false → P x page old new → Q x old new)
    → (xs : List X) (done : List DonePage) (old new : Log) → list_any (λ page. is_failed page.end) done ≡ false → DoneInOrder keeps P xs done old new → InOrder Q xs old new
in_order keeps P Q one [] [] old new well does = does
in_order keeps P Q one [] (page ∷ done) old new well does = absurd does
in_order keeps P Q one (x ∷ xs) [] old new well does = absurd does
in_order keeps P Q one (x ∷ xs) (page ∷ done) old new well does =
    let (next, did, rest) = does in
    let (here, later) = first_well page done well in
    let rests = subst (λ b. MatchBool (b && not keeps) ((done ≡ []) × (new ≡ next)) (DoneInOrder keeps P xs done next new)) here rest in
    (next, one x page old next here did, in_order keeps P Q one xs done next new later rests)

-- ---- files
-- each is right by the table
right_by : (callables : Declared) (e : Texts) (table : Table) (name : List ℕ) (s : Option Stored) → e.texts name ≡ s → IsSome s → ((held : Stored) → e.texts name ≡ Some held → IsRightTemplate callables e.syntax table name held.text)
    → (held : Stored) × (e.texts name ≡ Some held) × IsRightTemplate callables e.syntax table name held.text
right_by callables e table name None at some right = absurd cc
right_by callables e table name (Some held) at some right = (held, at, right held at)

pub each_by : (callables : Declared) (e : Texts) (table : Table) → IsTable e.texts table → (names : List (List ℕ)) → EachName (λ name. IsSome (e.texts name) × HeldIsRight callables e name) names
    → EachName (λ name. (held : Stored) × (e.texts name ≡ Some held) × IsRightTemplate callables e.syntax table name held.text) names
each_by callables e table is [] each = tt
each_by callables e table is (name ∷ names) each =
    (right_by callables e table name (e.texts name) refl each.0.0 (λ held at. each.0.1 held at table is), each_by callables e table is names each.1)
