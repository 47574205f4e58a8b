-- How calls are refused, and what their words say.
use Rattle.std.proofs.Common.{◌≡◌, ◌<◌, ℕ, List, Bool, false, Bor, Contains, Option, Result, Ok, Err, IfErr, IsErrAnd, IsSomeAnd, get_or, length, string_bytes, refl, subst, inl, inr}
use Rattle.std.proofs.lemmas.List.Elements.{Contains-get_or}
use Rattle.upon_types.specs.Val.{Val}
use Rattle.upon_language_spec.specs.DefaultDelimiters.{default_delimiters}
use Rattle.upon_engine.specs.Faults.{IsSyntaxErrorOf}
use Rattle.upon_tool_io.specs.declared.arguments.Call.TheVariants.{Render as RenderAsked, Check as CheckAsked, Names as NamesAsked}
use Rattle.upon_tool_io.specs.declared.arguments.CheckCall.{CheckCall}
use Rattle.upon_tool_io.specs.declared.arguments.NamesCall.{NamesCall}
use Rattle.upon_tool_io.specs.declared.arguments.RenderCall.{RenderCall}
use Rattle.upon_tool_io.specs.World.{World}
use Rattle.upon_tool_data.specs.Context.{IsContext, RefusesContext}
use Rattle.upon_tool_data.specs.Sources.{is_standard}
use Rattle.upon_tool_data.specs.Words.{AreWordsOf, IsWordFault}
use Rattle.upon_tool_data.specs.declared.fault.ContextFault.{ContextFault}
use Rattle.upon_tool_data.specs.declared.words.DataWords.{DataWords}
use Rattle.upon_tool_io.specs.declared.arguments.DataCall.{DataCall}
use Rattle.upon_tool_messages.specs.Status.{tool_status, IsMemory}
use Rattle.upon_tool_messages.specs.declared.failure.Failure.{Failure}
use Rattle.upon_tool_messages.specs.declared.failure.Failure.TheVariants.{Data}
use Rattle.upon_tool.specs.Calls.{IsCallContext, IsNoContext, IsTextFault, NamedByCheck, NamedByNames, NamedByRender, RefusesCall}
use Rattle.upon_tool_pages.specs.Refusals.{RefusesOrFails}
use Rattle.upon_tool_pages.specs.Sources.{IsUnlisted, IsUnread}
use Rattle.upon_tool.specs.Work.{checked_files, IsOneUnread, IsUnreadOf, RefusesWork}
use Rattle.upon_tool.specs.declared.work.Templates.{Templates}
use Rattle.upon_tool.specs.declared.work.Work.{Work}
use Rattle.upon_tool_pages.proofs.Refusals.{data_handed_on, handed_on, memory_handed_on, of_part, of_unlisted, of_unread}

-- there is no context, where standard input may have been taken
abbrev no_context_of : World → RenderCall → Option (List ℕ) → ContextFault → Type 0
no_context_of world call input = IsNoContext world (is_standard call.file.now) call.data input

pub data_refused : (world : World) (call : RenderCall) (input : Option (List ℕ)) (fault : ContextFault) (r : Result ℕ Failure) → IsErrAnd r (λ x. x ≡ Data fault) → no_context_of world call input fault → IfErr r (RefusesCall world (RenderAsked call) input)
data_refused world call input fault r is refused = data_handed_on (no_context_of world call input) (NamedByRender world call input) (IsTextFault world call.file input) fault r is refused

-- ---- the words of a call's data
module _ (world : World) (call : DataCall) (words : DataWords) (are : AreWordsOf call words) where
  -- what is said of the words is said of the call
  by_words : (P : Bool → List (Bor (List ℕ)) → Option (Bor (List ℕ)) → List (Bor (List ℕ)) → List (Bor (List ℕ)) → Type 0)
      → P words.env words.files.now words.format words.values.now words.texts.now
      → P call.env call.files.items call.format call.set_json.items call.set.items
  by_words P is =
      subst (λ texts. P call.env call.files.items call.format call.set_json.items texts) are.texts
      (subst (λ values. P call.env call.files.items call.format values words.texts.now) are.values
      (subst (λ format. P call.env call.files.items format words.values.now words.texts.now) are.format
      (subst (λ files. P call.env files words.format words.values.now words.texts.now) are.files
      (subst (λ env. P env words.files.now words.format words.values.now words.texts.now) are.env is))))

  pub context_read : (input : Option (List ℕ)) (v : Val) (later : Option (List ℕ)) → IsContext world words.env words.files.now words.format words.values.now words.texts.now input v later → IsCallContext world call input v later
  context_read input v later is = by_words (λ env files format values texts. IsContext world env files format values texts input v later) is

  pub wrong_words : (taken same : Bool) (input : Option (List ℕ)) (fault : ContextFault) → taken ≡ same → IsWordFault taken words.files.now words.values.now words.texts.now fault → IsNoContext world same call input fault
  wrong_words taken same input fault is wrong =
      inl (by_words (λ env files format values texts. IsWordFault same files values texts fault) (subst (λ taken. IsWordFault taken words.files.now words.values.now words.texts.now fault) is wrong))

  pub no_context : (taken : Bool) (input later : Option (List ℕ)) (fault : ContextFault) → (taken ≡ false → later ≡ input) → RefusesContext world words.env words.files.now words.format words.values.now words.texts.now later fault → IsNoContext world taken call input fault
  no_context taken input later fault left refused =
      inr (later, left, by_words (λ env files format values texts. RefusesContext world env files format values texts later fault) refused)

-- FILE is not read
pub unread_file : (world : World) (call : RenderCall) (input : Option (List ℕ)) (f : Failure) (r : Result ℕ Failure) → IsErrAnd r (λ x. x ≡ f) → IsUnread world call.file input f → IfErr r (RefusesCall world (RenderAsked call) input)
unread_file world call input f r is unread =
    handed_on (RefusesCall world (RenderAsked call) input) f r is (of_unread (no_context_of world call input) (NamedByRender world call input) (IsTextFault world call.file input) world call.file input f (λ fault none. inl (refl, none)) unread)

pub unread_named : (world : World) (call : NamesCall) (input : Option (List ℕ)) (f : Failure) (r : Result ℕ Failure) → IsErrAnd r (λ x. x ≡ f) → IsUnread world call.file input f → IfErr r (RefusesCall world (NamesAsked call) input)
unread_named world call input f r is unread =
    handed_on (RefusesCall world (NamesAsked call) input) f r is (of_unread (λ fault. ⊥) (NamedByNames world call input) (IsTextFault world call.file input) world call.file input f (λ fault none. inl (refl, none)) unread)

-- one of some files is not read
pub one_unread : {A : Type 0} (world : World) (names : List (Bor (List ℕ))) (i : ℕ) (d : Bor (List ℕ)) (input : Option (List ℕ)) (f : Failure) (r : Result A Failure) → i < length names → IsErrAnd r (λ x. x ≡ f) → IsUnread world (get_or names i d) input f → IfErr r (IsUnreadOf world names)
one_unread world names i d input f r inside is unread =
    handed_on (IsUnreadOf world names) f r is (of_unread (λ fault. ⊥) (IsOneUnread world names) (λ error. ⊥) world (get_or names i d) input f (λ fault none. (Contains-get_or names i d inside, (input, none))) unread)

-- the folder is not read
pub unread_parts : (world : World) (call : RenderCall) (input : Option (List ℕ)) (f : Failure) (r : Result ℕ Failure) → IsErrAnd r (λ x. x ≡ f) → IsSomeAnd call.templates (λ name. IsUnlisted world name f) → IfErr r (RefusesCall world (RenderAsked call) input)
unread_parts world call input f r is unread =
    handed_on (RefusesCall world (RenderAsked call) input) f r is (of_unlisted (no_context_of world call input) (NamedByRender world call input) (IsTextFault world call.file input) world call.templates f (λ name fault there none. inr (there, none)) unread)

pub unread_checked : (world : World) (call : CheckCall) (input : Option (List ℕ)) (f : Failure) (r : Result ℕ Failure) → IsErrAnd r (λ x. x ≡ f) → IsSomeAnd call.templates (λ name. IsUnlisted world name f) → IfErr r (RefusesCall world (CheckAsked call) input)
unread_checked world call input f r is unread =
    handed_on (RefusesCall world (CheckAsked call) input) f r is (of_unlisted (λ fault. ⊥) (NamedByCheck world call) (λ e. ⊥) world call.templates f (λ name fault there none. inr (there, none)) unread)

pub unread_included : (world : World) (call : NamesCall) (input : Option (List ℕ)) (f : Failure) (r : Result ℕ Failure) → IsErrAnd r (λ x. x ≡ f) → IsSomeAnd call.templates (λ name. IsUnlisted world name f) → IfErr r (RefusesCall world (NamesAsked call) input)
unread_included world call input f r is unread =
    handed_on (RefusesCall world (NamesAsked call) input) f r is (of_unlisted (λ fault. ⊥) (NamedByNames world call input) (IsTextFault world call.file input) world call.templates f (λ name fault there none. inr (there, none)) unread)

-- the failure of a check
pub checked_refused : (world : World) (call : CheckCall) (input : Option (List ℕ)) (names : List (Bor (List ℕ))) (r : Result ℕ Failure) → names ≡ call.files.items → IfErr r (RefusesOrFails (λ fault. ⊥) (IsOneUnread world names) (λ e. ⊥)) → IfErr r (RefusesCall world (CheckAsked call) input)
checked_refused world call input names (Ok status) are said = tt
checked_refused world call input names (Err f) are said =
    of_part (λ fault. ⊥) (NamedByCheck world call) (λ e. ⊥) (IsOneUnread world names) (λ e. ⊥) (λ name fault is. inl (subst (λ names. Contains names name) are is.0, is.1)) (λ e is. absurd is) f said

-- and of work
pub work_refused : (world : World) (templates : Templates) (work : Work) (r : Result ℕ Failure) → IfErr r (IsUnreadOf world (checked_files work)) → IfErr r (RefusesWork world templates work)
work_refused world templates work (Ok status) said = tt
work_refused world templates work (Err f) said =
    of_part (λ fault. ⊥) (IsOneUnread world (checked_files work)) (λ e. IsSomeAnd templates.page (λ page. IsSyntaxErrorOf page.0.now default_delimiters (string_bytes page.1) e)) (IsOneUnread world (checked_files work)) (λ e. ⊥) (λ name fault is. is) (λ e is. absurd is) f said

pub work_out_of_memory : (world : World) (templates : Templates) (work : Work) (r : Result ℕ Failure) → IsErrAnd r (λ f. IsMemory f × (tool_status f ≡ 1)) → IfErr r (RefusesWork world templates work)
work_out_of_memory world templates work r out =
    memory_handed_on (λ fault. ⊥) (IsOneUnread world (checked_files work)) (λ e. IsSomeAnd templates.page (λ page. IsSyntaxErrorOf page.0.now default_delimiters (string_bytes page.1) e)) r out
