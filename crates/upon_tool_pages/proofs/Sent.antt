-- What an output has received of a page.
use Rattle.std.proofs.Common.{◌≡◌, ◌∙◌, ◌||◌, arith, ℕ, List, [], Bool, true, false, Option, Some, None, is_some, Result, Ok, Err, IsErrAnd, IsSomeAnd, sym, subst, inl, inr}
use Rattle.std.proofs.lemmas.List.{append-nil}
use Rattle.std.specs.Io.KnownBytes.{Appends, Keeps}
use Rattle.std.specs.declared.alloc.Global.{Global}
use Rattle.std.specs.declared.dyn_box.DynBox.{DynBox}
use Rattle.upon_types.specs.Answers.{Formatter, Function}
use Rattle.upon_types.specs.Tree.{Statements}
use Rattle.upon_types.specs.Val.{Val}
use Rattle.upon_types.specs.declared.error.Error.{Error}
use Rattle.upon_meaning_spec.specs.Outcome.{Outcome}
use Rattle.upon_vm.specs.Course.{Course}
use Rattle.upon_vm.specs.Limits.{GrowsWithin}
use Rattle.upon_vm.specs.Reports.{IsAnyIo, WritesReported}
use Rattle.upon_vm.specs.Within.{WritesWithin}
use Rattle.upon_vm.specs.declared.limits.Limits.{Limits}
use Rattle.upon_engine.specs.Texts.{texts_of, Texts}
use Rattle.upon_engine.specs.Theorem.{meaning}
use Rattle.upon_engine.specs.Within.{runs}
use Rattle.upon_engine.specs.declared.engine.Engine.{Engine as Held}
use Rattle.upon_tool_messages.specs.declared.failure.Failure.{Failure}
use Rattle.upon_tool_messages.specs.declared.failure.Failure.TheVariants.{Unreadable, NotText, Data, Unwritable, Fault}
use Rattle.upon_vm.specs.Limits.{is_limited}
use Rattle.upon_tool_pages.specs.Rendering.{SendsIf, SendsPage, SendsWhole, StaysWithin}

appends_kept : (old sent new : Option (List ℕ)) (text : List ℕ) → Appends old sent text → Keeps sent new → Appends old new text
appends_kept None sent new text appends keeps = tt
appends_kept (Some xs) None new text appends keeps = absurd appends
appends_kept (Some xs) (Some ys) None text appends keeps = absurd keeps
appends_kept (Some xs) (Some ys) (Some zs) text appends keeps = keeps ∙ appends

writes_kept : {Q : Type 0} (limit : ℕ) (e : Error) (old mid new : Option (List ℕ)) (o : Outcome Q) → Keeps mid new → WritesReported limit IsAnyIo (Err e) old mid o → WritesReported limit IsAnyIo (Err e) old new o
writes_kept limit e old mid new o keeps (inl said) = inl (said.0, appends_kept old mid new o.text said.1 keeps)
writes_kept limit e old mid new o keeps (inr said) = inr (said.0, (said.1.0, said.1.1, said.1.2, appends_kept old mid new said.1.0 said.1.3 keeps))

-- what a failed rendering within limits has sent stays sent, if the output is kept
within_kept : {Q : Type 0} (depth : ℕ) (limits : Limits) (ran : Course Q) (e : Error) (old mid new : Option (List ℕ)) (o : Outcome Q) → Keeps mid new → WritesWithin depth IsAnyIo limits ran (Err e) old mid o → WritesWithin depth IsAnyIo limits ran (Err e) old new o
within_kept depth limits ran e old mid new o keeps (inl said) = inl (said.0, appends_kept old mid new o.text said.1 keeps, said.2)
within_kept depth limits ran e old mid new o keeps (inr said) = inr (said.0, (said.1.0, said.1.1, said.1.2, appends_kept old mid new said.1.0 said.1.3 keeps))

-- ---- by whether a limit is set
module _ (limits : Limits) (e : Texts) (name : Option (List ℕ)) (source : List ℕ) (tree : Statements) (v : Val) (old sent new : Option (List ℕ)) (keeps : Keeps sent new) where
  -- what was sent stays so as the output is flushed
  whole_kept : (limited : Bool) → SendsIf limited limits e name source tree v (Ok tt) old sent → SendsIf limited limits e name source tree v (Ok tt) old new
  whole_kept false says = λ table it.
      ((says table it).0, appends_kept old sent new (meaning e table name source tree v).text (says table it).1 keeps)
  whole_kept true says = λ table it.
      ((says table it).0, appends_kept old sent new (meaning e table name source tree v).text (says table it).1 keeps, (says table it).2)

  -- and so it is if the rendering failed
  fault_kept : (limited : Bool) (error : Error) → SendsIf limited limits e name source tree v (Err error) old sent → SendsIf limited limits e name source tree v (Err error) old new
  fault_kept false error says = λ table it. writes_kept e.depth error old sent new (meaning e table name source tree v) keeps (says table it)
  fault_kept true error says = λ table it. within_kept e.depth limits (runs e table name source tree v) error old sent new (meaning e table name source tree v) keeps (says table it)

  -- if the flush fails, the output may have less of it
  flush_failed : (limited : Bool) (error : Error) → IsAnyIo error → SendsIf limited limits e name source tree v (Ok tt) old sent → SendsIf limited limits e name source tree v (Err error) old new
  flush_failed false error io says = λ table it.
      let whole = (meaning e table name source tree v).text in
      inr (inr io, (whole, [], sym (append-nil whole), appends_kept old sent new whole (says table it).1 keeps))
  flush_failed true error io says = λ table it.
      let whole = (meaning e table name source tree v).text in
      inr (inr (inl io), (whole, [], sym (append-nil whole), appends_kept old sent new whole (says table it).1 keeps))

-- ---- how many bytes were sent
-- of nothing
pub nothing_stays : (limit : Option ℕ) (old : Option (List ℕ)) → StaysWithin limit old old
nothing_stays None old = tt
nothing_stays (Some n) None = ([], omega arith, tt)
nothing_stays (Some n) (Some xs) = ([], omega arith, sym (append-nil xs))

-- of what was sent within limits
pub grown_stays : (limit : Option ℕ) (old new : Option (List ℕ)) → GrowsWithin limit old new → StaysWithin limit old new
grown_stays None old new grows = tt
grown_stays (Some n) old new grows = grows

-- without a limit
unlimited : (steps output values : Option ℕ) (old new : Option (List ℕ)) → ((is_some steps || is_some output) || is_some values) ≡ false → StaysWithin output old new
unlimited steps None values old new is = tt
unlimited None (Some n) values old new is = absurd cc
unlimited (Some k) (Some n) values old new is = absurd cc

pub unlimited_stays : (limits : Limits) (old new : Option (List ℕ)) → is_limited limits ≡ false → StaysWithin limits.output old new
unlimited_stays limits old new is = unlimited limits.steps limits.output limits.values old new is

-- a flush sends nothing more
pub stays_kept : (limit : Option ℕ) (old sent new : Option (List ℕ)) → Keeps sent new → StaysWithin limit old sent → StaysWithin limit old new
stays_kept None old sent new keeps stays = tt
stays_kept (Some n) old sent new keeps stays = (stays.0, stays.1, appends_kept old sent new stays.0 stays.2 keeps)

module _ {X Y : Type 0} {P : X → Type 0} {Q : Y → Type 0} (formats : DynBox X Global P → Formatter) (answers : DynBox Y Global Q → Function) where
  -- what is said of a call within limits, or without them
  pub sent_by : (h : Held X Y P Q) (limits : Limits) (name : Option (List ℕ)) (source : List ℕ) (tree : Statements) (v : Val) (old new : Option (List ℕ)) (limited : Bool) (r : Option (Result (Unit {0}) Error)) → is_limited limits ≡ limited
      → IsSomeAnd r (λ r. SendsIf limited limits (texts_of formats answers h) name source tree v r old new)
      → IsSomeAnd r (λ r. SendsPage limits (texts_of formats answers h) name source tree v r old new)
  sent_by h limits name source tree v old new limited r is says =
      subst (λ limited. IsSomeAnd r (λ r. SendsIf limited limits (texts_of formats answers h) name source tree v r old new)) (sym is) says

  -- a rendering that ended well has sent the page
  pub shown : (h : Held X Y P Q) (limits : Limits) (name : Option (List ℕ)) (source : List ℕ) (tree : Statements) (v : Val) (old new : Option (List ℕ)) (r : Result (Unit {0}) Error) (u : Unit {0}) → r ≡ Ok u → SendsPage limits (texts_of formats answers h) name source tree v r old new → SendsPage limits (texts_of formats answers h) name source tree v (Ok tt) old new
  shown h limits name source tree v old new r u is says = subst (λ r. SendsPage limits (texts_of formats answers h) name source tree v r old new) is says

  -- one that failed has its fault
  pub failed : (h : Held X Y P Q) (limits : Limits) (name : Option (List ℕ)) (source : List ℕ) (tree : Statements) (v : Val) (old new : Option (List ℕ)) (r : Result (Unit {0}) Error) (e : Error) → r ≡ Err e → SendsPage limits (texts_of formats answers h) name source tree v r old new → SendsPage limits (texts_of formats answers h) name source tree v (Err e) old new
  failed h limits name source tree v old new r e is says = subst (λ r. SendsPage limits (texts_of formats answers h) name source tree v r old new) is says

  -- what was sent stays so as the output is flushed
  pub shows_kept : (h : Held X Y P Q) (limits : Limits) (name : Option (List ℕ)) (source : List ℕ) (tree : Statements) (v : Val) (old sent new : Option (List ℕ)) → Keeps sent new → SendsPage limits (texts_of formats answers h) name source tree v (Ok tt) old sent → SendsPage limits (texts_of formats answers h) name source tree v (Ok tt) old new
  shows_kept h limits name source tree v old sent new keeps shown = whole_kept limits (texts_of formats answers h) name source tree v old sent new keeps (is_limited limits) shown

  -- and so does what a failed rendering has sent
  pub renders_kept : (h : Held X Y P Q) (limits : Limits) (name : Option (List ℕ)) (source : List ℕ) (tree : Statements) (v : Val) (old sent new : Option (List ℕ)) (f : Failure) → Keeps sent new → SendsWhole (λ r. SendsPage limits (texts_of formats answers h) name source tree v r old sent) (Err f) → SendsWhole (λ r. SendsPage limits (texts_of formats answers h) name source tree v r old new) (Err f)
  renders_kept h limits name source tree v old sent new (Fault e) keeps said = fault_kept limits (texts_of formats answers h) name source tree v old sent new keeps (is_limited limits) e said
  renders_kept h limits name source tree v old sent new (Data fault) keeps said = said
  renders_kept h limits name source tree v old sent new (Unreadable file error) keeps said = said
  renders_kept h limits name source tree v old sent new (NotText file) keeps said = said
  renders_kept h limits name source tree v old sent new (Unwritable file error) keeps said = said

  -- a rendering that ended well, of which the output was not flushed
  pub not_flushed : (h : Held X Y P Q) (limits : Limits) (name : Option (List ℕ)) (source : List ℕ) (tree : Statements) (v : Val) (old sent new : Option (List ℕ)) (e : Error) → IsAnyIo e → Keeps sent new → SendsPage limits (texts_of formats answers h) name source tree v (Ok tt) old sent → SendsWhole (λ r. SendsPage limits (texts_of formats answers h) name source tree v r old new) (Err (Fault e))
  not_flushed h limits name source tree v old sent new e io keeps shown = flush_failed limits (texts_of formats answers h) name source tree v old sent new keeps (is_limited limits) e io shown

  -- a failure that is handed on
  pub handed_on : (h : Held X Y P Q) (limits : Limits) (name : Option (List ℕ)) (source : List ℕ) (tree : Statements) (v : Val) (old new : Option (List ℕ)) (f : Failure) (r : Result (Unit {0}) Failure) → IsErrAnd r (λ x. x ≡ f) → SendsWhole (λ r. SendsPage limits (texts_of formats answers h) name source tree v r old new) (Err f) → SendsWhole (λ r. SendsPage limits (texts_of formats answers h) name source tree v r old new) r
  handed_on h limits name source tree v old new f (Ok u) is said = absurd is
  handed_on h limits name source tree v old new f (Err x) is said = subst (λ x. SendsWhole (λ r. SendsPage limits (texts_of formats answers h) name source tree v r old new) (Err x)) (sym is) said
