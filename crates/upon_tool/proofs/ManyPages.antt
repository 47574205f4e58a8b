-- What is done with many pages, as calls ask for it.
use Rattle.std.proofs.Common.{◌≡◌, ◌<◌, ◌∙◌, arith, ℕ, List, [], Bool, Bor, Contains, true, false, Option, Some, None, Result, Ok, Err, IfErr, IsErrAnd, IsSomeAnd, String, Global, string_bytes, refl, sym, ap, subst, inl, inr}
use Rattle.std.specs.Prelude.{if◌then◌else◌}
use Rattle.upon_types.specs.Val.{Val}
use Rattle.upon_types.specs.View.{view}
use Rattle.upon_types.specs.declared.error.Error.{Error}
use Rattle.upon_types.specs.declared.value.Value.{Value}
use Rattle.upon_language_spec.specs.DefaultDelimiters.{default_delimiters}
use Rattle.upon_vm.specs.declared.limits.Limits.{Limits}
use Rattle.upon_engine.specs.Faults.{IsSyntaxErrorOf}
use Rattle.upon_engine.specs.Texts.{Texts}
use Rattle.upon_tool_io.specs.declared.arguments.BuildCall.{BuildCall}
use Rattle.upon_tool_io.specs.declared.arguments.Call.TheVariants.{Build as BuildAsked}
use Rattle.upon_tool_io.specs.World.{World}
use Rattle.upon_tool_io.specs.Written.{Log}
use Rattle.upon_tool_data.specs.declared.fault.ContextFault.{ContextFault}
use Rattle.upon_tool_many.specs.declared.build.Build.{Build}
use Rattle.upon_tool_many.specs.declared.each.Each.{Each}
use Rattle.upon_tool_messages.specs.declared.failure.Failure.{Failure}
use Rattle.upon_tool_messages.specs.declared.failure.Failure.TheVariants.{Data}
use Rattle.upon_tool.specs.Calls.{may_be_input, IsFaultOfLayout, IsLayout, IsNoContext, NamedByBuild, RefusesCall}
use Rattle.upon_tool_pages.specs.ManyPages.{limits_set, BuildIsWell, EachIsWell}
use Rattle.upon_vm.specs.Limits.{is_limited}
use Rattle.upon_tool_pages.specs.Refusals.{RefusesOrFails}
use Rattle.upon_tool_pages.specs.Sources.{IsUnlisted, IsUnread}
use Rattle.upon_tool.specs.Work.{IsOneUnread, Works}
use Rattle.upon_tool.specs.declared.work.Work.{Work}
use Rattle.upon_tool.specs.declared.work.Work.TheVariants.{Each as EachWork, Build as BuildWork}
use Rattle.upon_tool_pages.proofs.Refusals.{data_handed_on, handed_on, of_part, of_unlisted, of_unread_at}

-- ---- the same of what is equal
pub each_moved : (world : World) (e same_e : Texts) (v : Val) (asked same : Each) (status : ℕ) (was now : Log) → e ≡ same_e → asked ≡ same → EachIsWell world e v asked status was now → EachIsWell world same_e v same status was now
each_moved world e same_e v asked same status was now is_e is well =
    subst (λ e. EachIsWell world e v same status was now) is_e (subst (λ asked. EachIsWell world e v asked status was now) is well)

pub build_moved : (world : World) (e same_e : Texts) (v : Val) (asked same : Build) (status : ℕ) (was now : Log) → e ≡ same_e → asked ≡ same → BuildIsWell world e v asked status was now → BuildIsWell world same_e v same status was now
build_moved world e same_e v asked same status was now is_e is well =
    subst (λ e. BuildIsWell world e v same status was now) is_e (subst (λ asked. BuildIsWell world e v asked status was now) is well)

-- ---- it is work
pub work_each : (world : World) (work : Work) (value : Value) (asked : Bor Each) (terminal : Bool) (e : Texts) (input : Option (List ℕ)) (status : ℕ) (old : Option (List ℕ)) (was now : Log) → work ≡ EachWork value asked terminal → EachIsWell world e (view value) asked.now status was now
    → Works world work e input status old old was now
work_each world work value asked terminal e input status old was now is well = subst (λ work. Works world work e input status old old was now) (sym is) (refl, well)

pub work_built : (world : World) (work : Work) (value : Bor Value) (asked : Bor Build) (terminal : Bool) (e : Texts) (input : Option (List ℕ)) (status : ℕ) (old : Option (List ℕ)) (was now : Log) → work ≡ BuildWork value asked terminal → BuildIsWell world e (view value.now) asked.now status was now
    → Works world work e input status old old was now
work_built world work value asked terminal e input status old was now is well = subst (λ work. Works world work e input status old old was now) (sym is) (refl, well)

-- ---- how a build is refused
abbrev no_context_of : World → BuildCall → Option (List ℕ) → ContextFault → Type 0
no_context_of world call input = IsNoContext world (may_be_input call.layout) call.render.data input

-- there is no context
pub build_data_refused : (world : World) (call : BuildCall) (input : Option (List ℕ)) (fault : ContextFault) (r : Result ℕ Failure) → IsErrAnd r (λ x. x ≡ Data fault) → no_context_of world call input fault → IfErr r (RefusesCall world (BuildAsked call) input)
build_data_refused world call input fault r is refused = data_handed_on (no_context_of world call input) (NamedByBuild world call input) (IsFaultOfLayout world call.layout input) fault r is refused

-- the layout is not read, or the folder of templates
pub unread_layout : (world : World) (call : BuildCall) (input : Option (List ℕ)) (f : Failure) (r : Result ℕ Failure) → IsErrAnd r (λ x. x ≡ f) → IsSomeAnd call.layout (λ name. IsUnread world name input f) → IfErr r (RefusesCall world (BuildAsked call) input)
unread_layout world call input f r is unread =
    handed_on (RefusesCall world (BuildAsked call) input) f r is (of_unread_at (no_context_of world call input) (NamedByBuild world call input) (IsFaultOfLayout world call.layout input) world call.layout input f (λ name fault there none. inl (there, none)) unread)

pub unread_folder : (world : World) (call : BuildCall) (input : Option (List ℕ)) (f : Failure) (r : Result ℕ Failure) → IsErrAnd r (λ x. x ≡ f) → IsSomeAnd call.render.templates (λ name. IsUnlisted world name f) → IfErr r (RefusesCall world (BuildAsked call) input)
unread_folder world call input f r is unread =
    handed_on (RefusesCall world (BuildAsked call) input) f r is (of_unlisted (no_context_of world call input) (NamedByBuild world call input) (IsFaultOfLayout world call.layout input) world call.render.templates f (λ name fault there none. inr (there, none)) unread)

no_name : (name : Bor (List ℕ)) → Contains [] name → ⊥
no_name name c = let inside : c.0 < 0 = c.1 in omega arith

-- the text of a template that is given has a fault
abbrev IsPageFault : Option (Bor (List ℕ) × String Global) → Error → Type 0
IsPageFault page error = IsSomeAnd page (λ page. IsSyntaxErrorOf page.0.now default_delimiters (string_bytes page.1) error)

-- it is that of the layout
layout_fault : (world : World) (layout : Option (Bor (List ℕ))) (page : Option (Bor (List ℕ) × String Global)) (input : Option (List ℕ)) (e : Error) → IsLayout world layout input page → IsPageFault page e → IsFaultOfLayout world layout input e
layout_fault world None page input e none faulty = absurd (subst (λ page. IsPageFault page e) none faulty)
layout_fault world (Some name) None input e is faulty = absurd is
layout_fault world (Some name) (Some page) input e is faulty = (string_bytes page.1, is.1, subst (λ name. IsSyntaxErrorOf name.now default_delimiters (string_bytes page.1) e) is.0 faulty)

pub build_refused : (world : World) (call : BuildCall) (page : Option (Bor (List ℕ) × String Global)) (input : Option (List ℕ)) (r : Result ℕ Failure) → IsLayout world call.layout input page → IfErr r (RefusesOrFails (λ fault. ⊥) (IsOneUnread world []) (IsPageFault page)) → IfErr r (RefusesCall world (BuildAsked call) input)
build_refused world call page input (Ok status) is said = tt
build_refused world call page input (Err f) is said =
    of_part (no_context_of world call input) (NamedByBuild world call input) (IsFaultOfLayout world call.layout input) (IsOneUnread world []) (IsPageFault page)
    (λ name fault there. absurd (no_name name there.0)) (λ e faulty. layout_fault world call.layout page input e is faulty) f said

-- ---- limits
pub limits_there : (limits asked : Limits) → limits ≡ asked → is_limited limits ≡ true → Some limits ≡ limits_set asked
limits_there limits asked same is = ap (λ limited. if limited then Some limits else None) (sym is) ∙ ap limits_set same

pub no_limits : (limits asked : Limits) → limits ≡ asked → is_limited limits ≡ false → None ≡ limits_set asked
no_limits limits asked same is = ap (λ limited. if limited then Some limits else None) (sym is) ∙ ap limits_set same
