-- Renderings within limits: what they say by the one table of an engine, and what greater limits change.
use Rattle.std.proofs.Common.{◌≡◌, ◌⊎◌, ◌≤◌, ◌+◌, ◌-◌, max, ℕ, List, length, Option, Some, None, IsSome, Result, Ok, Err, IsErrAnd, String, Bor, refl, sym, ap, ◌∙◌, subst, inl, inr, arith}
use Rattle.std.specs.BTreeMap.{get_by_text}
use Rattle.std.proofs.lemmas.Option.{none-some}
use Rattle.std.specs.declared.alloc.Global.{Global}
use Rattle.std.specs.declared.dyn_box.DynBox.{DynBox}
use Rattle.upon_types.specs.Answers.{Formatter, Function}
use Rattle.upon_types.specs.Error.{fault_of}
use Rattle.upon_types.specs.Fault.{out_of_memory}
use Rattle.upon_types.specs.Tree.{Statements}
use Rattle.upon_types.specs.Val.{Val}
use Rattle.upon_types.specs.View.{view}
use Rattle.upon_types.specs.declared.error.Error.{Error}
use Rattle.upon_types.specs.declared.value.Value.{Value as CodeValue}
use Rattle.upon_lookup.specs.Asked.{refuses_all}
use Rattle.upon_lookup.specs.Environment.{context}
use Rattle.upon_render.specs.Roots.{pure_root}
use Rattle.upon_render.specs.declared.stack.Root.{Root}
use Rattle.upon_render.specs.declared.stack.Root.TheVariants.{Value, Source}
use Rattle.upon_meaning_spec.specs.Alone.{alone_within, includes_left}
use Rattle.upon_meaning_spec.specs.Engine.{Calls, Resolver, Table, Template}
use Rattle.upon_meaning_spec.specs.Outcome.{Outcome, States, states}
use Rattle.upon_machine_spec.specs.State.{at_start}
use Rattle.upon_machine_spec.proofs.FollowsTree.Templates.{simulates}
use Rattle.upon_machine_spec.proofs.Midway.{longer}
use Rattle.upon_fmt.specs.declared.output.Mark.{Mark}
use Rattle.upon_vm_steps.specs.Keeps.{SourceHas}
use Rattle.upon_vm.specs.Course.{Course, course}
use Rattle.upon_vm.specs.Limits.{AtMost}
use Rattle.upon_vm_steps.specs.Machine.{source_state}
use Rattle.upon_vm.specs.Reports.{IsAnyIo, IsTakenError, WritesReported}
use Rattle.upon_vm.specs.Within.{EndsSo, FitsLimits, GoesBeyond, IsOfLimit, IsReportWithin, RanWithin, ReportMarksWithin, TextWithin, WritesWithin}
use Rattle.upon_vm.specs.Weight.{as_count}
use Rattle.upon_vm.specs.declared.limits.Limit.{Limit}
use Rattle.upon_vm.specs.declared.limits.Limit.TheVariants.{Steps, Output, Values}
use Rattle.upon_vm.specs.declared.limits.Limits.{Limits}
use Rattle.upon_vm.specs.declared.within.Within.{Within}
use Rattle.upon_vm.proofs.WithinWrites.{writes_within}
use Rattle.upon_engine.specs.Answers.{AnswersText}
use Rattle.upon_engine.specs.Engine.{engine_templates}
use Rattle.upon_engine.specs.Texts.{Texts, texts_of}
use Rattle.upon_engine.specs.Theorem.{AnswersTree, IsTable, Sends, meaning, rendering}
use Rattle.upon_engine.specs.Within.{AnswersWithin, AreNoLess, EndsWithin, RenderingFits, RenderingGoesBeyond, IsNoLess, NamesALimit, SendsWithin, StopsSending, runs}
use Rattle.upon_engine.specs.declared.engine.Engine.{Engine as Held}
use Rattle.upon_engine.proofs.Tables.{is_table, made, only_table, table_held}

-- ---- over a value
-- each source asks alike that is never asked
pub never_asks : {V : Type 0} (root : Root V) → SourceHas (λ _. refuses_all {Q = Unit {0}}) root (refuses_all {Q = Unit {0}})
never_asks (Value v) = tt
never_asks (Source s) = refl

-- a rendering over a stack whose root is a value
module _ {V P : Type 0} (calls : Calls (Unit {0})) (resolve : Resolver P) (left : ℕ) (t : Template) (name : Option (List ℕ)) (templates : P) (limits : Limits) (ended : Within)
    (old new : Option (List ℕ)) (next : States (Unit {0}) P) where
  abbrev pub RanOver : Root V → Type 0
  RanOver root =
      RanWithin limits (course calls resolve (pure_root root) (at_start t name left (states (source_state (λ _. tt {0}) tt root) templates))) ended old new
      (alone_within calls resolve left t name (pure_root root) (states (source_state (λ _. tt {0}) tt root) templates)) next

  pub over_value : (root : Root V) (v : Bor CodeValue) → root ≡ Value v → RanOver root
      → RanWithin limits (course calls resolve (context (view v.now)) (at_start t name left (states tt templates))) ended old new
      (alone_within calls resolve left t name (context (view v.now)) (states tt templates)) next
  over_value root v is ran = subst RanOver is ran

-- ---- by the one table
module _ {X Y : Type 0} {P : X → Type 0} {Q : Y → Type 0} (formats : DynBox X Global P → Formatter) (answers : DynBox Y Global Q → Function) (e : Held X Y P Q) (limits : Limits) where
  abbrev texts : Texts
  texts = texts_of formats answers e

  pub answers_within_by : (name : Option (List ℕ)) (t : Template) (source : List ℕ) (tree : Statements) (v : Val) (result : Result (String Global) Error)
      → t ≡ made source tree
      → TextWithin e.depth limits (runs texts (engine_templates e) name t.source t.tree v) (meaning texts (engine_templates e) name t.source t.tree v) result
      → AnswersWithin texts limits name source tree v result
  answers_within_by name t source tree v result is said table it =
      subst (λ z. TextWithin e.depth limits (runs texts z name source tree v) (meaning texts z name source tree v) result) (sym (only_table (get_by_text e.templates) table it))
      (subst (λ z. TextWithin e.depth limits (runs texts (engine_templates e) name z.source z.tree v) (meaning texts (engine_templates e) name z.source z.tree v) result) is said)

  -- what a writer receives of a held template, within limits, it receives of its text and its tree, by any table
  pub sends_within_by : (name : Option (List ℕ)) (t : Template) (source : List ℕ) (tree : Statements) (v : Val) (result : Result (Unit {0}) Error) (old new : Option (List ℕ))
      → t ≡ made source tree
      → WritesWithin e.depth IsAnyIo limits (runs texts (engine_templates e) name t.source t.tree v) result old new (meaning texts (engine_templates e) name t.source t.tree v)
      → SendsWithin texts limits name source tree v result old new
  sends_within_by name t source tree v result old new is said table it =
      subst (λ z. WritesWithin e.depth IsAnyIo limits (runs texts z name source tree v) result old new (meaning texts z name source tree v)) (sym (only_table (get_by_text e.templates) table it))
      (subst (λ z. WritesWithin e.depth IsAnyIo limits (runs texts (engine_templates e) name z.source z.tree v) result old new (meaning texts (engine_templates e) name z.source z.tree v)) is said)

-- ---- a rendering and its report
module _ {X Y : Type 0} {P : X → Type 0} {Q : Y → Type 0} (formats : DynBox X Global P → Formatter) (answers : DynBox Y Global Q → Function) (e : Held X Y P Q) (limits : Limits)
    (t : Template) (name : Option (List ℕ)) (v : Bor CodeValue) (ended : Within) (old new : Option (List ℕ)) (next : States (Unit {0}) (Unit {0})) where
  abbrev engine : Texts
  engine = texts_of formats answers e

  abbrev calls_here : Calls (Unit {0})
  calls_here = (rendering engine (engine_templates e)).calls

  abbrev resolve_here : Resolver (Unit {0})
  resolve_here = (rendering engine (engine_templates e)).resolve

  abbrev RanHere : ℕ → Type 0
  RanHere left =
      RanWithin limits (course calls_here resolve_here (context (view v.now)) (at_start t name left (states tt tt))) ended old new
      (alone_within calls_here resolve_here left t name (context (view v.now)) (states tt tt)) next

  abbrev SaidHere : Mark → Result (Unit {0}) Error → Option (List ℕ) → Type 0
  SaidHere mark r final =
      WritesWithin e.depth (IsTakenError mark) limits (runs engine (engine_templates e) name t.source t.tree (view v.now)) r old final
      (meaning engine (engine_templates e) name t.source t.tree (view v.now))

  pub write_said : {V : Type 0} (root : Root V) (depth left : ℕ) (r : Result (Unit {0}) Error) (mid mark : Mark) (final : Option (List ℕ))
      → root ≡ Value v → depth ≡ e.depth → left ≡ max depth 1 → RanOver calls_here resolve_here (left - 1) t name (tt {0}) limits ended old new next root
      → IsReportWithin depth ended mid r → ReportMarksWithin ended mid mark → final ≡ new → SaidHere mark r final
  write_said root depth left r mid mark final is depth_is left_is ran report marks final_is =
      let over = over_value calls_here resolve_here (left - 1) t name (tt {0}) limits ended old new next root v is ran in
      let here : RanHere (includes_left e.depth) = subst RanHere (ap (λ n. n - 1) (left_is ∙ ap (λ d. max d 1) depth_is)) over in
      let reported : IsReportWithin e.depth ended mid r = subst (λ d. IsReportWithin d ended mid r) depth_is report in
      subst (SaidHere mark r) (sym final_is)
      (writes_within e.depth mid mark old new limits (runs engine (engine_templates e) name t.source t.tree (view v.now)) (meaning engine (engine_templates e) name t.source t.tree (view v.now)) next ended r here reported marks)

-- ---- steps
is_some_by : {A : Type 0} (x : Option A) (a : A) → x ≡ Some a → IsSome x
is_some_by x a is = subst IsSome (sym is) refl

some_by : {A : Type 0} (x : Option A) → IsSome x → (a : A) × (x ≡ Some a)
some_by None some = absurd cc
some_by (Some a) some = (a, refl)

one_of : {A : Type 0} (a b : A) → Some a ≡ Some b → a ≡ b
one_of a b is = cc

module _ (e : Texts) (table : Table) (name : Option (List ℕ)) (source : List ℕ) (tree : Statements) (v : Val) where
  abbrev out : ℕ → Option (Outcome (States (Unit {0}) (Unit {0})))
  out n = (runs e table name source tree v).out n

  pub runs_longer : (m n : ℕ) (o : Outcome (States (Unit {0}) (Unit {0}))) → m ≤ n → out m ≡ Some o → out n ≡ Some o
  runs_longer m n o le is =
      longer (rendering e table).calls (rendering e table).resolve (context v) m n (at_start (made source tree) name (includes_left e.depth) (states tt tt)) o le is

  pub ends : (n : ℕ) × (out n ≡ Some (meaning e table name source tree v))
  ends = simulates (rendering e table).calls (rendering e table).resolve (includes_left e.depth) (made source tree) name (context v) (states tt tt)

  pub some_steps : (n : ℕ) × EndsWithin e table name source tree v n
  some_steps = (ends.0, is_some_by (out ends.0) (meaning e table name source tree v) ends.1)

  pub more_steps : (m n : ℕ) → m ≤ n → EndsWithin e table name source tree v m → EndsWithin e table name source tree v n
  more_steps m n le some = let o = some_by (out m) some in is_some_by (out n) o.0 (runs_longer m n o.0 le o.1)

  -- by the greater of both numbers
  same_out : (m n : ℕ) (o : Outcome (States (Unit {0}) (Unit {0}))) → out m ≡ Some o → out n ≡ Some (meaning e table name source tree v) → o ≡ meaning e table name source tree v
  same_out m n o is ended =
      let one : out (m + n) ≡ Some o = runs_longer m (m + n) o (omega arith) is in
      let other : out (m + n) ≡ Some (meaning e table name source tree v) = runs_longer n (m + n) (meaning e table name source tree v) (omega arith) ended in
      one_of o (meaning e table name source tree v) (sym one ∙ other)

  pub steps_mean : (n : ℕ) → EndsWithin e table name source tree v n → out n ≡ Some (meaning e table name source tree v)
  steps_mean n some = let o = some_by (out n) some in o.1 ∙ ap Some (same_out n ends.0 o.0 o.1 ends.1)

-- numbers of steps within which renderings by an engine end
module _ {X Y : Type 0} {P : X → Type 0} {Q : Y → Type 0} (formats : DynBox X Global P → Formatter) (answers : DynBox Y Global Q → Function) (e : Held X Y P Q) where
  pub some_steps_of : (table : Table) (name : Option (List ℕ)) (source : List ℕ) (tree : Statements) (v : Val)
      → (n : ℕ) × EndsWithin (texts_of formats answers e) table name source tree v n
  some_steps_of table name source tree v = some_steps (texts_of formats answers e) table name source tree v

  pub more_steps_of : (table : Table) (name : Option (List ℕ)) (source : List ℕ) (tree : Statements) (v : Val) (m n : ℕ) → m ≤ n
      → EndsWithin (texts_of formats answers e) table name source tree v m → EndsWithin (texts_of formats answers e) table name source tree v n
  more_steps_of table name source tree v m n le = more_steps (texts_of formats answers e) table name source tree v m n le

  pub steps_mean_of : (table : Table) (name : Option (List ℕ)) (source : List ℕ) (tree : Statements) (v : Val) (n : ℕ) → EndsWithin (texts_of formats answers e) table name source tree v n
      → (runs (texts_of formats answers e) table name source tree v).out n ≡ Some (meaning (texts_of formats answers e) table name source tree v)
  steps_mean_of table name source tree v n some = steps_mean (texts_of formats answers e) table name source tree v n some

-- ---- greater limits
-- the answer names a limit where a run is stopped at it
abbrev NamesAt : {Q : Type 0} → Course Q → Result (String Global) Error → Type 0
NamesAt course (Ok text) = ⊥
NamesAt course (Err e) = (limit : Limit) × (n : ℕ) × IsOfLimit course limit n (fault_of e)

module _ {Q : Type 0} (course : Course Q) (o : Outcome Q) (on : (m n : ℕ) → m ≤ n → course.out m ≡ Some o → course.out n ≡ Some o) where
  ends_greater : (one other : Option ℕ) → IsNoLess one other → EndsSo one course.out o → EndsSo other course.out o
  ends_greater None None le ended = tt
  ends_greater (Some m) None le ended = tt
  ends_greater None (Some n) le ended = absurd le
  ends_greater (Some m) (Some n) le ended = on m n le ended

  most_greater : (one other : Option ℕ) (count : ℕ) → IsNoLess one other → AtMost one count → AtMost other count
  most_greater None None count le most = tt
  most_greater (Some m) None count le most = tt
  most_greater None (Some n) count le most = absurd le
  most_greater (Some m) (Some n) count le most = omega (arith, le, most)

  fits_greater : (one other : Limits) → AreNoLess one other → FitsLimits one course o → FitsLimits other course o
  fits_greater one other le fits = record {
    steps = ends_greater one.steps other.steps le.steps fits.steps;
    output = most_greater one.output other.output (length o.text) le.output fits.output;
    values = λ count point there. most_greater one.values other.values (as_count (point.made + point.makes)) le.values (fits.values count point there);
  }

  text_greater : (depth : ℕ) (one other : Limits) (result : Result (String Global) Error) → AreNoLess one other → TextWithin depth one course o result → NamesAt course result ⊎ TextWithin depth other course o result
  text_greater depth one other (Ok text) le h = inr (h.0, h.1, fits_greater one other le h.2)
  text_greater depth one other (Err e) le (inl h) = inr (inl (h.0, fits_greater one other le h.1))
  text_greater depth one other (Err e) le (inr (inl memory)) = inr (inr (inl memory))
  text_greater depth one other (Err e) le (inr (inr h)) = inl (h.0, h.1, h.3)

module _ {Q : Type 0} (depth : ℕ) (limits : Limits) (course : Course Q) (o : Outcome Q) where
  text_theorem : (result : Result (String Global) Error) → TextWithin depth limits course o result → NamesAt course result ⊎ AnswersText depth o result
  text_theorem (Ok text) h = inr (h.0, h.1)
  text_theorem (Err e) (inl h) = inr (inl h.0)
  text_theorem (Err e) (inr (inl memory)) = inr (inr memory)
  text_theorem (Err e) (inr (inr h)) = inl (h.0, h.1, h.3)

-- ---- both sides of the limits
-- the answer says that memory is out
abbrev SaysMemory : Result (String Global) Error → Type 0
SaysMemory result = IsErrAnd result (λ e. fault_of e ≡ out_of_memory)

module _ {Q : Type 0} (depth : ℕ) (limits : Limits) (course : Course Q) (o : Outcome Q) where
  never_beyond : (limit : Limit) (n : ℕ) → FitsLimits limits course o → GoesBeyond limits course o limit n → ⊥
  never_beyond Steps n fits beyond = none-some o (sym beyond.1 ∙ subst (λ l. EndsSo l course.out o) beyond.0 fits.steps)
  never_beyond Output n fits beyond =
      let most : length o.text ≤ n = subst (λ l. AtMost l (length o.text)) beyond.0 fits.output in
      let more = beyond.1 in
      omega (arith, most, more)
  never_beyond Values n fits beyond =
      let at = beyond.1 in
      let most : as_count (at.1.made + at.1.makes) ≤ n = subst (λ l. AtMost l (as_count (at.1.made + at.1.makes))) beyond.0 (fits.values at.0 at.1 at.2) in
      let more = at.3 in
      omega (arith, most, more)

  text_fits : (result : Result (String Global) Error) → FitsLimits limits course o → TextWithin depth limits course o result → AnswersText depth o result
  text_fits (Ok text) fits h = (h.0, h.1)
  text_fits (Err e) fits (inl h) = inl h.0
  text_fits (Err e) fits (inr (inl memory)) = inr memory
  text_fits (Err e) fits (inr (inr names)) = absurd (never_beyond names.0 names.1 fits names.2)

  text_beyond : (result : Result (String Global) Error) (limit : Limit) (n : ℕ) → GoesBeyond limits course o limit n → TextWithin depth limits course o result → NamesAt course result ⊎ SaysMemory result
  text_beyond (Ok text) limit n more h = absurd (never_beyond limit n h.2 more)
  text_beyond (Err e) limit n more (inl h) = absurd (never_beyond limit n h.1 more)
  text_beyond (Err e) limit n more (inr (inl memory)) = inr memory
  text_beyond (Err e) limit n more (inr (inr names)) = inl (names.0, names.1, names.3)

  writes_fit : (result : Result (Unit {0}) Error) (old new : Option (List ℕ)) → FitsLimits limits course o → WritesWithin depth IsAnyIo limits course result old new o → WritesReported depth IsAnyIo result old new o
  writes_fit (Ok u) old new fits h = (h.0, h.1)
  writes_fit (Err e) old new fits (inl h) = inl (h.0, h.1)
  writes_fit (Err e) old new fits (inr (inl memory, part)) = inr (inl memory, part)
  writes_fit (Err e) old new fits (inr (inr (inl own), part)) = inr (inr own, part)
  writes_fit (Err e) old new fits (inr (inr (inr names), part)) = absurd (never_beyond names.0 names.1 fits names.2)

  writes_beyond : (result : Result (Unit {0}) Error) (old new : Option (List ℕ)) (limit : Limit) (n : ℕ) → GoesBeyond limits course o limit n → WritesWithin depth IsAnyIo limits course result old new o → StopsSending limits course o result
  writes_beyond (Ok u) old new limit n more h = absurd (never_beyond limit n h.2 more)
  writes_beyond (Err e) old new limit n more (inl h) = absurd (never_beyond limit n h.2 more)
  writes_beyond (Err e) old new limit n more (inr h) = h.0

module _ {X Y : Type 0} {P : X → Type 0} {Q : Y → Type 0} (formats : DynBox X Global P → Formatter) (answers : DynBox Y Global Q → Function) (e : Held X Y P Q)
    (name : Option (List ℕ)) (source : List ℕ) (tree : Statements) (v : Val) where
  abbrev held : Texts
  held = texts_of formats answers e

  abbrev the_table : Table
  the_table = table_held (get_by_text e.templates)

  abbrev course_by : Table → Course (States (Unit {0}) (Unit {0}))
  course_by table = runs held table name source tree v

  abbrev meant : Table → Outcome (States (Unit {0}) (Unit {0}))
  meant table = meaning held table name source tree v

  -- what is so by the one table is so by any
  by_any : (Is : Table → Type 0) → Is the_table → (table : Table) → IsTable held.texts table → Is table
  by_any Is so table it = subst Is (sym (only_table (get_by_text e.templates) table it)) so

  names_by_any : (result : Result (String Global) Error) → NamesAt (course_by the_table) result → NamesALimit held name source tree v result
  names_by_any (Ok text) names = names
  names_by_any (Err error) names = (names.0, names.1, by_any (λ table. IsOfLimit (course_by table) names.0 names.1 (fault_of error)) names.2)

  pub greater_answers : (result : Result (String Global) Error) (one other : Limits) → AreNoLess one other → AnswersWithin held one name source tree v result
      → NamesALimit held name source tree v result ⊎ AnswersWithin held other name source tree v result
  greater_answers result one other le said =
      let so = text_greater (course_by the_table) (meant the_table) (λ m n. runs_longer held the_table name source tree v m n (meant the_table)) e.depth one other result le
      (said the_table (is_table (get_by_text e.templates))) in
      elim so [
        | inl names ↦ inl (names_by_any result names)
        | inr is ↦ inr (by_any (λ table. TextWithin e.depth other (course_by table) (meant table) result) is)
      ]

  pub theorem_answers : (result : Result (String Global) Error) (limits : Limits) → AnswersWithin held limits name source tree v result
      → NamesALimit held name source tree v result ⊎ AnswersTree held name source tree v result
  theorem_answers result limits said =
      let so = text_theorem e.depth limits (course_by the_table) (meant the_table) result (said the_table (is_table (get_by_text e.templates))) in
      elim so [
        | inl names ↦ inl (names_by_any result names)
        | inr is ↦ inr (by_any (λ table. AnswersText e.depth (meant table) result) is)
      ]

  pub fitting_answers : (result : Result (String Global) Error) (limits : Limits) → RenderingFits held limits name source tree v → AnswersWithin held limits name source tree v result → AnswersTree held name source tree v result
  fitting_answers result limits fits said = λ table it. text_fits e.depth limits (course_by table) (meant table) result (fits table it) (said table it)

  pub stopped_answers : (result : Result (String Global) Error) (limits : Limits) (limit : Limit) (n : ℕ) → RenderingGoesBeyond held limits limit n name source tree v → AnswersWithin held limits name source tree v result
      → NamesALimit held name source tree v result ⊎ SaysMemory result
  stopped_answers result limits limit n more said =
      let it = is_table (get_by_text e.templates) in
      elim (text_beyond e.depth limits (course_by the_table) (meant the_table) result limit n (more the_table it) (said the_table it)) [
        | inl names ↦ inl (names_by_any result names)
        | inr out ↦ inr out
      ]

  -- so it is if it is written
  pub fitting_sends : (result : Result (Unit {0}) Error) (limits : Limits) (old new : Option (List ℕ)) → RenderingFits held limits name source tree v → SendsWithin held limits name source tree v result old new → Sends held name source tree v result old new
  fitting_sends result limits old new fits said = λ table it. writes_fit e.depth limits (course_by table) (meant table) result old new (fits table it) (said table it)

  pub stopped_sends : (result : Result (Unit {0}) Error) (limits : Limits) (limit : Limit) (n : ℕ) (old new : Option (List ℕ)) → RenderingGoesBeyond held limits limit n name source tree v → SendsWithin held limits name source tree v result old new
      → (table : Table) → IsTable held.texts table → StopsSending limits (course_by table) (meant table) result
  stopped_sends result limits limit n old new more said = λ table it. writes_beyond e.depth limits (course_by table) (meant table) result old new limit n (more table it) (said table it)
