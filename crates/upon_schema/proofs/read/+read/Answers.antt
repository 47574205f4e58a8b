use Rattle.std.proofs.Common.{◌≡◌, ◌+◌, ◌<◌, ◌++◌, ℕ, List, Option, [], codes, Bool, true, false, Some, None, string_bytes, refl, sym, ap, subst, ◌∙◌, inl, inr}
use Rattle.upon_types.specs.Val.{Val, none_val, bool_val, text_val}
use Rattle.upon_types.specs.View.{view, vals_view, entries_view}
use Rattle.upon_types.proofs.Views.{Entry, view-Map, view-String}
use Rattle.upon_shape_spec.specs.Shape.{one_of, lists_of, maps_of, other_keys}
use Rattle.upon_shape.specs.View.{shape_view, ahead, keys_view}
use Rattle.upon_shape.specs.declared.shape.Key.{Key}
use Rattle.upon_shape.specs.declared.shape.Shape.{Shape}
use Rattle.upon_shape.proofs.ShapeViews.{view-OneOf}
use Rattle.upon_schema.specs.Covers.{Covers, CoversMaps}
use Rattle.upon_schema.specs.Kept.{kept}
use Rattle.upon_schema.specs.Place.{IsCauseAround, IsCauseAt, ValidAt, count_at, references_at}
use Rattle.upon_schema.specs.Refusal.{no_definition, step_spelled, refusal, wrong_value}
use Rattle.upon_schema.specs.Counted.{count_beside, count_entries, count_keywords, count_there, count_reference, referred_in, schemas_read}
use Rattle.upon_schema.proofs.Opened.{texts}
use Rattle.upon_shape_spec.specs.Wider.{is_listed}
use Rattle.upon_schema.proofs.Counts.{count_over, count_step, counted_more, handed_count, inner_count, one_more_open, none_is_not_large, none_left, read_count_at, says_large, says_not_large, truth_counted, wrong_is_not_large}
use Rattle.upon_schema.specs.Refused.{HasEntry, at_keyword, at_property, behind_reference, is_bool}
use Rattle.upon_schema.specs.declared.fault.SchemaFault.{SchemaFault}
use Rattle.upon_shape_spec.specs.Fits.{Fits}
use Rattle.upon_schema.proofs.OtherKinds.{not_map}
use Rattle.upon_schema.proofs.Referred.{nothing_referred}
use Rattle.upon_schema.proofs.Refusals.{around, err_more, handed_on, inner_cause, no_truth, nothing_there, says-twice, wrong_here}
use Rattle.upon_schema.specs.Valid.{EntriesHold, KeywordsHold, ReferenceHolds, has_text, properties_of}
use Rattle.upon_schema.proofs.Fitting.{ok_more}
use Rattle.upon_schema.proofs.KeySteps.{ReadsAhead, keys_covered, reads_more}
use Rattle.upon_schema.proofs.Schemas.{keywords_fit, map_holds, other_schema, read_inside, referred_holds, truth_covers}
use Rattle.upon_schema.proofs.read.+read.Goals as goal

pub keys_of-returns-clause-covers : goal.keys_of-returns-clause-covers
keys_of-returns-clause-covers t c =
    let P = ValidAt c.args.place.now in
    let schema = view c.args.schema.now in
    let new = c.add_required.new.named.items in
    subst (λ (s : Shape). CoversMaps (ahead new (other_keys (shape_view s))) (EntriesHold P schema)) (sym c.in_ok-new.ensures.ok)
    (keys_covered P schema (vals_view c.in_ok-required.required.now) (shape_view c.in_ok-others.others) c.in_ok-named.named.items new
    c.in_ok-required.ensures.names c.in_ok-others.ensures.covers c.in_ok-named.ensures.ahead c.in_ok-add_required.ensures)

pub keywords_shape-returns-clause-covers : goal.keywords_shape-returns-clause-covers
keywords_shape-returns-clause-covers t c =
    let types = shape_view c.in_ok-types.types in
    let items = c.in_ok-new.field-0 in
    let keys = c.in_ok-keys_of.field-0 in
    keywords_fit (ValidAt c.args.place.now) (view c.args.schema.now) types (shape_view c.in_ok-items.items) (shape_view c.kept.result) (shape_view c.in_ok-shape.shape) (shape_view c.simplified.result) (keys_view keys)
    c.in_ok-types.ensures.covers c.in_ok-items.ensures.covers c.in_ok-keys_of.ensures.covers
    (c.kept.ensures ∙ ap (kept types) (view-OneOf c.each_plain.result (Some items) (Some keys) ∙ (λ i. one_of (c.each_plain.ensures i) (lists_of (shape_view (c.in_ok-new.ensures.ok i))) (maps_of (keys_view keys)))))
    c.in_ok-shape.ensures.fits c.simplified.ensures

pub properties-loop-name-preserved : goal.properties-loop-name-preserved
properties-loop-name-preserved t c =
    let P = ValidAt c.args.place.now in
    let all = properties_of (view c.args.schema.now) in
    let names = vals_view c.args.required.now in
    let named = c.loop-name.named.items in
    let left = c.next.new.self in
    let name = string_bytes c.in-Some-2.name.now in
    let k : Key Shape = record { name = c.in_ok-clone.field-0; required = c.is_required.result; shape = c.in-Ok.shape } in
    record {
      reads =
          subst (λ (ks : List (Key Shape)). ReadsAhead P all names (entries_view left) ks) (sym c.in_ok-push.ensures.items)
          (reads_more P all names name (view c.in-Some-2.inner.now) (entries_view left) named k c.in_ok-clone.ensures.cases
          (c.is_required.ensures ∙ ap (λ (n : List ℕ). has_text n names) c.deref-in-loop-name.ensures) c.in-Ok.ensures.covers
          (subst (λ (es : List Entry). ReadsAhead P all names (entries_view es) named) c.in-Some-2.ensures.steps c.loop-name.invariant.reads));
      among = λ key v h. c.loop-name.invariant.among key v (subst (λ (es : List Entry). HasEntry key v (entries_view es)) (sym c.in-Some-2.ensures.steps) (inr h));
      counted = count_step (count_at c.args.place.now) name (view c.in-Some-2.inner.now) (entries_view c.loop-name.name-iterator) (entries_view left) c.args.left.now c.loop-name.left c.read.new.left (count_entries (count_at c.args.place.now) all)
          (ap (λ (es : List Entry). entries_view es) c.in-Some-2.ensures.steps) c.loop-name.invariant.counted c.in-Ok.ensures.counted;
    }

pub read-returns-in-Some-clause-covers : goal.read-returns-in-Some-clause-covers
read-returns-in-Some-clause-covers t c =
    let place = c.args.place.now in
    let inner = c.in_ok-inner.inner in
    let root = view inner.root.now in
    let schema = view c.args.schema.now in
    let reference = view c.in-Some.reference.now in
    ok_more c.referred_shape.result (λ (s : Shape). Covers (shape_view s) (λ v. (other : Val) → ReferenceHolds (ValidAt inner) root other (Some reference) v)) (λ (s : Shape). Covers (shape_view s) (ValidAt place schema))
    (λ s f v rise h. f v rise (λ other. other_schema (ValidAt inner) root schema other reference v
    (map_holds (ValidAt inner) root schema (entries_view c.in-Map.field-0.entries) (Some reference) (ap view c.in-Map.is ∙ view-Map c.in-Map.field-0) c.in-Some.ensures v
    (read_inside place inner schema v c.in_ok-inner.ensures.depth c.in_ok-inner.ensures.root h)))) c.referred_shape.ensures.covers

pub read-returns-in-None-clause-covers : goal.read-returns-in-None-clause-covers
read-returns-in-None-clause-covers t c =
    let place = c.args.place.now in
    let inner = c.in_ok-inner.inner in
    let root = view inner.root.now in
    let schema = view c.args.schema.now in
    ok_more c.keywords_shape.result (λ (s : Shape). Covers (shape_view s) (KeywordsHold (ValidAt inner) schema)) (λ (s : Shape). Covers (shape_view s) (ValidAt place schema))
    (λ s f v rise h. f v rise
    (map_holds (ValidAt inner) root schema (entries_view c.in-Map.field-0.entries) None (ap view c.in-Map.is ∙ view-Map c.in-Map.field-0) c.in-None.ensures v
    (read_inside place inner schema v c.in_ok-inner.ensures.depth c.in_ok-inner.ensures.root h))) c.keywords_shape.ensures.covers

pub referred_shape-returns-in-Ok-clause-covers : goal.referred_shape-returns-in-Ok-clause-covers
referred_shape-returns-in-Ok-clause-covers t c =
    let place = c.args.place.now in
    let text = c.deref-2.result.now in
    λ v rise h. c.in-Ok.ensures.covers v rise
    (referred_holds (ValidAt place) (view place.root.now) none_val (view c.args.reference.now) text (view c.in-Some.schema.now)
    (ap view c.in-String.is ∙ view-String c.in-String.reference ∙ ap text_val (sym c.deref-2.ensures)) c.in-Some.ensures.refers v (h none_val))

-- ---- refusals
pub read-returns-in_default-clause-covers : goal.read-returns-in_default-clause-covers
read-returns-in_default-clause-covers t c =
    let place = c.args.place.now in
    let inner = c.in_ok-inner.inner in
    let schema = view c.args.schema.now in
    ok_more c.truth_shape.result (λ (s : Shape). (b : Bool) × (schema ≡ bool_val b) × ((v : Val) → b ≡ true → Fits (shape_view s) v)) (λ (s : Shape). Covers (shape_view s) (ValidAt place schema))
    (λ s f v rise h. truth_covers (ValidAt inner) (view inner.root.now) schema (shape_view s) f v (read_inside place inner schema v c.in_ok-inner.ensures.depth c.in_ok-inner.ensures.root h)) c.truth_shape.ensures.covers

pub read-returns-in_default-clause-refused : goal.read-returns-in_default-clause-refused
read-returns-in_default-clause-refused t c =
    let place = c.args.place.now in
    let schema = view c.args.schema.now in
    err_more c.truth_shape.result (λ (f : SchemaFault). (refusal f ≡ wrong_value []) × (is_bool schema ≡ false)) (λ (f : SchemaFault). IsCauseAt place schema (refusal f))
    (λ f h. no_truth place schema f h.0 h.1 (not_map c.args.schema.now c.in_default.not-Map)) c.truth_shape.ensures.refused

pub referred_shape-returns-in_default-referred-clause-refused : goal.referred_shape-returns-in_default-referred-clause-refused
referred_shape-returns-in_default-referred-clause-refused t c =
    let place = c.args.place.now in
    let text = c.deref-2.result.now in
    let is : view c.args.reference.now ≡ text_val text = ap view c.in-String.is ∙ view-String c.in-String.reference ∙ ap text_val (sym c.deref-2.ensures) in
    λ schema at. nothing_there (place.depth + 1) (view place.root.now) schema text (string_bytes c.new.result) c.inside.result (at ∙ ap (λ (v : Val). Some v) is) c.new.ensures.bytes
    (nothing_referred (view place.root.now) text (sym c.in_default-referred.ensures.found)) c.inside.ensures

pub referred_shape-returns-clause-refused : goal.referred_shape-returns-clause-refused
referred_shape-returns-clause-refused t c =
    let place = c.args.place.now in
    let text = c.deref-2.result.now in
    let is : view c.args.reference.now ≡ text_val text = ap view c.in-String.is ∙ view-String c.in-String.reference ∙ ap text_val (sym c.deref-2.ensures) in
    λ schema at. inner_cause place.depth (view place.root.now) schema (view c.in-Some.schema.now) behind_reference (refusal c.in-Err.fault) c.inside-in-Err.result
    (text, at ∙ ap (λ (v : Val). Some v) is, c.in-Some.ensures.refers) c.in-Err.ensures.refused c.inside-in-Err.ensures

pub shape_at-returns-in-Err-clause-refused : goal.shape_at-returns-in-Err-clause-refused
shape_at-returns-in-Err-clause-refused t c =
    let place = c.args.place.now in
    λ has plain. inner_cause place.depth (view place.root.now) (view c.args.schema.now) (view c.in-Some.inner.now) (at_keyword c.args.keyword.now) (refusal c.in-Err.fault) c.inside.result
    (has, (plain, sym c.in-Some.ensures)) c.in-Err.ensures.refused c.inside.ensures

pub properties-returns-in-Err-clause-refused : goal.properties-returns-in-Err-clause-refused
properties-returns-in-Err-clause-refused t c =
    let place = c.args.place.now in
    let schema = view c.args.schema.now in
    let name = c.deref.result.now in
    let v = view c.in-Some-2.inner.now in
    let entry : HasEntry name v (properties_of schema) = c.loop-name.invariant.among name v
    (subst (λ (es : List Entry). HasEntry name v (entries_view es)) (sym c.in-Some-2.ensures.steps) (inl (sym c.deref.ensures, refl))) in
    λ plain. inner_cause place.depth (view place.root.now) schema v (at_property name) (refusal c.in-Err.fault) c.inside-in-Err.result (plain, entry) c.in-Err.ensures.refused
    (says-twice (step_spelled (codes "properties")) (step_spelled name) (refusal c.in-Err.fault) c.inside.result c.inside-in-Err.result c.inside.ensures c.inside-in-Err.ensures)

pub properties-returns-in_default-found : goal.properties-returns-in_default-found
properties-returns-in_default-found t c = record {
  ahead = tt;
  refused = around c.args.place.now (view c.args.schema.now) (refusal c.wrong_value.result)
      (wrong_here (codes "properties") (view c.args.schema.now) c.wrong_value.result
      (inr (inr (inr (refl, (view c.in-Some.found.now, sym c.in-Some.ensures, not_map c.in-Some.found.now c.in_default-found.not-Map))))) c.wrong_value.ensures);
  counted = λ large. absurd (says_not_large (wrong_value (step_spelled (codes "properties"))) c.wrong_value.result (wrong_is_not_large (step_spelled (codes "properties"))) c.wrong_value.ensures large);
}

pub keywords_shape-returns-in_err-types-clause-refused : goal.keywords_shape-returns-in_err-types-clause-refused
keywords_shape-returns-in_err-types-clause-refused t c =
    let place = c.args.place.now in
    let schema = view c.args.schema.now in
    let fault = c.in_err-types.field-0.0 in
    handed_on (λ (f : SchemaFault). IsCauseAround place schema (refusal f)) fault c.from_residual-in_err-types.result c.from_residual-in_err-types.ensures.1 (around place schema (refusal fault) c.in_err-types.ensures.refused)

pub keywords_shape-returns-in_err-shape-clause-refused : goal.keywords_shape-returns-in_err-shape-clause-refused
keywords_shape-returns-in_err-shape-clause-refused t c =
    let place = c.args.place.now in
    let schema = view c.args.schema.now in
    let fault = c.in_err-shape.field-0.0 in
    handed_on (λ (f : SchemaFault). IsCauseAround place schema (refusal f)) fault c.from_residual-in_err-shape.result c.from_residual-in_err-shape.ensures.1 (around place schema (refusal fault) c.in_err-shape.ensures.refused)

pub keywords_shape-returns-in_err-check_keywords-clause-refused : goal.keywords_shape-returns-in_err-check_keywords-clause-refused
keywords_shape-returns-in_err-check_keywords-clause-refused t c =
    let place = c.args.place.now in
    let schema = view c.args.schema.now in
    let fault = c.in_err-check_keywords.field-0.0 in
    handed_on (λ (f : SchemaFault). IsCauseAround place schema (refusal f)) fault c.from_residual.result c.from_residual.ensures.1 (around place schema (refusal fault) c.in_err-check_keywords.ensures)

pub keys_of-returns-in_err-required-clause-refused : goal.keys_of-returns-in_err-required-clause-refused
keys_of-returns-in_err-required-clause-refused t c =
    let place = c.args.place.now in
    let schema = view c.args.schema.now in
    let fault = c.in_err-required.field-0.0 in
    handed_on (λ (f : SchemaFault). IsCauseAround place schema (refusal f)) fault c.from_residual.result c.from_residual.ensures.1 (around place schema (refusal fault) c.in_err-required.ensures.refused)

-- ---- counts
pub properties-returns-in-Err-clause-counted : goal.properties-returns-in-Err-clause-counted
properties-returns-in-Err-clause-counted t c =
    let place = c.args.place.now in
    let name = c.deref.result.now in
    λ large. count_over (count_at place) (string_bytes c.in-Some-2.name.now) (view c.in-Some-2.inner.now) (entries_view c.loop-name.name-iterator) (entries_view c.next.new.self) c.args.left.now c.loop-name.left (count_entries (count_at place) (properties_of (view c.args.schema.now)))
    (ap (λ (es : List Entry). entries_view es) c.in-Some-2.ensures.steps) c.loop-name.invariant.counted
    (c.in-Err.ensures.counted (says_large (step_spelled name) (refusal c.in-Err.fault) c.inside.result c.inside.ensures (says_large (step_spelled (codes "properties")) (refusal c.inside.result) c.inside-in-Err.result c.inside-in-Err.ensures large)))

pub read-returns-in_err-inner-clause-counted : goal.read-returns-in_err-inner-clause-counted
read-returns-in_err-inner-clause-counted t c =
    let fault = c.in_err-inner.field-0.0 in
    handed_count fault c.from_residual.result c.args.left.now _ (count_at c.args.place.now (view c.args.schema.now)) c.from_residual.ensures.1 (none_left c.args.place.now (view c.args.schema.now) fault c.args.left.now c.in_err-inner.ensures.refused)

pub read-returns-in-Some-clause-counted : goal.read-returns-in-Some-clause-counted
read-returns-in-Some-clause-counted t c =
    let place = c.args.place.now in
    let inner = c.in_ok-inner.inner in
    let root = view inner.root.now in
    let schema = view c.args.schema.now in
    let reference = view c.in-Some.reference.now in
    counted_more c.referred_shape.result c.args.left.now c.inside.new.left c.referred_shape.new.left (count_reference (schemas_read inner.depth root) root (references_at inner) reference) (count_at place schema)
    c.in_ok-inner.ensures.left (read_count_at place inner schema (Some reference) c.in_ok-inner.ensures.depth c.in_ok-inner.ensures.root c.in_ok-inner.ensures.references c.in-Some.ensures) c.referred_shape.ensures.counted

pub read-returns-in-None-clause-counted : goal.read-returns-in-None-clause-counted
read-returns-in-None-clause-counted t c =
    let place = c.args.place.now in
    let inner = c.in_ok-inner.inner in
    let schema = view c.args.schema.now in
    counted_more c.keywords_shape.result c.args.left.now c.inside.new.left c.keywords_shape.new.left (count_keywords (count_at inner) schema) (count_at place schema)
    c.in_ok-inner.ensures.left (read_count_at place inner schema None c.in_ok-inner.ensures.depth c.in_ok-inner.ensures.root c.in_ok-inner.ensures.references c.in-None.ensures) c.keywords_shape.ensures.counted

pub read-returns-in_default-clause-counted : goal.read-returns-in_default-clause-counted
read-returns-in_default-clause-counted t c =
    let inner = c.in_ok-inner.inner in
    let schema = view c.args.schema.now in
    truth_counted c.args.place.now inner schema c.truth_shape.result (λ (s : Shape). (b : Bool) × (schema ≡ bool_val b) × ((v : Val) → b ≡ true → Fits (shape_view s) v)) c.args.left.now c.inside.new.left
    (λ s h. (h.0, h.1)) c.truth_shape.ensures.covers c.truth_shape.ensures.refused c.in_ok-inner.ensures.depth c.in_ok-inner.ensures.root c.in_ok-inner.ensures.references c.in_ok-inner.ensures.left

pub referred_shape-returns-in_default-referred-clause-counted : goal.referred_shape-returns-in_default-referred-clause-counted
referred_shape-returns-in_default-referred-clause-counted t c =
    λ large. absurd (says_not_large (no_definition (step_spelled (codes "$ref") ++ string_bytes c.new.result)) c.inside.result (none_is_not_large (step_spelled (codes "$ref") ++ string_bytes c.new.result)) c.inside.ensures large)

pub referred_shape-returns-clause-counted : goal.referred_shape-returns-clause-counted
referred_shape-returns-clause-counted t c =
    let place = c.args.place.now in
    let root = view place.root.now in
    let text = string_bytes c.in-String.reference in
    let same = inner_count (schemas_read place.depth root) root (view c.args.reference.now) (view c.in-Some.schema.now) (references_at place) (texts c.deref-3.result.now) text (ap view c.in-String.is ∙ view-String c.in-String.reference)
    (ap (λ (t : List ℕ). is_listed t (references_at place)) (sym c.deref.ensures) ∙ sym c.is_open.ensures ∙ c.if-is_open.false) (c.in-Some.ensures.found ∙ ap (referred_in root) c.deref-2.ensures)
    (one_more_open place.references.now c.deref-3.result.now c.in_ok-open.open.items c.as_str.result text (c.deref-3.ensures.value ∙ c.in_ok-push.ensures.items) (c.in_ok-open.ensures.items_if_clones_equal (λ x y h. h)) c.as_str.ensures.value) in
    λ large. subst (λ (n : ℕ). c.args.left.now < n) (sym same) (c.in-Err.ensures.counted (says_large (step_spelled (codes "$ref")) (refusal c.in-Err.fault) c.inside-in-Err.result c.inside-in-Err.ensures large))

pub referred_shape-returns-in-Ok-clause-counted : goal.referred_shape-returns-in-Ok-clause-counted
referred_shape-returns-in-Ok-clause-counted t c =
    let place = c.args.place.now in
    let root = view place.root.now in
    let text = string_bytes c.in-String.reference in
    let same = inner_count (schemas_read place.depth root) root (view c.args.reference.now) (view c.in-Some.schema.now) (references_at place) (texts c.deref-3.result.now) text (ap view c.in-String.is ∙ view-String c.in-String.reference)
    (ap (λ (t : List ℕ). is_listed t (references_at place)) (sym c.deref.ensures) ∙ sym c.is_open.ensures ∙ c.if-is_open.false) (c.in-Some.ensures.found ∙ ap (referred_in root) c.deref-2.ensures)
    (one_more_open place.references.now c.deref-3.result.now c.in_ok-open.open.items c.as_str.result text (c.deref-3.ensures.value ∙ c.in_ok-push.ensures.items) (c.in_ok-open.ensures.items_if_clones_equal (λ x y h. h)) c.as_str.ensures.value) in
    c.in-Ok.ensures.counted ∙ ap (λ (n : ℕ). c.read.new.left + n) (sym same)

pub keywords_shape-returns-in_err-types-clause-counted : goal.keywords_shape-returns-in_err-types-clause-counted
keywords_shape-returns-in_err-types-clause-counted t c =
    handed_count c.in_err-types.field-0.0 c.from_residual-in_err-types.result c.args.left.now _ (count_keywords (count_at c.args.place.now) (view c.args.schema.now)) c.from_residual-in_err-types.ensures.1 (λ large. absurd (c.in_err-types.ensures.refused.0 large))

pub keywords_shape-returns-in_err-shape-clause-counted : goal.keywords_shape-returns-in_err-shape-clause-counted
keywords_shape-returns-in_err-shape-clause-counted t c =
    handed_count c.in_err-shape.field-0.0 c.from_residual-in_err-shape.result c.args.left.now _ (count_keywords (count_at c.args.place.now) (view c.args.schema.now)) c.from_residual-in_err-shape.ensures.1 (λ large. absurd (c.in_err-shape.ensures.refused.0 large))

pub keywords_shape-returns-in_err-check_keywords-clause-counted : goal.keywords_shape-returns-in_err-check_keywords-clause-counted
keywords_shape-returns-in_err-check_keywords-clause-counted t c =
    handed_count c.in_err-check_keywords.field-0.0 c.from_residual.result c.args.left.now _ (count_keywords (count_at c.args.place.now) (view c.args.schema.now)) c.from_residual.ensures.1 (λ large. absurd (c.in_err-check_keywords.ensures.0 large))

pub keys_of-returns-in_err-required-clause-counted : goal.keys_of-returns-in_err-required-clause-counted
keys_of-returns-in_err-required-clause-counted t c =
    handed_count c.in_err-required.field-0.0 c.from_residual.result c.args.left.now _ (count_beside (count_at c.args.place.now) (view c.args.schema.now)) c.from_residual.ensures.1 (λ large. absurd (c.in_err-required.ensures.refused.0 large))

pub shape_at-returns-in-Err-clause-counted : goal.shape_at-returns-in-Err-clause-counted
shape_at-returns-in-Err-clause-counted t c =
    let count = count_at c.args.place.now in
    λ large. subst (λ (o : Option Val). c.args.left.now < count_there count o) c.in-Some.ensures (c.in-Err.ensures.counted (says_large (step_spelled c.args.keyword.now) (refusal c.in-Err.fault) c.inside.result c.inside.ensures large))
