use Rattle.std.proofs.Common.{◌≡◌, ◌<◌, List, ℕ, [], ◌∷◌, ◌++◌, false, Some, Ok, Err, inr, sym, ap, subst, ◌∙◌, rules}
use Rattle.csv.specs.Reading.{FlexibleStep, TextStep, default_config, error_kind, records, stops_reader, strip_bom}
use Rattle.csv.specs.Records.{fields_of}
use Rattle.upon_types.specs.Val.{list_val}
use Rattle.upon_types.specs.View.{view, vals_view}
use Rattle.upon_types.proofs.Views.{view-List}
use Rattle.upon_data.specs.Table.{row_val, rows_vals, under_head}
use Rattle.upon_data.proofs.CsvRecords.{strip_text}
use Rattle.upon_data.proofs.Records.{IsFresh, IsUnder, fault_first, fault_under, first_none, first_row, last_row, left_of, next_row}
use Rattle.upon_data.proofs.Rows.{of_ragged, of_rows, rows_more}
use Rattle.upon_data.proofs.table.table.Goals.{After-next}
use Rattle.upon_data.proofs.table.table.Goals as goal

-- the reader has read nothing when the first record is asked for
fresh : (c : After-next) → IsFresh c.into_records-records.result.rdr (strip_bom c.args.text.now)
fresh c =
    let from = c.from_reader-reader.ensures in
    let built = c.has_headers.ensures in
    subst (λ reader. IsFresh reader (strip_bom c.args.text.now)) (sym c.into_records-records.ensures.rdr) record {
      trim = rw built at from.trim ∙ c.new.ensures.trim;
      ready = inr (inr (rw built at from.has_headers, from.headers));
      config = rw built at from.config ∙ c.new.ensures.config;
      flexible = rw built at from.flexible ∙ c.new.ensures.flexible;
      expected = from.expected;
      source = from.source ∙ ap (λ bytes. Some (strip_bom bytes)) c.as_bytes.ensures.value;
      state = from.state;
    }

pub returns-in-Some-Err-clause-refused : goal.returns-in-Some-Err-clause-refused
returns-in-Some-Err-clause-refused c goes =
    let begun = fresh (goal.at.returns-in-Some-Err-clause-refused c).After-next in
    let steps = c.next.ensures.steps c.into_records-records.ensures.left begun.trim in
    let is : c.next.result ≡ Some (Err c.in-Some-Err.error) = cc in
    let why = subst (λ r. TextStep left_of c.into_records-records.result.rdr c.next.new.self.rdr c.next.new.self.left r) is (steps.0 begun.ready) in
    let stops : stops_reader (error_kind c.in-Some-Err.error) ≡ false = cc goes in
    absurd (cc (stops, fault_first c.into_records-records.result.rdr c.next.new.self.rdr (strip_bom c.args.text.now) (error_kind c.in-Some-Err.error) (strip_text c.args.text.now c.utf8.text) begun why))

pub returns-in-None-clause-read : goal.returns-in-None-clause-read
returns-in-None-clause-read c =
    let begun = fresh (goal.at.returns-in-None-clause-read c).After-next in
    let steps = c.next.ensures.steps c.into_records-records.ensures.left begun.trim in
    let none = subst (λ r. TextStep left_of c.into_records-records.result.rdr c.next.new.self.rdr c.next.new.self.left r) c.in-None.is (steps.0 begun.ready) in
    ap under_head (first_none c.into_records-records.result.rdr c.next.new.self.rdr (strip_bom c.args.text.now) c.next.new.self.left begun none)
    ∙ ap Some (sym (view-List c.new-rows.result ∙ ap (λ vs. list_val (vals_view vs)) c.new-rows.ensures.items))

pub loop-record-init : goal.loop-record-init
loop-record-init c =
    let begun = fresh (goal.at.loop-record-init c).After-next in
    let steps = c.next.ensures.steps c.into_records-records.ensures.left begun.trim in
    let is : c.next.result ≡ Some (Ok c.in-Some-Ok.head) = cc in
    let step = subst (λ r. TextStep left_of c.into_records-records.result.rdr c.next.new.self.rdr c.next.new.self.left r) is (steps.0 begun.ready) in
    let keeps = subst (λ r. FlexibleStep c.into_records-records.result.rdr c.next.new.self.rdr r) is steps.3 in
    let under = first_row c.into_records-records.result.rdr c.next.new.self.rdr (strip_bom c.args.text.now) c.next.new.self.left c.in-Some-Ok.head begun step keeps in
    let same : c.in-Some-Ok.head ≡ c.head.inside.inner = cc in
    subst (λ it. (rows : List (List (List ℕ))) × (0 < it.left) × IsUnder it.rdr (strip_bom c.args.text.now) (fields_of c.head.inside.inner) rows
    × (vals_view c.new-rows.result.items ≡ rows_vals (fields_of c.head.inside.inner) rows)) (sym c.into_iter-record-iterator.ensures.into_iter_gives)
    ([], step.3, subst (λ row. IsUnder c.next.new.self.rdr (strip_bom c.args.text.now) (fields_of row) []) same under, ap vals_view c.new-rows.ensures.items)

pub loop-record-preserved : goal.loop-record-preserved
loop-record-preserved c =
    let (rows, left, under, made) = c.loop-record.invariant in
    let a = c.loop-record.record-iterator.rdr in
    let b = c.next-in-loop-record.new.self in
    let steps = c.next-in-loop-record.ensures.steps left under.trim in
    let is : c.next-in-loop-record.result ≡ Some (Ok c.in-Ok.record) = cc in
    let step = subst (λ r. TextStep left_of a b.rdr b.left r) is (steps.0 under.ready) in
    let keeps = subst (λ r. FlexibleStep a b.rdr r) is steps.3 in
    let head = fields_of c.head.inside.inner in
    let fields = fields_of c.in-Ok.record in
    let v = c.in_ok-row-in-Ok.field-0 in
    let pushed : c.push.new.self.items ≡ c.loop-record.rows.items ++ v ∷ [] = search rules in
    let is_row : view v ≡ row_val head fields = cc (c.in_ok-row-in-Ok.ensures) in (
      rows ++ fields ∷ [],
      step.3,
      next_row a b.rdr (strip_bom c.args.text.now) head rows b.left c.in-Ok.record under step keeps,
      ap vals_view pushed ∙ rows_more head rows fields c.loop-record.rows.items v made is_row,
    )

pub returns-in-Err-clause-refused : goal.returns-in-Err-clause-refused
returns-in-Err-clause-refused c goes =
    let (rows, left, under, made) = c.loop-record.invariant in
    let a = c.loop-record.record-iterator.rdr in
    let b = c.next-in-loop-record.new.self in
    let steps = c.next-in-loop-record.ensures.steps left under.trim in
    let is : c.next-in-loop-record.result ≡ Some (Err c.in-Err.error) = cc in
    let why = subst (λ r. TextStep left_of a b.rdr b.left r) is (steps.0 under.ready) in
    let stops : stops_reader (error_kind c.in-Err.error) ≡ false = cc goes in
    let bad = fault_under a b.rdr (strip_bom c.args.text.now) (fields_of c.head.inside.inner) rows (error_kind c.in-Err.error) (strip_text c.args.text.now c.utf8.text) under why stops in
    of_ragged (records default_config (strip_bom c.args.text.now)) (fields_of c.head.inside.inner) bad.others bad.are bad.unlike

pub returns-clause-read : goal.returns-clause-read
returns-clause-read c =
    let (rows, left, under, made) = c.loop-record.invariant in
    let a = c.loop-record.record-iterator.rdr in
    let b = c.next-in-loop-record.new.self in
    let steps = c.next-in-loop-record.ensures.steps left under.trim in
    let none = subst (λ r. TextStep left_of a b.rdr b.left r) c.in-None-record.is (steps.0 under.ready) in
    let head = fields_of c.head.inside.inner in
    of_rows (records default_config (strip_bom c.args.text.now)) head rows (last_row a b.rdr (strip_bom c.args.text.now) head rows b.left under none) under.same
    ∙ ap Some (sym (view-List c.loop-record.rows ∙ ap list_val made))
