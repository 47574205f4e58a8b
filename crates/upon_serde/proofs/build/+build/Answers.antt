use Rattle.std.proofs.Common.{◌≡◌, ◌∷◌, [], ◌++◌, ◌≤◌, Some, String, Global, option_map, ap, map, refl, sym, subst, ◌∙◌, string_bytes, arith, rules}
use Rattle.std.proofs.lemmas.List.{append_assoc, append-nil, map-append}
use Rattle.std.proofs.lemmas.Result.{on_ok_weaker}
use Rattle.upon_types.specs.View.{view}
use Rattle.upon_types.specs.declared.value.Value.TheVariants.{Bool as Truth, String as Text}
use Rattle.upon_types.proofs.Views.{view-Bool, view-String}
use Rattle.upon_serde.specs.Data.{datum_value, text_key, with_pair}
use Rattle.upon_serde.specs.Notes.{note_event, noted, notes_left, events_from, notes_events}
use Rattle.upon_serde.specs.declared.note.Notes.{Notes}
use Rattle.upon_serde.specs.Reads.{ReadsDatum, ReadsEntries, ReadsKey, datum_of, entry_pairs}
use Rattle.upon_serde.specs.Put.{pairs_so_far}
use Rattle.upon_serde.proofs.Reading.{reads_note, reads_note_ok, reads_list, reads_map, items_end, items_one, members_end, members_one, members_flattened}
use Rattle.upon_serde.proofs.build.+build.Goals as goal
use Rattle.upon_serde.proofs.build.+build.Goals.{members-in-TextKey, members-in_default-note-2+in_ok-key-in_default-note-2}

-- ---- items
pub items-loop-alloc-preserved : goal.items-loop-alloc-preserved
items-loop-alloc-preserved t c =
    let before = notes_events c.loop-alloc.notes in
    let v = view c.in_ok-item.item in
    let same : before ≡ notes_events c.takes_end_of_seq.new.self = c.loop-alloc-test.ensures.end in
    let one : ReadsDatum before (notes_events c.value.new.notes) v = subst (λ es. ReadsDatum es (notes_events c.value.new.notes) v) (sym same) c.in_ok-item.ensures.reads in
    let so_far = map view c.loop-alloc.items.items in
    let items : map view c.push_reserved.new.self.items ≡ so_far ++ v ∷ [] =
    ap (λ held. map view held) (c.push_reserved.ensures.items ∙ ap (λ held. held ++ c.in_ok-item.item ∷ []) c.reserve.ensures.items) ∙ map-append view c.loop-alloc.items.items (c.in_ok-item.item ∷ []) in
    let kept = c.loop-alloc.invariant.0 in
    let stayed = c.loop-alloc-test.ensures.shorter in
    let shorter = c.in_ok-item.ensures.shorter in (
      omega arith,
      λ after vs rest.
          let whole = c.loop-alloc.invariant.1 after (v ∷ vs) (items_one before (notes_events c.value.new.notes) after v vs one rest) in
          (whole.0, whole.1, whole.2 ∙ sym (append_assoc so_far (v ∷ []) vs) ∙ ap (λ xs. xs ++ vs) (sym items)),
    )

pub items-returns-clause-reads : goal.items-returns-clause-reads
items-returns-clause-reads t c =
    let after = notes_events c.takes_end_of_seq.new.self in
    let whole = c.loop-alloc.invariant.1 after [] (items_end (notes_events c.loop-alloc.notes) after c.loop-alloc-test.ensures.end) in
    (whole.0, whole.1, whole.2 ∙ append-nil _)

-- ---- members
pub members-returns-in-EndMap-clause-reads : goal.members-returns-in-EndMap-clause-reads
members-returns-in-EndMap-clause-reads t c =
    let after = notes_events c.pop_front.new.self in
    let pairs = pairs_so_far c.loop-note.entries in
    let end = ap (λ ns. events_from ns []) c.in-Some.ensures.items ∙ ap (λ n. noted n after) c.in-EndMap.is in
    c.loop-note.invariant.1 after pairs (members_end (notes_events c.loop-note.notes) after pairs end)

pub members-loop-note-preserved-in-Continue-1 : goal.members-loop-note-preserved-in-Continue-1
members-loop-note-preserved-in-Continue-1 t c =
    let flat = notes_events c.pop_front.new.self in
    let mid = notes_events c.flattened.new.notes in
    let old = pairs_so_far c.loop-note.entries in
    let between = pairs_so_far c.flattened.new.entries in
    let begins = ap (λ ns. events_from ns []) c.in-Some.ensures.items ∙ ap (λ n. noted n flat) c.in-Flatten.is in
    let kept = c.loop-note.invariant.0 in
    let popped = c.in-Some.ensures.len in
    let shorter = c.in_ok-flattened-in-Flatten.ensures.shorter in (
      omega arith,
      λ after new rest.
          c.loop-note.invariant.1 after new (members_flattened (notes_events c.loop-note.notes) flat mid after old between new begins c.in_ok-flattened-in-Flatten.ensures.reads rest),
    )

pub members-loop-note-preserved : goal.members-loop-note-preserved
members-loop-note-preserved t c =
    let name = c.match-note-2.key in
    let value = c.in_ok-value-in_default-note.value in
    let rest_of_first = notes_events c.pop_front.new.self in
    let named = notes_events c.match-note-2.notes in
    let mid = notes_events c.value.new.notes in
    let old = pairs_so_far c.loop-note.entries in
    let begins : notes_events c.loop-note.notes ≡ noted c.in-Some.note rest_of_first = ap (λ ns. events_from ns []) c.in-Some.ensures.items in
    let Named = λ (notes : Notes) (name : String Global). ReadsKey (noted c.in-Some.note rest_of_first) (notes_events notes) (string_bytes name) × (notes_left notes ≤ notes_left c.pop_front.new.self) in
    let first : Named c.match-note-2.notes name =
    (elim c.match-note-2.branch [
      | members-in-TextKey w ↦
          subst (λ notes. Named notes name) (sym w.notes-is)
          (subst (Named c.pop_front.new.self) (sym w.key-is)
          ((text_key (string_bytes w.in-TextKey.text), ap (λ n. noted n rest_of_first) w.in-TextKey.is, refl), omega arith))
      | members-in_default-note-2+in_ok-key-in_default-note-2 w ↦
          subst (λ notes. Named notes name) (sym w.notes-is)
          (subst (Named w.key.new.notes) (sym w.key-is)
          (w.in_ok-key-in_default-note-2.ensures.reads, w.in_ok-key-in_default-note-2.ensures.shorter))
    ]) in
    let key = subst (λ es. ReadsKey es named (string_bytes name)) (sym begins) first.0 in
    let put : pairs_so_far c.put.new.self ≡ with_pair (string_bytes name) (view value) old = c.in_ok-put-in_default-note.ensures in
    let kept = c.loop-note.invariant.0 in
    let popped = c.in-Some.ensures.len in
    let shorter = first.1 in
    let shorter_yet = c.in_ok-value-in_default-note.ensures.shorter in (
      omega arith,
      λ after new rest.
          c.loop-note.invariant.1 after new (members_one (notes_events c.loop-note.notes) named mid after (string_bytes name) (view value) old new key c.in_ok-value-in_default-note.ensures.reads (subst (λ pairs. ReadsEntries mid after pairs new) put rest)),
    )

-- ---- a value
pub value-returns-in-Text-clause-reads : goal.value-returns-in-Text-clause-reads
value-returns-in-Text-clause-reads t c =
    let begins = ap (λ ns. events_from ns []) c.in-Some.ensures.items in
    reads_note c.in-Some.note (notes_events c.args.notes.now) (notes_events c.pop_front.new.self) (Text c.in-Text.text) begins
    (ap (λ n. option_map datum_value (datum_of (note_event n))) c.in-Text.is ∙ ap (λ v. Some v) (sym (view-String c.in-Text.text)))

pub value-returns-in-Bool-clause-reads : goal.value-returns-in-Bool-clause-reads
value-returns-in-Bool-clause-reads t c =
    let begins = ap (λ ns. events_from ns []) c.in-Some.ensures.items in
    reads_note c.in-Some.note (notes_events c.args.notes.now) (notes_events c.pop_front.new.self) (Truth c.in-Bool.truth) begins
    (ap (λ n. option_map datum_value (datum_of (note_event n))) c.in-Bool.is ∙ ap (λ v. Some v) (sym (view-Bool c.in-Bool.truth)))

pub value-returns-in_ok-items-in-BeginSeq-clause-reads : goal.value-returns-in_ok-items-in-BeginSeq-clause-reads
value-returns-in_ok-items-in-BeginSeq-clause-reads t c =
    let inside = notes_events c.pop_front.new.self in
    let begins = ap (λ ns. events_from ns []) c.in-Some.ensures.items ∙ ap (λ n. noted n inside) c.in-BeginSeq.is in
    reads_list c.in-BeginSeq.field-0 (notes_events c.args.notes.now) inside (notes_events c.items.new.notes) c.in_ok-items-in-BeginSeq.field-0 begins c.in_ok-items-in-BeginSeq.ensures.reads

pub value-returns-in_ok-map-in-BeginMap-clause-reads : goal.value-returns-in_ok-map-in-BeginMap-clause-reads
value-returns-in_ok-map-in-BeginMap-clause-reads t c =
    let inside = notes_events c.pop_front.new.self in
    let after = notes_events c.map.new.notes in
    let m = c.in_ok-map-in-BeginMap.field-0 in
    let begins = ap (λ ns. events_from ns []) c.in-Some.ensures.items ∙ ap (λ n. noted n inside) c.in-BeginMap.is in
    reads_map c.in-BeginMap.len (notes_events c.args.notes.now) inside after m begins (subst (λ old. ReadsEntries inside after old (entry_pairs m.entries)) c.new.ensures c.in_ok-map-in-BeginMap.ensures.reads)

pub value-returns-in_ok-map-in-BeginRoom-clause-reads : goal.value-returns-in_ok-map-in-BeginRoom-clause-reads
value-returns-in_ok-map-in-BeginRoom-clause-reads t c =
    let inside = notes_events c.pop_front.new.self in
    let after = notes_events c.map-in-BeginRoom.new.notes in
    let m = c.in_ok-map-in-BeginRoom.field-0 in
    let begins = ap (λ ns. events_from ns []) c.in-Some.ensures.items ∙ ap (λ n. noted n inside) c.in-BeginRoom.is in
    reads_map (Some c.in-BeginRoom.field-0) (notes_events c.args.notes.now) inside after m begins (subst (λ old. ReadsEntries inside after old (entry_pairs m.entries)) c.within.ensures c.in_ok-map-in-BeginRoom.ensures.reads)

pub value-returns-in-Signed-clause-reads : goal.value-returns-in-Signed-clause-reads
value-returns-in-Signed-clause-reads t c =
    let note = c.in-Some.note in
    let after = notes_events c.pop_front.new.self in
    let begins : notes_events c.args.notes.now ≡ noted note after = ap (λ ns. events_from ns []) c.in-Some.ensures.items in
    reads_note_ok note (notes_events c.args.notes.now) after c.simple_value.result begins c.simple_value.ensures

pub value-returns-in_default-note : goal.value-returns-in_default-note
value-returns-in_default-note t c =
    let note = c.in-Some.note in
    let after = notes_events c.pop_front.new.self in
    let begins : notes_events c.args.notes.now ≡ noted note after = ap (λ ns. events_from ns []) c.in-Some.ensures.items in
    let popped = c.in-Some.ensures.len in
    record {
      reads = reads_note_ok note (notes_events c.args.notes.now) after c.simple_value-in_default-note.result begins c.simple_value-in_default-note.ensures;
      shorter = search (rules, on_ok_weaker);
    }
