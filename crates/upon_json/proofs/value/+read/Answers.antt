use Rattle.std.proofs.Common.{◌≡◌, ◌-◌, ◌<◌, [], ◌∷◌, ◌++◌, false, length, Some, None, sym, ap, ◌∙◌, arith, rules}
use Rattle.json.specs.Json.{after_end_array, parse_map, read_key}
use Rattle.json.specs.Reads.{token_of}
use Rattle.json.proofs.Grammar.{read_key-shorter, value_is}
use Rattle.std.proofs.lemmas.Grind.{common_steps}
use Rattle.upon_types.specs.Val.{text_val, list_val, map_val}
use Rattle.upon_types.specs.View.{view, entries_view}
use Rattle.upon_types.proofs.Views.{view-None, view-Bool, view-String, view-List, view-Map}
use Rattle.upon_json.specs.Reads.{is_memory_fault, reads, reads_items, reads_members}
use Rattle.upon_json.proofs.Reading.{reads-null, reads-boolean, reads-number, reads-string, reads-nothing, reads-begin_array, reads-begin_object, reads-array-too_deep, reads-object-too_deep}
use Rattle.upon_json.proofs.Reading.{list_from, list_next, list_stops, list_ends, map_from, map_next, map_stops, map_lacks_key, map_ends}
use Rattle.upon_json.proofs.value.+read.Goals as goal

-- ---- a list
pub list-returns-in_err-value-clause-refused : goal.list-returns-in_err-value-clause-refused
list-returns-in_err-value-clause-refused t c =
    let l = c.loop-alloc in
    let more : (after_end_array l.reader ≡ None) × (c.take_end_array.new.self ≡ l.reader) = grind arith in
    let stops : is_memory_fault c.in_err-value.field-0.0 ≡ false → reads_items c.args.depth c.args.reader.now ≡ None =
    λ kept. l.invariant.3 ∙ list_stops l.values.items c.args.depth l.invariant.0 l.reader more.0 (ap (reads c.args.depth) (sym more.1) ∙ c.in_err-value.ensures.refused kept) in
    search (rules, stops)

pub list-loop-alloc-preserved : goal.list-loop-alloc-preserved
list-loop-alloc-preserved t c =
    let l = c.loop-alloc in
    let turns = l.invariant.0 in
    let v = c.in_ok-value.value in
    let rest = c.read.new.reader in
    let more : (after_end_array l.reader ≡ None) × (c.take_end_array.new.self ≡ l.reader) = grind arith in
    let less : length rest < length l.reader = rw (← more.1) c.in_ok-value.ensures.shorter in
    let read : reads c.args.depth l.reader ≡ Some (view v, rest) = ap (reads c.args.depth) (sym more.1) ∙ c.in_ok-value.ensures.read in
    let pushed : c.push.new.self.items ≡ l.values.items ++ v ∷ [] = search rules in (
      turns - 1,
      omega (arith, l.invariant.1),
      omega (arith, l.invariant.2),
      l.invariant.3
          ∙ list_next l.values.items v c.args.depth turns l.reader rest (omega (arith, l.invariant.1)) more.0 read
          ∙ ap (λ vs. list_from vs c.args.depth (turns - 1) rest) (sym pushed),
    )

pub list-returns-clause-read : goal.list-returns-clause-read
list-returns-clause-read t c =
    let l = c.loop-alloc in
    let rest = c.take_end_array.new.self in
    let ends : after_end_array l.reader ≡ Some rest = grind arith in
    l.invariant.3 ∙ list_ends l.values.items c.args.depth l.invariant.0 l.reader rest l.invariant.1 ends

-- ---- an object
pub map-returns-in_err-key-clause-refused : goal.map-returns-in_err-key-clause-refused
map-returns-in_err-key-clause-refused t c =
    let l = c.loop-entries in
    let stops : reads_members c.args.depth c.args.reader.now ≡ None =
    l.invariant.3 ∙ map_lacks_key (entries_view l.entries.entries) c.args.depth l.invariant.0 l.reader c.in_err-key.ensures.value in
    search (rules, stops)

pub map-returns-in_err-value-clause-refused : goal.map-returns-in_err-value-clause-refused
map-returns-in_err-value-clause-refused t c =
    let l = c.loop-entries in
    let k = c.in-Some.key.now in
    let after = c.next_key.new.self in
    let key : read_key l.reader ≡ Some (Some k, after) = grind arith in
    let stops : is_memory_fault c.in_err-value.field-0.0 ≡ false → reads_members c.args.depth c.args.reader.now ≡ None =
    λ kept. l.invariant.3 ∙ map_stops (entries_view l.entries.entries) k c.args.depth l.invariant.0 l.reader after key (c.in_err-value.ensures.refused kept) in
    search (rules, stops)

pub map-loop-entries-preserved : goal.map-loop-entries-preserved
map-loop-entries-preserved t c =
    let l = c.loop-entries in
    let turns = l.invariant.0 in
    let k = c.in-Some.key.now in
    let v = c.in_ok-value.value in
    let after = c.next_key.new.self in
    let rest = c.read.new.reader in
    let key : read_key l.reader ≡ Some (Some k, after) = grind arith in
    let less = read_key-shorter l.reader (Some k) after key in
    let lesser = c.in_ok-value.ensures.shorter in (
      turns - 1,
      omega (arith, l.invariant.1),
      omega (arith, l.invariant.2),
      l.invariant.3
          ∙ map_next (entries_view l.entries.entries) k (view v) c.args.depth turns l.reader after rest (omega (arith, l.invariant.1)) key c.in_ok-value.ensures.read
          ∙ ap (λ es. map_from es c.args.depth (turns - 1) rest) (sym c.in_ok-put.ensures),
    )

pub map-returns-clause-read : goal.map-returns-clause-read
map-returns-clause-read t c =
    let l = c.loop-entries in
    let rest = c.next_key.new.self in
    let ends : read_key l.reader ≡ Some (None, rest) = grind arith in
    l.invariant.3 ∙ map_ends (entries_view l.entries.entries) c.args.depth l.invariant.0 l.reader rest l.invariant.1 ends

-- ---- a value
pub read-returns-in_default-clause-refused : goal.read-returns-in_default-clause-refused
read-returns-in_default-clause-refused t c _ =
    let empty : c.args.reader.now ≡ [] = grind arith in
    ap (reads c.args.depth) empty ∙ reads-nothing c.args.depth

pub read-returns-in_err-inside-in-BeginArray-clause-refused : goal.read-returns-in_err-inside-in-BeginArray-clause-refused
read-returns-in_err-inside-in-BeginArray-clause-refused t c =
    let rest = c.next.new.self in
    let first : c.args.reader.now ≡ token_of c.in-Some.token ∷ rest = grind arith in
    let begins = first ∙ ap (λ token. token_of token ∷ rest) c.in-BeginArray.is in
    let stops : reads c.args.depth c.args.reader.now ≡ None =
    ap (reads c.args.depth) begins ∙ reads-array-too_deep c.args.depth rest c.in_err-inside-in-BeginArray.ensures.0 in
    search (rules, stops)

pub read-returns-in_err-list-in-BeginArray-clause-refused : goal.read-returns-in_err-list-in-BeginArray-clause-refused
read-returns-in_err-list-in-BeginArray-clause-refused t c =
    let rest = c.next.new.self in
    let inner = c.in_ok-inside-in-BeginArray.field-0 in
    let first : c.args.reader.now ≡ token_of c.in-Some.token ∷ rest = grind arith in
    let begins = first ∙ ap (λ token. token_of token ∷ rest) c.in-BeginArray.is in
    let stops : is_memory_fault c.in_err-list-in-BeginArray.field-0.0 ≡ false → reads c.args.depth c.args.reader.now ≡ None =
    λ kept. ap (reads c.args.depth) begins ∙ reads-begin_array c.args.depth inner rest c.in_ok-inside-in-BeginArray.ensures
    ∙ ap (parse_map list_val) (c.in_err-list-in-BeginArray.ensures.refused kept) in
    search (rules, stops)

pub read-returns-in_err-inside-in-BeginObject-clause-refused : goal.read-returns-in_err-inside-in-BeginObject-clause-refused
read-returns-in_err-inside-in-BeginObject-clause-refused t c =
    let rest = c.next.new.self in
    let first : c.args.reader.now ≡ token_of c.in-Some.token ∷ rest = grind arith in
    let begins = first ∙ ap (λ token. token_of token ∷ rest) c.in-BeginObject.is in
    let stops : reads c.args.depth c.args.reader.now ≡ None =
    ap (reads c.args.depth) begins ∙ reads-object-too_deep c.args.depth rest c.in_err-inside-in-BeginObject.ensures.0 in
    search (rules, stops)

pub read-returns-in_err-map-in-BeginObject-clause-refused : goal.read-returns-in_err-map-in-BeginObject-clause-refused
read-returns-in_err-map-in-BeginObject-clause-refused t c =
    let rest = c.next.new.self in
    let inner = c.in_ok-inside-in-BeginObject.field-0 in
    let first : c.args.reader.now ≡ token_of c.in-Some.token ∷ rest = grind arith in
    let begins = first ∙ ap (λ token. token_of token ∷ rest) c.in-BeginObject.is in
    let stops : is_memory_fault c.in_err-map-in-BeginObject.field-0.0 ≡ false → reads c.args.depth c.args.reader.now ≡ None =
    λ kept. ap (reads c.args.depth) begins ∙ reads-begin_object c.args.depth inner rest c.in_ok-inside-in-BeginObject.ensures
    ∙ ap (parse_map map_val) (c.in_err-map-in-BeginObject.ensures.refused kept) in
    search (rules, stops)

pub read-returns-in-Null-clause-read : goal.read-returns-in-Null-clause-read
read-returns-in-Null-clause-read t c =
    let rest = c.next.new.self in
    let first : c.args.reader.now ≡ token_of c.in-Some.token ∷ rest = grind arith in
    ap (reads c.args.depth) (first ∙ ap (λ token. token_of token ∷ rest) c.in-Null.is)
    ∙ reads-null c.args.depth rest ∙ ap (λ v. Some (v, rest)) (sym view-None)

pub read-returns-in-Bool-clause-read : goal.read-returns-in-Bool-clause-read
read-returns-in-Bool-clause-read t c =
    let rest = c.next.new.self in
    let first : c.args.reader.now ≡ token_of c.in-Some.token ∷ rest = grind arith in
    ap (reads c.args.depth) (first ∙ ap (λ token. token_of token ∷ rest) c.in-Bool.is)
    ∙ reads-boolean c.args.depth c.in-Bool.truth rest ∙ ap (λ v. Some (v, rest)) (sym (view-Bool c.in-Bool.truth))

pub read-returns-in_ok-number-in-Number-clause-read : goal.read-returns-in_ok-number-in-Number-clause-read
read-returns-in_ok-number-in-Number-clause-read t c =
    let rest = c.next.new.self in
    let first : c.args.reader.now ≡ token_of c.in-Some.token ∷ rest = grind arith in
    ap (reads c.args.depth) (first ∙ ap (λ token. token_of token ∷ rest) c.in-Number.is)
    ∙ reads-number c.args.depth c.in-Number.text.now rest ∙ ap (λ v. Some (v, rest)) (sym c.in_ok-number-in-Number.ensures)

pub read-returns-in_ok-from_str-in-String-clause-read : goal.read-returns-in_ok-from_str-in-String-clause-read
read-returns-in_ok-from_str-in-String-clause-read t c =
    let rest = c.next.new.self in
    let copy = c.in_ok-from_str-in-String in
    let first : c.args.reader.now ≡ token_of c.in-Some.token ∷ rest = grind arith in
    ap (reads c.args.depth) (first ∙ ap (λ token. token_of token ∷ rest) c.in-String.is)
    ∙ reads-string c.args.depth c.in-String.text.now rest
    ∙ ap (λ bytes. Some (text_val bytes, rest)) (sym copy.ensures.ok)
    ∙ ap (λ v. Some (v, rest)) (sym (view-String copy.field-0))

pub read-returns-in_ok-list-in-BeginArray-clause-read : goal.read-returns-in_ok-list-in-BeginArray-clause-read
read-returns-in_ok-list-in-BeginArray-clause-read t c =
    let rest = c.next.new.self in
    let found = c.in_ok-list-in-BeginArray in
    let first : c.args.reader.now ≡ token_of c.in-Some.token ∷ rest = grind arith in
    ap (reads c.args.depth) (first ∙ ap (λ token. token_of token ∷ rest) c.in-BeginArray.is)
    ∙ reads-begin_array c.args.depth c.in_ok-inside-in-BeginArray.field-0 rest c.in_ok-inside-in-BeginArray.ensures
    ∙ ap (parse_map list_val) found.ensures.read
    ∙ ap (λ v. Some (v, c.list.new.reader)) (sym (view-List found.field-0))

pub read-returns-in_ok-map-in-BeginObject-clause-read : goal.read-returns-in_ok-map-in-BeginObject-clause-read
read-returns-in_ok-map-in-BeginObject-clause-read t c =
    let rest = c.next.new.self in
    let found = c.in_ok-map-in-BeginObject in
    let first : c.args.reader.now ≡ token_of c.in-Some.token ∷ rest = grind arith in
    ap (reads c.args.depth) (first ∙ ap (λ token. token_of token ∷ rest) c.in-BeginObject.is)
    ∙ reads-begin_object c.args.depth c.in_ok-inside-in-BeginObject.field-0 rest c.in_ok-inside-in-BeginObject.ensures
    ∙ ap (parse_map map_val) found.ensures.read
    ∙ ap (λ v. Some (v, c.map.new.reader)) (sym (view-Map found.field-0))

pub read-returns-in-EndObject-clause-refused : goal.read-returns-in-EndObject-clause-refused
read-returns-in-EndObject-clause-refused t c _ =
    let first : c.args.reader.now ≡ token_of c.in-Some.token ∷ c.next.new.self = grind arith in
    rw (value_is c.args.depth c.args.reader.now, first) (grind arith)

-- the search finds no proof of these, and takes long
pub map-returns-clause-shorter : goal.map-returns-clause-shorter
map-returns-clause-shorter = grind (arith, common_steps)

pub read-returns-in-Null-clause-shorter : goal.read-returns-in-Null-clause-shorter
read-returns-in-Null-clause-shorter = grind (arith, common_steps)

pub read-returns-in-Bool-clause-shorter : goal.read-returns-in-Bool-clause-shorter
read-returns-in-Bool-clause-shorter = grind (arith, common_steps)
