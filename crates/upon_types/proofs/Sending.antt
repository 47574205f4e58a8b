-- A list or map whose parts are sent one after the other is sent as a whole.
use Rattle.std.proofs.Common.{◌≡◌, ℕ, List, length, Some, sym, ◌∙◌, subst}
use Rattle.serde.specs.Event.{Log, Logs, seq_begins, map_begins}
use Rattle.upon_types.specs.Events.{SendsVal, SendsVals, SendsEntries}
use Rattle.upon_types.specs.Val.{list_val, map_val}
use Rattle.upon_types.specs.View.{vals_view, entries_view}
use Rattle.upon_types.specs.declared.value.Value.{Value}
use Rattle.upon_types.proofs.Counts.{vals_count-vals_view, entries_count-entries_view}
use Rattle.upon_types.proofs.Views.{Entry}

pub sends_list : (vs : List Value) (n : ℕ) (before inside after : Log) → n ≡ length vs → Logs before inside (seq_begins (Some n)) → SendsVals (vals_view vs) inside after → SendsVal (list_val (vals_view vs)) before after
sends_list vs n before inside after is begun sent =
    (inside, subst (λ m. Logs before inside (seq_begins (Some m))) (is ∙ sym (vals_count-vals_view vs)) begun, sent)

pub sends_map : (es : List Entry) (n : ℕ) (before inside after : Log) → n ≡ length es → Logs before inside (map_begins (Some n)) → SendsEntries (entries_view es) inside after → SendsVal (map_val (entries_view es)) before after
sends_map es n before inside after is begun sent =
    (inside, subst (λ m. Logs before inside (map_begins (Some m))) (is ∙ sym (entries_count-entries_view es)) begun, sent)
