-- What a copy puts into a map, and what the tasks of a copy make of the copies that are done.
use Rattle.std.specs.BTreeMap.{insert_entry}
use Rattle.std.specs.Prelude.{◌≡◌, ℕ, List, [], ◌∷◌, ◌+◌, ◌*◌, length, map, reverse, take, drop}
use Rattle.std.specs.Prelude.{String, string_bytes, string_cmp}
use Rattle.std.specs.declared.alloc.Global.{Global}
use Rattle.upon_types.specs.Val.{Val, list_val, map_val, Entries, no_entries, entry_then}
use Rattle.upon_types.specs.View.{view, vals_of}
use Rattle.upon_types.specs.Weight.{bulk}
use Rattle.upon_types.specs.declared.value.Value.{Value}
use Rattle.upon_types.specs.declared.value.copy.Task.{Task}
use Rattle.upon_types.specs.declared.value.copy.Task.TheVariants.{Copy, GatherList, GatherMap}

-- the entries with a value put at a key that has the bytes of the given one
abbrev pub PutAt : List (String Global × Value) → String Global → Value → List (String Global × Value) → Type 0
PutAt es key v fs = (k : String Global) × (string_bytes k ≡ string_bytes key) × (fs ≡ insert_entry string_cmp es k v)

-- what the copies that are done denote, the newest first
abbrev pub finished : List Value → List Val
finished vs = reverse (map view vs)

-- entries with the keys of these and the given values in order, as many as there are of both
abbrev pub entries_zip : List (String Global × Value) → List Val → Entries
entries_zip es [] = no_entries
entries_zip [] (v ∷ s) = no_entries
entries_zip (e ∷ es) (v ∷ s) = entry_then (string_bytes e.0) v (entries_zip es s)

-- the values that are left once each of the entries has taken one
abbrev pub entries_rest : List (String Global × Value) → List Val → List Val
entries_rest es [] = []
entries_rest [] (v ∷ s) = v ∷ s
entries_rest (e ∷ es) (v ∷ s) = entries_rest es s

-- the copies, the newest first, after one task
abbrev pub copies_after_one : Task → List Val → List Val
copies_after_one (Copy v) s = view v.now ∷ s
copies_after_one (GatherList items) s =
    let n = length items.now.items in
    list_val (vals_of (take n s)) ∷ drop n s
copies_after_one (GatherMap m) s = map_val (entries_zip m.now.entries s) ∷ entries_rest m.now.entries s

-- the copies after all tasks, of which the last one is done first
abbrev pub copies_after : List Task → List Val → List Val
copies_after [] s = s
copies_after (t ∷ ts) s = copies_after_one t (copies_after ts s)

-- how much a task has to do: twice the values that it copies, or one for what it gathers
abbrev pub task_work : Task → ℕ
task_work (Copy v) = 2 * bulk v.now
task_work (GatherList items) = 1
task_work (GatherMap m) = 1

-- how much all tasks have to do
abbrev pub work_of_tasks : List Task → ℕ
work_of_tasks [] = 0
work_of_tasks (t ∷ ts) = task_work t + work_of_tasks ts
