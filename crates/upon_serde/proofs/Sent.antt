-- What a value sends, as a list of events.
use Rattle.std.proofs.Common.{◌≡◌, List, [], ◌∷◌, ◌++◌, Some, refl, ap, subst, ◌∙◌}
use Rattle.std.proofs.lemmas.List.{append_assoc}
use Rattle.serde.specs.Event as event
use Rattle.serde.specs.Event.{Event, Log, Logs}
use Rattle.upon_types.specs.Events.{vals_count, entries_count, SendsVal, SendsVals, SendsEntries}
use Rattle.upon_types.specs.Val.{Val, none_val, bool_val, int_val, text_val, list_val, map_val, Vals, no_vals, val_then, Entries, no_entries, entry_then}

abbrev mutual
  -- a value as events, and then others
  pub val_events : Val → List Event → List Event
  val_events none_val after = event.nothing ∷ after
  val_events (bool_val b) after = event.boolean b ∷ after
  val_events (int_val n) after = event.signed n ∷ after
  val_events (text_val bytes) after = event.text bytes ∷ after
  val_events (list_val vs) after = event.seq_begins (Some (vals_count vs)) ∷ vals_events vs after
  val_events (map_val es) after = event.map_begins (Some (entries_count es)) ∷ entries_events es after

  -- the values of a list with its end
  pub vals_events : Vals → List Event → List Event
  vals_events no_vals after = event.seq_ends ∷ after
  vals_events (val_then v vs) after = val_events v (vals_events vs after)

  -- the entries of a map with its end
  pub entries_events : Entries → List Event → List Event
  entries_events no_entries after = event.map_ends ∷ after
  entries_events (entry_then key v es) after = event.key_begins ∷ event.text key ∷ event.key_ends ∷ val_events v (entries_events es after)

mutual
  val_events-append : (v : Val) (r s : List Event) → val_events v r ++ s ≡ val_events v (r ++ s)
  val_events-append none_val r s = refl
  val_events-append (bool_val b) r s = refl
  val_events-append (int_val n) r s = refl
  val_events-append (text_val bytes) r s = refl
  val_events-append (list_val vs) r s = ap (λ es. event.seq_begins (Some (vals_count vs)) ∷ es) (vals_events-append vs r s)
  val_events-append (map_val entries) r s = ap (λ es. event.map_begins (Some (entries_count entries)) ∷ es) (entries_events-append entries r s)

  vals_events-append : (vs : Vals) (r s : List Event) → vals_events vs r ++ s ≡ vals_events vs (r ++ s)
  vals_events-append no_vals r s = refl
  vals_events-append (val_then v vs) r s = val_events-append v (vals_events vs r) s ∙ ap (val_events v) (vals_events-append vs r s)

  entries_events-append : (entries : Entries) (r s : List Event) → entries_events entries r ++ s ≡ entries_events entries (r ++ s)
  entries_events-append no_entries r s = refl
  entries_events-append (entry_then key v entries) r s =
      ap (λ es. event.key_begins ∷ event.text key ∷ event.key_ends ∷ es) (val_events-append v (entries_events entries r) s ∙ ap (val_events v) (entries_events-append entries r s))

-- one event and then others, in place of both
one_then : (sent more : List Event) (e : Event) → Some ((sent ++ e ∷ []) ++ more) ≡ Some (sent ++ e ∷ more)
one_then sent more e = ap Some (append_assoc sent (e ∷ []) more)

mutual
  sent_val : (v : Val) (sent : List Event) (after : Log) → SendsVal v (Some sent) after → after ≡ Some (sent ++ val_events v [])
  sent_val none_val sent after h = h
  sent_val (bool_val b) sent after h = h
  sent_val (int_val n) sent after h = h
  sent_val (text_val bytes) sent after h = h
  sent_val (list_val vs) sent after h =
      let begins = event.seq_begins (Some (vals_count vs)) in
      sent_vals vs (sent ++ begins ∷ []) after (subst (λ log. SendsVals vs log after) h.1 h.2) ∙ one_then sent (vals_events vs []) begins
  sent_val (map_val es) sent after h =
      let begins = event.map_begins (Some (entries_count es)) in
      sent_entries es (sent ++ begins ∷ []) after (subst (λ log. SendsEntries es log after) h.1 h.2) ∙ one_then sent (entries_events es []) begins

  sent_vals : (vs : Vals) (sent : List Event) (after : Log) → SendsVals vs (Some sent) after → after ≡ Some (sent ++ vals_events vs [])
  sent_vals no_vals sent after h = h
  sent_vals (val_then v vs) sent after h =
      let one = sent_val v sent h.0 h.1 in
      sent_vals vs (sent ++ val_events v []) after (subst (λ log. SendsVals vs log after) one h.2)
      ∙ ap Some (append_assoc sent (val_events v []) (vals_events vs []))
      ∙ ap (λ es. Some (sent ++ es)) (val_events-append v [] (vals_events vs []))

  sent_entries : (es : Entries) (sent : List Event) (after : Log) → SendsEntries es (Some sent) after → after ≡ Some (sent ++ entries_events es [])
  sent_entries no_entries sent after h = h
  sent_entries (entry_then key v es) sent after (at_key, named, due, mid, begun, is_key, ended, one, rest) =
      let named_at : named ≡ Some ((sent ++ event.key_begins ∷ []) ++ event.text key ∷ []) = subst (λ log. Logs log named (event.text key)) begun is_key in
      let due_at : due ≡ Some (((sent ++ event.key_begins ∷ []) ++ event.text key ∷ []) ++ event.key_ends ∷ []) = subst (λ log. Logs log due event.key_ends) named_at ended in
      let head = event.key_begins ∷ event.text key ∷ event.key_ends ∷ [] in
      let so_far : due ≡ Some (sent ++ head) = due_at ∙ ap Some (append_assoc (sent ++ event.key_begins ∷ []) (event.text key ∷ []) (event.key_ends ∷ []) ∙ append_assoc sent (event.key_begins ∷ []) (event.text key ∷ event.key_ends ∷ [])) in
      let value = sent_val v (sent ++ head) mid (subst (λ log. SendsVal v log mid) so_far one) in
      sent_entries es ((sent ++ head) ++ val_events v []) after (subst (λ log. SendsEntries es log after) value rest)
      ∙ ap Some (append_assoc (sent ++ head) (val_events v []) (entries_events es []))
      ∙ ap (λ es. Some ((sent ++ head) ++ es)) (val_events-append v [] (entries_events es []))
      ∙ ap Some (append_assoc sent head (val_events v (entries_events es [])))

list_of_some : (a b : List Event) → Some a ≡ Some b → a ≡ b
list_of_some a b is = cc

-- from the start: the whole of it
pub sent_whole : (v : Val) (log : List Event) → SendsVal v (Some []) (Some log) → log ≡ val_events v []
sent_whole v log sent = list_of_some log (val_events v []) (sent_val v [] (Some log) sent)
