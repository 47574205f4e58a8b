-- Of what a value sends, that value is read.
use Rattle.std.proofs.Common.{◌≡◌, ℕ, List, [], ◌∷◌, true, Less, Greater, nat_cmp, refl, sym, ap, ◌∙◌}
use Rattle.std.proofs.lemmas.Bool.{and_parts}
use Rattle.std.proofs.lemmas.Cmp.{nat_list_cmp_total}
use Rattle.std.specs.Cmp.Lexicographic.{slice_cmp}
use Rattle.std.specs.Ordering.{ordering_reverse}
use Rattle.serde.specs.Event as event
use Rattle.serde.specs.Event.{Event}
use Rattle.upon_types.specs.Val.{Val, none_val, bool_val, int_val, text_val, list_val, map_val, Vals, no_vals, val_then, Entries, no_entries, entry_then, rises}
use Rattle.upon_types.specs.View.{vals_of}
use Rattle.upon_types.proofs.Copies.{joined, joined-none, before_middle}
use Rattle.upon_serde.specs.Again.{Ascends, EachAscends, EntriesAscend}
use Rattle.upon_serde.specs.Data.{EntryKey, text_key, key_events, Datum, unit, truth, signed, text, sequence, mapping, events, datum_value, Data, no_data, datum_then, item_events, data_values, Members, no_members, member_then, member_events, with_members, Pairs, with_pair, entries_from}
use Rattle.upon_serde.proofs.Sent.{val_events, vals_events, entries_events}

-- ---- entries whose keys ascend, put into a map one after the other
abbrev put_all : Entries → Pairs → Pairs
put_all no_entries pairs = pairs
put_all (entry_then key v es) pairs = put_all es (with_pair key v pairs)

with_pair-joined : (pairs : Pairs) (key : List ℕ) (v : Val) (fs : Entries) → rises (joined (entries_from pairs) (entry_then key v fs)) ≡ true → joined (entries_from (with_pair key v pairs)) fs ≡ joined (entries_from pairs) (entry_then key v fs)
with_pair-joined [] key v fs rise = refl
with_pair-joined (p ∷ pairs) key v fs rise =
    let parts = and_parts _ _ rise in
    let less : slice_cmp nat_cmp p.0 key ≡ Less = before_middle p.0 key v (entries_from pairs) fs parts.0 in
    let above : slice_cmp nat_cmp key p.0 ≡ Greater = nat_list_cmp_total.antisymm key p.0 ∙ ap ordering_reverse less in
    rw above (ap (entry_then p.0 p.1) (with_pair-joined pairs key v fs parts.1))

put_all-joined : (es : Entries) (pairs : Pairs) → rises (joined (entries_from pairs) es) ≡ true → entries_from (put_all es pairs) ≡ joined (entries_from pairs) es
put_all-joined no_entries pairs rise = sym (joined-none (entries_from pairs))
put_all-joined (entry_then key v es) pairs rise =
    let same = with_pair-joined pairs key v es rise in
    put_all-joined es (with_pair key v pairs) (ap rises same ∙ rise) ∙ same

-- ---- ends
no_end_of_seq : (d : Datum) (a r : List Event) → events d a ≡ event.seq_ends ∷ r → ⊥
no_end_of_seq unit a r is = absurd cc
no_end_of_seq _ a r is = absurd cc

no_end_of_value : (v : Val) (a r : List Event) → event.seq_ends ∷ a ≡ val_events v r → ⊥
no_end_of_value none_val a r is = absurd cc
no_end_of_value _ a r is = absurd cc

no_end_of_map : (k : EntryKey) (a r : List Event) → key_events k a ≡ event.map_ends ∷ r → ⊥
no_end_of_map (text_key s) a r is = absurd cc
no_end_of_map _ a r is = absurd cc

-- ---- reading again
mutual
  pub again : (v : Val) (d : Datum) (r after : List Event) → Ascends v → events d after ≡ val_events v r → (datum_value d ≡ v) × (after ≡ r)
  again none_val unit r after asc is = (refl, cc)
  again none_val _ r after asc is = absurd cc
  again (bool_val b) (truth c) r after asc is = (cc, cc)
  again (bool_val b) _ r after asc is = absurd cc
  again (int_val n) (signed m) r after asc is = (cc, cc)
  again (int_val n) _ r after asc is = absurd cc
  again (text_val s) (text t) r after asc is = (cc, cc)
  again (text_val s) _ r after asc is = absurd cc
  again (list_val vs) (sequence length ds) r after asc is =
      let inner = again_vals vs ds r after asc cc in
      (ap list_val inner.0, inner.1)
  again (list_val vs) _ r after asc is = absurd cc
  again (map_val es) (mapping length ms) r after asc is =
      let inner = again_entries es ms r after [] asc.1 cc in
      (ap map_val (ap entries_from inner.0 ∙ put_all-joined es [] asc.0), inner.1)
  again (map_val es) _ r after asc is = absurd cc

  again_vals : (vs : Vals) (ds : Data) (r after : List Event) → EachAscends vs → item_events ds after ≡ vals_events vs r → (vals_of (data_values ds) ≡ vs) × (after ≡ r)
  again_vals no_vals no_data r after asc is = (refl, cc)
  again_vals no_vals (datum_then d ds) r after asc is = absurd (no_end_of_seq d (item_events ds after) r is)
  again_vals (val_then v vs) no_data r after asc is = absurd (no_end_of_value v after (vals_events vs r) is)
  again_vals (val_then v vs) (datum_then d ds) r after asc is =
      let one = again v d (vals_events vs r) (item_events ds after) asc.0 is in
      let rest = again_vals vs ds r after asc.1 one.1 in
      (λ i. val_then (one.0 i) (rest.0 i), rest.1)

  again_entries : (es : Entries) (ms : Members) (r after : List Event) (pairs : Pairs) → EntriesAscend es → member_events ms after ≡ entries_events es r → (with_members ms pairs ≡ put_all es pairs) × (after ≡ r)
  again_entries no_entries no_members r after pairs asc is = (refl, cc)
  again_entries no_entries (member_then k d ms) r after pairs asc is = absurd (no_end_of_map k (events d (member_events ms after)) r is)
  again_entries no_entries _ r after pairs asc is = absurd cc
  again_entries (entry_then key v es) (member_then (text_key s) d ms) r after pairs asc is =
      let word : s ≡ key = cc in
      let one = again v d (entries_events es r) (member_events ms after) asc.0 cc in
      let rest = again_entries es ms r after (with_pair s (datum_value d) pairs) asc.1 one.1 in
      (rest.0 ∙ (λ i. put_all es (with_pair (word i) (one.0 i) pairs)), rest.1)
  again_entries (entry_then key v es) _ r after pairs asc is = absurd cc
