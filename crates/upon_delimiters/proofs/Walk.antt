-- A walk of a trie finds the best delimiter at an offset.
use Rattle.std.proofs.Common.{◌≡◌, ℕ, ◌+◌, ◌-◌, ◌<◌, ◌≤◌, ◌≢◌, ◌⊎◌, inl, inr, List, [], ◌∷◌, ◌++◌, Option, None, Some, length, take, drop, get_or, arith, sym, ◌∙◌, ap, subst, length-take, length-drop, get_or-take, get_or-drop}
use Rattle.std.proofs.lemmas.List.{take-take, take-append-drop, drop_more, take_more}
use Rattle.upon_language_spec.specs.Search.{DelimiterText, text_at, Occurs}
use Rattle.upon_delimiters.specs.declared.syntax.trie.Node.{Node}
use Rattle.upon_delimiters.specs.Nodes.{node_at, child_of, LeadsTo}
use Rattle.upon_delimiters.specs.Trie.{IsFirstWith, IsTrieOf, longer_of, LongestShorter, LongestAt}
use Rattle.upon_delimiters.proofs.Leads.{leads_append, leads_split, leads_one}

less_or_same : (n k : ℕ) → n < k + 1 → (n < k) ⊎ (n ≡ k)
less_or_same n k h = grind arith

short_or_long : (n k : ℕ) → (n < k + 1) ⊎ (k < n)
short_or_long n k = grind arith

module _ (ds : List DelimiterText) (nodes : List Node) (trie : IsTrieOf (length ds) ds nodes) (s : List ℕ) (p k m : ℕ)
    (leads : LeadsTo nodes 0 (take k (drop p s)) m) where
  -- a text of this length that occurs is the one that was read
  is_read : (t : List ℕ) → Occurs s p t → length t ≡ k → t ≡ take k (drop p s)
  is_read t occurs same = occurs ∙ ap (λ n. take n (drop p s)) same

  add_none : IsFirstWith (length ds) ds (take k (drop p s)) None → (longest : Option (ℕ × ℕ)) → LongestShorter k ds s p longest
      → LongestShorter (k + 1) ds s p longest
  add_none none None before = λ j inside short occurs. elim (less_or_same (length (text_at ds j)) k short) [
    | inl less ↦ before j inside less occurs
    | inr same ↦ none j inside (is_read (text_at ds j) occurs same)
  ]
  add_none none (Some found) before =
      let best = before.0 in (
        record {
          in_range = best.in_range;
          occurs = best.occurs;
          longest = λ j inside short occurs. elim (less_or_same (length (text_at ds j)) k short) [
            | inl less ↦ best.longest j inside less occurs
            | inr same ↦ absurd (none j inside (is_read (text_at ds j) occurs same))
          ];
          earliest = λ j earlier short occurs. elim (less_or_same (length (text_at ds j)) k short) [
            | inl less ↦ best.earliest j earlier less occurs
            | inr same ↦ absurd (none j (omega (arith, earlier, best.in_range)) (is_read (text_at ds j) occurs same))
          ];
        },
        before.1,
      )

  add_some : (i : ℕ) → k ≤ length (drop p s) → IsFirstWith (length ds) ds (take k (drop p s)) (Some i)
      → LongestShorter (k + 1) ds s p (Some (i, p + k))
  add_some i room first =
      let size : length (text_at ds i) ≡ k = omega (arith, ap length first.1, length-take k (drop p s)) in (
        record {
          in_range = first.0;
          occurs = first.1 ∙ ap (λ n. take n (drop p s)) (sym size);
          longest = λ j inside short occurs. omega (arith, short, size);
          earliest = λ j earlier short occurs. elim (less_or_same (length (text_at ds j)) k short) [
            | inl less ↦ omega (arith, less, size)
            | inr same ↦ absurd (first.2 j earlier (is_read (text_at ds j) occurs same))
          ];
        },
        ap (λ n. p + n) (sym size),
      )

  add_case : (o : Option ℕ) (longest : Option (ℕ × ℕ)) → k ≤ length (drop p s) → IsFirstWith (length ds) ds (take k (drop p s)) o
      → LongestShorter k ds s p longest → LongestShorter (k + 1) ds s p (longer_of o (p + k) longest)
  add_case None longest room first before = add_none first longest before
  add_case (Some i) longest room first before = add_some i room first

  -- the node that was reached tells of one length more
  pub one_longer : (longest : Option (ℕ × ℕ)) → k ≤ length (drop p s) → LongestShorter k ds s p longest
      → LongestShorter (k + 1) ds s p (longer_of (node_at nodes m).pair (p + k) longest)
  one_longer longest room before = add_case (node_at nodes m).pair longest room (trie.pairs (take k (drop p s)) m leads) before

  -- where no child is for the next byte, no longer text occurs
  pub no_longer : p + k < length s → child_of nodes m (get_or s (p + k) 0) ≡ 0
      → (j : ℕ) → j < length ds → Occurs s p (text_at ds j) → length (text_at ds j) < k + 1
  no_longer room absent j inside occurs = elim (short_or_long (length (text_at ds j)) k) [
    | inl short ↦ short
    | inr long ↦
        let t = text_at ds j in
        let b = get_or s (p + k) 0 in
        let front : take k t ≡ take k (drop p s) =
        ap (λ x. take k x) occurs ∙ take-take k (length t) (drop p s) (omega (arith, long)) in
        let byte : get_or t k 0 ≡ b =
        ap (λ x. get_or x k 0) occurs ∙ get_or-take (length t) (drop p s) k 0 (omega (arith, long)) ∙ get_or-drop p s k 0 in
        let split : t ≡ take k (drop p s) ++ b ∷ drop (k + 1) t =
        sym (take-append-drop k t)
        ∙ ap (λ x. take k t ++ x) (drop_more t k 0 (omega (arith, long)))
        ∙ ap (λ x. take k t ++ x ∷ drop (k + 1) t) byte
        ∙ ap (λ x. x ++ b ∷ drop (k + 1) t) front in
        let covered = trie.covers j inside in
        let To : List ℕ → Type 0 = λ x. LeadsTo nodes 0 x covered.0 in
        let parts = leads_split nodes 0 (take k (drop p s)) (b ∷ drop (k + 1) t) covered.0 (subst To split covered.1) in
        let is : parts.0 ≡ m = leads_one nodes 0 (take k (drop p s)) parts.0 m parts.1 leads in
        absurd (omega (arith, parts.2.0, absent, ap (λ y. child_of nodes y b) is))
  ]

-- at the text's end no longer text occurs
pub no_room : (ds : List DelimiterText) (s : List ℕ) (p k : ℕ) → length s ≤ p + k
    → (j : ℕ) → j < length ds → Occurs s p (text_at ds j) → length (text_at ds j) < k + 1
no_room ds s p k past j inside occurs =
    omega (arith, past, ap length occurs, length-take (length (text_at ds j)) (drop p s), length-drop p s)

-- the best of all, where none is longer
pub longest_of_all : (ds : List DelimiterText) (s : List ℕ) (p k : ℕ) (longest : Option (ℕ × ℕ))
    → ((j : ℕ) → j < length ds → Occurs s p (text_at ds j) → length (text_at ds j) < k)
    → LongestShorter k ds s p longest → LongestAt ds s p longest
longest_of_all ds s p k None short none = λ j inside occurs. none j inside (short j inside occurs) occurs
longest_of_all ds s p k (Some found) short before =
    let best = before.0 in (
      record {
        in_range = best.in_range;
        occurs = best.occurs;
        longest = λ j inside occurs. best.longest j inside (short j inside occurs) occurs;
        earliest = λ j earlier occurs. best.earliest j earlier (short j (omega (arith, earlier, best.in_range)) occurs) occurs;
      },
      before.1,
    )

pub none_shorter : (ds : List DelimiterText) (s : List ℕ) (p : ℕ) → LongestShorter 0 ds s p None
none_shorter ds s p j inside short occurs = absurd (omega (arith, short))

-- a walk in the trie from the offset `at`, by the offset `end` that it has reached
module _ (nodes : List Node) (s : List ℕ) (at end m : ℕ) (after : at ≤ end)
    (leads : LeadsTo nodes 0 (take (end - at) (drop at s)) m) where
  here : at + (end - at) ≡ end
  here = omega (arith, after)

  further : end + 1 - at ≡ end - at + 1
  further = omega (arith, after)

  -- one byte further
  pub next_leads : (next : ℕ) → end < length s → next ≡ child_of nodes m (get_or s end 0) → next ≢ 0
      → LeadsTo nodes 0 (take (end + 1 - at) (drop at s)) next
  next_leads next room is some =
      let b = get_or s end 0 in
      let child : 0 < child_of nodes m b = omega (arith, is, some) in
      let byte : get_or (drop at s) (end - at) 0 ≡ b = get_or-drop at s (end - at) 0 ∙ ap (λ x. get_or s x 0) here in
      let read : take (end + 1 - at) (drop at s) ≡ take (end - at) (drop at s) ++ b ∷ [] =
      ap (λ x. take x (drop at s)) further
      ∙ take_more (drop at s) (end - at) 0 (omega (arith, room, after, length-drop at s))
      ∙ ap (λ x. take (end - at) (drop at s) ++ x ∷ []) byte in
      let To : List ℕ → Type 0 = λ t. LeadsTo nodes 0 t next in
      subst To (sym read) (leads_append nodes 0 (take (end - at) (drop at s)) (b ∷ []) m next leads (child, sym is))

  module _ (ds : List DelimiterText) (trie : IsTrieOf (length ds) ds nodes) (longest now : Option (ℕ × ℕ))
      (known : LongestShorter (end - at) ds s at longest) (is : now ≡ longer_of (node_at nodes m).pair end longest)
      (room : end ≤ length s) where
    known_more : LongestShorter (end - at + 1) ds s at now
    known_more =
        let Known : Option (ℕ × ℕ) → Type 0 = λ o. LongestShorter (end - at + 1) ds s at o in
        let more = one_longer ds nodes trie s at (end - at) m leads longest (omega (arith, room, after, length-drop at s)) known in
        subst Known (ap (λ x. longer_of (node_at nodes m).pair x longest) here ∙ sym is) more

    pub more_known : LongestShorter (end + 1 - at) ds s at now
    more_known = let Known : ℕ → Type 0 = λ x. LongestShorter x ds s at now in subst Known (sym further) known_more

    pub all_known : end < length s → child_of nodes m (get_or s end 0) ≡ 0 → LongestAt ds s at now
    all_known inside absent =
        longest_of_all ds s at (end - at + 1) now
        (no_longer ds nodes trie s at (end - at) m leads (omega (arith, inside, after))
        (ap (λ x. child_of nodes m (get_or s x 0)) here ∙ absent))
        known_more

    pub whole_known : length s ≤ end → LongestAt ds s at now
    whole_known past = longest_of_all ds s at (end - at + 1) now (no_room ds s at (end - at) (omega (arith, past, after))) known_more
