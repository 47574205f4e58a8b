-- The text of a value is read again as that value: it has the lexemes of the text that a printer of JSON gives for its tree.
use Rattle.std.proofs.Common.{◌≡◌, ℕ, ◌≤◌, Bool, true, false, cond, not, List, [], ◌∷◌, ◌++◌, Some, option_map, codes, refl, sym, ap, ap₂, subst, ◌∙◌, append_assoc, append-nil}
use Rattle.std.specs.Fmt.{signed_decimal}
use Rattle.std.specs.Str.{IsUtf8}
use Rattle.json.specs.Json.{max_depth}
use Rattle.json.specs.Lex.{between, colon, comma, fresh, lex, punctuate, string_token, token, tokens}
use Rattle.json.specs.Print.{escape, print, print_from, quoted}
use Rattle.json.specs.Token.{Token, begin_object, end_object, begin_array, end_array, key, string, number, boolean, null, bad}
use Rattle.json.specs.Tree.{depth, json_tokens, items_tokens, members_tokens}
use Rattle.json.specs.Word.{ends_word, word}
use Rattle.json.proofs.Printed.Numbers.{in_word-ended, lex-number}
use Rattle.json.proofs.Printed.Strings.{content-escape, lex-escape}
use Rattle.json.proofs.Printed.Trees.{document-print}
use Rattle.upon_json.specs.Context.{text_value, without_mark}
use Rattle.upon_json.specs.Reads.{reads_whole}
use Rattle.upon_json.specs.Value.{value_of_json}
use Rattle.upon_types.specs.Val.{Val, none_val, bool_val, int_val, text_val, list_val, map_val, Vals, no_vals, val_then, Entries, no_entries, entry_then}
use Rattle.upon_std.specs.Encoding.Held.{IsHeld, AreHeld, HasHeld, nesting}
use Rattle.upon_std.specs.Encoding.JsonText.{entry_name_text, json_entries, json_items, json_string, json_text}
use Rattle.upon_std.proofs.EncodingLemmas.JsonNumbers.{IsNumber-signed, without_mark-signed}
use Rattle.upon_std.proofs.EncodingLemmas.JsonStrings.{string_lexed}
use Rattle.upon_std.proofs.EncodingLemmas.JsonTrees.{depth-json_of, HasNumbers-json_of, items_of, json_of, members_of, value_of-json_of}

-- ---- what the printer writes

-- a comma, a closing bracket or nothing is printed after a value
ends_after : (ts : List Token) → ends_word (print_from true ts) ≡ true
unfolding print_from
ends_after [] = refl
ends_after (begin_object ∷ ts) = refl
ends_after (end_object ∷ ts) = refl
ends_after (begin_array ∷ ts) = refl
ends_after (end_array ∷ ts) = refl
ends_after (key s ∷ ts) = refl
ends_after (string s ∷ ts) = refl
ends_after (number s ∷ ts) = refl
ends_after (boolean b ∷ ts) = refl
ends_after (null ∷ ts) = refl
ends_after (bad ∷ ts) = refl

-- a comma stands before a value that another one is before
print-comma : (v : Val) (us : List Token) → print_from true (json_tokens (json_of v) ++ us) ≡ 44 ∷ print_from false (json_tokens (json_of v) ++ us)
unfolding print_from
print-comma none_val us = refl
print-comma (bool_val b) us = refl
print-comma (int_val z) us = refl
print-comma (text_val text) us = refl
print-comma (list_val vs) us = refl
print-comma (map_val es) us = refl

-- ---- words and strings

null_lexed : (r : List ℕ) → ends_word r ≡ true → lex between (codes "null" ++ r) ≡ token null ∷ lex between r
unfolding lex word
null_lexed r ended = ap₂ (λ b l. token (cond b null bad) ∷ l) ended (in_word-ended r ended)

true_lexed : (r : List ℕ) → ends_word r ≡ true → lex between (codes "true" ++ r) ≡ token (boolean true) ∷ lex between r
unfolding lex word
true_lexed r ended = ap₂ (λ b l. token (cond b (boolean true) bad) ∷ l) ended (in_word-ended r ended)

false_lexed : (r : List ℕ) → ends_word r ≡ true → lex between (codes "false" ++ r) ≡ token (boolean false) ∷ lex between r
unfolding lex word
false_lexed r ended = ap₂ (λ b l. token (cond b (boolean false) bad) ∷ l) ended (in_word-ended r ended)

quoted_lexed : (s r : List ℕ) → lex between (quoted s ++ r) ≡ token (string s) ∷ lex between r
unfolding lex
quoted_lexed s r =
    ap (λ l. lex between (34 ∷ l)) (append_assoc (escape s) (34 ∷ []) r)
    ∙ ap₂ (λ o l. token (string_token o) ∷ l) (content-escape s r) (lex-escape s r)

-- the name of an entry, and the colon after it
key_lexed : (s r : List ℕ) → IsUtf8 s → lex between (entry_name_text s ++ r) ≡ token (string s) ∷ colon ∷ lex between r
unfolding lex
key_lexed s r utf8 = ap (lex between) (append_assoc (json_string s) (58 ∷ []) r) ∙ string_lexed s (58 ∷ r) utf8

printed_key_lexed : (s r : List ℕ) → lex between ((quoted s ++ (58 ∷ [])) ++ r) ≡ token (string s) ∷ colon ∷ lex between r
unfolding lex
printed_key_lexed s r = ap (lex between) (append_assoc (quoted s) (58 ∷ []) r) ∙ quoted_lexed s (58 ∷ r)

-- ---- brackets and commas

bracket_opens : (r : List ℕ) → lex between (91 ∷ r) ≡ token begin_array ∷ lex between r
unfolding lex
bracket_opens r = refl

bracket_closes : (r : List ℕ) → lex between (93 ∷ r) ≡ token end_array ∷ lex between r
unfolding lex
bracket_closes r = refl

brace_opens : (r : List ℕ) → lex between (123 ∷ r) ≡ token begin_object ∷ lex between r
unfolding lex
brace_opens r = refl

brace_closes : (r : List ℕ) → lex between (125 ∷ r) ≡ token end_object ∷ lex between r
unfolding lex
brace_closes r = refl

comma_lexed : (r : List ℕ) → lex between (44 ∷ r) ≡ comma ∷ lex between r
unfolding lex
comma_lexed r = refl

-- ---- the same lexemes

-- what comes after a value, written and printed
record Follows (r : List ℕ) (us : List Token) : Type 0 where
  same : lex between r ≡ lex between (print_from true us)
  ended : ends_word r ≡ true

items_end : (vs : Vals) (r : List ℕ) → ends_word (json_items vs false ++ (93 ∷ r)) ≡ true
items_end no_vals r = refl
items_end (val_then v vs) r = refl

entries_end : (es : Entries) (r : List ℕ) → ends_word (json_entries es false ++ (125 ∷ r)) ≡ true
entries_end no_entries r = refl
entries_end (entry_then k v es) r = refl

bool_lexed : (b : Bool) (us : List Token) (r : List ℕ) → Follows r us
    → lex between (json_text (bool_val b) ++ r) ≡ lex between (print_from false (boolean b ∷ us))
unfolding print_from
bool_lexed true us r f = true_lexed r f.ended ∙ ap (λ l. token (boolean true) ∷ l) f.same ∙ sym (true_lexed (print_from true us) (ends_after us))
bool_lexed false us r f = false_lexed r f.ended ∙ ap (λ l. token (boolean false) ∷ l) f.same ∙ sym (false_lexed (print_from true us) (ends_after us))

-- an entry, by what is known of its value and of the entries after it
entry_lexed : (k : List ℕ) (v : Val) (es : Entries) → IsUtf8 k
    → ((us : List Token) (r : List ℕ) → Follows r us → lex between (json_text v ++ r) ≡ lex between (print_from false (json_tokens (json_of v) ++ us)))
    → (us : List Token) (r : List ℕ) → lex between (json_entries es false ++ (125 ∷ r)) ≡ lex between (print_from true (members_tokens (members_of es) ++ us))
    → lex between ((entry_name_text k ++ (json_text v ++ json_entries es false)) ++ (125 ∷ r))
    ≡ lex between ((quoted k ++ (58 ∷ [])) ++ print_from false ((json_tokens (json_of v) ++ members_tokens (members_of es)) ++ us))
entry_lexed k v es utf8 value us r others =
    let more = json_entries es false in
    let next = members_tokens (members_of es) ++ us in
    ap (lex between) (append_assoc (entry_name_text k) (json_text v ++ more) (125 ∷ r))
    ∙ key_lexed k ((json_text v ++ more) ++ (125 ∷ r)) utf8
    ∙ ap (λ t. token (string k) ∷ colon ∷ lex between t) (append_assoc (json_text v) more (125 ∷ r))
    ∙ ap (λ l. token (string k) ∷ colon ∷ l) (value next (more ++ (125 ∷ r)) (record { same = others; ended = entries_end es r }))
    ∙ ap (λ ts. token (string k) ∷ colon ∷ lex between (print_from false ts)) (sym (append_assoc (json_tokens (json_of v)) (members_tokens (members_of es)) us))
    ∙ sym (printed_key_lexed k (print_from false ((json_tokens (json_of v) ++ members_tokens (members_of es)) ++ us)))

mutual
  unfolding print_from

  value_lexed : (v : Val) → IsHeld v → (us : List Token) (r : List ℕ) → Follows r us
      → lex between (json_text v ++ r) ≡ lex between (print_from false (json_tokens (json_of v) ++ us))
  value_lexed none_val h us r f = null_lexed r f.ended ∙ ap (λ l. token null ∷ l) f.same ∙ sym (null_lexed (print_from true us) (ends_after us))
  value_lexed (bool_val b) h us r f = bool_lexed b us r f
  value_lexed (int_val z) h us r f =
      let is = IsNumber-signed z h in
      lex-number (signed_decimal z) r is f.ended ∙ ap (λ l. token (number (signed_decimal z)) ∷ l) f.same
      ∙ sym (lex-number (signed_decimal z) (print_from true us) is (ends_after us))
  value_lexed (text_val s) h us r f =
      string_lexed s r h ∙ ap (λ l. token (string s) ∷ l) f.same ∙ sym (quoted_lexed s (print_from true us))
  value_lexed (list_val vs) h us r f =
      bracket_opens ((json_items vs true ++ (93 ∷ [])) ++ r)
      ∙ ap (λ t. token begin_array ∷ lex between t) (append_assoc (json_items vs true) (93 ∷ []) r)
      ∙ ap (λ l. token begin_array ∷ l) (items_lexed vs h false us r f)
      ∙ sym (bracket_opens (print_from false (items_tokens (items_of vs) ++ us)))
  value_lexed (map_val es) h us r f =
      brace_opens ((json_entries es true ++ (125 ∷ [])) ++ r)
      ∙ ap (λ t. token begin_object ∷ lex between t) (append_assoc (json_entries es true) (125 ∷ []) r)
      ∙ ap (λ l. token begin_object ∷ l) (entries_lexed es h.1 false us r f)
      ∙ sym (brace_opens (print_from false (members_tokens (members_of es) ++ us)))

  items_lexed : (vs : Vals) → AreHeld vs → (c : Bool) (us : List Token) (r : List ℕ) → Follows r us
      → lex between (json_items vs (not c) ++ (93 ∷ r)) ≡ lex between (print_from c (items_tokens (items_of vs) ++ us))
  items_lexed no_vals h true us r f = bracket_closes r ∙ ap (λ l. token end_array ∷ l) f.same ∙ sym (bracket_closes (print_from true us))
  items_lexed no_vals h false us r f = bracket_closes r ∙ ap (λ l. token end_array ∷ l) f.same ∙ sym (bracket_closes (print_from true us))
  items_lexed (val_then v vs) h false us r f =
      let more = json_items vs false in
      let next = items_tokens (items_of vs) ++ us in
      ap (lex between) (append_assoc (json_text v) more (93 ∷ r))
      ∙ value_lexed v h.0 next (more ++ (93 ∷ r)) (record { same = items_lexed vs h.1 true us r f; ended = items_end vs r })
      ∙ ap (λ ts. lex between (print_from false ts)) (sym (append_assoc (json_tokens (json_of v)) (items_tokens (items_of vs)) us))
  items_lexed (val_then v vs) h true us r f =
      let more = json_items vs false in
      let next = items_tokens (items_of vs) ++ us in
      comma_lexed ((json_text v ++ more) ++ (93 ∷ r))
      ∙ ap (λ t. comma ∷ lex between t) (append_assoc (json_text v) more (93 ∷ r))
      ∙ ap (λ l. comma ∷ l) (value_lexed v h.0 next (more ++ (93 ∷ r)) (record { same = items_lexed vs h.1 true us r f; ended = items_end vs r }))
      ∙ sym (comma_lexed (print_from false (json_tokens (json_of v) ++ next)))
      ∙ ap (lex between) (sym (print-comma v next))
      ∙ ap (λ ts. lex between (print_from true ts)) (sym (append_assoc (json_tokens (json_of v)) (items_tokens (items_of vs)) us))

  entries_lexed : (es : Entries) → HasHeld es → (c : Bool) (us : List Token) (r : List ℕ) → Follows r us
      → lex between (json_entries es (not c) ++ (125 ∷ r)) ≡ lex between (print_from c (members_tokens (members_of es) ++ us))
  entries_lexed no_entries h true us r f = brace_closes r ∙ ap (λ l. token end_object ∷ l) f.same ∙ sym (brace_closes (print_from true us))
  entries_lexed no_entries h false us r f = brace_closes r ∙ ap (λ l. token end_object ∷ l) f.same ∙ sym (brace_closes (print_from true us))
  entries_lexed (entry_then k v es) h false us r f = entry_lexed k v es h.0 (value_lexed v h.1.0) us r (entries_lexed es h.1.1 true us r f)
  entries_lexed (entry_then k v es) h true us r f =
      comma_lexed ((entry_name_text k ++ (json_text v ++ json_entries es false)) ++ (125 ∷ r))
      ∙ ap (λ l. comma ∷ l) (entry_lexed k v es h.0 (value_lexed v h.1.0) us r (entries_lexed es h.1.1 true us r f))
      ∙ sym (comma_lexed ((quoted k ++ (58 ∷ [])) ++ print_from false ((json_tokens (json_of v) ++ members_tokens (members_of es)) ++ us)))

-- ---- the whole

nothing_follows : Follows [] []
unfolding print_from
nothing_follows = record { same = refl; ended = refl }

unmarked : (v : Val) → IsHeld v → without_mark (json_text v) ≡ json_text v
unmarked none_val h = refl
unmarked (bool_val true) h = refl
unmarked (bool_val false) h = refl
unmarked (int_val z) h = without_mark-signed z h
unmarked (text_val s) h = refl
unmarked (list_val vs) h = refl
unmarked (map_val es) h = refl

pub text_value-json_text : (v : Val) → IsHeld v → nesting v ≤ max_depth → text_value (json_text v) ≡ Some v
text_value-json_text v held shallow =
    let j = json_of v in
    let deep : depth j ≤ max_depth = subst (λ n. n ≤ max_depth) (sym (depth-json_of v)) shallow in
    let same : lex between (json_text v) ≡ lex between (print (json_tokens j)) =
    ap (lex between) (sym (append-nil (json_text v))) ∙ value_lexed v held [] [] nothing_follows
    ∙ ap (λ ts. lex between (print_from false ts)) (append-nil (json_tokens j)) in
    ap (λ t. reads_whole (tokens t)) (unmarked v held)
    ∙ ap (λ ls. reads_whole (punctuate fresh ls)) same
    ∙ ap (option_map value_of_json) (document-print j (HasNumbers-json_of v held) deep)
    ∙ ap Some (value_of-json_of v held)
