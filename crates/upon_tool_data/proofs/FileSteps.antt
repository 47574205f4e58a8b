-- Files that are added one after the other.
use Rattle.std.proofs.Common.{◌≡◌, ◌<◌, ◌+◌, ℕ, List, [], ◌∷◌, ◌++◌, take, drop, length, get_or, Bor, Option, Some, Result, Ok, Err, IfErr, IsErrAnd, refl, sym, ap, subst, inl, inr, ◌∙◌}
use Rattle.std.proofs.lemmas.List.{at_drop_more, take-append-drop, take_more}
use Rattle.upon_types.specs.Val.{Val, Entries}
use Rattle.upon_data.specs.declared.format.Format.{Format}
use Rattle.upon_tool_io.specs.World.{World}
use Rattle.upon_tool_io.specs.declared.files.ReadFault.{ReadFault}
use Rattle.upon_tool_io.specs.declared.files.ReadFault.TheVariants.{Unreadable as FileUnreadable, NotText as FileNotText, Outside as FileOutside, OutOfMemory as MemoryIsOut}
use Rattle.upon_tool_data.specs.Files.{with_file_value, AddsFile, AddsFiles, HasOtherFormat, IsRead, IsToldAs, RefusesFile, RefusesFiles, RefusesPut, RefusesText}
use Rattle.upon_tool_data.specs.Sources.{IsNoTextOf, IsTextOf}
use Rattle.upon_tool_data.specs.Words.{file_of, format_for, word_key}
use Rattle.upon_tool_data.specs.declared.fault.ContextFault.{ContextFault}
use Rattle.upon_tool_data.specs.declared.fault.ContextFault.TheVariants.{LacksText, LacksValue, InputTwice, Unreadable, NotText}
use Rattle.upon_tool_data.specs.declared.fault.ContextFault.TheVariants.{NotOfFormat, NotObject, NotJson, NotMap, OutOfMemory}

-- a list around one of its items
pub split_at : {A : Type 0} (xs : List A) (i : ℕ) (d : A) → i < length xs → xs ≡ take i xs ++ get_or xs i d ∷ drop (i + 1) xs
split_at xs i d inside = sym (take-append-drop i xs) ∙ ap (λ rest. take i xs ++ rest) (at_drop_more (λ rest. rest) xs i d inside)

-- a fault that is handed on
pub handed_on : {A : Type 0} (P : ContextFault → Type 0) (fault : ContextFault) (r : Result A ContextFault) → IsErrAnd r (λ x. x ≡ fault) → P fault → IfErr r P
handed_on P fault (Ok a) is said = absurd is
handed_on P fault (Err x) is said = subst P (sym is) said

-- what holds of an error, by what held of it
pub on_error : {A F : Type 0} (r : Result A F) (P Q : F → Type 0) → ((fault : F) → P fault → Q fault) → IfErr r P → IfErr r Q
on_error (Ok a) P Q weaker is = tt
on_error (Err fault) P Q weaker is = weaker fault is

-- ---- the text of one file
module _ (world : World) (format : Format) (input : Option (List ℕ)) where
  pub told_refused : (name : Bor (List ℕ)) (fault : ReadFault) (told : ContextFault) → IsToldAs name fault told → IsNoTextOf world name.now input fault → RefusesText world format name.now input told
  told_refused name (FileUnreadable error) told is none = subst (RefusesText world format name.now input) (sym is) (refl, inl none)
  told_refused name FileNotText told is none = subst (RefusesText world format name.now input) (sym is) (refl, none)
  told_refused name FileOutside told is none = subst (RefusesText world format name.now input) (sym is.1) (refl, inr none)
  told_refused name MemoryIsOut told is none = subst (RefusesText world format name.now input) (sym is) tt

  pub format_refused : (file text : List ℕ) (fault : ContextFault) → IsTextOf world file input text → HasOtherFormat format file text fault → RefusesText world format file input fault
  format_refused file text (NotOfFormat name refusal) is other = (other.0, text, is, other.1)
  format_refused file text OutOfMemory is other = tt
  format_refused file text (Unreadable name error) is other = absurd other
  format_refused file text (NotText name) is other = absurd other
  format_refused file text (LacksText word) is other = absurd other
  format_refused file text (LacksValue word) is other = absurd other
  format_refused file text InputTwice is other = absurd other
  format_refused file text (NotObject name) is other = absurd other
  format_refused file text (NotJson word refusal) is other = absurd other
  format_refused file text (NotMap word) is other = absurd other

-- ---- one file
module _ (world : World) (given : Option Format) (word name : List ℕ) (input : Option (List ℕ)) (same : name ≡ file_of word) where
  pub added : (key : Option (List ℕ)) (v : Val) (old : Entries) (later : Option (List ℕ)) (new : Entries) → key ≡ word_key word → IsRead world (format_for given name) name input v later → with_file_value key v old ≡ Some new → AddsFile world given word input old later new
  added key v old later new keys is adds =
      (v, subst (λ name. IsRead world (format_for given name) name input v later) same is, subst (λ key. with_file_value key v old ≡ Some new) keys adds)

  pub text_refused : (es : Entries) (fault : ContextFault) → RefusesText world (format_for given name) name input fault → RefusesFile world given word input es fault
  text_refused es fault refused = inl (subst (λ name. RefusesText world (format_for given name) name input fault) same refused)

  pub put_refused : (key : Option (List ℕ)) (v : Val) (later : Option (List ℕ)) (es : Entries) (fault : ContextFault) → key ≡ word_key word → IsRead world (format_for given name) name input v later → RefusesPut key name v es fault → RefusesFile world given word input es fault
  put_refused key v later es fault keys is refused =
      inr (v, later, subst (λ name. IsRead world (format_for given name) name input v later) same is, subst (λ key. RefusesPut key (file_of word) v es fault) keys (subst (λ name. RefusesPut key name v es fault) same refused))

-- ---- one more
adds_more : (world : World) (given : Option Format) (words : List (Bor (List ℕ))) (word : Bor (List ℕ)) (a b c : Option (List ℕ)) (old mid new : Entries) → AddsFiles world given words a old b mid → AddsFile world given word.now b mid c new → AddsFiles world given (words ++ word ∷ []) a old c new
adds_more world given [] word a b c old mid new done adds =
    (c, new, subst (λ es. AddsFile world given word.now a es c new) done.1 (subst (λ b. AddsFile world given word.now b mid c new) done.0 adds), (refl, refl))
adds_more world given (w ∷ ws) word a b c old mid new done adds = (done.0, done.1, done.2, adds_more world given ws word done.0 b c done.1 mid new done.3 adds)

module _ (world : World) (given : Option Format) (words : List (Bor (List ℕ))) (i : ℕ) (d : Bor (List ℕ)) (a b : Option (List ℕ)) (old mid : Entries) (inside : i < length words) (done : AddsFiles world given (take i words) a old b mid) where
  pub added_more : (c : Option (List ℕ)) (new : Entries) → AddsFile world given (get_or words i d).now b mid c new → AddsFiles world given (take (i + 1) words) a old c new
  added_more c new adds = subst (λ words. AddsFiles world given words a old c new) (sym (take_more words i d inside)) (adds_more world given (take i words) (get_or words i d) a b c old mid new done adds)

  pub refused_at : (fault : ContextFault) → RefusesFile world given (get_or words i d).now b mid fault → RefusesFiles world given words a old fault
  refused_at fault refused = (take i words, get_or words i d, drop (i + 1) words, split_at words i d inside, b, mid, done, refused)
