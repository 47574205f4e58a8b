-- Words that are cut at their first `=`, and standard input among their files.
use Rattle.std.proofs.Common.{◌≡◌, ◌≢◌, ◌<◌, ◌≤◌, ◌+◌, ◌||◌, ◌&&◌, ℕ, List, ◌∷◌, ◌++◌, length, drop, get_or, Bool, true, false, ◌==◌, Bor, Option, None, Some, MatchOption, IfSome, IsNone, IsSome, is_some, refl, sym, ap, ◌∙◌}
use Rattle.std.proofs.lemmas.Bool.{ne_eqb}
use Rattle.std.proofs.lemmas.List.{at_drop_all, at_drop_more}
use Rattle.std.proofs.lemmas.List.Elements.{All-from_get_or}
use Rattle.std.proofs.lemmas.List.Folds.{list_any-append, list_any_none}
use Rattle.std.specs.List.{after_first, before_first, list_any, position_or_len}
use Rattle.std.specs.Prelude.{if◌then◌else◌}
use Rattle.upon_tool_data.specs.Words.{asks_again, file_of, has_equals, has_key, is_equals, is_input, is_key, word_key}

-- ---- what a word that is cut says
abbrev IsParted : List ℕ → Option (Bor (List ℕ) × Bor (List ℕ)) → Type 0
IsParted word r = MatchOption r ((i : ℕ) → i < length word → get_or word i 0 ≢ 61)
    (λ x. (word ≡ x.0.now ++ (61 ∷ x.1.now)) × ((i : ℕ) → i < length x.0.now → get_or x.0.now i 0 ≢ 61))

abbrev IsCut : List ℕ → Option (Bor (List ℕ) × Bor (List ℕ)) → Type 0
IsCut word r = MatchOption r (position_or_len (λ b. b == 61) word ≡ length word)
    (λ x. (position_or_len (λ b. b == 61) word < length word) × (x.0.now ≡ before_first (λ b. b == 61) word) × (x.1.now ≡ after_first (λ b. b == 61) word))

pub cut_before : (word : List ℕ) (r : Option (Bor (List ℕ) × Bor (List ℕ))) → IsCut word r → IfSome r (λ parts. parts.0.now ≡ before_first is_equals word)
cut_before word None is = tt
cut_before word (Some x) is = is.1

pub cut_after : (word : List ℕ) (r : Option (Bor (List ℕ) × Bor (List ℕ))) → IsCut word r → IfSome r (λ parts. parts.1.now ≡ after_first is_equals word)
cut_after word None is = tt
cut_after word (Some x) is = is.2

or_true : (b : Bool) → (b || true) ≡ true
or_true true = refl
or_true false = refl

pub cut_has : (word : List ℕ) (r : Option (Bor (List ℕ) × Bor (List ℕ))) → IsParted word r → IsSome r → has_equals word ≡ true
cut_has word None is some = absurd cc
cut_has word (Some x) is some =
    ap has_equals is.0 ∙ list_any-append is_equals x.0.now (61 ∷ x.1.now) ∙ or_true (list_any is_equals x.0.now)

pub uncut_lacks : (word : List ℕ) (r : Option (Bor (List ℕ) × Bor (List ℕ))) → IsParted word r → IsNone r → has_equals word ≡ false
uncut_lacks word None none is = list_any_none is_equals word (All-from_get_or (λ b. is_equals b ≡ false) word 0 (λ i inside. ne_eqb (get_or word i 0) 61 (none i inside)))
uncut_lacks word (Some x) is none = absurd cc

-- whether it could be cut
pub cut_is : (word : List ℕ) (r : Option (Bor (List ℕ) × Bor (List ℕ))) → (IsSome r → has_equals word ≡ true) → (IsNone r → has_equals word ≡ false) → is_some r ≡ has_equals word
cut_is word None some none = sym (none refl)
cut_is word (Some x) some none = sym (some refl)

-- ---- the key and the file of a word
keyed : (word key : List ℕ) → has_equals word ≡ true → key ≡ before_first is_equals word → is_key key ≡ true → has_key word ≡ true
keyed word key has same is = ap (λ b. b && is_key (before_first is_equals word)) has ∙ ap is_key (sym same) ∙ is

no_key : (word key : List ℕ) → has_equals word ≡ true → key ≡ before_first is_equals word → is_key key ≡ false → has_key word ≡ false
no_key word key has same is = ap (λ b. b && is_key (before_first is_equals word)) has ∙ ap is_key (sym same) ∙ is

no_cut : (word : List ℕ) → has_equals word ≡ false → has_key word ≡ false
no_cut word lacks = ap (λ b. b && is_key (before_first is_equals word)) lacks

module _ (word : List ℕ) where
  with_key : has_key word ≡ true → word_key word ≡ Some (before_first is_equals word)
  with_key is = ap (λ b. if b then Some (before_first is_equals word) else None) is

  without_key : has_key word ≡ false → word_key word ≡ None
  without_key is = ap (λ b. if b then Some (before_first is_equals word) else None) is

  with_file : has_key word ≡ true → file_of word ≡ after_first is_equals word
  with_file is = ap (λ b. if b then after_first is_equals word else word) is

  without_file : has_key word ≡ false → file_of word ≡ word
  without_file is = ap (λ b. if b then after_first is_equals word else word) is

  pub key_is : (key : List ℕ) → has_equals word ≡ true → key ≡ before_first is_equals word → is_key key ≡ true → Some key ≡ word_key word
  key_is key has same is = ap Some same ∙ sym (with_key (keyed word key has same is))

  pub file_is : (key file : List ℕ) → has_equals word ≡ true → key ≡ before_first is_equals word → is_key key ≡ true → file ≡ after_first is_equals word → file ≡ file_of word
  file_is key file has same is after = after ∙ sym (with_file (keyed word key has same is))

  pub no_key_is : (key : List ℕ) → has_equals word ≡ true → key ≡ before_first is_equals word → is_key key ≡ false → None ≡ word_key word
  no_key_is key has same is = sym (without_key (no_key word key has same is))

  pub whole_is : (key : List ℕ) → has_equals word ≡ true → key ≡ before_first is_equals word → is_key key ≡ false → word ≡ file_of word
  whole_is key has same is = sym (without_file (no_key word key has same is))

  pub no_cut_key : has_equals word ≡ false → None ≡ word_key word
  no_cut_key lacks = sym (without_key (no_cut word lacks))

  pub no_cut_file : has_equals word ≡ false → word ≡ file_of word
  no_cut_file lacks = sym (without_file (no_cut word lacks))

-- ---- standard input
module _ (words : List (Bor (List ℕ))) (i : ℕ) (d : Bor (List ℕ)) (inside : i < length words) (asked is whole : Bool) (so_far : whole ≡ asks_again asked (drop i words)) (same : is ≡ is_input (get_or words i d).now) where
  -- what is answered of a word and those after it
  abbrev with_first : Bool → Bool
  with_first is = (asked && is) || asks_again (asked || is) (drop (i + 1) words)

  whole_is_so : whole ≡ with_first is
  whole_is_so = so_far ∙ at_drop_more (asks_again asked) words i d inside ∙ ap with_first (sym same)

  -- the word does not ask for it again
  pub asked_more : (asked && is) ≡ false → whole ≡ asks_again (asked || is) (drop (i + 1) words)
  asked_more once = whole_is_so ∙ ap (λ b. b || asks_again (asked || is) (drop (i + 1) words)) once

  -- it does
  pub asked_twice : (asked && is) ≡ true → true ≡ whole
  asked_twice twice = sym (whole_is_so ∙ ap (λ b. b || asks_again (asked || is) (drop (i + 1) words)) twice)

-- no word is left
pub asked_never : (words : List (Bor (List ℕ))) (i : ℕ) (asked whole : Bool) → length words ≤ i → whole ≡ asks_again asked (drop i words) → false ≡ whole
asked_never words i asked whole done so_far = sym (so_far ∙ at_drop_all (asks_again asked) words i done)
