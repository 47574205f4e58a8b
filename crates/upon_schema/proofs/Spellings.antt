-- A key and how a reference spells it.
use Rattle.std.proofs.Common.{◌≡◌, ◌≢◌, ◌+◌, ◌<◌, ◌≤◌, ◌==◌, Bool, true, ℕ, List, [], ◌∷◌, ◌++◌, length, get_or, drop, Option, Some, None, Bor, IfSome, refl, sym, ap, ◌∙◌, arith, append_assoc, append-nil, suc}
use Rattle.std.proofs.lemmas.Bool.Decides.{nat_tests}
use Rattle.std.proofs.lemmas.List.{append_cancel_left, drop_all, drop_more}
use Rattle.std.proofs.lemmas.Str.{inside_one}
use Rattle.std.specs.Char.{encode_utf8}
use Rattle.std.specs.Prelude.{option_and_then}
use Rattle.std.specs.Str.Pattern.{FindsTextPrefix, StripsPrefix}
use Rattle.upon_types.specs.Val.{Val, key_of}
use Rattle.upon_types.specs.View.{view}
use Rattle.upon_types.specs.declared.value.Value.{Value}
use Rattle.upon_schema.specs.Reference.{IsDefinition, spelled, spelled_byte}

pub if_some_more : {A : Type 0} (r : Option A) (P Q : A → Type 0) → ((a : A) → P a → Q a) → IfSome r P → IfSome r Q
if_some_more None P Q f p = tt
if_some_more (Some a) P Q f p = f a p

-- a text is its begin and what is left without that
pub stripped : (begin text left : List ℕ) → StripsPrefix (FindsTextPrefix begin) text left → text ≡ begin ++ left
stripped begin text left h = h.1.1 ∙ ap (λ (rest : List ℕ). begin ++ rest) (sym h.2)

-- so a reference is to the definition whose key is spelled behind its begin
pub is_definition : (begin group reference name : List ℕ) (root definitions : Val) (found : Option (Bor Value)) → reference ≡ begin ++ name → Some definitions ≡ key_of group root
    → IfSome found (λ s. (k : List ℕ) × (name ≡ spelled k) × (key_of k definitions ≡ Some (view s.now))) → IfSome found (λ s. IsDefinition begin group root reference (view s.now))
is_definition begin group reference name root definitions None is at h = tt
is_definition begin group reference name root definitions (Some s) is at h =
    (h.0, is ∙ ap (λ (n : List ℕ). begin ++ n) h.1, ap (option_and_then (key_of h.0)) (sym at) ∙ h.2)

-- ---- spellings one after the other
pub spelled-append : (xs ys : List ℕ) → spelled (xs ++ ys) ≡ spelled xs ++ spelled ys
spelled-append [] ys = refl
spelled-append (x ∷ xs) ys =
    ap (λ (bytes : List ℕ). spelled_byte x ++ bytes) (spelled-append xs ys) ∙ sym (append_assoc (spelled_byte x) (spelled xs) (spelled ys))

plain_byte : (b : ℕ) → b ≢ 126 → b ≢ 47 → spelled_byte b ≡ b ∷ []
plain_byte b tilde slash = grind (arith, nat_tests)

-- what has neither `~` nor `/` is spelled as it is
spelled-plain : (bytes : List ℕ) → ((k : ℕ) → k < length bytes → get_or bytes k 0 ≢ 126) → ((k : ℕ) → k < length bytes → get_or bytes k 0 ≢ 47) → spelled bytes ≡ bytes
spelled-plain [] tilde slash = refl
spelled-plain (b ∷ bytes) tilde slash =
    ap (λ (s : List ℕ). s ++ spelled bytes) (plain_byte b (tilde 0 (omega arith)) (slash 0 (omega arith)))
    ∙ ap (λ (s : List ℕ). b ∷ s) (spelled-plain bytes (λ k h. tilde (suc k) (omega (arith, h))) (λ k h. slash (suc k) (omega (arith, h))))

-- a byte of a character that is another one is not that of the character
other_byte : (c d : ℕ) → d < 128 → c ≢ d → (k : ℕ) → k < length (encode_utf8 c) → get_or (encode_utf8 c) k 0 ≢ d
other_byte c d small other k h e =
    other (inside_one c [] (encode_utf8 c) k (sym (append-nil (encode_utf8 c))) h (omega (arith, e, small)) ∙ e)

pub spelled-character : (c : ℕ) → c ≢ 126 → c ≢ 47 → spelled (encode_utf8 c) ≡ encode_utf8 c
spelled-character c tilde slash = spelled-plain (encode_utf8 c) (other_byte c 126 (omega arith) tilde) (other_byte c 47 (omega arith) slash)

-- one character more of a key
pub spelled_more : (so_far rest left text step : List ℕ) (c : ℕ) → text ≡ so_far ++ spelled (encode_utf8 c) → rest ≡ encode_utf8 c ++ left → so_far ++ spelled rest ≡ step → text ++ spelled left ≡ step
spelled_more so_far rest left text step c is next before =
    ap (λ (t : List ℕ). t ++ spelled left) is ∙ append_assoc so_far (spelled (encode_utf8 c)) (spelled left)
    ∙ ap (λ (t : List ℕ). so_far ++ t) (sym (spelled-append (encode_utf8 c) left)) ∙ ap (λ (t : List ℕ). so_far ++ spelled t) (sym next) ∙ before

-- ---- a spelling byte by byte
pub spelled-cut : (key : List ℕ) (i : ℕ) → i < length key → spelled (drop i key) ≡ spelled_byte (get_or key i 0) ++ spelled (drop (i + 1) key)
spelled-cut key i less = ap spelled (drop_more key i 0 less)

pub spelled-end : (key : List ℕ) (i : ℕ) → length key ≤ i → spelled (drop i key) ≡ []
spelled-end key i less = ap spelled (drop_all i key less)

pub none_spelled : (key rest : List ℕ) (i : ℕ) → i < length key → ((left : List ℕ) → rest ≡ spelled_byte (get_or key i 0) ++ left → ⊥) → rest ≡ spelled (drop i key) → ⊥
none_spelled key rest i less none e = none (spelled (drop (i + 1) key)) (e ∙ spelled-cut key i less)

pub left_spelled : (key rest left : List ℕ) (i : ℕ) → i < length key → rest ≡ spelled_byte (get_or key i 0) ++ left → rest ≡ spelled (drop i key) → left ≡ spelled (drop (i + 1) key)
left_spelled key rest left i less begins e =
    append_cancel_left (spelled_byte (get_or key i 0)) left (spelled (drop (i + 1) key)) (sym begins ∙ e ∙ spelled-cut key i less)

pub rest_spelled : (key rest left : List ℕ) (i : ℕ) → i < length key → rest ≡ spelled_byte (get_or key i 0) ++ left → left ≡ spelled (drop (i + 1) key) → rest ≡ spelled (drop i key)
rest_spelled key rest left i less begins e =
    begins ∙ ap (λ (bytes : List ℕ). spelled_byte (get_or key i 0) ++ bytes) e ∙ sym (spelled-cut key i less)

empty_test : (rest : List ℕ) (b : Bool) → b ≡ (length rest == 0) → b ≡ true → rest ≡ []
empty_test [] b is e = refl
empty_test (x ∷ xs) b is e = absurd (grind (arith, nat_tests))

pub spelled_whole : (key rest : List ℕ) (i : ℕ) (b : Bool) → length key ≤ i → b ≡ (length rest == 0) → b ≡ true → rest ≡ spelled (drop i key)
spelled_whole key rest i b less is e = empty_test rest b is e ∙ sym (spelled-end key i less)

pub whole_spelled : (key rest : List ℕ) (i : ℕ) (b : Bool) → length key ≤ i → b ≡ (length rest == 0) → rest ≡ spelled (drop i key) → b ≡ true
whole_spelled key rest i b less is e = is ∙ ap (λ (bytes : List ℕ). length bytes == 0) (e ∙ spelled-end key i less)
