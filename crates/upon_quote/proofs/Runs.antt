-- What is written, the run that waits to be written, and what is left of the text.
use Rattle.std.proofs.Common.{◌≡◌, ℕ, ◌+◌, ◌-◌, ◌≤◌, List, [], ◌++◌, length, take, drop, Some, None, Result, Ok, Err, false, refl, sym, ap, ◌∙◌, arith, append_assoc, append-nil, length-drop}
use Rattle.std.proofs.Math.Seq.{take-append-add, take-append_seam}
use Rattle.std.proofs.lemmas.Bool.{true≢false}
use Rattle.std.proofs.lemmas.Grind.{common_steps}
use Rattle.std.proofs.lemmas.List.{take-append-drop}
use Rattle.std.proofs.lemmas.Str.{chars-nil, chars_past_char, drop_past_char, length-encode}
use Rattle.std.specs.Char.{encode_utf8, len_utf8}
use Rattle.std.specs.Str.{IsUtf8}
use Rattle.upon_meaning_spec.specs.DefaultFormat.{format_text}
use Rattle.upon_fmt.specs.Formatter.{text_of, is_marked, Formats, Writes}
use Rattle.upon_fmt.specs.declared.fmt.Error.{Error}
use Rattle.upon_fmt.specs.declared.fmt.Formatter.{Formatter}
use Rattle.upon_quote.specs.Quoted.{Escapes}
use Rattle.upon_quote.specs.Tokens.{bytes_or_itself, bytes_by, quoted_bytes}

-- the run that waits
abbrev pub waiting : List ℕ → ℕ → ℕ → List ℕ
waiting text start at = take (at - start) (drop start text)

drops : (text : List ℕ) (start at : ℕ) → start ≤ at → drop (at - start) (drop start text) ≡ drop at text
drops text start at h = grind (arith, common_steps)

taken : (n : ℕ) (text : List ℕ) → n ≤ length text → length (take n text) ≡ n
taken n text h = grind (arith, common_steps)

-- one character more
waiting_more : (text rest : List ℕ) (start at c : ℕ) → start ≤ at → at ≤ length text → drop at text ≡ encode_utf8 c ++ rest → waiting text start (at + len_utf8 c) ≡ waiting text start at ++ encode_utf8 c
waiting_more text rest start at c h k e =
    let run = waiting text start at in
    let size : length run ≡ at - start = taken (at - start) (drop start text) (omega (arith, length-drop start text)) in
    let split : drop start text ≡ run ++ (encode_utf8 c ++ rest) = sym (take-append-drop (at - start) (drop start text)) ∙ ap (λ t. run ++ t) (drops text start at h ∙ e) in
    let number : at + len_utf8 c - start ≡ length run + length (encode_utf8 c) = omega (arith, length-encode c, size) in
    ap (λ n. take n (drop start text)) number
    ∙ (ap (take (length run + length (encode_utf8 c))) split
    ∙ (take-append-add run (encode_utf8 c ++ rest) (length (encode_utf8 c))
    ∙ ap (λ t. run ++ t) (take-append_seam (encode_utf8 c) rest)))

-- the first character of what is left
quoted_first : (escape_of : Escapes) (text rest : List ℕ) (at c : ℕ) → IsUtf8 (drop at text) → drop at text ≡ encode_utf8 c ++ rest → quoted_bytes escape_of (drop at text) ≡ bytes_or_itself (escape_of c) c ++ quoted_bytes escape_of (drop (at + len_utf8 c) text)
quoted_first escape_of text rest at c u e =
    ap (bytes_by escape_of) (chars_past_char (drop at text) rest c u e)
    ∙ ap (λ t. bytes_or_itself (escape_of c) c ++ quoted_bytes escape_of t) (sym (drop_past_char text rest at c e))

-- what is written, with the run that waits, and what is left with its escapes, are all of the text with its escapes
abbrev pub Keeps : Escapes → List ℕ → List ℕ → List ℕ → ℕ → ℕ → Type 0
Keeps escape_of old out text start at = (out ++ waiting text start at) ++ quoted_bytes escape_of (drop at text) ≡ old ++ quoted_bytes escape_of text

regroup : (a b c d : List ℕ) → (a ++ (b ++ c)) ++ d ≡ (a ++ b) ++ (c ++ d)
regroup a b c d = simp append_assoc

pub waits : (escape_of : Escapes) (old out text rest : List ℕ) (start at c : ℕ) → start ≤ at → at ≤ length text → IsUtf8 (drop at text) → drop at text ≡ encode_utf8 c ++ rest → escape_of c ≡ None → Keeps escape_of old out text start at → Keeps escape_of old out text start (at + len_utf8 c)
waits escape_of old out text rest start at c h k u e plain keeps =
    let left = quoted_bytes escape_of (drop (at + len_utf8 c) text) in
    let first : quoted_bytes escape_of (drop at text) ≡ encode_utf8 c ++ left = quoted_first escape_of text rest at c u e ∙ ap (λ r. bytes_or_itself r c ++ left) plain in
    ap (λ t. (out ++ t) ++ left) (waiting_more text rest start at c h k e)
    ∙ (regroup out (waiting text start at) (encode_utf8 c) left
    ∙ (ap (λ t. (out ++ waiting text start at) ++ t) (sym first)
    ∙ keeps))

pub wrote : (escape_of : Escapes) (old out one two run text rest escape : List ℕ) (start at c : ℕ) → IsUtf8 (drop at text) → drop at text ≡ encode_utf8 c ++ rest → escape_of c ≡ Some escape → run ≡ waiting text start at → one ≡ out ++ run → two ≡ one ++ escape → Keeps escape_of old out text start at → Keeps escape_of old two text (at + len_utf8 c) (at + len_utf8 c)
wrote escape_of old out one two run text rest escape start at c u e is slice first second keeps =
    let next = at + len_utf8 c in
    let left = quoted_bytes escape_of (drop next text) in
    let empty : next - next ≡ 0 = omega arith in
    let both : two ≡ (out ++ waiting text start at) ++ escape = second ∙ ap (λ t. t ++ escape) (first ∙ ap (λ t. out ++ t) slice) in
    let front : quoted_bytes escape_of (drop at text) ≡ escape ++ left = quoted_first escape_of text rest at c u e ∙ ap (λ r. bytes_or_itself r c ++ left) is in
    ap (λ n. (two ++ take n (drop next text)) ++ left) empty
    ∙ (ap (λ t. t ++ left) (append-nil two ∙ both)
    ∙ (append_assoc (out ++ waiting text start at) escape left
    ∙ (ap (λ t. (out ++ waiting text start at) ++ t) (sym front)
    ∙ keeps)))

-- at the start
pub begins : (escape_of : Escapes) (old text : List ℕ) → Keeps escape_of old old text 0 0
begins escape_of old text = ap (λ t. t ++ quoted_bytes escape_of text) (append-nil old)

-- at the end
all_taken : (n : ℕ) (text : List ℕ) → length text ≤ n → take n text ≡ text
all_taken n text h = grind (arith, common_steps)

none_left : (n : ℕ) (text : List ℕ) → length text ≤ n → drop n text ≡ []
none_left n text h = grind (arith, common_steps)

pub ends : (escape_of : Escapes) (old out text : List ℕ) (start at : ℕ) → length text ≤ at → Keeps escape_of old out text start at → out ++ drop start text ≡ old ++ quoted_bytes escape_of text
ends escape_of old out text start at h keeps =
    let left : quoted_bytes escape_of (drop at text) ≡ [] = ap (quoted_bytes escape_of) (none_left at text h) ∙ ap (bytes_by escape_of) chars-nil in
    ap (λ t. out ++ t) (sym (all_taken (at - start) (drop start text) (omega (arith, length-drop start text))))
    ∙ (sym (append-nil (out ++ waiting text start at))
    ∙ (ap (λ t. (out ++ waiting text start at) ++ t) (sym left)
    ∙ keeps))

-- the run that waits is written at the end
pub finishes : (escape_of : Escapes) (old middle new : Formatter) (r : Result (Unit {0}) Error) (run text : List ℕ) (start at : ℕ) → length text ≤ at → run ≡ drop start text → (is_marked middle ≡ false → (is_marked old ≡ false) × Keeps escape_of (text_of old) (text_of middle) text start at) → Writes middle new r run → Formats old new r (format_text (quoted_bytes escape_of text))
finishes escape_of old middle new (Ok u) run text start at h slice keeps w = λ mark.
    let k = keeps w.0 in
    (k.0, w.2 ∙ (ap (λ t. text_of middle ++ t) slice ∙ ends escape_of (text_of old) (text_of middle) text start at h k.1), refl)
finishes escape_of old middle new (Err e) run text start at h slice keeps w = λ mark. absurd (true≢false (sym w.1 ∙ mark))
