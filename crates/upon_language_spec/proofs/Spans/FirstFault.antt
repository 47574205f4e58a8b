-- Where a fault is: its span lies in the text, on character boundaries.
use Rattle.std.proofs.Common.{◌≡◌, inl, inr, ℕ, ◌+◌, ◌-◌, ◌<◌, ◌≤◌, List, [], ◌∷◌, ◌++◌, length, drop, length-take, length-drop, Bool, true, false, Option, Some, None, slice_index, encode_utf8, refl, sym, ap, subst, arith, codes, if◌then◌else◌}
use Rattle.std.specs.Str.{IsUtf8, IsCharBoundary, bytes_eq}
use Rattle.std.proofs.lemmas.Bool.{cases_lt}
use Rattle.std.proofs.lemmas.Bool.Decides.{nat_tests}
use Rattle.std.proofs.lemmas.Str.{IsCharBoundary-start, IsCharBoundary-end, length-encode}
use Rattle.upon_types.specs.declared.types.Span.{Span}
use Rattle.upon_types.specs.declared.types.Delimiter.{Delimiter}
use Rattle.upon_types.specs.declared.types.token.Token.{Token}
use Rattle.upon_types.specs.declared.types.token.Token.TheVariants.{OpenBracket, CloseBracket, OpenBrace, CloseBrace, OpenParen, CloseParen, EndBlock, BeginBlock, Plus, Minus, Index, Number}
use Rattle.upon_types.specs.Span.{LiesIn, slice}
use Rattle.upon_language_spec.specs.Search.{DelimiterText, HasTexts, Occurs, IsBestDelimiter}
use Rattle.upon_language_spec.specs.LiesIn.{HasUtf8}
use Rattle.upon_language_spec.specs.Delimiters.{Sort, block}
use Rattle.upon_language_spec.specs.Cut.{Lexeme, Mode, outside, in_tag, in_comment, mode_after, Cut}
use Rattle.upon_language_spec.specs.Inside.{IsInside, ends_line}
use Rattle.upon_language_spec.specs.Tokens.{is_space, without_spaces, from_to, significant}
use Rattle.upon_language_spec.specs.Reading.{ReadsTo, opens_tag, from_begin, open_tag, first_span, brackets_after, brackets_from, last_of}
use Rattle.upon_language_spec.specs.Faults.{span_of, tag_tokens, BeginsNoToken, EndsQuestion, LineEnds}
use Rattle.upon_language_spec.specs.LaterFaults.{Report, minus_before, start_from, number_report_of, number_report}
use Rattle.upon_language_spec.specs.LiteralFaults.{NumberFault, bad_digit, too_large, number_fault, is_float, base_text}
use Rattle.upon_types.specs.BlockKinds.{Block, block_word, kind_with}
use Rattle.upon_language_spec.specs.Blocks.{OpenBlock, Closer, else_if, plain_else, end_of, closer_by, blocks_after_closer, after_closer, end_from, open_or, by_closer, by_word, at_begin, blocks_from, open_blocks, outermost}
use Rattle.upon_language_spec.specs.FirstFault.{SyntaxFault, unexpected_end, unclosed_tag, unclosed_bracket, unexpected_close, unexpected_character, undelimited_string, unexpected_token, unexpected_eof, empty_comment, comment_eof, wrong_number, wrong_index, wrong_escape, unexpected_block, unclosed_block, Holds}
use Rattle.upon_language_spec.proofs.OneCut.Delimiter.{stands_ends}
use Rattle.upon_language_spec.proofs.OneCut.Cut.{cut_ends}
use Rattle.upon_language_spec.proofs.SpansLieIn.Token.{stands_between, char_between, low_between, step_lies_in}
use Rattle.upon_language_spec.proofs.Spans.Along.{Along, along_cut, along_spaces, along_comments}
use Rattle.upon_language_spec.proofs.Spans.Literals.{number_between, digit_in_number, escape_lies}

-- ---- tokens among others
-- each of the tokens lies in the text, and ends no later than p
abbrev Before : List ℕ → ℕ → List Lexeme → Type 0
Before s p [] = Unit {0}
Before s p (l ∷ ls) = LiesIn s l.span × (l.span.n ≤ p) × Before s p ls

module _ (s : List ℕ) (p : ℕ) where
  all_before : (ls ks : List Lexeme) → Before s p ls → Before s p ks → Before s p (ls ++ ks)
  all_before [] ks h k = k
  all_before (l ∷ ls) ks h k = (h.0, h.1, all_before ls ks h.2 k)

  tag_before : (acc ls : List Lexeme) → Before s p acc → Before s p ls → Before s p (from_begin acc ls)
  tag_before acc [] h k = h
  tag_before acc (l ∷ ls) h k = either (opens_tag l.token) (tag_before (l ∷ []) ls (k.0, k.1, tt) k.2) (tag_before (acc ++ l ∷ []) ls (all_before acc (l ∷ []) h (k.0, k.1, tt)) k.2)
    where
      either : (b : Bool) → Before s p (from_begin (l ∷ []) ls) → Before s p (from_begin (acc ++ l ∷ []) ls) → Before s p (if b then from_begin (l ∷ []) ls else from_begin (acc ++ l ∷ []) ls)
      either true x y = x
      either false x y = y

  first_before : (ls : List Lexeme) (at : Span) → Before s p ls → first_span ls ≡ Some at → LiesIn s at × (at.n ≤ p)
  first_before [] at h e = absurd cc
  first_before (l ∷ ls) at h e = let same : l.span ≡ at = cc in subst (λ (x : Span). LiesIn s x × (x.n ≤ p)) same (h.0, h.1)

  bracket_step : (stack : List Lexeme) (t : Token) (l : Lexeme) → Before s p stack → Before s p (l ∷ []) → Before s p (brackets_after stack t l)
  bracket_step stack OpenBracket l h k = (k.0, k.1, h)
  bracket_step stack OpenBrace l h k = (k.0, k.1, h)
  bracket_step stack OpenParen l h k = (k.0, k.1, h)
  bracket_step [] CloseBracket l h k = tt
  bracket_step [] CloseBrace l h k = tt
  bracket_step [] CloseParen l h k = tt
  bracket_step (o ∷ stack) CloseBracket l h k = h.2
  bracket_step (o ∷ stack) CloseBrace l h k = h.2
  bracket_step (o ∷ stack) CloseParen l h k = h.2
  bracket_step stack t l h k = h

  brackets_before : (stack ls : List Lexeme) → Before s p stack → Before s p ls → Before s p (brackets_from stack ls)
  brackets_before stack [] h k = h
  brackets_before stack (l ∷ ls) h k = brackets_before (brackets_after stack l.token l) ls (bracket_step stack l.token l h (k.0, k.1, tt)) k.2

  spaces_before : (ls : List Lexeme) → Before s p ls → Before s p (without_spaces ls)
  spaces_before [] h = tt
  spaces_before (l ∷ ls) h = by_space (is_space l.token) (spaces_before ls h.2)
    where
      by_space : (b : Bool) → Before s p (without_spaces ls) → Before s p (if b then without_spaces ls else (l ∷ without_spaces ls))
      by_space true others = others
      by_space false others = (h.0, h.1, others)

  abbrev LastBefore : Option Lexeme → Type 0
  LastBefore None = Unit {0}
  LastBefore (Some l) = LiesIn s l.span × (l.span.n ≤ p)

  last_before : (ls : List Lexeme) → Before s p ls → LastBefore (last_of ls)
  last_before [] h = tt
  last_before (l ∷ []) h = (h.0, h.1)
  last_before (l ∷ k ∷ ls) h = last_before (k ∷ ls) h.2

  -- where a literal with its sign begins
  start_before : (o : Option Lexeme) → LastBefore o → IsCharBoundary s p → (start_from o p ≤ p) × IsCharBoundary s (start_from o p)
  start_before None h b = (omega arith, b)
  start_before (Some l) h b = by_token l.token
    where
      by_token : (t : Token) → ((elim t as (λ _. ℕ) [ Minus ↦ l.span.m | Plus ↦ l.span.m | _ ↦ p ]) ≤ p) × IsCharBoundary s (elim t as (λ _. ℕ) [ Minus ↦ l.span.m | Plus ↦ l.span.m | _ ↦ p ])
      by_token Minus = (omega (arith, h.0.ordered, h.1), h.0.start)
      by_token Plus = (omega (arith, h.0.ordered, h.1), h.0.start)
      by_token t = (omega arith, b)

-- ---- open blocks
abbrev EachOpenLies : List ℕ → List OpenBlock → Type 0
EachOpenLies s [] = Unit {0}
EachOpenLies s (o ∷ stack) = LiesIn s o.span × EachOpenLies s stack

end_lies : (s : List ℕ) (begin : Span) (p : ℕ) (ls : List Lexeme) → LiesIn s begin → begin.n ≤ p → Along s p ls → LiesIn s (from_to begin (end_from begin ls))
end_lies s begin p [] b l h = record { ordered = b.ordered; start = b.start; end = b.end }
end_lies s begin p (k ∷ ls) b l h = by_token k.token (end_lies s begin k.span.n ls b (omega (arith, l, h.0, h.1.ordered)) h.2)
  where
    by_token : (t : Token) → LiesIn s (from_to begin (end_from begin ls)) → LiesIn s (from_to begin (elim t as (λ _. Span) [ EndBlock ↦ k.span | _ ↦ end_from begin ls ]))
    by_token EndBlock others = record { ordered = omega (arith, b.ordered, l, h.0, h.1.ordered); start = b.start; end = h.1.end }
    by_token t others = others

closed_lie : (s : List ℕ) (closer : Closer) (o : OpenBlock) (stack : List OpenBlock) → EachOpenLies s (o ∷ stack) → EachOpenLies s (blocks_after_closer closer o stack)
closed_lie s else_if o stack h = h
closed_lie s plain_else o stack h = h
closed_lie s (end_of kind) o stack h = h.1

after_lie : (s : List ℕ) (closer : Closer) (stack : List OpenBlock) → EachOpenLies s stack → EachOpenLies s (after_closer closer stack)
after_lie s closer [] h = tt
after_lie s closer (o ∷ stack) h = closed_lie s closer o stack h

closer_lie : (s : List ℕ) (o : Option Closer) (stack : List OpenBlock) → EachOpenLies s stack → EachOpenLies s (by_closer o stack)
closer_lie s None stack h = h
closer_lie s (Some closer) stack h = after_lie s closer stack h

word_lie : (s : List ℕ) (begin : Span) (word : List ℕ) (p : ℕ) (ls : List Lexeme) (stack : List OpenBlock) → LiesIn s begin → begin.n ≤ p → Along s p ls → EachOpenLies s stack → EachOpenLies s (by_word s begin word ls stack)
word_lie s begin word p ls stack b l along h = by_kind (kind_with block_word word)
  where
    by_kind : (o : Option Block) → EachOpenLies s (open_or o begin ls stack (by_closer (closer_by s word ls) stack))
    by_kind (Some kind) = (end_lies s begin p ls b l along, h)
    by_kind None = closer_lie s (closer_by s word ls) stack h

begin_lie : (s : List ℕ) (begin : Span) (ls : List Lexeme) (stack : List OpenBlock) → LiesIn s begin → Along s begin.n ls → EachOpenLies s stack → EachOpenLies s (at_begin s begin ls stack)
begin_lie s begin [] stack b along h = h
begin_lie s begin (k ∷ ls) stack b along h = word_lie s begin (slice s k.span) k.span.n ls stack b (omega (arith, along.0, along.1.ordered)) along.2 h

blocks_lie : (s : List ℕ) (p : ℕ) (stack : List OpenBlock) (ls : List Lexeme) → Along s p ls → EachOpenLies s stack → EachOpenLies s (blocks_from s stack ls)
blocks_lie s p stack [] along h = h
blocks_lie s p stack (l ∷ ls) along h = blocks_lie s l.span.n (stepped l.token) ls along.2 (by_token l.token)
  where
    stepped : Token → List OpenBlock
    stepped t = elim t as (λ _. List OpenBlock) [ BeginBlock ↦ at_begin s l.span ls stack | _ ↦ stack ]

    by_token : (t : Token) → EachOpenLies s (stepped t)
    by_token BeginBlock = begin_lie s l.span ls stack along.1 along.2 h
    by_token t = h

outermost_lies : (s : List ℕ) (stack : List OpenBlock) (o : OpenBlock) → EachOpenLies s stack → outermost stack ≡ Some o → LiesIn s o.span
outermost_lies s [] o h e = absurd cc
outermost_lies s (x ∷ []) o h e = let same : x ≡ o = cc in subst (λ (y : OpenBlock). LiesIn s y.span) same h.0
outermost_lies s (x ∷ y ∷ stack) o h e = outermost_lies s (y ∷ stack) o h.1 e

abbrev told_as : Span → List ℕ → Report
told_as place reason = record { span = place; reason = reason }

-- equal reports are at one span
pub told_place : (a b : Report) → Some a ≡ Some b → a.span ≡ b.span
told_place a b e = let same : a ≡ b = cc in ap (λ (x : Report). x.span) same

-- ---- one character, and a line
low_byte : (c : ℕ) → ends_line c ≡ true → c < 128
low_byte c h = grind (arith, nat_tests)

module _ (s : List ℕ) (text : IsUtf8 s) where
  character_ends : (c p : ℕ) → IsCharBoundary s p → Occurs s p (encode_utf8 c) → IsCharBoundary s (p + length (encode_utf8 c))
  character_ends c p start o = subst (λ n. IsCharBoundary s (p + n)) (sym (length-encode c)) (char_between s text p start c o)

  question_ends : (p to : ℕ) → IsCharBoundary s (p + 1) → EndsQuestion s p to → (p ≤ to) × IsCharBoundary s to
  question_ends p to next (inl e) = (omega (arith, e.1), subst (IsCharBoundary s) (sym e.1) next)
  question_ends p to next (inr d) = (omega (arith, d.2), subst (IsCharBoundary s) (sym d.2) (character_ends d.0 (p + 1) next d.1))

  nothing_ends : (path : Bool) (c p to : ℕ) → IsCharBoundary s p → Occurs s p (encode_utf8 c) → BeginsNoToken s path c p to → (p ≤ to) × IsCharBoundary s to
  nothing_ends path c p to start o (inl x) = (omega (arith, x.1), subst (IsCharBoundary s) (sym x.1) (character_ends c p start o))
  nothing_ends path c p to start o (inr x) = question_ends p to (low_between s text p start c (p + 1) (omega (arith, x.0)) o refl) x.2

  line_ends : (p to : ℕ) → LineEnds s p to → IsCharBoundary s to
  line_ends p to h = elim h.ends [
    | inl e ↦ subst (IsCharBoundary s) (sym e) (IsCharBoundary-end s)
    | inr e ↦ let low = low_byte (slice_index s to) e.1 in (h.within, λ l high. absurd (omega (arith, high, low)))
  ]

module _ (delimiters : List DelimiterText) (s : List ℕ) (texts : HasTexts delimiters) (utf8 : HasUtf8 delimiters) (text : IsUtf8 s) where
  before_cut : (mode mode' : Mode) (m n : ℕ) (ls : List Lexeme) → IsCharBoundary s m → Cut delimiters s mode m ls mode' n → Before s n ls × IsCharBoundary s n
  before_cut mode mode' m n [] start h = (tt, subst (IsCharBoundary s) h.1 start)
  before_cut mode mode' m n (l ∷ ls) start h =
      let lies = step_lies_in delimiters s texts utf8 text mode l.token l.hyphen m l.span.n start h.1 in
      let others = before_cut (mode_after mode l.token) mode' l.span.n n ls lies.end h.2 in
      let ends = cut_ends delimiters s texts (mode_after mode l.token) mode' l.span.n n ls lies.end.0 h.2 in
      let F : ℕ → Type 0 = λ x. LiesIn s (span_of x l.span.n) in
      ((subst F (sym h.0) lies, ends.0, others.0), others.1)

  -- what was read lies in the text
  read_before : (ls : List Lexeme) (mode : Mode) (p : ℕ) → ReadsTo delimiters s ls mode p → Before s p ls × IsCharBoundary s p
  read_before ls mode p h = before_cut outside mode 0 p ls (IsCharBoundary-start s text) h

  open_before : (ls : List Lexeme) (mode : Mode) (p : ℕ) → ReadsTo delimiters s ls mode p → Before s p (open_tag ls)
  open_before ls mode p h = tag_before s p [] ls tt (read_before ls mode p h).0

  stands_lies : (kind : Delimiter) (p to : ℕ) → IsBestDelimiter delimiters s kind p to → LiesIn s (span_of p to)
  stands_lies kind p to h =
      let ends = stands_ends delimiters s kind p to texts h in
      let between = stands_between delimiters s texts utf8 text kind p to h in
      record { ordered = omega (arith, ends.0); start = between.0; end = between.1 }

  inner_lies : (ls : List Lexeme) (sort : Sort) (path : Bool) (p : ℕ) (t : Token) (to : ℕ) → ReadsTo delimiters s ls (in_tag sort path) p → IsInside delimiters s path t p to → LiesIn s (span_of p to)
  inner_lies ls sort path p t to reads inner = step_lies_in delimiters s texts utf8 text (in_tag sort path) t false p to (read_before ls (in_tag sort path) p reads).1 (inr (refl, inner))

  here : (ls : List Lexeme) (mode : Mode) (p : ℕ) → ReadsTo delimiters s ls mode p → LiesIn s (span_of p p)
  here ls mode p reads = let b = (read_before ls mode p reads).1 in record { ordered = omega arith; start = b; end = b }

  number_lies : (ls : List Lexeme) (sort : Sort) (path : Bool) (p to : ℕ) (place : Span) (reason : List ℕ) → ReadsTo delimiters s ls (in_tag sort path) p → (inner : IsInside delimiters s path Number p to) → number_report (slice s (span_of p to)) (last_of (tag_tokens ls)) p to ≡ Some (record { span = place; reason = reason }) → LiesIn s place
  number_lies ls sort path p to place reason reads inner e = by_float (is_float (slice s (span_of p to))) e
    where
      lies : LiesIn s (span_of p to)
      lies = inner_lies ls sort path p Number to reads inner

      start : (start_from (last_of (tag_tokens ls)) p ≤ p) × IsCharBoundary s (start_from (last_of (tag_tokens ls)) p)
      start = start_before s p (last_of (tag_tokens ls)) (last_before s p (tag_tokens ls) (spaces_before s p (open_tag ls) (open_before ls (in_tag sort path) p reads))) (read_before ls (in_tag sort path) p reads).1

      whole : LiesIn s (span_of (start_from (last_of (tag_tokens ls)) p) to)
      whole = record { ordered = omega (arith, start.0, lies.ordered); start = start.1; end = lies.end }

      placed : (at : Span) (words : List ℕ) → LiesIn s at → Some (told_as at words) ≡ Some (told_as place reason) → LiesIn s place
      placed at words h k = let same : at ≡ place = told_place (told_as at words) (told_as place reason) k in subst (LiesIn s) same h

      digit : (i : ℕ) → i < length (slice s (span_of p to)) → LiesIn s (span_of (p + i) (p + i + 1))
      digit i l =
          let size : length (slice s (span_of p to)) ≡ to - p = omega (arith, lies.ordered, lies.end.0, length-take (to - p) (drop p s), length-drop p s) in
          let a = number_between s p to (p + i) lies.end.0 inner.extent (omega arith) (omega (arith, l, size)) in
          record { ordered = omega arith; start = a; end = next i l size }
        where
          next : (i : ℕ) → i < length (slice s (span_of p to)) → length (slice s (span_of p to)) ≡ to - p → IsCharBoundary s (p + i + 1)
          next i l size = elim (cases_lt (p + i + 1) to) [
            | inl below ↦ number_between s p to (p + i + 1) lies.end.0 inner.extent (omega arith) below
            | inr above ↦ let at : to ≡ p + i + 1 = omega (arith, above, l, size, lies.ordered) in subst (IsCharBoundary s) at lies.end
          ]

      by_fault : (o : Option NumberFault) → number_fault (minus_before (last_of (tag_tokens ls))) (slice s (span_of p to)) ≡ o → number_report_of (base_text (slice s (span_of p to))) (start_from (last_of (tag_tokens ls)) p) p to o ≡ Some (record { span = place; reason = reason }) → LiesIn s place
      by_fault None f k = absurd cc
      by_fault (Some (bad_digit i)) f k = placed (span_of (p + i) (p + i + 1)) _ (digit i (digit_in_number (minus_before (last_of (tag_tokens ls))) (slice s (span_of p to)) i f)) k
      by_fault (Some too_large) f k = placed (span_of (start_from (last_of (tag_tokens ls)) p) to) _ whole k

      by_float : (b : Bool) → (if b then Some (record { span = span_of (start_from (last_of (tag_tokens ls)) p) to; reason = codes "invalid float literal" }) else number_report_of (base_text (slice s (span_of p to))) (start_from (last_of (tag_tokens ls)) p) p to (number_fault (minus_before (last_of (tag_tokens ls))) (slice s (span_of p to)))) ≡ Some (record { span = place; reason = reason }) → LiesIn s place
      by_float true k = placed (span_of (start_from (last_of (tag_tokens ls)) p) to) (codes "invalid float literal") whole k
      by_float false k = by_fault (number_fault (minus_before (last_of (tag_tokens ls))) (slice s (span_of p to))) refl k

  -- the span of a fault lies in the text, first or not
  pub fault_lies_in : (row : SyntaxFault) (p : ℕ) (place : Span) (reason : List ℕ) → Holds delimiters s row p place reason → LiesIn s place
  fault_lies_in unexpected_end p place reason h = subst (LiesIn s) (sym h.at) (stands_lies h.ends.kind p h.to h.ends.occurs)
  fault_lies_in unclosed_tag p place reason h = (first_before s p (open_tag h.lexemes) place (open_before h.lexemes h.mode p h.reads) h.at).0
  fault_lies_in unclosed_bracket p place reason h =
      let F : List Lexeme → Type 0 = λ x. Before s p x in
      let brackets = subst F h.brackets (brackets_before s p [] (open_tag h.lexemes) tt (open_before h.lexemes (in_tag h.sort h.in_path) p h.reads)) in
      subst (LiesIn s) (sym h.at) brackets.0
  fault_lies_in unexpected_close p place reason h = subst (LiesIn s) (sym h.at) (inner_lies h.lexemes h.sort h.in_path p h.t h.to h.reads h.occurs)
  fault_lies_in unexpected_character p place reason h =
      let b = (read_before h.lexemes (in_tag h.sort h.in_path) p h.reads).1 in
      let ends = nothing_ends s text h.in_path h.c p h.to b h.occurs h.nothing in
      subst (LiesIn s) (sym h.at) (record { ordered = ends.0; start = b; end = ends.1 })
  fault_lies_in undelimited_string p place reason h =
      subst (LiesIn s) (sym h.at) (record { ordered = h.line.start; start = (read_before h.lexemes (in_tag h.sort h.in_path) p h.reads).1; end = line_ends s text p h.to h.line })
  fault_lies_in unexpected_token p place reason h =
      subst (LiesIn s) (sym h.at) (step_lies_in delimiters s texts utf8 text (in_tag h.sort h.in_path) h.t h.hyphen p h.to (read_before h.lexemes (in_tag h.sort h.in_path) p h.reads).1 h.occurs)
  fault_lies_in unexpected_eof p place reason h = subst (LiesIn s) (sym h.at) (here h.lexemes (in_tag h.sort h.in_path) p h.reads)
  fault_lies_in empty_comment p place reason h = subst (LiesIn s) (sym h.at) (stands_lies h.ends.kind p h.to h.ends.occurs)
  fault_lies_in comment_eof p place reason h = subst (LiesIn s) (sym h.at) (here h.lexemes in_comment p h.reads)
  fault_lies_in wrong_number p place reason h = number_lies h.lexemes h.sort h.in_path p h.to place reason h.reads h.occurs h.words
  fault_lies_in wrong_index p place reason h = subst (LiesIn s) (sym h.at) (inner_lies h.lexemes h.sort h.in_path p Index h.to h.reads h.occurs)
  fault_lies_in wrong_escape p place reason h = subst (LiesIn s) (sym h.at) (escape_lies s text p h.to h.from h.long (read_before h.lexemes (in_tag h.sort h.in_path) p h.reads).1 h.string h.escape)
  fault_lies_in unexpected_block p place reason h =
      let begin = first_before s p (open_tag h.lexemes) h.begin (open_before h.lexemes (in_tag block h.in_path) p h.reads) h.begins in
      let end = stands_lies h.ends.kind p h.to h.ends.occurs in
      subst (LiesIn s) (sym h.at) (record { ordered = omega (arith, begin.0.ordered, begin.1, end.ordered); start = begin.0.start; end = end.end })
  fault_lies_in unclosed_block p place reason h =
      let along = along_cut delimiters s texts utf8 text outside outside 0 p h.lexemes (IsCharBoundary-start s text) h.reads in
      let stack = blocks_lie s 0 [] (significant h.lexemes) (along_comments s 0 (without_spaces h.lexemes) (along_spaces s 0 h.lexemes along)) tt in
      subst (LiesIn s) (sym h.at) (outermost_lies s (open_blocks s (significant h.lexemes)) h.opening stack h.outer)
