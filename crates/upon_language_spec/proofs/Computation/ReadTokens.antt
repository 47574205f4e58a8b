-- Reading one token: what is left where the first token is the wanted one.
use Rattle.std.proofs.Common.{◌≡◌, ◌⊎◌, inl, inr, ℕ, ◌==◌, ◌&&◌, List, [], ◌∷◌, Bool, true, false, Option, Some, None, refl, bytes_eq}
use Rattle.upon_types.specs.declared.types.Span.{Span}
use Rattle.upon_types.specs.declared.types.token.Token.{Token}
use Rattle.upon_types.specs.declared.types.token.Token.TheVariants.{Keyword, Ident as Identifier, String}
use Rattle.upon_types.specs.Span.{slice}
use Rattle.upon_types.specs.Path.{Ident}
use Rattle.upon_language_spec.specs.Cut.{Lexeme}
use Rattle.upon_language_spec.specs.Tokens.{Goes, GoesBy, GoesWord, GoesKeyword, GoesName, GoesText}
use Rattle.upon_language_spec.proofs.Computation.Tests.{left_true, right_true}
use Rattle.upon_language_spec.proofs.Computation.TokenTests.{same_token, one_token}
use Rattle.upon_language_spec.proofs.Computation.Tests.{same_number}
use Rattle.upon_language_spec.proofs.Computation.LiteralTests.{one_text, text_test, text_tested}

-- what a reading leaves, where it reads
abbrev pub Left : Type 0
Left = Option (List Lexeme)

-- one reading and then another, a reading where a test passes, and the first of two readings
abbrev pub then_read : Left → (List Lexeme → Left) → Left
then_read None next = None
then_read (Some mid) next = next mid

abbrev pub when : Bool → Left → Left
when true left = left
when false left = None

abbrev pub or_read : Left → Left → Left
or_read None other = other
or_read (Some rest) other = Some rest

pub both_read : (first : Left) (next : List Lexeme → Left) (rest : List Lexeme) → then_read first next ≡ Some rest → (mid : List Lexeme) × (first ≡ Some mid) × (next mid ≡ Some rest)
both_read None next rest h = absurd cc
both_read (Some mid) next rest h = (mid, refl, h)

pub read_when : (b : Bool) (left : Left) (rest : List Lexeme) → when b left ≡ Some rest → (b ≡ true) × (left ≡ Some rest)
read_when true left rest h = (refl, h)
read_when false left rest h = absurd cc

pub one_read : (a b : Left) (rest : List Lexeme) → or_read a b ≡ Some rest → (a ≡ Some rest) ⊎ (b ≡ Some rest)
one_read None b rest h = inr h
one_read (Some left) b rest h = inl h

-- where the first token is
abbrev pub first_span : List Lexeme → Span
first_span [] = record { m = 0; n = 0 }
first_span (l ∷ ls) = l.span

abbrev pub same_span : Span → Span → Bool
same_span a b = (a.m == b.m) && (a.n == b.n)

pub one_span : (a b : Span) → same_span a b ≡ true → a ≡ b
one_span a b h = let m = same_number _ _ (left_true _ _ h) in let n = same_number _ _ (right_true _ _ h) in λ i. record { m = m i; n = n i }

-- a token of a kind, and one at an offset
abbrev pub read_by : Token → List Lexeme → Left
read_by t [] = None
read_by t (l ∷ ls) = when (same_token l.token t) (Some ls)

abbrev pub read_at : Token → Span → List Lexeme → Left
read_at t span before = when (same_span (first_span before) span) (read_by t before)

pub goes_read : (t : Token) (before rest : List Lexeme) → read_by t before ≡ Some rest → Goes t (first_span before) before rest
goes_read t [] rest h = absurd cc
goes_read t (l ∷ ls) rest h =
    let a = read_when (same_token l.token t) (Some ls) rest h in
    let same : ls ≡ rest = cc a.1 in
    record { lexeme = l; is = cc same; of_token = one_token l.token t a.0; at = refl }

pub by_read : (t : Token) (before rest : List Lexeme) → read_by t before ≡ Some rest → GoesBy t before rest
by_read t before rest h = (first_span before, goes_read t before rest h)

pub at_read : (t : Token) (span : Span) (before rest : List Lexeme) → read_at t span before ≡ Some rest → Goes t span before rest
at_read t span before rest h =
    let a = read_when (same_span (first_span before) span) (read_by t before) rest h in
    let go = goes_read t before rest a.1 in
    let same : first_span before ≡ span = one_span (first_span before) span a.0 in
    record { lexeme = go.lexeme; is = go.is; of_token = go.of_token; at = cc (go.at, same) }

-- a keyword, a name and a string
abbrev pub read_word : List ℕ → List ℕ → Span → List Lexeme → Left
read_word s word span before = when (bytes_eq (slice s span) word) (read_at Keyword span before)

abbrev pub read_keyword : List ℕ → List ℕ → List Lexeme → Left
read_keyword s word before = read_word s word (first_span before) before

abbrev pub read_name : List ℕ → Ident → List Lexeme → Left
read_name s name before = when (bytes_eq name.text (slice s name.span)) (read_at Identifier name.span before)

abbrev pub read_text : List ℕ → Ident → List Lexeme → Left
read_text s string before = when (text_test s string.span.m string.span.n string.text) (read_at String string.span before)

pub word_read : (s word : List ℕ) (span : Span) (before rest : List Lexeme) → read_word s word span before ≡ Some rest → GoesWord s word span before rest
word_read s word span before rest h = let a = read_when (bytes_eq (slice s span) word) (read_at Keyword span before) rest h in (at_read Keyword span before rest a.1, one_text _ _ a.0)

pub keyword_read : (s word : List ℕ) (before rest : List Lexeme) → read_keyword s word before ≡ Some rest → GoesKeyword s word before rest
keyword_read s word before rest h = (first_span before, word_read s word (first_span before) before rest h)

pub name_read : (s : List ℕ) (name : Ident) (before rest : List Lexeme) → read_name s name before ≡ Some rest → GoesName s name before rest
name_read s name before rest h = let a = read_when (bytes_eq name.text (slice s name.span)) (read_at Identifier name.span before) rest h in (at_read Identifier name.span before rest a.1, one_text _ _ a.0)

pub text_read : (s : List ℕ) (string : Ident) (before rest : List Lexeme) → read_text s string before ≡ Some rest → GoesText s string before rest
text_read s string before rest h = let a = read_when (text_test s string.span.m string.span.n string.text) (read_at String string.span before) rest h in (at_read String string.span before rest a.1, text_tested s string.span.m string.span.n string.text a.0)
