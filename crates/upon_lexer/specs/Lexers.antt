-- What a lexer reads, and how far it has read it.
use Rattle.std.specs.Prelude.{◌≡◌, ℕ, ◌<◌, List, ◌++◌, true, false, Option, None, IfSome, MatchOption, Result, Ok, IfOk, IfErr}
use Rattle.upon_types.specs.declared.types.Span.{Span}
use Rattle.upon_types.specs.declared.types.token.Token.{Token}
use Rattle.upon_types.specs.declared.types.Delimiter.{Delimiter}
use Rattle.upon_types.specs.Span.{LiesIn}
use Rattle.upon_types.specs.declared.error.Error.{Error}
use Rattle.upon_language_spec.specs.Search.{DelimiterText, NoneAt, IsBestDelimiter}
use Rattle.upon_delimiters.specs.Searcher.{searcher_delimiters}
use Rattle.upon_language_spec.specs.Lexing.{LexerState, HasRead, Lexes, LexesAfterSpace, EachIsSpace, IsGiven}
use Rattle.upon_language_spec.specs.LexStep.{IsNext, IsWrong, state_after}
use Rattle.upon_lexer.specs.OpenTags.{begin_of, mode_of}
use Rattle.upon_lexer.specs.Brackets.{brackets_of}
use Rattle.upon_lexer.specs.Reasons.{reason_of}
use Rattle.upon_language_spec.specs.Cut.{Lexeme}
use Rattle.upon_language_spec.specs.Tokens.{is_space}
use Rattle.upon_lexer.specs.Spelling.{IsSpelled, LiesBetween}
use Rattle.upon_lexer.specs.declared.compile.fault.Wrong.{Wrong}
use Rattle.upon_lexer.specs.declared.compile.lex.NextToken.{NextToken}
use Rattle.upon_lexer.specs.declared.compile.lex.Lexer.{Lexer}

-- the text that a lexer reads
abbrev pub lexer_text : Lexer → List ℕ
lexer_text lexer = lexer.source.now

-- its delimiters
abbrev pub lexer_delimiters : Lexer → List DelimiterText
lexer_delimiters lexer = searcher_delimiters lexer.searcher.now

-- how far it has read
abbrev pub lexer_state : Lexer → LexerState
lexer_state lexer = record {
  offset = lexer.offset;
  mode = mode_of lexer.tag;
  begin = begin_of lexer.tag;
  brackets = brackets_of lexer.brackets.items;
  trims = lexer.trims;
  over = lexer.over;
}

-- the token that was found
abbrev pub next_lexeme : NextToken → Lexeme
next_lexeme found = record { token = found.token; hyphen = found.hyphen; span = found.span }

-- these are the tokens before the lexer's offset
abbrev pub ReadSoFar : Lexer → List Lexeme → Type 0
ReadSoFar lexer ls = HasRead (lexer_delimiters lexer) (lexer_text lexer) (lexer_state lexer) ls

-- what a call gives to one who knows them
abbrev pub GivesToken : Lexer → List Lexeme → Result (Option (Token × Span)) Error → Lexer → Type 0
GivesToken before ls result after = Lexes (lexer_delimiters before) (lexer_text before) (lexer_state before) ls result
    (lexer_state after)

-- what a call that passes over whitespace gives to one who knows the tokens before it
abbrev pub GivesAfterSpace : Lexer → List Lexeme → Result (Option (Token × Span)) Error → Lexer → Type 0
GivesAfterSpace before ls result after = LexesAfterSpace (lexer_delimiters before) (lexer_text before) ls result
    (lexer_state after)

-- what a call that passes whitespace gives, of what spelling and where, and when the lexer is over
pub record GivesNext (delimiters : List DelimiterText) (s : List ℕ) (before : LexerState)
    (result : Result (Option (Token × Span)) Error) (after : LexerState) : Type 0 where
  pub token : (ls : List Lexeme) → HasRead delimiters s before ls → LexesAfterSpace delimiters s ls result after
  pub span : IfOk result (λ found. IfSome found (λ given. LiesIn s given.1))
  pub spelled : IfOk result (λ found. IfSome found (λ given. IsSpelled s given.0 given.1))
  pub between : IfOk result (λ found. IfSome found
      (λ given. LiesBetween before.offset after.offset given.0 given.1))
  pub further : IfOk result (λ found. IfSome found (λ _. before.offset < after.offset))
  pub stops : IfErr result (λ _. after.over ≡ true)
  pub stopped : before.over ≡ true → (result ≡ Ok None) × (after.over ≡ true)

-- what is where the lexer does: a token, or a fault that ends the cutting
abbrev pub FindsToken : Lexer → NextToken → Type 0
FindsToken lexer found = IsNext (lexer_delimiters lexer) (lexer_text lexer) (lexer_state lexer) (next_lexeme found)

-- a fault that ends the cutting holds where the lexer is
abbrev pub GoesWrong : Lexer → Wrong → Type 0
GoesWrong lexer wrong = IsWrong (lexer_delimiters lexer) (lexer_text lexer) (lexer_state lexer) wrong.span
    (reason_of wrong.fault)

-- what is looked for is the delimiter where the lexer is, or none is there
pub record IsDelimiterAt (lexer : Lexer) (delimiter : Option (Delimiter × Span)) : Type 0 where
  pub best : MatchOption delimiter (NoneAt (lexer_delimiters lexer) (lexer_text lexer) lexer.offset)
      (λ best. IsBestDelimiter (lexer_delimiters lexer) (lexer_text lexer) best.0 best.1.m best.1.n)
  pub start : IfSome delimiter (λ best. best.1.m ≡ lexer.offset)
  pub span : IfSome delimiter (λ best. LiesIn (lexer_text lexer) best.1)

-- the lexer has passed the token where it was, which is no whitespace, and for which this is given
pub record Passes (before : Lexer) (given : Token × Span) (after : Lexer) : Type 0 where
  pub found : Lexeme
  pub of_token : found.token ≡ given.0
  pub next : IsNext (lexer_delimiters before) (lexer_text before) (lexer_state before) found
  pub of_span : IsGiven (lexer_delimiters before) (lexer_text before) (mode_of before.tag) before.trims found.token
      found.span given.1
  pub counts : is_space given.0 ≡ false
  pub not_over : before.over ≡ false
  pub state : lexer_state after ≡ state_after (lexer_state before) found

-- the span of a token that was found is given as it is
abbrev pub IsGivenWhole : Lexer → NextToken → Type 0
IsGivenWhole lexer found = IsGiven (lexer_delimiters lexer) (lexer_text lexer) (mode_of lexer.tag) lexer.trims
    found.token found.span found.span

-- after these tokens the lexer has passed whitespace alone
abbrev pub HasPassedSpaces : Lexer → List Lexeme → Type 0
HasPassedSpaces lexer ls = (spaces : List Lexeme) × EachIsSpace spaces × ReadSoFar lexer (ls ++ spaces)
