-- Which fault of a refused text is reported: the first.
use Rattle.std.specs.Prelude.{◌≡◌, ◌⊎◌, ℕ, ◌<◌, ◌≤◌, List}
use Rattle.upon_types.specs.declared.types.Span.{Span}
use Rattle.upon_language_spec.specs.Search.{DelimiterText}
use Rattle.upon_language_spec.specs.Faults.{UnexpectedEnd, UnclosedTag, UnclosedBracket, UnexpectedClose, UnexpectedCharacter, UndelimitedString, UnexpectedToken, UnexpectedEof}
use Rattle.upon_language_spec.specs.LaterFaults.{EmptyComment, CommentEof, WrongNumber, WrongIndex, WrongEscape, UnexpectedBlock, UnclosedBlock}

-- the kinds of syntax fault
pub data SyntaxFault : Type 0 where
  unexpected_end : SyntaxFault
  unclosed_tag : SyntaxFault
  unclosed_bracket : SyntaxFault
  unexpected_close : SyntaxFault
  unexpected_character : SyntaxFault
  undelimited_string : SyntaxFault
  unexpected_token : SyntaxFault
  unexpected_eof : SyntaxFault
  empty_comment : SyntaxFault
  comment_eof : SyntaxFault
  wrong_number : SyntaxFault
  wrong_index : SyntaxFault
  wrong_escape : SyntaxFault
  unexpected_block : SyntaxFault
  unclosed_block : SyntaxFault

-- at one point the row with the least rank is reported
abbrev pub fault_rank : SyntaxFault → ℕ
fault_rank unexpected_end = 0
fault_rank unclosed_tag = 1
fault_rank unclosed_bracket = 2
fault_rank unexpected_close = 3
fault_rank unexpected_character = 4
fault_rank undelimited_string = 5
fault_rank unexpected_token = 6
fault_rank unexpected_eof = 7
fault_rank empty_comment = 8
fault_rank comment_eof = 9
fault_rank wrong_number = 10
fault_rank wrong_index = 11
fault_rank wrong_escape = 12
fault_rank unexpected_block = 13
fault_rank unclosed_block = 14

-- the row holds in the text at the point p, with this span and reason
abbrev pub Holds : List DelimiterText → List ℕ → SyntaxFault → ℕ → Span → List ℕ → Type 0
Holds delimiters s unexpected_end p span reason = UnexpectedEnd delimiters s p span reason
Holds delimiters s unclosed_tag p span reason = UnclosedTag delimiters s p span reason
Holds delimiters s unclosed_bracket p span reason = UnclosedBracket delimiters s p span reason
Holds delimiters s unexpected_close p span reason = UnexpectedClose delimiters s p span reason
Holds delimiters s unexpected_character p span reason = UnexpectedCharacter delimiters s p span reason
Holds delimiters s undelimited_string p span reason = UndelimitedString delimiters s p span reason
Holds delimiters s unexpected_token p span reason = UnexpectedToken delimiters s p span reason
Holds delimiters s unexpected_eof p span reason = UnexpectedEof delimiters s p span reason
Holds delimiters s empty_comment p span reason = EmptyComment delimiters s p span reason
Holds delimiters s comment_eof p span reason = CommentEof delimiters s p span reason
Holds delimiters s wrong_number p span reason = WrongNumber delimiters s p span reason
Holds delimiters s wrong_index p span reason = WrongIndex delimiters s p span reason
Holds delimiters s wrong_escape p span reason = WrongEscape delimiters s p span reason
Holds delimiters s unexpected_block p span reason = UnexpectedBlock delimiters s p span reason
Holds delimiters s unclosed_block p span reason = UnclosedBlock delimiters s p span reason

-- the fault is before another one, or at its point with a lesser rank, or is of the same point and row
abbrev pub NotAfter : SyntaxFault → ℕ → SyntaxFault → ℕ → Type 0
NotAfter fault p other q = (p < q) ⊎ ((p ≡ q) × (fault_rank fault ≤ fault_rank other))

-- the text's first fault, with its span and its reason
pub record IsFirstFault (delimiters : List DelimiterText) (s : List ℕ) (span : Span) (reason : List ℕ) : Type 0 where
  pub fault : SyntaxFault
  pub point : ℕ
  pub holds : Holds delimiters s fault point span reason
  pub first : (other : SyntaxFault) (q : ℕ) (its_span : Span) (its_reason : List ℕ)
      → Holds delimiters s other q its_span its_reason → NotAfter fault point other q
