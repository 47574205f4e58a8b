-- The names of characters that definitions speak of, by their codes.
use Rattle.std.specs.Prelude.{ℕ}

-- a horizontal tab
abbrev pub tab : ℕ
tab = 9

-- a line feed
abbrev pub line_feed : ℕ
line_feed = 10

-- a carriage return
abbrev pub carriage_return : ℕ
carriage_return = 13

-- a space
abbrev pub space : ℕ
space = 32

-- `"`
abbrev pub quote : ℕ
quote = 34

-- `(`
abbrev pub open_paren : ℕ
open_paren = 40

-- `)`
abbrev pub close_paren : ℕ
close_paren = 41

-- `+`
abbrev pub plus : ℕ
plus = 43

-- `,`
abbrev pub comma : ℕ
comma = 44

-- `-`
abbrev pub hyphen : ℕ
hyphen = 45

-- `.`
abbrev pub dot : ℕ
dot = 46

-- `0`
abbrev pub digit_zero : ℕ
digit_zero = 48

-- `:`
abbrev pub colon : ℕ
colon = 58

-- `=`
abbrev pub equals_sign : ℕ
equals_sign = 61

-- `?`
abbrev pub question_mark : ℕ
question_mark = 63

-- `[`
abbrev pub open_bracket : ℕ
open_bracket = 91

-- `\`
abbrev pub backslash : ℕ
backslash = 92

-- `]`
abbrev pub close_bracket : ℕ
close_bracket = 93

-- `^`
abbrev pub caret : ℕ
caret = 94

-- `_`
abbrev pub underscore : ℕ
underscore = 95

-- `b`
abbrev pub letter_b : ℕ
letter_b = 98

-- `n`
abbrev pub letter_n : ℕ
letter_n = 110

-- `o`
abbrev pub letter_o : ℕ
letter_o = 111

-- `r`
abbrev pub letter_r : ℕ
letter_r = 114

-- `t`
abbrev pub letter_t : ℕ
letter_t = 116

-- `x`
abbrev pub letter_x : ℕ
letter_x = 120

-- `{`
abbrev pub open_brace : ℕ
open_brace = 123

-- `|`
abbrev pub bar : ℕ
bar = 124

-- `}`
abbrev pub close_brace : ℕ
close_brace = 125
