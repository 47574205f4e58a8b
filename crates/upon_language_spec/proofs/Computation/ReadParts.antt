-- Reading the parts of an expression that hold no expression: paths, literals and brackets.
use Rattle.std.proofs.Common.{◌≡◌, ◌⊎◌, inl, inr, ℕ, ◌==◌, ◌&&◌, ℤ, List, [], ◌∷◌, Bool, true, false, Some, None, ap, codes}
use Rattle.upon_types.specs.declared.types.Span.{Span}
use Rattle.upon_types.specs.declared.types.token.Token.{Token}
use Rattle.upon_types.specs.declared.types.token.Token.TheVariants.{Comma, Index, Number}
use Rattle.upon_types.specs.declared.types.ast.path.AccessOp.{AccessOp}
use Rattle.upon_types.specs.declared.types.ast.path.AccessOp.TheVariants.{Direct, Optional}
use Rattle.upon_types.specs.Span.{slice}
use Rattle.upon_types.specs.Val.{Val, none_val, bool_val, int_val, text_val, list_val, map_val}
use Rattle.upon_types.specs.Path.{Access, by_index, by_key, Member, access_span}
use Rattle.upon_language_spec.specs.Cut.{Lexeme}
use Rattle.upon_language_spec.specs.Tokens.{from_to}
use Rattle.upon_language_spec.specs.Expressions.{op_token, sign_token, IsAccess, IsMember, IsBareName, AreMembers, IsUnsigned, IsSigned, IsLiteral, Opens, Closes, ClosesList}
use Rattle.upon_language_spec.proofs.Computation.Tests.{left_true, right_true}
use Rattle.upon_language_spec.proofs.Computation.Tests.{same_number}
use Rattle.upon_language_spec.proofs.Computation.LiteralTests.{integer_test, integer_tested, index_test, index_tested}
use Rattle.upon_language_spec.proofs.Computation.ReadTokens.{Left, then_read, when, or_read, both_read, read_when, one_read, first_span, same_span, one_span, read_by, read_at, goes_read, by_read, at_read, read_word, read_name, read_text, word_read, name_read, text_read}

-- names, indexes and steps
abbrev pub read_access : List ℕ → Access → List Lexeme → Left
read_access s (by_index i span) before = when (index_test (slice s span) i) (read_at Index span before)
read_access s (by_key name) before = read_name s name before

pub access_read : (s : List ℕ) (selector : Access) (before rest : List Lexeme) → read_access s selector before ≡ Some rest → IsAccess s selector before rest
access_read s (by_index i span) before rest h = let a = read_when _ (read_at Index span before) rest h in (at_read Index span before rest a.1, index_tested (slice s span) i a.0)
access_read s (by_key name) before rest h = name_read s name before rest h

abbrev pub read_step : List ℕ → Member → List Lexeme → Left
read_step s step before = when (same_span step.span (from_to (first_span before) (access_span step.access))) (then_read (read_by (op_token step.op) before) (read_access s step.access))

pub step_read : (s : List ℕ) (step : Member) (before rest : List Lexeme) → read_step s step before ≡ Some rest → IsMember s step before rest
step_read s step before rest h =
    let a = read_when _ (then_read (read_by (op_token step.op) before) (read_access s step.access)) rest h in
    let b = both_read (read_by (op_token step.op) before) (read_access s step.access) rest a.1 in
    (first_span before, b.0, goes_read _ before b.0 b.1, access_read s step.access b.0 rest b.2, one_span _ _ a.0)

abbrev pub read_bare_by : List ℕ → AccessOp → Access → Span → List Lexeme → Left
read_bare_by s Direct (by_key name) span before = when (same_span span name.span) (read_name s name before)
read_bare_by s _ _ span before = None

abbrev pub read_bare : List ℕ → Member → List Lexeme → Left
read_bare s step before = read_bare_by s step.op step.access step.span before

bare_read_by : (s : List ℕ) (op : AccessOp) (selector : Access) (span : Span) (before rest : List Lexeme) → read_bare_by s op selector span before ≡ Some rest → IsBareName s (record { op = op; access = selector; span = span }) before rest
bare_read_by s Direct (by_key name) span before rest h =
    let a = read_when (same_span span name.span) (read_name s name before) rest h in
    (name, name_read s name before rest a.1, ap (λ (x : Span). record { op = Direct; access = by_key name; span = x }) (one_span span name.span a.0))
bare_read_by s Direct (by_index i at) span before rest h = absurd cc
bare_read_by s Optional selector span before rest h = absurd cc

pub bare_read : (s : List ℕ) (step : Member) (before rest : List Lexeme) → read_bare s step before ≡ Some rest → IsBareName s step before rest
bare_read s step before rest h = bare_read_by s step.op step.access step.span before rest h

abbrev pub read_steps : List ℕ → List Member → List Lexeme → Left
read_steps s [] before = Some before
read_steps s (step ∷ steps) before = then_read (read_step s step before) (read_steps s steps)

pub steps_read : (s : List ℕ) (steps : List Member) (before rest : List Lexeme) → read_steps s steps before ≡ Some rest → AreMembers s steps before rest
steps_read s [] before rest h = cc
steps_read s (step ∷ steps) before rest h = let a = both_read (read_step s step before) (read_steps s steps) rest h in (a.0, step_read s step before a.0 a.1, steps_read s steps a.0 rest a.2)

-- literals
abbrev pub read_unsigned : List ℕ → ℤ → Span → List Lexeme → Left
read_unsigned s z span before = when (integer_test false (slice s span) z) (read_at Number span before)

abbrev pub signed_test : List ℕ → ℤ → Span → Bool → Span → Span → Bool
signed_test s z span minus sign number = same_span span (from_to sign number) && integer_test minus (slice s number) z

abbrev pub read_behind_sign : List ℕ → ℤ → Span → Bool → Span → List Lexeme → Left
read_behind_sign s z span minus sign mid = when (signed_test s z span minus sign (first_span mid)) (read_by Number mid)

abbrev pub read_signed_by : List ℕ → ℤ → Span → Bool → List Lexeme → Left
read_signed_by s z span minus before = then_read (read_by (sign_token minus) before) (read_behind_sign s z span minus (first_span before))

abbrev pub read_signed : List ℕ → ℤ → Span → List Lexeme → Left
read_signed s z span before = or_read (read_signed_by s z span true before) (read_signed_by s z span false before)

unsigned_read : (s : List ℕ) (z : ℤ) (span : Span) (before rest : List Lexeme) → read_unsigned s z span before ≡ Some rest → IsUnsigned s z span before rest
unsigned_read s z span before rest h = let a = read_when _ (read_at Number span before) rest h in (at_read Number span before rest a.1, integer_tested false (slice s span) z a.0)

signed_read_by : (s : List ℕ) (z : ℤ) (span : Span) (minus : Bool) (before rest : List Lexeme) → read_signed_by s z span minus before ≡ Some rest → IsSigned s z span before rest
signed_read_by s z span minus before rest h =
    let a = both_read (read_by (sign_token minus) before) (read_behind_sign s z span minus (first_span before)) rest h in
    let b = read_when (signed_test s z span minus (first_span before) (first_span a.0)) (read_by Number a.0) rest a.2 in
    (minus, first_span before, first_span a.0, a.0, goes_read _ before a.0 a.1, goes_read Number a.0 rest b.1, one_span _ _ (left_true _ _ b.0), integer_tested minus _ z (right_true _ _ b.0))

signed_read : (s : List ℕ) (z : ℤ) (span : Span) (before rest : List Lexeme) → read_signed s z span before ≡ Some rest → IsSigned s z span before rest
signed_read s z span before rest h = elim (one_read (read_signed_by s z span true before) (read_signed_by s z span false before) rest h) as (λ o. IsSigned s z span before rest) [
  | inl a ↦ signed_read_by s z span true before rest a
  | inr a ↦ signed_read_by s z span false before rest a
]

abbrev pub read_literal : List ℕ → Val → Span → List Lexeme → Left
read_literal s (bool_val true) span before = read_word s (codes "true") span before
read_literal s (bool_val false) span before = read_word s (codes "false") span before
read_literal s (int_val z) span before = or_read (read_unsigned s z span before) (read_signed s z span before)
read_literal s (text_val t) span before = read_text s (record { text = t; span = span }) before
read_literal s none_val span before = None
read_literal s (list_val vs) span before = None
read_literal s (map_val es) span before = None

pub literal_read : (s : List ℕ) (v : Val) (span : Span) (before rest : List Lexeme) → read_literal s v span before ≡ Some rest → IsLiteral s v span before rest
literal_read s (bool_val true) span before rest h = word_read s (codes "true") span before rest h
literal_read s (bool_val false) span before rest h = word_read s (codes "false") span before rest h
literal_read s (int_val z) span before rest h = elim (one_read (read_unsigned s z span before) (read_signed s z span before) rest h) as (λ o. IsUnsigned s z span before rest ⊎ IsSigned s z span before rest) [
  | inl a ↦ inl (unsigned_read s z span before rest a)
  | inr a ↦ inr (signed_read s z span before rest a)
]
literal_read s (text_val t) span before rest h = text_read s (record { text = t; span = span }) before rest h
literal_read s none_val span before rest h = absurd cc
literal_read s (list_val vs) span before rest h = absurd cc
literal_read s (map_val es) span before rest h = absurd cc

-- brackets
abbrev pub read_opens : Token → Span → List Lexeme → Left
read_opens t span before = when ((first_span before).m == span.m) (read_by t before)

abbrev pub read_closes : Token → Span → List Lexeme → Left
read_closes t span before = when ((first_span before).n == span.n) (read_by t before)

abbrev pub read_closes_list : Token → Span → List Lexeme → Left
read_closes_list t span before = or_read (read_closes t span before) (then_read (read_by Comma before) (read_closes t span))

pub opens_read : (t : Token) (span : Span) (before rest : List Lexeme) → read_opens t span before ≡ Some rest → Opens t span before rest
opens_read t span before rest h = let a = read_when _ (read_by t before) rest h in (first_span before, goes_read t before rest a.1, same_number _ _ a.0)

pub closes_read : (t : Token) (span : Span) (before rest : List Lexeme) → read_closes t span before ≡ Some rest → Closes t span before rest
closes_read t span before rest h = let a = read_when _ (read_by t before) rest h in (first_span before, goes_read t before rest a.1, same_number _ _ a.0)

pub closes_list_read : (t : Token) (span : Span) (before rest : List Lexeme) → read_closes_list t span before ≡ Some rest → ClosesList t span before rest
closes_list_read t span before rest h = elim (one_read (read_closes t span before) (then_read (read_by Comma before) (read_closes t span)) rest h) as (λ o. ClosesList t span before rest) [
  | inl a ↦ inl (closes_read t span before rest a)
  | inr a ↦ let b = both_read (read_by Comma before) (read_closes t span) rest a in inr (b.0, by_read Comma before b.0 b.1, closes_read t span b.0 rest b.2)
]
