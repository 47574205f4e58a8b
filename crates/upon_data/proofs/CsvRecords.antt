-- The records of a text of CSV, as far as they were read, and that the records of a text are text.
use Rattle.std.proofs.Common.{◌≡◌, ℕ, zero, suc, ◌<◌, ◌+◌, List, [], ◌∷◌, ◌++◌, length, take, drop, get_or, Bool, true, false, ◌==◌, ◌||◌, ◌&&◌, ◌⊎◌, inl, inr, Some, None, refl, sym, ap, subst, ◌∙◌, arith, add-one, append_assoc, length-append}
use Rattle.std.proofs.lemmas.Bool.{and_parts, cases_Bool, eqb-true}
use Rattle.std.proofs.lemmas.List.{append-nil}
use Rattle.std.proofs.lemmas.Str.{IsUtf8-nil, IsUtf8-append, IsUtf8-take, IsUtf8-drop, IsCharBoundary-before_ascii, IsCharBoundary-after_ascii, IsUtf8-past_char}
use Rattle.std.specs.Char.{encode_utf8 as encode}
use Rattle.std.specs.Prelude.{IsUtf8, if◌then◌else◌}
use Rattle.csv.specs.Machine.{Read, next_record, step, in_field, start_field, start_record, is_end, fields_after, field_after, ends_at_end}
use Rattle.csv.specs.Reading.{Reached, default_config, records_from, strip_bom, is_bom}
use Rattle.csv.specs.Records.{AllText}
use Rattle.csv.specs.declared.parser.Config.{Config}
use Rattle.csv.specs.declared.parser.State.{State}
use Rattle.csv.specs.declared.parser.State.TheVariants as st
use Rattle.csv.specs.declared.parser.Action.{Action}
use Rattle.csv.specs.declared.parser.Action.TheVariants as act

abbrev Text : Type 0
Text = List ℕ

-- ---- what a read leaves
-- less of the text, or nothing at all
abbrev IsLess : State → Text → Text → Type 0
IsLess s rest xs = (length rest < length xs) ⊎ ((s ≡ st.StartRecord) × (rest ≡ []))

same_read : (p q : Read) → Some p ≡ Some q → p ≡ q
same_read p q e = cc e

at_end : (b : Bool) (row : List Text) (p : Read) → (if b then Some (row, st.StartRecord, []) else None) ≡ Some p → (p.1 ≡ st.StartRecord) × (p.2 ≡ [])
at_end true row p e = let same = same_read _ p e in (ap (λ q. q.1) (sym same), ap (λ q. q.2) (sym same))
at_end false row p e = absurd (cc e)

next_less : (cfg : Config) (xs : Text) (s : State) (fields : List Text) (field : Text) (p : Read) → next_record cfg s fields field xs ≡ Some p → IsLess p.1 p.2 xs
unfolding next_record
next_less cfg [] s fields field p e = inr (at_end (ends_at_end s) _ p e)
next_less cfg (c ∷ rest) s fields field p e = elim (cases_Bool (is_end (step cfg s c).1)) [
  | inl ends ↦ let same = same_read _ p (rw ends at e) in inl (rw (← same) (omega arith))
  | inr goes ↦ elim (next_less cfg rest _ _ _ p (rw goes at e)) [
    | inl less ↦ inl (omega (arith, less))
    | inr nothing ↦ inr nothing
  ]
]

-- so many turns are enough for the records of a text
abbrev pub IsEnough : ℕ → State → Text → Type 0
IsEnough n s xs = (length xs < n) ⊎ ((s ≡ st.StartRecord) × (xs ≡ []))

none_at_end : (cfg : Config) (s : State) (xs : Text) → (s ≡ st.StartRecord) × (xs ≡ []) → next_record cfg s [] [] xs ≡ None
unfolding next_record
none_at_end cfg s xs at = rw (at.0, at.1) refl

enough_left : (n : ℕ) (s : State) (rest xs : Text) → length xs < suc n → IsLess s rest xs → IsEnough n s rest
enough_left n s rest xs more less = elim less [ inl shorter ↦ inl (omega (arith, shorter, more)) | inr nothing ↦ inr nothing ]

-- as many records as were read are those that a text begins with
pub reached_records : (cfg : Config) (rows : List (List Text)) (n : ℕ) (s s2 : State) (xs ys : Text) → Reached cfg s xs rows s2 ys → IsEnough n s xs
    → (m : ℕ) × (records_from cfg n s xs ≡ rows ++ records_from cfg m s2 ys)
unfolding Reached records_from
reached_records cfg [] n s s2 xs ys at enough = (n, rw (at.0, at.1) refl)
reached_records cfg (r ∷ rows) zero s s2 xs ys at enough = elim enough [
  | inl more ↦ absurd (omega (arith, more))
  | inr end ↦ absurd (cc (none_at_end cfg s xs end, at.1))
]
reached_records cfg (r ∷ rows) (suc n) s s2 xs ys at enough = elim enough [
  | inl more ↦
      let p = at.0 in
      let rest = reached_records cfg rows n p.1 s2 p.2 ys at.3 (enough_left n p.1 p.2 xs more (next_less cfg xs s [] [] p at.1)) in
      (rest.0, rw at.1 (ap (λ (row : List Text). row ∷ records_from cfg n p.1 p.2) (sym at.2) ∙ ap (λ more. r ∷ more) rest.1))
  | inr end ↦ absurd (cc (none_at_end cfg s xs end, at.1))
]

-- no more are read
pub no_records : (cfg : Config) (m : ℕ) (s : State) (xs : Text) → next_record cfg s [] [] xs ≡ None → records_from cfg m s xs ≡ []
unfolding records_from
no_records cfg zero s xs none = refl
no_records cfg (suc m) s xs none = rw none refl

-- ---- the fields of a text are text
-- no comment, which the default reader never has
abbrev pub is_plain : State → Bool
is_plain st.StartRecord = true
is_plain st.StartField = true
is_plain st.InField = true
is_plain st.InQuoted = true
is_plain st.AfterQuote = true
is_plain st.InEscape = true
is_plain st.InComment = false
is_plain st.AfterCr = true

-- a byte joins its field, or is ASCII
abbrev IsStep : ℕ → State × Action → Type 0
IsStep c next = (is_plain next.0 ≡ true) × ((next.1 ≡ act.Copy) ⊎ (c < 128))

ascii_of : (c n : ℕ) → n < 128 → (c == n) ≡ true → c < 128
ascii_of c n less is = omega (arith, less, eqb-true c n is)

newline_of : (c : ℕ) → ((c == 13) || (c == 10)) ≡ true → c < 128
newline_of c is = elim (cases_Bool (c == 13)) [
  | inl first ↦ ascii_of c 13 (omega arith) first
  | inr other ↦ ascii_of c 10 (omega arith) (rw other at is)
]

chosen : (c : ℕ) (b : Bool) (x y : State × Action) → (b ≡ true → IsStep c x) → IsStep c y → IsStep c (if b then x else y)
chosen c true x y first other = first refl
chosen c false x y first other = other

after_newline : (c : ℕ) (b : Bool) → c < 128 → IsStep c ((if b then st.AfterCr else st.StartRecord), act.EndRecord)
after_newline c true ascii = (refl, inr ascii)
after_newline c false ascii = (refl, inr ascii)

step_in_field : (c : ℕ) → IsStep c (in_field default_config c)
step_in_field c = chosen c (c == 44) _ _ (λ is. (refl, inr (ascii_of c 44 (omega arith) is)))
    (chosen c ((c == 13) || (c == 10)) _ _ (λ is. after_newline c (c == 13) (newline_of c is)) (refl, inl refl))

step_start_field : (c : ℕ) → IsStep c (start_field default_config c)
step_start_field c = chosen c (c == 34) _ _ (λ is. (refl, inr (ascii_of c 34 (omega arith) is))) (step_in_field c)

step_start_record : (c : ℕ) → IsStep c (start_record default_config c)
step_start_record c = chosen c ((c == 13) || (c == 10)) _ _ (λ is. (refl, inr (newline_of c is))) (step_start_field c)

each_step : (s : State) (c : ℕ) → is_plain s ≡ true → IsStep c (step default_config s c)
each_step st.StartRecord c plain = step_start_record c
each_step st.StartField c plain = step_start_field c
each_step st.InField c plain = step_in_field c
each_step st.InQuoted c plain = chosen c (c == 34) _ _ (λ is. (refl, inr (ascii_of c 34 (omega arith) is))) (refl, inl refl)
each_step st.AfterQuote c plain = chosen c (c == 34) _ _ (λ is. (refl, inl refl)) (step_in_field c)
each_step st.InEscape c plain = (refl, inl refl)
each_step st.InComment c plain = absurd (cc plain)
each_step st.AfterCr c plain = chosen c (c == 10) _ _ (λ is. (refl, inr (ascii_of c 10 (omega arith) is))) (step_start_record c)

-- what stands on either side of an ASCII byte
get_middle : (front rest : Text) (c : ℕ) → get_or (front ++ c ∷ rest) (length front) 0 ≡ c
get_middle [] rest c = refl
get_middle (x ∷ front) rest c = get_middle front rest c

take_front : (front rest : Text) → take (length front) (front ++ rest) ≡ front
take_front [] rest = refl
take_front (x ∷ front) rest = ap (λ more. x ∷ more) (take_front front rest)

drop_front : (front rest : Text) (c : ℕ) → drop (suc (length front)) (front ++ c ∷ rest) ≡ rest
drop_front [] rest c = refl
drop_front (x ∷ front) rest c = drop_front front rest c

at_ascii : (front rest : Text) (c : ℕ) → c < 128 → IsUtf8 (front ++ c ∷ rest) → IsUtf8 front × IsUtf8 rest
at_ascii front rest c ascii text =
    let whole = front ++ c ∷ rest in
    let inside : length front < length whole = simp length-append (omega arith) in
    let byte : get_or whole (length front) 0 < 128 = rw (get_middle front rest c) ascii in (
      subst IsUtf8 (take_front front (c ∷ rest)) (IsUtf8-take whole (length front) text (IsCharBoundary-before_ascii whole (length front) inside byte)),
      subst IsUtf8 (ap (λ n. drop n whole) (add-one (length front)) ∙ drop_front front rest c) (IsUtf8-drop whole (length front + 1) text (IsCharBoundary-after_ascii whole (length front) text inside byte)),
    )

all_text_more : (fields : List Text) (field : Text) → AllText fields → IsUtf8 field → AllText (fields ++ field ∷ [])
unfolding AllText
all_text_more [] field all text = (text, tt)
all_text_more (f ∷ fields) field all text = (all.0, all_text_more fields field all.1 text)

-- no field
no_fields : AllText []
unfolding AllText
no_fields = tt

ends_at_ascii : (a : Action) (c : ℕ) → is_end a ≡ true → (a ≡ act.Copy) ⊎ (c < 128) → c < 128
ends_at_ascii act.EndRecord c ends at = elim at [ inl copy ↦ absurd (cc copy) | inr ascii ↦ ascii ]
ends_at_ascii act.Skip c ends at = absurd (cc ends)
ends_at_ascii act.Copy c ends at = absurd (cc ends)
ends_at_ascii act.EndField c ends at = absurd (cc ends)

text_after : (a : Action) (c : ℕ) (fields : List Text) (field rest : Text) → (a ≡ act.Copy) ⊎ (c < 128) → AllText fields → IsUtf8 (field ++ c ∷ rest)
    → AllText (fields_after a fields field) × IsUtf8 (field_after a c field ++ rest)
text_after act.Copy c fields field rest at all text = (all, subst IsUtf8 (sym (append_assoc field (c ∷ []) rest)) text)
text_after act.Skip c fields field rest at all text = elim at [
  | inl copy ↦ absurd (cc copy)
  | inr ascii ↦ let sides = at_ascii field rest c ascii text in (all, IsUtf8-append field rest sides.0 sides.1)
]
text_after act.EndField c fields field rest at all text = elim at [
  | inl copy ↦ absurd (cc copy)
  | inr ascii ↦ let sides = at_ascii field rest c ascii text in (all_text_more fields field all sides.0, sides.1)
]
text_after act.EndRecord c fields field rest at all text = elim at [
  | inl copy ↦ absurd (cc copy)
  | inr ascii ↦ let sides = at_ascii field rest c ascii text in (all_text_more fields field all sides.0, sides.1)
]

-- a record of text, and text after it
abbrev IsTextRead : Read → Type 0
IsTextRead p = AllText p.0 × (is_plain p.1 ≡ true) × IsUtf8 p.2

text_at_end : (b : Bool) (row : List Text) (p : Read) → AllText row → (if b then Some (row, st.StartRecord, []) else None) ≡ Some p → IsTextRead p
text_at_end true row p all e = subst IsTextRead (same_read _ p e) (all, refl, IsUtf8-nil)
text_at_end false row p all e = absurd (cc e)

next_text : (xs : Text) (s : State) (fields : List Text) (field : Text) (p : Read) → is_plain s ≡ true → AllText fields → IsUtf8 (field ++ xs)
    → next_record default_config s fields field xs ≡ Some p → IsTextRead p
unfolding next_record
next_text [] s fields field p plain all text e =
    text_at_end (ends_at_end s) (fields ++ field ∷ []) p (all_text_more fields field all (subst IsUtf8 (append-nil field) text)) e
next_text (c ∷ rest) s fields field p plain all text e =
    let one = each_step s c plain in
    let next = text_after (step default_config s c).1 c fields field rest one.1 all text in
    elim (cases_Bool (is_end (step default_config s c).1)) [
      | inl ends ↦
          let sides = at_ascii field rest c (ends_at_ascii (step default_config s c).1 c ends one.1) text in
          subst IsTextRead (same_read _ p (rw ends at e)) (next.0, one.0, sides.1)
      | inr goes ↦ next_text rest _ _ _ p one.0 next.0 next.1 (rw goes at e)
    ]

-- what was read of a text leaves text
pub reached_text : (rows : List (List Text)) (s s2 : State) (xs ys : Text) → Reached default_config s xs rows s2 ys → is_plain s ≡ true → IsUtf8 xs → (is_plain s2 ≡ true) × IsUtf8 ys
unfolding Reached
reached_text [] s s2 xs ys at plain text = (ap is_plain (sym at.0) ∙ plain, subst IsUtf8 at.1 text)
reached_text (r ∷ rows) s s2 xs ys at plain text =
    let p = at.0 in
    let here = next_text xs s [] [] p plain no_fields text at.1 in
    reached_text rows p.1 s2 p.2 ys at.3 here.1 here.2

-- a record of a text has text
pub record_text : (s : State) (xs : Text) (p : Read) → is_plain s ≡ true → IsUtf8 xs → next_record default_config s [] [] xs ≡ Some p → AllText p.0
record_text s xs p plain text e = (next_text xs s [] [] p plain no_fields text e).0

marked : (a b c : ℕ) (rest : Text) → is_bom a b c ≡ true → a ∷ b ∷ c ∷ rest ≡ encode 0xFEFF ++ rest
unfolding encode
marked a b c rest is =
    let last = and_parts ((a == 0xEF) && (b == 0xBB)) (c == 0xBF) is in
    let others = and_parts (a == 0xEF) (b == 0xBB) last.0 in
    rw (eqb-true a 0xEF others.0, eqb-true b 0xBB others.1, eqb-true c 0xBF last.1) refl

-- a text without its mark
pub strip_text : (xs : Text) → IsUtf8 xs → IsUtf8 (strip_bom xs)
unfolding strip_bom
strip_text [] text = text
strip_text (a ∷ []) text = text
strip_text (a ∷ b ∷ []) text = text
strip_text (a ∷ b ∷ c ∷ rest) text = elim (cases_Bool (is_bom a b c)) [
  | inl mark ↦ rw mark (IsUtf8-past_char (a ∷ b ∷ c ∷ rest) rest 0xFEFF text (marked a b c rest mark))
  | inr none ↦ rw none text
]
