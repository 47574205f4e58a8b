-- Texts that are made piece by piece, up to a number of bytes.
use Rattle.std.proofs.Common.{◌≡◌, ℕ, ◌<◌, ◌≤◌, Bool, true, false, cond, List, [], ◌∷◌, ◌++◌, Some, None, length, ap, sym, ◌∙◌, append_assoc, arith}
use Rattle.std.specs.Prelude.{nat_le}
use Rattle.std.proofs.lemmas.Bool.Decides.{nat_tests}
use Rattle.std.proofs.lemmas.List.{append-nil, length-append}
use Rattle.upon_std.specs.Basic.Parts.{most_bytes}
use Rattle.upon_std.specs.Cutting.Pieces.{limited, Appends, put_together, line_after, indented_lines}

-- a text with no more bytes is not refused
pub limited_some : (made whole : List ℕ) → length made ≤ most_bytes → made ≡ whole → Some made ≡ limited whole
limited_some made whole within same =
    let fits : nat_le (length made) most_bytes ≡ true = grind (arith, nat_tests) in
    sym (ap (λ b. cond b (Some made) None) fits) ∙ ap limited same

-- one with more is
pub limited_none : (whole : List ℕ) → most_bytes < length whole → None ≡ limited whole
limited_none whole long =
    let fits : nat_le (length whole) most_bytes ≡ false = grind (arith, nat_tests) in
    sym (ap (λ b. cond b (Some whole) None) fits)

-- what was appended is moved over from what is left
pub moved : (pushed : Bool) (old new added rest whole : List ℕ) → pushed ≡ true → Appends pushed old new added → old ++ (added ++ rest) ≡ whole
    → (length new ≤ most_bytes) × (new ++ rest ≡ whole)
moved true old new added rest whole is appends so_far = (appends.1, ap (λ t. t ++ rest) appends.0 ∙ append_assoc old added rest ∙ so_far)
moved false old new added rest whole is appends so_far = cc

-- what cannot be appended makes the whole too long
pub too_long : (pushed : Bool) (old new added rest whole : List ℕ) → pushed ≡ false → Appends pushed old new added → old ++ (added ++ rest) ≡ whole
    → None ≡ limited whole
too_long true old new added rest whole is appends so_far = cc
too_long false old new added rest whole is appends so_far =
    limited_none whole (omega (arith, length-append (old ++ added) rest, ap length (append_assoc old added rest ∙ so_far)))

-- where nothing is left, what is made is the whole
pub all_made : (made rest whole : List ℕ) → length made ≤ most_bytes → rest ≡ [] → made ++ rest ≡ whole → Some made ≡ limited whole
all_made made rest whole within none so_far = limited_some made whole within (sym (append-nil made) ∙ ap (λ t. made ++ t) (sym none) ∙ so_far)

-- a piece with what stands before it, and then the others
pub next_piece : (made before between piece whole : List ℕ) (left pieces : List (List ℕ)) → left ≡ piece ∷ pieces → made ++ put_together before between left ≡ whole
    → made ++ ((before ++ piece) ++ put_together between between pieces) ≡ whole
next_piece made before between piece whole left pieces are so_far =
    ap (λ t. made ++ t) (append_assoc before piece (put_together between between pieces)) ∙ ap (λ ps. made ++ put_together before between ps) (sym are) ∙ so_far

-- a line with what stands before it, and then the others
pub next_line : (made : List ℕ) (is_first : Bool) (width : ℕ) (line whole : List ℕ) (left lines : List (List ℕ)) → left ≡ line ∷ lines
    → made ++ indented_lines is_first width left ≡ whole → made ++ (line_after is_first width line ++ indented_lines false width lines) ≡ whole
next_line made is_first width line whole left lines are so_far = ap (λ ls. made ++ indented_lines is_first width ls) (sym are) ∙ so_far
