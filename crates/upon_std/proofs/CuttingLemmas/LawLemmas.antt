-- The laws: texts that are taken apart and put together again, and lengths of lists.
use Rattle.std.proofs.Common.{◌≡◌, ℕ, zero, suc, ◌+◌, ◌-◌, ◌<◌, Bool, true, false, cond, List, [], ◌∷◌, ◌++◌, Ok, length, map, drop, refl, ap, sym, ◌∙◌, append_assoc, arith}
use Rattle.std.specs.Prelude.{nat_eq}
use Rattle.std.specs.List.{starts_with, onto_first}
use Rattle.std.proofs.lemmas.List.{take_all, length-append}
use Rattle.upon_types.specs.Val.{text_val, Vals}
use Rattle.upon_types.specs.View.{vals_of}
use Rattle.upon_std.specs.Basic.Items.{vals_in_list}
use Rattle.upon_std.specs.Basic.Joined.{joined_from, prefixed}
use Rattle.upon_std.specs.Cutting.Items.{concatenated, sliced}
use Rattle.upon_std.specs.Cutting.Pieces.{pieces_after, pieces, put_together, replaced}
use Rattle.upon_std.proofs.CuttingLemmas.Items.{val_list-vals_of, vals_of-val_list}
use Rattle.upon_std.proofs.CuttingLemmas.Pieces.{front}

onto_some : (c : ℕ) (ps : List (List ℕ)) → 0 < length (onto_first c ps)
onto_some c [] = omega arith
onto_some c (p ∷ ps) = omega arith

-- there is a part
by_test_some : (b : Bool) (c : ℕ) (found others : List (List ℕ)) → 0 < length (cond b ([] ∷ found) (onto_first c others))
by_test_some true c found others = omega arith
by_test_some false c found others = onto_some c others

some_pieces : (k : ℕ) (separator text : List ℕ) → 0 < length (pieces_after k separator text)
some_pieces k separator [] = omega arith
some_pieces zero separator (c ∷ cs) = by_test_some (starts_with nat_eq (c ∷ cs) separator) c _ _
some_pieces (suc k) separator (c ∷ cs) = some_pieces k separator cs

-- what stands before the first part
put_before : (before between : List ℕ) (ps : List (List ℕ)) → 0 < length ps → put_together before between ps ≡ before ++ put_together [] between ps
put_before before between [] some = absurd (omega arith)
put_before before between (p ∷ ps) some = refl

put_onto : (between : List ℕ) (c : ℕ) (ps : List (List ℕ)) → 0 < length ps → put_together [] between (onto_first c ps) ≡ c ∷ put_together [] between ps
put_onto between c [] some = absurd (omega arith)
put_onto between c (p ∷ ps) some = refl

-- the parts of a text from a byte on, whether a separator begins there or not, give it back
from_byte : (separator : List ℕ) (c : ℕ) (cs : List ℕ) (found others : List (List ℕ)) → 0 < length separator → 0 < length found → 0 < length others
    → put_together [] separator found ≡ drop (length separator - 1) cs → put_together [] separator others ≡ cs
    → (b : Bool) → starts_with nat_eq (c ∷ cs) separator ≡ b → put_together [] separator (cond b ([] ∷ found) (onto_first c others)) ≡ c ∷ cs
from_byte separator c cs found others some some_found some_others of_found of_others true is =
    let more : length separator ≡ suc (length separator - 1) = omega arith in
    put_before separator separator found some_found ∙ ap (λ t. separator ++ t) of_found
    ∙ sym (front (c ∷ cs) separator is ∙ ap (λ n. separator ++ drop n (c ∷ cs)) more)
from_byte separator c cs found others some some_found some_others of_found of_others false is =
    put_onto separator c others some_others ∙ ap (λ t. c ∷ t) of_others

-- put together with their separator, the parts are what was not yet passed
given_back : (k : ℕ) (separator text : List ℕ) → 0 < length separator → put_together [] separator (pieces_after k separator text) ≡ drop k text
given_back zero separator [] some = refl
given_back (suc k) separator [] some = refl
given_back zero separator (c ∷ cs) some =
    from_byte separator c cs (pieces_after (length separator - 1) separator cs) (pieces_after zero separator cs) some
    (some_pieces (length separator - 1) separator cs) (some_pieces zero separator cs)
    (given_back (length separator - 1) separator cs some) (given_back zero separator cs some) (starts_with nat_eq (c ∷ cs) separator) refl
given_back (suc k) separator (c ∷ cs) some = given_back k separator cs some

-- a text with the same in place of each that is found is as it was
pub replaced-same : (from text : List ℕ) → 0 < length from → replaced from from text ≡ text
replaced-same from text some = given_back 0 from text some

-- texts are joined as parts are put together
joined_pieces : (before separator : List ℕ) (ps : List (List ℕ)) → joined_from before separator (map text_val ps) ≡ Ok (put_together before separator ps)
joined_pieces before separator [] = refl
joined_pieces before separator (p ∷ ps) =
    ap (prefixed (before ++ p)) (joined_pieces separator separator ps) ∙ ap Ok (append_assoc before p (put_together separator separator ps))

-- the parts, joined by their separator, are the text
pub joined-split : (separator text : List ℕ) → 0 < length separator → joined_from [] separator (map text_val (pieces separator text)) ≡ Ok text
joined-split separator text some = joined_pieces [] separator (pieces separator text) ∙ ap Ok (given_back 0 separator text some)

-- a list has as many items as both that it is made of
pub length-concatenated : (vs ws : Vals) → length (vals_in_list (concatenated vs ws)) ≡ length (vals_in_list vs) + length (vals_in_list ws)
length-concatenated vs ws = ap length (val_list-vals_of (vals_in_list vs ++ vals_in_list ws)) ∙ length-append (vals_in_list vs) (vals_in_list ws)

-- cut at its ends a list is as it was
pub sliced-all : (vs : Vals) → sliced 0 (length (vals_in_list vs)) vs ≡ vs
sliced-all vs = ap vals_of (take_all (length (vals_in_list vs)) (vals_in_list vs) (omega arith)) ∙ vals_of-val_list vs
