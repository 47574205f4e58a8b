-- The texts of pictures, one after the other.
use Rattle.std.proofs.Common.{◌≡◌, ◌∙◌, ℕ, List, [], ◌∷◌, ◌++◌, ◌-◌, append_assoc, append-nil, map, Option, Some, None, codes, refl, sym, ap, subst}
use Rattle.std.specs.List.{flat_map}
use Rattle.std.proofs.lemmas.List.{flat_map_more}
use Rattle.upon_types.specs.Fault.{Fault, Kind, syntax, serialize, render, function, format, io, memory, kind_text, reason_text}
use Rattle.upon_types.specs.Picture.{Picture}
use Rattle.upon_types.specs.Pretty.{blanks, margin, marks, name_or_anonymous, picture_lines, pretty, pretty_by, pretty_with_picture}
use Rattle.upon_shape_check.specs.Pictures.{with_picture}
use Rattle.upon_calls.specs.Pictures.{pictures_text, with_pictures}

-- ---- each text has a byte
abbrev pub EachSome : List (List ℕ) → Type 0
EachSome [] = Unit {0}
EachSome (p ∷ ps) = (p ≡ [] → ⊥) × EachSome ps

some_append : (p rest : List ℕ) → (p ≡ [] → ⊥) → p ++ rest ≡ [] → ⊥
some_append [] rest some is = some refl
some_append (b ∷ bs) rest some is = absurd cc

pub both_some : (ps qs : List (List ℕ)) → EachSome ps → EachSome qs → EachSome (ps ++ qs)
both_some [] qs each later = later
both_some (p ∷ ps) qs each later = (each.0, both_some ps qs each.1 later)

pub mapped_some : {X : Type 0} (f : X → List ℕ) (xs : List X) → ((x : X) → f x ≡ [] → ⊥) → EachSome (map f xs)
mapped_some f [] some = tt
mapped_some f (x ∷ xs) some = (some x, mapped_some f xs some)

-- ---- the picture of a fault has a byte
abbrev BeginsWithAByte : List ℕ → Type 0
BeginsWithAByte text = (b : ℕ) × (bs : List ℕ) × (text ≡ b ∷ bs)

kind_begins : (kind : Kind) → BeginsWithAByte (kind_text kind)
kind_begins syntax = (_, _, refl)
kind_begins serialize = (_, _, refl)
kind_begins render = (_, _, refl)
kind_begins function = (_, _, refl)
kind_begins format = (_, _, refl)
kind_begins io = (_, _, refl)
kind_begins memory = (_, _, refl)

some_line : (kind : Kind) (reason : Option (List ℕ)) → kind_text kind ++ reason_text reason ≡ [] → ⊥
some_line kind reason is =
    let begins = kind_begins kind in
    let none : (begins.0 ∷ begins.1) ++ reason_text reason ≡ [] = ap (λ text. text ++ reason_text reason) (sym begins.2) ∙ is in absurd cc

some_lines : (b : ℕ) (bs name reason : List ℕ) (number column : ℕ) (line margin marks : List ℕ) → picture_lines (b ∷ bs) name reason number column line margin marks ≡ [] → ⊥
some_lines b bs name reason number column line margin marks is = absurd cc

some_picture : (kind : Kind) (name : Option (List ℕ)) (reason : List ℕ) (p : Picture) → pretty_with_picture kind name reason p ≡ [] → ⊥
some_picture kind name reason p is =
    let begins = kind_begins kind in
    some_lines begins.0 begins.1 (name_or_anonymous name) reason p.number p.column p.line (margin p.number) (blanks (p.column - 1) ++ marks p.width)
    (subst (λ kind. picture_lines kind (name_or_anonymous name) reason p.number p.column p.line (margin p.number) (blanks (p.column - 1) ++ marks p.width) ≡ []) begins.2 is)

some_by : (fault : Fault) (reason : Option (List ℕ)) (picture : Option Picture) → pretty_by fault reason picture ≡ [] → ⊥
some_by fault None picture is = some_line fault.kind fault.reason is
some_by fault (Some reason) None is = some_line fault.kind fault.reason is
some_by fault (Some reason) (Some p) is = some_picture fault.kind fault.name reason p is

pub some_pretty : (fault : Fault) → pretty fault ≡ [] → ⊥
some_pretty fault is = some_by fault fault.reason fault.picture is

-- ---- one after the other
pub with_pictures-append : (text : List ℕ) (ps qs : List (List ℕ)) → with_pictures text (ps ++ qs) ≡ with_pictures (with_pictures text ps) qs
with_pictures-append text [] qs = refl
with_pictures-append text (p ∷ ps) qs = with_pictures-append (with_picture text p) ps qs

after_some : (text p : List ℕ) → (text ≡ [] → ⊥) → with_picture text p ≡ text ++ (codes "\n" ++ p)
after_some [] p some = absurd (some refl)
after_some (b ∷ bs) p some = refl

after_first : (p : List ℕ) (done ps : List (List ℕ)) → (p ≡ [] → ⊥) → with_pictures (pictures_text (p ∷ done)) ps ≡ pictures_text (p ∷ (done ++ ps))
after_first p done [] some = ap (λ ps. pictures_text (p ∷ ps)) (sym (append-nil done))
after_first p done (q ∷ qs) some =
    ap (λ text. with_pictures text qs) (
    after_some (pictures_text (p ∷ done)) q (some_append p (flat_map (λ later. codes "\n" ++ later) done) some)
    ∙ flat_map_more (λ later. codes "\n" ++ later) p done q)
    ∙ after_first p (done ++ q ∷ []) qs some
    ∙ ap (λ ps. pictures_text (p ∷ ps)) (append_assoc done (q ∷ []) qs)

-- pictures that were put after nothing
pub text_of : (ps : List (List ℕ)) → EachSome ps → with_pictures [] ps ≡ pictures_text ps
text_of [] each = refl
text_of (p ∷ ps) each = ap (λ text. with_pictures text ps) (sym (append-nil p)) ∙ after_first p [] ps each.0

pub some_text : (ps : List (List ℕ)) → EachSome ps → (ps ≡ [] → ⊥) → pictures_text ps ≡ [] → ⊥
some_text [] each some is = some refl
some_text (p ∷ ps) each some is = some_append p (flat_map (λ later. codes "\n" ++ later) ps) each.0 is

-- a text that is put after another
pub put_first : (old new p : List ℕ) → old ≡ [] → new ≡ old ++ p → new ≡ with_picture old p
put_first old new p none put = put ∙ ap (λ text. text ++ p) none ∙ ap (λ text. with_picture text p) (sym none)

pub put_after : (old between new p : List ℕ) → (old ≡ [] → ⊥) → between ≡ old ++ codes "\n" → new ≡ between ++ p → new ≡ with_picture old p
put_after old between new p some line put =
    put ∙ ap (λ text. text ++ p) line ∙ append_assoc old (codes "\n") p ∙ sym (after_some old p some)
