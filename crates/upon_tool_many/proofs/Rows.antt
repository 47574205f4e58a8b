-- Rows of things that are done one after the other.
use Rattle.std.proofs.Common.{◌≡◌, ◌<◌, ◌≤◌, ◌+◌, ℕ, suc, List, [], ◌∷◌, ◌++◌, Bool, true, false, length, get_or, refl, sym, ap, subst, ◌∙◌, arith}
use Rattle.std.proofs.lemmas.List.{append_assoc, append-nil}
use Rattle.std.specs.Bool.{MatchBool}
use Rattle.std.specs.Prelude.{◌&&◌, not}
use Rattle.upon_tool_io.specs.Written.{Log}
use Rattle.upon_tool_many.specs.Pages.{is_failed, DoneInOrder, EachWith}
use Rattle.upon_tool_many.specs.declared.pages.DonePage.{DonePage}

-- ---- each with the one at its place
-- what is done so far, and then what is done with those that are left, is done with all
abbrev pub EachSoFar : {A B : Type 0} → (A → B → Type 0) → List A → List A → List B → Type 0
EachSoFar {A} {B} R left all done = (more : List B) → EachWith R left more → EachWith R all (done ++ more)

pub each_begun : {A B : Type 0} (R : A → B → Type 0) (all : List A) (now : List B) → now ≡ [] → EachSoFar R all all now
each_begun R all now empty = λ more each. subst (λ now. EachWith R all (now ++ more)) (sym empty) each

pub each_more : {A B : Type 0} (R : A → B → Type 0) (items rest all : List A) (done now : List B) (x : A) (y : B) → items ≡ x ∷ rest → now ≡ done ++ y ∷ [] → R x y → EachSoFar R items all done → EachSoFar R rest all now
each_more R items rest all done now x y is pushed one so_far = λ more each.
    let whole : EachWith R all (done ++ y ∷ more) = so_far (y ∷ more) (subst (λ items. EachWith R items (y ∷ more)) (sym is) (one, each)) in
    let same : now ++ more ≡ done ++ y ∷ more = ap (λ now. now ++ more) pushed ∙ append_assoc done (y ∷ []) more in
    subst (EachWith R all) (sym same) whole

pub each_ended : {A B : Type 0} (R : A → B → Type 0) (items all : List A) (done : List B) → items ≡ [] → EachSoFar R items all done → EachWith R all done
each_ended R items all done none so_far = subst (EachWith R all) (append-nil done) (so_far [] (subst (λ items. EachWith R items []) (sym none) tt))

pub EachWith-length : {A B : Type 0} (R : A → B → Type 0) (xs : List A) (ys : List B) → EachWith R xs ys → length xs ≡ length ys
EachWith-length R [] [] each = refl
EachWith-length R [] (y ∷ ys) each = absurd each
EachWith-length R (x ∷ xs) [] each = absurd each
EachWith-length R (x ∷ xs) (y ∷ ys) each = ap suc (EachWith-length R xs ys each.1)

-- ---- in their order, up to one that failed
-- what is done so far, and then what is done with those that are left, is done with all
abbrev pub DoneSoFar : {A : Type 0} → Bool → (A → DonePage → Log → Log → Type 0) → List A → List A → List DonePage → Log → Log → Type 0
DoneSoFar keeps R left all done first now = (more : List DonePage) (last : Log) → DoneInOrder keeps R left more now last → DoneInOrder keeps R all (done ++ more) first last

pub done_begun : {A : Type 0} (keeps : Bool) (R : A → DonePage → Log → Log → Type 0) (all : List A) (now : List DonePage) (first : Log) → now ≡ [] → DoneSoFar keeps R all all now first first
done_begun keeps R all now first empty = λ more last each. subst (λ now. DoneInOrder keeps R all (now ++ more) first last) (sym empty) each

one_more : {A : Type 0} (keeps : Bool) (R : A → DonePage → Log → Log → Type 0) (x : A) (xs : List A) (y : DonePage) (ys : List DonePage) (at next last : Log) → R x y at next → (is_failed y.end && not keeps) ≡ false → DoneInOrder keeps R xs ys next last
    → DoneInOrder keeps R (x ∷ xs) (y ∷ ys) at last
one_more keeps R x xs y ys at next last one goes rest = (next, one, subst (λ stops. MatchBool stops ((ys ≡ []) × (last ≡ next)) (DoneInOrder keeps R xs ys next last)) (sym goes) rest)

one_last : {A : Type 0} (keeps : Bool) (R : A → DonePage → Log → Log → Type 0) (x : A) (xs : List A) (y : DonePage) (at next : Log) → R x y at next → (is_failed y.end && not keeps) ≡ true → DoneInOrder keeps R (x ∷ xs) (y ∷ []) at next
one_last keeps R x xs y at next one stops =
    let none : List DonePage = [] in
    let same : none ≡ [] = refl in
    (next, one, subst (λ stops. MatchBool stops ((none ≡ []) × (next ≡ next)) (DoneInOrder keeps R xs none next next)) (sym stops) (same, refl))

pub done_more : {A : Type 0} (keeps : Bool) (R : A → DonePage → Log → Log → Type 0) (items rest all : List A) (done now : List DonePage) (x : A) (y : DonePage) (first at next : Log) → items ≡ x ∷ rest → now ≡ done ++ y ∷ [] → R x y at next → (is_failed y.end && not keeps) ≡ false
    → DoneSoFar keeps R items all done first at → DoneSoFar keeps R rest all now first next
done_more keeps R items rest all done now x y first at next is pushed one goes so_far = λ more last each.
    let whole : DoneInOrder keeps R all (done ++ y ∷ more) first last = so_far (y ∷ more) last (subst (λ items. DoneInOrder keeps R items (y ∷ more) at last) (sym is) (one_more keeps R x rest y more at next last one goes each)) in
    let same : now ++ more ≡ done ++ y ∷ more = ap (λ now. now ++ more) pushed ∙ append_assoc done (y ∷ []) more in
    subst (λ done. DoneInOrder keeps R all done first last) (sym same) whole

pub done_stopped : {A : Type 0} (keeps : Bool) (R : A → DonePage → Log → Log → Type 0) (items rest all : List A) (done now : List DonePage) (x : A) (y : DonePage) (first at next : Log) → items ≡ x ∷ rest → now ≡ done ++ y ∷ [] → R x y at next → (is_failed y.end && not keeps) ≡ true
    → DoneSoFar keeps R items all done first at → DoneInOrder keeps R all now first next
done_stopped keeps R items rest all done now x y first at next is pushed one stops so_far =
    subst (λ done. DoneInOrder keeps R all done first next) (sym pushed) (so_far (y ∷ []) next (subst (λ items. DoneInOrder keeps R items (y ∷ []) at next) (sym is) (one_last keeps R x rest y at next one stops)))

pub done_ended : {A : Type 0} (keeps : Bool) (R : A → DonePage → Log → Log → Type 0) (items all : List A) (done : List DonePage) (first last : Log) → items ≡ [] → DoneSoFar keeps R items all done first last → DoneInOrder keeps R all done first last
done_ended keeps R items all done first last none so_far = subst (λ done. DoneInOrder keeps R all done first last) (append-nil done) (so_far [] last (subst (λ items. DoneInOrder keeps R items [] last last) (sym none) refl))

-- ---- the place of the next one
-- what is before what is left, and how many these are
abbrev pub LeftAt : {A : Type 0} → List A → List A → ℕ → Type 0
LeftAt {A} left all place = (front : List A) × (all ≡ front ++ left) × (length front ≡ place)

pub left_begun : {A : Type 0} (all : List A) (n : ℕ) → n ≡ 0 → LeftAt all all n
left_begun all n is = ([], refl, sym is)

length-one_more : {A : Type 0} (xs : List A) (x : A) → length (xs ++ x ∷ []) ≡ length xs + 1
length-one_more [] x = refl
length-one_more (y ∷ xs) x = omega (arith, length-one_more xs x)

pub left_more : {A : Type 0} (items rest all : List A) (place now : ℕ) (x : A) → items ≡ x ∷ rest → now ≡ place + 1 → LeftAt items all place → LeftAt rest all now
left_more items rest all place now x is counted at = (
  at.0 ++ x ∷ [],
  at.1 ∙ ap (λ items. at.0 ++ items) is ∙ sym (append_assoc at.0 (x ∷ []) rest),
  length-one_more at.0 x ∙ ap (λ n. n + 1) at.2 ∙ sym counted,
)

at_front : {A : Type 0} (front rest : List A) (x d : A) → get_or (front ++ x ∷ rest) (length front) d ≡ x
at_front [] rest x d = refl
at_front (y ∷ front) rest x d = at_front front rest x d

below_front : {A : Type 0} (front rest : List A) (x : A) → length front < length (front ++ x ∷ rest)
below_front [] rest x = omega arith
below_front (y ∷ front) rest x = omega (arith, below_front front rest x)

pub left_here : {A : Type 0} (items rest all : List A) (place : ℕ) (x : A) → items ≡ x ∷ rest → LeftAt items all place → (place < length all) × (get_or all place x ≡ x)
left_here items rest all place x is at =
    let whole : all ≡ at.0 ++ x ∷ rest = at.1 ∙ ap (λ items. at.0 ++ items) is in
    subst (λ all. (place < length all) × (get_or all place x ≡ x)) (sym whole) (
    subst (λ place. (place < length (at.0 ++ x ∷ rest)) × (get_or (at.0 ++ x ∷ rest) place x ≡ x)) at.2 (below_front at.0 rest x, at_front at.0 rest x x)
    )

pub has_room : {A : Type 0} (items rest all : List A) (place room : ℕ) (x : A) → items ≡ x ∷ rest → LeftAt items all place → length all ≤ room → room ≤ place → ⊥
has_room items rest all place room x is at holds full = let here = left_here items rest all place x is at in omega (arith, here.0, holds, full)
