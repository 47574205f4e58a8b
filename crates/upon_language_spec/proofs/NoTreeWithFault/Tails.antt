-- Lists that end with others.
use Rattle.std.proofs.Common.{◌≡◌, ◌⊎◌, inl, inr, ◌<◌, ◌≤◌, List, [], ◌∷◌, ◌++◌, length, refl, sym, ap, ◌∙◌, arith, append_assoc, length-append}
use Rattle.std.proofs.lemmas.Bool.{cases_order}
use Rattle.upon_language_spec.specs.Cut.{Lexeme}

-- ts ends with us
abbrev pub Tail : List Lexeme → List Lexeme → Type 0
Tail ts us = (front : List Lexeme) × (ts ≡ front ++ us)

pub tail_same : (ts us : List Lexeme) → ts ≡ us → Tail ts us
tail_same ts us e = ([], e)

pub tail_one : (ts rest : List Lexeme) (l : Lexeme) → ts ≡ l ∷ rest → Tail ts rest
tail_one ts rest l e = (l ∷ [], e)

pub tail_then : (ts us vs : List Lexeme) → Tail ts us → Tail us vs → Tail ts vs
tail_then ts us vs a b = (a.0 ++ b.0, a.1 ∙ ap (λ x. a.0 ++ x) b.1 ∙ sym (append_assoc a.0 b.0 vs))

head_same : (a b : Lexeme) (xs ys : List Lexeme) → (a ∷ xs) ≡ (b ∷ ys) → a ≡ b
head_same a b xs ys e = cc

pub rows_rest : {a b : Lexeme} {xs ys : List Lexeme} → (a ∷ xs) ≡ (b ∷ ys) → xs ≡ ys
rows_rest e = cc

-- a row with fewer tokens after its first than one that ends it begins where that one does
pub only_one : (b : Lexeme) (more front rest : List Lexeme) (l : Lexeme) → (l ∷ rest) ≡ (front ++ (b ∷ more)) → length rest < length (b ∷ more) → l ≡ b
only_one b more [] rest l e h = cc
only_one b more (f ∷ front) rest l e h = let rows : rest ≡ (front ++ (b ∷ more)) = cc in let long : length rest ≡ length (front ++ (b ∷ more)) = ap length rows in absurd (omega (arith, h, long, length-append front (b ∷ more)))

nested : (front back us vs : List Lexeme) → (front ++ us) ≡ (back ++ vs) → length us ≤ length vs → Tail vs us
nested front [] us vs e l = (front, sym e)
nested [] (b ∷ back) us vs e l = let long : length us ≡ length (b ∷ (back ++ vs)) = ap length e in absurd (omega (arith, l, long, length-append back vs))
nested (f ∷ front) (b ∷ back) us vs e l = nested front back us vs (rows_rest e) l

-- of two tails of one list the longer ends with the shorter
pub tail_nested : (ts us vs : List Lexeme) → Tail ts us → Tail ts vs → length us ≤ length vs → Tail vs us
tail_nested ts us vs a b l = nested a.0 b.0 us vs (sym a.1 ∙ b.1) l

pub longer_or_tail : (ts us vs : List Lexeme) → Tail ts us → Tail ts vs → (length vs < length us) ⊎ Tail vs us
longer_or_tail ts us vs a b = elim (cases_order (length us) (length vs)) [
  | inl e ↦ inr (tail_nested ts us vs a b (omega (arith, e)))
  | inr d ↦ elim d [ inl l ↦ inr (tail_nested ts us vs a b (omega (arith, l))) | inr l ↦ inl l ]
]

-- where a token occurs in a row: among the first, or right after them
pub among_or_behind : (mid : List Lexeme) (e : Lexeme) (rest fs : List Lexeme) (b : Lexeme) (more : List Lexeme) → (mid ++ (e ∷ rest)) ≡ (fs ++ (b ∷ more)) → length rest < length (b ∷ more) → ((ms : List Lexeme) × (mid ≡ fs ++ (b ∷ ms))) ⊎ (e ≡ b)
among_or_behind [] e rest [] b more h l = inr (head_same e b rest more h)
among_or_behind [] e rest (f ∷ fs) b more h l = let long : length rest ≡ length (fs ++ (b ∷ more)) = ap length (rows_rest h) in absurd (omega (arith, l, long, length-append fs (b ∷ more)))
among_or_behind (m ∷ mid) e rest [] b more h l = inl (mid, ap (λ x. x ∷ mid) (head_same m b (mid ++ (e ∷ rest)) more h))
among_or_behind (m ∷ mid) e rest (f ∷ fs) b more h l = elim (among_or_behind mid e rest fs b more (rows_rest h) l) [
  | inl found ↦ inl (found.0, (λ i. head_same m f (mid ++ (e ∷ rest)) (fs ++ (b ∷ more)) h i ∷ found.1 i))
  | inr same ↦ inr same
]

-- how two splits of one row lie: the second token among the first of one, or among the first of the other, or both at one offset
pub data Meets (mid : List Lexeme) (e : Lexeme) (rest fs : List Lexeme) (b : Lexeme) (more : List Lexeme) : Type 0 where
  sooner : (ms : List Lexeme) → mid ≡ fs ++ (b ∷ ms) → more ≡ ms ++ (e ∷ rest) → Meets mid e rest fs b more
  later : (ms : List Lexeme) → fs ≡ mid ++ (e ∷ ms) → Meets mid e rest fs b more
  together : mid ≡ fs → e ≡ b → rest ≡ more → Meets mid e rest fs b more

deeper : (m f : Lexeme) (mid : List Lexeme) (e : Lexeme) (rest fs : List Lexeme) (b : Lexeme) (more : List Lexeme) → m ≡ f → Meets mid e rest fs b more → Meets (m ∷ mid) e rest (f ∷ fs) b more
deeper m f mid e rest fs b more h (sooner ms i j) = sooner ms (λ k. h k ∷ i k) j
deeper m f mid e rest fs b more h (later ms i) = later ms (λ k. sym h k ∷ i k)
deeper m f mid e rest fs b more h (together i j l) = together (λ k. h k ∷ i k) j l

pub meets : (mid : List Lexeme) (e : Lexeme) (rest fs : List Lexeme) (b : Lexeme) (more : List Lexeme) → (mid ++ (e ∷ rest)) ≡ (fs ++ (b ∷ more)) → Meets mid e rest fs b more
meets [] e rest [] b more h = together refl (head_same e b rest more h) (rows_rest h)
meets [] e rest (f ∷ fs) b more h = later fs (ap (λ x. x ∷ fs) (sym (head_same e f rest (fs ++ (b ∷ more)) h)))
meets (m ∷ mid) e rest [] b more h = sooner mid (ap (λ x. x ∷ mid) (head_same m b (mid ++ (e ∷ rest)) more h)) (sym (rows_rest h))
meets (m ∷ mid) e rest (f ∷ fs) b more h = deeper m f mid e rest fs b more (head_same m f (mid ++ (e ∷ rest)) (fs ++ (b ∷ more)) h) (meets mid e rest fs b more (rows_rest h))
