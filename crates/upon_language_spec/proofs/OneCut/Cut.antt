-- A text is cut in one way.
use Rattle.std.proofs.Common.{◌≡◌, ℕ, ◌<◌, ◌≤◌, Bool, List, [], ◌∷◌, ◌++◌, length, arith, refl, sym, ap, ◌∙◌, subst}
use Rattle.std.proofs.lemmas.List.{append-nil}
use Rattle.upon_types.specs.declared.types.token.Token.{Token}
use Rattle.upon_language_spec.specs.Search.{DelimiterText, HasTexts}
use Rattle.upon_language_spec.specs.Cut.{Lexeme, Mode, outside, IsToken, mode_after, Cut}
use Rattle.upon_language_spec.proofs.OneCut.Token.{one_step, step_ends}

same_lexeme : (a b : Lexeme) → a.token ≡ b.token → a.hyphen ≡ b.hyphen → a.span.m ≡ b.span.m → a.span.n ≡ b.span.n → a ≡ b
same_lexeme a b token hyphen m n = λ i. record { token = token i; hyphen = hyphen i; span = record { m = m i; n = n i } }

-- in this mode no token is at n
abbrev pub NoStep : List DelimiterText → List ℕ → Mode → ℕ → Type 0
NoStep delimiters s mode n = (t : Token) (hyphen : Bool) (to : ℕ) → IsToken delimiters s mode t hyphen n to → ⊥

-- the longer list goes on where the shorter one ends, and is a cut from there
abbrev pub GoesOn : List DelimiterText → List ℕ → Mode → ℕ → List Lexeme → List Lexeme → Mode → ℕ → Type 0
GoesOn delimiters s mode n ls ks mode' k = (rest : List Lexeme) × (ks ≡ ls ++ rest) × Cut delimiters s mode n rest mode' k

-- one token more
pub cut_more : (delimiters : List DelimiterText) (s : List ℕ) (mode mode' : Mode) (m n : ℕ) (ls : List Lexeme) (l : Lexeme) → Cut delimiters s mode m ls mode' n → l.span.m ≡ n → IsToken delimiters s mode' l.token l.hyphen n l.span.n → Cut delimiters s mode m (ls ++ (l ∷ [])) (mode_after mode' l.token) l.span.n
cut_more delimiters s mode mode' m n [] l h e step =
    let F : ℕ → Type 0 = λ x. IsToken delimiters s mode' l.token l.hyphen x l.span.n in
    let G : Mode → Type 0 = λ x. IsToken delimiters s x l.token l.hyphen m l.span.n in
    (e ∙ sym h.1, subst G (sym h.0) (subst F (sym h.1) step), (ap (λ x. mode_after x l.token) h.0, refl))
cut_more delimiters s mode mode' m n (k ∷ ks) l h e step = (h.0, h.1, cut_more delimiters s (mode_after mode k.token) mode' k.span.n n ks l h.2 e step)

-- two cuts, one after the other
pub cut_joined : (delimiters : List DelimiterText) (s : List ℕ) (mode mode' mode'' : Mode) (m n k : ℕ) (ls ks : List Lexeme) → Cut delimiters s mode m ls mode' n → Cut delimiters s mode' n ks mode'' k → Cut delimiters s mode m (ls ++ ks) mode'' k
cut_joined delimiters s mode mode' mode'' m n k [] ks a b =
    let F : ℕ → Type 0 = λ x. Cut delimiters s mode' x ks mode'' k in
    let G : Mode → Type 0 = λ x. Cut delimiters s x m ks mode'' k in
    subst G (sym a.0) (subst F (sym a.1) b)
cut_joined delimiters s mode mode' mode'' m n k (l ∷ ls) ks a b = (a.0, a.1, cut_joined delimiters s (mode_after mode l.token) mode' mode'' l.span.n n k ls ks a.2 b)

module _ (delimiters : List DelimiterText) (s : List ℕ) (texts : HasTexts delimiters) where
  -- a cut ends no earlier than it begins, and in the text
  pub cut_ends : (mode mode' : Mode) (m n : ℕ) (ls : List Lexeme) → m ≤ length s → Cut delimiters s mode m ls mode' n → (m ≤ n) × (n ≤ length s)
  cut_ends mode mode' m n [] l h = (omega (arith, h.1), omega (arith, l, h.1))
  cut_ends mode mode' m n (k ∷ ks) l h =
      let step = step_ends delimiters s mode k.token k.hyphen m k.span.n texts h.1 in
      let others = cut_ends (mode_after mode k.token) mode' k.span.n n ks step.1 h.2 in
      (omega (arith, step.0, others.0), others.1)

  -- a cut with a token ends later than it begins
  pub takes_some : (mode mode' : Mode) (m n : ℕ) (l : Lexeme) (ls : List Lexeme) → Cut delimiters s mode m (l ∷ ls) mode' n → m < n
  takes_some mode mode' m n l ls h =
      let step = step_ends delimiters s mode l.token l.hyphen m l.span.n texts h.1 in
      let others = cut_ends (mode_after mode l.token) mode' l.span.n n ls step.1 h.2 in
      omega (arith, step.0, others.0)

  -- what begins alike goes on alike: of two cuts from one offset in one mode, the one to the lesser span is a beginning of the other
  pub cut_on : (mode mode' mode'' : Mode) (m n k : ℕ) (ls ks : List Lexeme) → n ≤ k → Cut delimiters s mode m ls mode' n → Cut delimiters s mode m ks mode'' k → GoesOn delimiters s mode' n ls ks mode'' k
  cut_on mode mode' mode'' m n k [] ks l a b =
      let F : Mode → Type 0 = λ x. Cut delimiters s x n ks mode'' k in
      let G : ℕ → Type 0 = λ x. Cut delimiters s mode x ks mode'' k in
      (ks, refl, subst F a.0 (subst G a.1 b))
  cut_on mode mode' mode'' m n k (x ∷ xs) [] l a b = let some = takes_some mode mode' m n x xs a in absurd (omega (arith, l, some, b.1))
  cut_on mode mode' mode'' m n k (x ∷ xs) (y ∷ ys) l a b =
      let e = one_step delimiters s mode x.token y.token x.hyphen y.hyphen m x.span.n y.span.n a.1 b.1 in
      let same : x ≡ y = same_lexeme x y e.0 e.1 (a.0 ∙ sym b.0) e.2 in
      let F : Token → Type 0 = λ t. Cut delimiters s (mode_after mode t) x.span.n xs mode' n in
      let G : ℕ → Type 0 = λ p. Cut delimiters s (mode_after mode y.token) p xs mode' n in
      let more = cut_on (mode_after mode y.token) mode' mode'' y.span.n n k xs ys l (subst G e.2 (subst F e.0 a.2)) b.2 in
      (more.0, ap (λ zs. y ∷ zs) more.1 ∙ ap (λ z. z ∷ (xs ++ more.0)) (sym same), more.2)

  nothing_more : (mode mode' : Mode) (n : ℕ) (rest : List Lexeme) → Cut delimiters s mode n rest mode' n → (rest ≡ []) × (mode ≡ mode')
  nothing_more mode mode' n [] h = (refl, h.0)
  nothing_more mode mode' n (l ∷ ls) h = let some = takes_some mode mode' n n l ls h in absurd (omega (arith, some))

  -- two cuts from one offset in one mode to one span have the same tokens, and end in the same mode
  pub one_cut_between : (mode mode' mode'' : Mode) (m n : ℕ) (ls ks : List Lexeme) → Cut delimiters s mode m ls mode' n → Cut delimiters s mode m ks mode'' n → (ls ≡ ks) × (mode' ≡ mode'')
  one_cut_between mode mode' mode'' m n ls ks a b =
      let on = cut_on mode mode' mode'' m n n ls ks (omega arith) a b in
      let end = nothing_more mode' mode'' n on.0 on.2 in
      (sym (on.1 ∙ ap (λ x. ls ++ x) end.0 ∙ append-nil ls), end.1)

  stuck_there : (mode mode' : Mode) (n k : ℕ) (rest : List Lexeme) → n < k → NoStep delimiters s mode n → Cut delimiters s mode n rest mode' k → ⊥
  stuck_there mode mode' n k [] l stuck h = omega (arith, l, h.1)
  stuck_there mode mode' n k (r ∷ rest) l stuck h = stuck r.token r.hyphen r.span.n h.1

  -- where no token is at the end of a cut, no cut from the same offset goes past it
  pub no_cut_past : (mode mode' mode'' : Mode) (m n k : ℕ) (ls ks : List Lexeme) → Cut delimiters s mode m ls mode' n → NoStep delimiters s mode' n → n < k → Cut delimiters s mode m ks mode'' k → ⊥
  no_cut_past mode mode' mode'' m n k ls ks a stuck l b =
      let on = cut_on mode mode' mode'' m n k ls ks (omega (arith, l)) a b in
      stuck_there mode' mode'' n k on.0 l stuck on.2

-- two cuts of the text up to one span have the same tokens, and end in the same mode
pub one_cut_to : (delimiters : List DelimiterText) (s : List ℕ) (mode mode' : Mode) (n : ℕ) (ls ks : List Lexeme) → HasTexts delimiters → Cut delimiters s outside 0 ls mode n → Cut delimiters s outside 0 ks mode' n → (ls ≡ ks) × (mode ≡ mode')
one_cut_to delimiters s mode mode' n ls ks texts a b = one_cut_between delimiters s texts outside mode mode' 0 n ls ks a b

-- there is one cut
pub one_cut : (delimiters : List DelimiterText) (s : List ℕ) (ls ks : List Lexeme) → HasTexts delimiters → Cut delimiters s outside 0 ls outside (length s) → Cut delimiters s outside 0 ks outside (length s) → ls ≡ ks
one_cut delimiters s ls ks texts a b = (one_cut_to delimiters s outside outside (length s) ls ks texts a b).0

-- where no token is short of the end, no cut goes past that offset
pub no_cut : (delimiters : List DelimiterText) (s : List ℕ) (mode mode' : Mode) (n k : ℕ) (ls ks : List Lexeme) → HasTexts delimiters → Cut delimiters s outside 0 ls mode n → NoStep delimiters s mode n → n < k → Cut delimiters s outside 0 ks mode' k → ⊥
no_cut delimiters s mode mode' n k ls ks texts a stuck l b = no_cut_past delimiters s texts outside mode mode' 0 n k ls ks a stuck l b

-- where the text ends in a tag or a comment, it has no cut
pub no_cut_inside : (delimiters : List DelimiterText) (s : List ℕ) (mode : Mode) (ls ks : List Lexeme) → HasTexts delimiters → Cut delimiters s outside 0 ls mode (length s) → (mode ≡ outside → ⊥) → Cut delimiters s outside 0 ks outside (length s) → ⊥
no_cut_inside delimiters s mode ls ks texts a inside b = inside (one_cut_to delimiters s mode outside (length s) ls ks texts a b).1
