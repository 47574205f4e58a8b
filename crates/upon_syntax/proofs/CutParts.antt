-- A cut in two parts, one after the other.
use Rattle.std.proofs.Common.{◌≡◌, ℕ, List, [], ◌∷◌, ◌++◌, refl, sym, ◌∙◌, subst}
use Rattle.upon_language_spec.specs.Search.{DelimiterText}
use Rattle.upon_language_spec.specs.Cut.{Lexeme, Mode, mode_after, Cut}

-- a cut over two lists of tokens
pub record TwoCuts (delimiters : List DelimiterText) (s : List ℕ) (mode : Mode) (m : ℕ) (ls ks : List Lexeme) (mode' : Mode) (n : ℕ) : Type 0 where
  pub between : Mode
  pub at : ℕ
  pub first : Cut delimiters s mode m ls between at
  pub second : Cut delimiters s between at ks mode' n

module _ (delimiters : List DelimiterText) (s : List ℕ) where
  -- where a cut has its first tokens
  pub cut_split : (mode mode' : Mode) (m n : ℕ) (ls ks : List Lexeme) → Cut delimiters s mode m (ls ++ ks) mode' n → TwoCuts delimiters s mode m ls ks mode' n
  cut_split mode mode' m n [] ks h = record { between = mode; at = m; first = (refl, refl); second = h }
  cut_split mode mode' m n (l ∷ ls) ks h =
      let rest = cut_split (mode_after mode l.token) mode' l.span.n n ls ks h.2 in
      record { between = rest.between; at = rest.at; first = (h.0, h.1, rest.first); second = rest.second }

  -- two cuts of the same tokens from one offset end at one offset and in one mode
  pub cut_same : (mode a b : Mode) (m n k : ℕ) (ls : List Lexeme) → Cut delimiters s mode m ls a n → Cut delimiters s mode m ls b k → (a ≡ b) × (n ≡ k)
  cut_same mode a b m n k [] x y = (sym x.0 ∙ y.0, sym x.1 ∙ y.1)
  cut_same mode a b m n k (l ∷ ls) x y = cut_same (mode_after mode l.token) a b l.span.n n k ls x.2 y.2

  -- what comes after some tokens, whose cut is known
  pub cut_rest : (mode between mode' : Mode) (m at n : ℕ) (ls ks : List Lexeme) → Cut delimiters s mode m ls between at → Cut delimiters s mode m (ls ++ ks) mode' n → Cut delimiters s between at ks mode' n
  cut_rest mode between mode' m at n ls ks first whole =
      let two = cut_split mode mode' m n ls ks whole in
      let same = cut_same mode two.between between m two.at at ls two.first first in
      let F : Mode → Type 0 = λ x. Cut delimiters s x two.at ks mode' n in
      let G : ℕ → Type 0 = λ x. Cut delimiters s between x ks mode' n in
      subst G same.1 (subst F same.0 two.second)
