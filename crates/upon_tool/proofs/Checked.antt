-- Files that are checked one after the other.
use Rattle.std.proofs.Common.{◌≡◌, ◌↔◌, ◌<◌, ◌+◌, ◌&&◌, ◌∷◌, [], ◌++◌, ℕ, List, Bool, true, false, Bor, Option, length, take, get_or, refl, sym, subst, ◌∙◌}
use Rattle.std.proofs.lemmas.List.{take_more}
use Rattle.upon_language_spec.specs.Search.{DelimiterText}
use Rattle.upon_meaning_spec.specs.Engine.{Table}
use Rattle.upon_engine.specs.Texts.{Texts}
use Rattle.upon_engine.specs.Theorem.{IsTable}
use Rattle.upon_tool_messages.specs.declared.judge.Declared.{Declared}
use Rattle.upon_tool_pages.specs.Missing.{EachIsRight, IsRightTemplate}
use Rattle.upon_tool_io.specs.World.{World}
use Rattle.upon_tool_data.specs.Sources.{is_standard, IsTextOf}
use Rattle.upon_tool_pages.specs.Sources.{AreTexts}
use Rattle.upon_tool.specs.Work.{ChecksFiles}

-- one text more
texts_more : (world : World) (names : List (Bor (List ℕ))) (name : Bor (List ℕ)) (texts : List (List ℕ)) (text : List ℕ) (a b c : Option (List ℕ)) → AreTexts world names a texts b → IsTextOf world name.now b text → (is_standard name.now ≡ false → c ≡ b)
    → AreTexts world (names ++ name ∷ []) a (texts ++ text ∷ []) c
texts_more world [] name [] text a b c are is kept = (c, subst (λ a. IsTextOf world name.now a text) are is, λ no. kept no ∙ are, refl)
texts_more world [] name (t ∷ ts) text a b c are is kept = absurd are
texts_more world (n ∷ ns) name [] text a b c are is kept = absurd are
texts_more world (n ∷ ns) name (t ∷ ts) text a b c are is kept = (are.0, are.1, are.2, texts_more world ns name ts text are.0 b c are.3 is kept)

each_more : (callables : Declared) (world : World) (d : List DelimiterText) (table : Table) (names : List (Bor (List ℕ))) (name : Bor (List ℕ)) (texts : List (List ℕ)) (text : List ℕ) (a b : Option (List ℕ)) → AreTexts world names a texts b → EachIsRight callables d table names texts → IsRightTemplate callables d table name.now text
    → EachIsRight callables d table (names ++ name ∷ []) (texts ++ text ∷ [])
each_more callables world d table [] name [] text a b are each right = (right, tt)
each_more callables world d table [] name (t ∷ ts) text a b are each right = absurd are
each_more callables world d table (n ∷ ns) name [] text a b are each right = absurd are
each_more callables world d table (n ∷ ns) name (t ∷ ts) text a b are each right = (each.0, each_more callables world d table ns name ts text are.0 b are.3 each.1 right)

each_less : (callables : Declared) (world : World) (d : List DelimiterText) (table : Table) (names : List (Bor (List ℕ))) (name : Bor (List ℕ)) (texts : List (List ℕ)) (text : List ℕ) (a b : Option (List ℕ)) → AreTexts world names a texts b → EachIsRight callables d table (names ++ name ∷ []) (texts ++ text ∷ [])
    → EachIsRight callables d table names texts × IsRightTemplate callables d table name.now text
each_less callables world d table [] name [] text a b are each = (tt, each.0)
each_less callables world d table [] name (t ∷ ts) text a b are each = absurd are
each_less callables world d table (n ∷ ns) name [] text a b are each = absurd are
each_less callables world d table (n ∷ ns) name (t ∷ ts) text a b are each =
    let rest = each_less callables world d table ns name ts text are.0 b are.3 each.1 in ((each.0, rest.0), rest.1)

both : (x y : Bool) (P Q R : Type 0) → (x ≡ true) ↔ P → (y ≡ true) ↔ Q → (P → Q → R) → (R → P × Q) → ((x && y) ≡ true) ↔ R
both true y P Q R p q join split = (λ is. join (p.0 refl) (q.0 is), λ r. q.1 (split r).1)
both false y P Q R p q join split = (λ is. absurd cc, λ r. p.1 (split r).0)

-- what is known after some of the files
abbrev pub SoFar : Declared → World → List DelimiterText → Table → List (Bor (List ℕ)) → Option (List ℕ) → Option (List ℕ) → Bool → Type 0
SoFar callables world d table names a b right = (texts : List (List ℕ)) × AreTexts world names a texts b × ((right ≡ true) ↔ EachIsRight callables d table names texts)

pub checked_more : (callables : Declared) (world : World) (d : List DelimiterText) (table : Table) (names : List (Bor (List ℕ))) (i : ℕ) (first : Bor (List ℕ)) (text : List ℕ) (a b c : Option (List ℕ)) (right one : Bool) → i < length names → SoFar callables world d table (take i names) a b right
    → IsTextOf world (get_or names i first).now b text → (is_standard (get_or names i first).now ≡ false → c ≡ b) → (one ≡ true) ↔ IsRightTemplate callables d table (get_or names i first).now text
    → SoFar callables world d table (take (i + 1) names) a c (right && one)
checked_more callables world d table names i first text a b c right one inside so_far is kept says =
    let name = get_or names i first in
    let texts = so_far.0 in
    subst (λ names. SoFar callables world d table names a c (right && one)) (sym (take_more names i first inside)) (
      texts ++ text ∷ [],
      texts_more world (take i names) name texts text a b c so_far.1 is kept,
      both right one _ _ _ so_far.2 says (each_more callables world d table (take i names) name texts text a b so_far.1) (each_less callables world d table (take i names) name texts text a b so_far.1),
    )

-- so it is said of the engine's table
pub checked_by : (callables : Declared) (world : World) (e : Texts) (names : List (Bor (List ℕ))) (a b : Option (List ℕ)) (status : ℕ) (right : Bool) (mine : Table) → IsTable e.texts mine
    → (table : Table) × IsTable e.texts table × ((other : Table) → IsTable e.texts other → other ≡ table) → SoFar callables world e.syntax mine names a b right → (status ≡ 0 → right ≡ true) → ChecksFiles world callables e names a status
checked_by callables world e names a b status right mine is_mine one so_far zero = (
  so_far.0,
  b,
  so_far.1,
  λ is table it.
      subst (λ table. EachIsRight callables e.syntax table names so_far.0) (one.2 mine is_mine ∙ sym (one.2 table it)) (so_far.2.0 (zero is)),
)
