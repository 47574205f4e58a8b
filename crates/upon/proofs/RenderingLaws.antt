-- A text without a delimiter renders as itself, and renderings to a text and to a writer agree.
use Rattle.std.proofs.Common.{◌≡◌, ◌++◌, ℕ, ◌-◌, List, [], ◌∷◌, length, take, Bool, true, false, Option, Some, None, Result, Ok, Err, String, string_bytes, refl, sym, ap, ◌∙◌, subst, inl, inr, arith}
use Rattle.std.specs.BTreeMap.{get_by_text}
use Rattle.std.specs.Io.KnownBytes.{Appends}
use Rattle.std.specs.Str.{bytes_eq}
use Rattle.std.specs.declared.alloc.Global.{Global}
use Rattle.std.specs.declared.dyn_box.DynBox.{DynBox}
use Rattle.std.proofs.Math.Seq.{take-length}
use Rattle.std.proofs.lemmas.List.{append-nil}
use Rattle.std.proofs.lemmas.Slice.Eq.{bytes_eq-Decides}
use Rattle.upon_types.specs.Answers.{Formatter, Function}
use Rattle.upon_types.specs.Error.{fault_of}
use Rattle.upon_types.specs.Tree.{Statements, raw, no_statements, statement_then}
use Rattle.upon_types.specs.Val.{Val}
use Rattle.upon_types.specs.declared.error.Error.{Error}
use Rattle.upon_language_spec.specs.Faults.{span_of}
use Rattle.upon_language_spec.specs.Grammar.{HasTree}
use Rattle.upon_language_spec.proofs.RawText.{raw_text, empty_text}
use Rattle.upon_meaning_spec.specs.Alone.{fault_of_end}
use Rattle.upon_meaning_spec.specs.Engine.{Table}
use Rattle.upon_meaning_spec.specs.Outcome.{good, Outcome}
use Rattle.upon_engine.specs.Answers.{AnswersText}
use Rattle.upon.specs.RenderingLaws.{AnswersFor, IsPlainText, IsTextOrMemory, SendsFor}
use Rattle.upon_engine.specs.Texts.{Texts, texts_of}
use Rattle.upon_engine.specs.Theorem.{IsTable, meaning}
use Rattle.upon_engine.specs.declared.engine.Engine.{Engine as Held}
use Rattle.upon_engine.proofs.Tables.{is_table, table_held}

-- what is answered for a meaning that ends well
good_answer : {Q : Type 0} (limit : ℕ) (o : Outcome Q) (s : List ℕ) → o.end ≡ good → o.text ≡ s → (result : Result (String Global) Error) → AnswersText limit o result → IsTextOrMemory s result
good_answer limit o s ends is (Ok t) said = said.1 ∙ is
good_answer limit o s ends is (Err e) (inr out) = out
good_answer limit o s ends is (Err e) (inl fault) =
    let none : fault_of_end limit good ≡ Some (fault_of e) = sym (ap (fault_of_end limit) ends) ∙ fault in
    absurd cc

-- the tree of a text that is one raw part
abbrev one_part : List ℕ → Statements
one_part s = statement_then (raw (span_of 0 (length s))) no_statements

module _ (e : Texts) (table : Table) (is : IsTable e.texts table) (name : Option (List ℕ)) (v : Val) where
  part_text : (s : List ℕ) → (meaning e table name s (one_part s) v).text ≡ s
  part_text s =
      let whole : length s - 0 ≡ length s = omega arith in
      append-nil (take (length s - 0) s) ∙ ap (λ n. take n s) whole ∙ take-length s

  plain : (s : List ℕ) (result : Result (String Global) Error) → IsPlainText e.syntax s → AnswersFor e name s v result → IsTextOrMemory s result
  plain [] result bare said =
      good_answer e.depth (meaning e table name [] no_statements v) [] refl refl result (said no_statements (empty_text e.syntax) table is)
  plain (c ∷ cs) result bare said =
      good_answer e.depth (meaning e table name (c ∷ cs) (one_part (c ∷ cs)) v) (c ∷ cs) refl (part_text (c ∷ cs)) result
      (said (one_part (c ∷ cs)) (raw_text e.syntax (c ∷ cs) bare (omega arith)) table is)

  -- both by one tree
  agree_by : (s : List ℕ) (text : String Global) (old new : Option (List ℕ)) (tree : Statements) → HasTree e.syntax s tree → AnswersFor e name s v (Ok text) → SendsFor e name s v (Ok tt) old new → Appends old new (string_bytes text)
  agree_by s text old new tree has answers sends =
      subst (Appends old new) (sym (answers tree has table is).1) (sends tree has table is).1

-- what can't be untrue is true
stays : (b : Bool) → ((b ≡ true → ⊥) → ⊥) → b ≡ true
stays true not_not = refl
stays false not_not = absurd (not_not (λ is. let impossible : false ≡ true = is in absurd cc))

-- that known bytes grow by a text is decided
decided : (old new : Option (List ℕ)) (text : List ℕ) → ((Appends old new text → ⊥) → ⊥) → Appends old new text
decided None new text not_not = tt
decided (Some xs) None text not_not = absurd (not_not (λ it. it))
decided (Some xs) (Some ys) text not_not =
    let d = bytes_eq-Decides ys (xs ++ text) in
    d.0 (stays (bytes_eq ys (xs ++ text)) (λ no. not_not (λ it. no (d.1 it))))

module _ {X Y : Type 0} {P : X → Type 0} {Q : Y → Type 0} (formats : DynBox X Global P → Formatter) (answers : DynBox Y Global Q → Function) (e : Held X Y P Q) where
  pub plain_of : (name : Option (List ℕ)) (s : List ℕ) (v : Val) (result : Result (String Global) Error)
      → IsPlainText (texts_of formats answers e).syntax s → AnswersFor (texts_of formats answers e) name s v result → IsTextOrMemory s result
  plain_of name s v result =
      plain (texts_of formats answers e) (table_held (get_by_text e.templates)) (is_table (get_by_text e.templates)) name v s result

  pub agree_of : (name : Option (List ℕ)) (s : List ℕ) (v : Val) (text : String Global) (old new : Option (List ℕ))
      → (((tree : Statements) → HasTree (texts_of formats answers e).syntax s tree → ⊥) → ⊥)
      → AnswersFor (texts_of formats answers e) name s v (Ok text) → SendsFor (texts_of formats answers e) name s v (Ok tt) old new
      → Appends old new (string_bytes text)
  agree_of name s v text old new some answered sent =
      decided old new (string_bytes text) (λ no. some (λ tree has. no
      (agree_by (texts_of formats answers e) (table_held (get_by_text e.templates)) (is_table (get_by_text e.templates)) name v s text old new tree has answered sent)))
