-- What no formatter writes is in raw parts alone.
use Rattle.std.proofs.Common.{◌≡◌, ℕ, List, [], ◌∷◌, ◌++◌, Option, Bool, true, false, if◌then◌else◌, ◌||◌, refl, sym, ap, ◌∙◌}
use Rattle.upon_types.specs.Span.{slice}
use Rattle.upon_lookup.specs.Environment.{Root}
use Rattle.upon_meaning_spec.specs.Alone.{alone}
use Rattle.upon_meaning_spec.specs.Engine.{Template, Rendering}
use Rattle.upon_meaning_spec.specs.Outcome.{States}
use Rattle.upon_meaning_spec.specs.Marks.{has, only, raw_text, FromRawParts}
use Rattle.upon_meaning_spec.specs.Parts.{Each, WritesOnly, WroteSuch}
use Rattle.upon_meaning_spec.specs.Pieces.{TextPiece, raw_part, written, joined, pieces_of}
use Rattle.upon_meaning_spec.proofs.PiecesJoined.{alone_joined}
use Rattle.upon_meaning_spec.proofs.PiecesOf.{only_written}

module _ (p : ℕ → Bool) where
  kept_append : (x : Bool) (b : ℕ) (l m : List ℕ) → (if x then b ∷ (l ++ m) else l ++ m) ≡ (if x then b ∷ l else l) ++ m
  kept_append true b l m = refl
  kept_append false b l m = refl

  only_append : (a b : List ℕ) → only p (a ++ b) ≡ only p a ++ only p b
  only_append [] b = refl
  only_append (x ∷ a) b = ap (λ l. if p x then x ∷ l else l) (only_append a b) ∙ kept_append (p x) x (only p a) (only p b)

  none_kept : (x : Bool) (b : ℕ) (rest : List ℕ) → (x || has p rest) ≡ false → (has p rest ≡ false → only p rest ≡ []) → (if x then b ∷ only p rest else only p rest) ≡ []
  none_kept true b rest h k = absurd (cc)
  none_kept false b rest h k = k h

  only_none : (a : List ℕ) → has p a ≡ false → only p a ≡ []
  only_none [] h = refl
  only_none (x ∷ a) h = none_kept (p x) x a h (only_none a)

  in_raw_parts : (ps : List TextPiece) → Each (WroteSuch (λ w. has p w ≡ false)) ps → only p (joined ps) ≡ only p (raw_text ps)
  in_raw_parts [] h = refl
  in_raw_parts (raw_part from span ∷ ps) h =
      let text = slice from.source span in
      only_append text (joined ps) ∙ (ap (λ l. only p text ++ l) (in_raw_parts ps h.1) ∙ sym (only_append text (raw_text ps)))
  in_raw_parts (written f v ∷ ps) h = only_append (f v).text (joined ps) ∙ (ap (λ l. l ++ only p (joined ps)) (only_none (f v).text h.0) ∙ in_raw_parts ps h.1)

  pub raw_marks : {V T : Type 0} (rendering : Rendering V T) (t : Template) (name : Option (List ℕ)) (root : Root) (s : States V T) → WritesOnly rendering.calls rendering.resolve t (λ text. has p text ≡ false) → FromRawParts p (pieces_of rendering t name root s) (alone rendering t name root s).text
  raw_marks rendering t name root s only_such =
      let unwritten = only_written (λ text. has p text ≡ false) rendering t name root s only_such in
      let joins = alone_joined rendering t name root s in
      record { joins = joins; unwritten = unwritten; theirs = ap (only p) joins ∙ in_raw_parts (pieces_of rendering t name root s) unwritten }
