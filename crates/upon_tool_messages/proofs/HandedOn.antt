-- What a terminal hands on, one text after the other.
use Rattle.std.proofs.Common.{◌≡◌, ◌++◌, [], ℕ, List, Bool, true, Some, false, Option, refl, sym, subst, ap, ◌∙◌, append_assoc, append-nil}
use Rattle.std.proofs.KnownBytes.{Appends-nil, Appends-trans}
use Rattle.std.specs.Io.KnownBytes.{Appends}
use Rattle.upon_tool_messages.specs.Colors.{reset_code, tint_code}
use Rattle.upon_tool_messages.specs.Terminal.{PassesOn, Painted, plain, tinted, both, SendsPart, SentAs}
use Rattle.upon_tool_messages.specs.declared.color.Tint.{Tint}

-- a text may be sent as it is
pub sent_same : (paints : Bool) (text : List ℕ) → SentAs paints text text
sent_same true text = plain text
sent_same false text = refl

-- texts are sent one after the other
pub sent_both : (paints : Bool) (a b c d : List ℕ) → SentAs paints a b → SentAs paints c d → SentAs paints (a ++ c) (b ++ d)
sent_both true a b c d first second = both first second
sent_both false a b c d first second = ap (λ l. l ++ d) first ∙ ap (λ l. a ++ l) second

-- what is handed on of a text, and then of another
pub handed_both : (paints : Bool) (h₀ h₁ h₂ : List ℕ) (k₀ k₁ k₂ : Option (List ℕ)) (s t : List ℕ)
    → PassesOn paints h₀ h₁ k₀ k₁ s → PassesOn paints h₁ h₂ k₁ k₂ t → PassesOn paints h₀ h₂ k₀ k₂ (s ++ t)
handed_both paints h₀ h₁ h₂ k₀ k₁ k₂ s t first second = record {
  sent = first.sent ++ second.sent;
  received = first.received ++ second.received;
  parts = sym (append_assoc h₀ s t) ∙ (ap (λ l. l ++ t) first.parts ∙ (append_assoc first.sent h₁ t
      ∙ (ap (λ l. first.sent ++ l) second.parts ∙ sym (append_assoc first.sent second.sent h₂))));
  as_sent = sent_both paints first.sent first.received second.sent second.received first.as_sent second.as_sent;
  appended = Appends-trans k₀ k₁ k₂ first.received second.received first.appended second.appended;
}

-- a piece is held
pub piece_held : (paints : Bool) (h₀ h₁ : List ℕ) (k : Option (List ℕ)) (piece : List ℕ) → h₁ ≡ h₀ ++ piece → PassesOn paints h₀ h₁ k k piece
piece_held paints h₀ h₁ k piece held = record { sent = []; received = []; parts = sym held; as_sent = sent_same paints []; appended = Appends-nil k }

-- what was held is handed on as it is, and then a piece
pub piece_sent : (paints : Bool) (h₀ h₁ : List ℕ) (k₀ k₁ k₂ : Option (List ℕ)) (piece : List ℕ)
    → h₁ ≡ [] → Appends k₀ k₁ h₀ → Appends k₁ k₂ piece → PassesOn paints h₀ h₁ k₀ k₂ piece
piece_sent paints h₀ h₁ k₀ k₁ k₂ piece held first second = record {
  sent = h₀ ++ piece;
  received = h₀ ++ piece;
  parts = sym (append-nil (h₀ ++ piece)) ∙ ap (λ l. (h₀ ++ piece) ++ l) (sym held);
  as_sent = sent_same paints (h₀ ++ piece);
  appended = Appends-trans k₀ k₁ k₂ h₀ piece first second;
}

-- a line is sent in two parts
pub parts_sent : (first second line : List ℕ) (k₀ k₁ k₂ : Option (List ℕ)) → first ++ second ≡ line → SendsPart first k₀ k₁ → SendsPart second k₁ k₂ → SendsPart line k₀ k₂
parts_sent first second line k₀ k₁ k₂ is (a, as_a, sent_a) (b, as_b, sent_b) =
    (a ++ b, subst (λ l. Painted l (a ++ b)) is (both as_a as_b), Appends-trans k₀ k₁ k₂ a b sent_a sent_b)

-- the line that was held is sent, and then a text
pub line_sent : (h₀ h₁ : List ℕ) (k₀ k₁ k₂ : Option (List ℕ)) (text : List ℕ) → h₁ ≡ [] → SendsPart h₀ k₀ k₁ → Appends k₁ k₂ text → PassesOn true h₀ h₁ k₀ k₂ text
line_sent h₀ h₁ k₀ k₁ k₂ text held (a, as_a, sent_a) rest = record {
  sent = h₀ ++ text;
  received = a ++ text;
  parts = sym (append-nil (h₀ ++ text)) ∙ ap (λ l. (h₀ ++ text) ++ l) (sym held);
  as_sent = both as_a (plain text);
  appended = Appends-trans k₀ k₁ k₂ a text sent_a rest;
}

-- a part is sent in its tint
pub part_tinted : (tint : Tint) (code part : List ℕ) (k₀ k₁ k₂ k₃ : Option (List ℕ)) → tint_code tint ≡ Some code
    → Appends k₀ k₁ code → Appends k₁ k₂ part → Appends k₂ k₃ reset_code → SendsPart part k₀ k₃
part_tinted tint code part k₀ k₁ k₂ k₃ is first second third =
    (code ++ part ++ reset_code, tinted tint code part is, Appends-trans k₀ k₂ k₃ (code ++ part) reset_code (Appends-trans k₀ k₁ k₂ code part first second) third)

-- a part is sent as it is
pub part_plain : (part : List ℕ) (k₀ k₁ : Option (List ℕ)) → Appends k₀ k₁ part → SendsPart part k₀ k₁
part_plain part k₀ k₁ sent = (part, plain part, sent)

-- nothing is held, and a text is sent as it is
pub text_sent : (paints : Bool) (h : List ℕ) (k₀ k₁ : Option (List ℕ)) (text : List ℕ) → h ≡ [] → Appends k₀ k₁ text → PassesOn paints h h k₀ k₁ text
text_sent paints h k₀ k₁ text held sent =
    piece_sent paints h h k₀ k₀ k₁ text held (subst (Appends k₀ k₀) (sym held) (Appends-nil k₀)) sent

-- the same, where the second is said of a later state
pub handed_next : (paints later : Bool) (h₀ h₁ h₂ : List ℕ) (k₀ k₁ k₂ : Option (List ℕ)) (s t u : List ℕ) → later ≡ paints → s ++ t ≡ u
    → PassesOn paints h₀ h₁ k₀ k₁ s → PassesOn later h₁ h₂ k₁ k₂ t → PassesOn paints h₀ h₂ k₀ k₂ u
handed_next paints later h₀ h₁ h₂ k₀ k₁ k₂ s t u same whole first second =
    subst (PassesOn paints h₀ h₂ k₀ k₂) whole
    (handed_both paints h₀ h₁ h₂ k₀ k₁ k₂ s t first (subst (λ paints. PassesOn paints h₁ h₂ k₁ k₂ t) same second))
