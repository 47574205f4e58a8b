-- Values that are set at paths.
use Rattle.std.specs.Prelude.{◌≡◌, ℕ, List, [], ◌∷◌, ◌++◌, false, if◌then◌else◌, Option, Some, None, option_and_then}
use Rattle.std.specs.Borrow.{Bor}
use Rattle.std.specs.List.{before_first, after_first}
use Rattle.upon_types.specs.Val.{Val, text_val, Entries}
use Rattle.upon_json.specs.Context.{text_value}
use Rattle.upon_data.specs.Entries.{keys_of, with_member}
use Rattle.upon_tool_data.specs.Words.{has_equals, is_equals}
use Rattle.upon_tool_data.specs.declared.fault.ContextFault.{ContextFault}
use Rattle.upon_tool_data.specs.declared.fault.ContextFault.TheVariants.{LacksText, LacksValue, InputTwice, Unreadable, NotText}
use Rattle.upon_tool_data.specs.declared.fault.ContextFault.TheVariants.{NotOfFormat, NotObject, NotJson, NotMap, OutOfMemory}
use Rattle.upon_tool_data.specs.declared.settings.Writing.{Writing}
use Rattle.upon_tool_data.specs.declared.settings.Writing.TheVariants.{Text, Json}

-- the path in a word, before its first `=`
abbrev pub path_in : List ℕ → List ℕ
path_in word = before_first is_equals word

-- what is written for the value in a word, after its first `=`
abbrev pub value_text : List ℕ → List ℕ
value_text word = after_first is_equals word

-- the value that a text is
abbrev pub value_written : Writing → List ℕ → Option Val
value_written Text text = Some (text_val text)
value_written Json text = text_value text

-- entries with the value of a word set at its path
abbrev pub set_one : Writing → List ℕ → Entries → Option Entries
set_one writing word es = if has_equals word
    then option_and_then (λ v. with_member (keys_of (path_in word)) v es) (value_written writing (value_text word))
    else None

-- so for each of the words, one after the other
abbrev pub set_each : Writing → List (Bor (List ℕ)) → Entries → Option Entries
set_each writing [] es = Some es
set_each writing (word ∷ words) es = option_and_then (set_each writing words) (set_one writing word.now es)

-- ---- why one is not

-- a word has no `=`
abbrev pub LacksEquals : Writing → Bor (List ℕ) → ContextFault → Type 0
LacksEquals Text word fault = fault ≡ LacksText word
LacksEquals Json word fault = fault ≡ LacksValue word

-- The text in a word is no JSON; or memory is out.
abbrev pub RefusesValue : Writing → Bor (List ℕ) → List ℕ → ContextFault → Type 0
RefusesValue writing word text (NotJson told refusal) = (told ≡ word) × (value_written writing text ≡ None)
RefusesValue writing word text OutOfMemory = Unit {0}
RefusesValue writing word text (LacksText told) = ⊥
RefusesValue writing word text (LacksValue told) = ⊥
RefusesValue writing word text InputTwice = ⊥
RefusesValue writing word text (Unreadable name error) = ⊥
RefusesValue writing word text (NotText name) = ⊥
RefusesValue writing word text (NotOfFormat name refusal) = ⊥
RefusesValue writing word text (NotObject name) = ⊥
RefusesValue writing word text (NotMap told) = ⊥

-- A word has no `=`; or what follows that is no JSON; or its path goes through a value that is no map; or memory is
-- out.
abbrev pub RefusesSetting : Writing → Bor (List ℕ) → Entries → ContextFault → Type 0
RefusesSetting writing word es (LacksText told) = (told ≡ word) × (writing ≡ Text) × (has_equals word.now ≡ false)
RefusesSetting writing word es (LacksValue told) = (told ≡ word) × (writing ≡ Json) × (has_equals word.now ≡ false)
RefusesSetting writing word es (NotJson told refusal) =
    (told ≡ word) × (value_written writing (value_text word.now) ≡ None)
RefusesSetting writing word es (NotMap told) = (told ≡ word) × (v : Val)
    × (value_written writing (value_text word.now) ≡ Some v) × (with_member (keys_of (path_in word.now)) v es ≡ None)
RefusesSetting writing word es OutOfMemory = Unit {0}
RefusesSetting writing word es InputTwice = ⊥
RefusesSetting writing word es (Unreadable name error) = ⊥
RefusesSetting writing word es (NotText name) = ⊥
RefusesSetting writing word es (NotOfFormat name refusal) = ⊥
RefusesSetting writing word es (NotObject name) = ⊥

-- one of the words is refused, after the values of those before it were set
abbrev pub RefusesSettings : Writing → List (Bor (List ℕ)) → Entries → ContextFault → Type 0
RefusesSettings writing words es fault = (before : List (Bor (List ℕ))) × (word : Bor (List ℕ))
    × (after : List (Bor (List ℕ))) × (words ≡ before ++ word ∷ after)
    × (mid : Entries) × (set_each writing before es ≡ Some mid) × RefusesSetting writing word mid fault
