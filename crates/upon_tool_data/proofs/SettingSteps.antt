-- Values that are set one after the other.
use Rattle.std.proofs.Common.{◌≡◌, ◌<◌, ◌+◌, ℕ, List, [], ◌∷◌, ◌++◌, take, drop, length, get_or, true, false, Bor, Option, None, Some, option_and_then, refl, sym, ap, subst, ◌∙◌}
use Rattle.std.proofs.lemmas.List.{take_more}
use Rattle.std.specs.Prelude.{if◌then◌else◌}
use Rattle.upon_types.specs.Val.{Val, Entries}
use Rattle.upon_data.specs.Entries.{keys_of, with_member}
use Rattle.upon_tool_data.specs.Settings.{path_in, set_each, set_one, value_text, value_written, LacksEquals, RefusesSetting, RefusesSettings, RefusesValue}
use Rattle.upon_tool_data.specs.Words.{has_equals}
use Rattle.upon_tool_data.specs.declared.fault.ContextFault.{ContextFault}
use Rattle.upon_tool_data.specs.declared.fault.ContextFault.TheVariants.{LacksText, LacksValue, InputTwice, Unreadable, NotText}
use Rattle.upon_tool_data.specs.declared.fault.ContextFault.TheVariants.{NotOfFormat, NotObject, NotJson, NotMap, OutOfMemory}
use Rattle.upon_tool_data.specs.declared.settings.Writing.{Writing}
use Rattle.upon_tool_data.specs.declared.settings.Writing.TheVariants.{Text, Json}
use Rattle.upon_tool_data.proofs.FileSteps.{split_at}

-- the value of a word is set
pub one_set : (writing : Writing) (word path text : List ℕ) (v : Val) (old new : Entries) → has_equals word ≡ true → path ≡ path_in word → text ≡ value_text word → value_written writing text ≡ Some v → with_member (keys_of path) v old ≡ Some new → set_one writing word old ≡ Some new
one_set writing word path text v old new has paths texts written sets =
    ap (λ b. if b then option_and_then (λ v. with_member (keys_of (path_in word)) v old) (value_written writing (value_text word)) else None) has
    ∙ ap (option_and_then (λ v. with_member (keys_of (path_in word)) v old)) (ap (value_written writing) (sym texts) ∙ written)
    ∙ ap (λ path. with_member (keys_of path) v old) (sym paths)
    ∙ sets

-- ---- why one is not
pub lacks_refused : (writing : Writing) (word : Bor (List ℕ)) (es : Entries) (fault : ContextFault) → LacksEquals writing word fault → has_equals word.now ≡ false → RefusesSetting writing word es fault
lacks_refused Text word es fault is lacks = subst (RefusesSetting Text word es) (sym is) (refl, refl, lacks)
lacks_refused Json word es fault is lacks = subst (RefusesSetting Json word es) (sym is) (refl, refl, lacks)

pub value_refused : (writing : Writing) (word : Bor (List ℕ)) (text : List ℕ) (es : Entries) (fault : ContextFault) → text ≡ value_text word.now → RefusesValue writing word text fault → RefusesSetting writing word es fault
value_refused writing word text es (NotJson told refusal) same is = (is.0, subst (λ text. value_written writing text ≡ None) same is.1)
value_refused writing word text es OutOfMemory same is = tt
value_refused writing word text es (LacksText told) same is = absurd is
value_refused writing word text es (LacksValue told) same is = absurd is
value_refused writing word text es InputTwice same is = absurd is
value_refused writing word text es (Unreadable name error) same is = absurd is
value_refused writing word text es (NotText name) same is = absurd is
value_refused writing word text es (NotOfFormat name refusal) same is = absurd is
value_refused writing word text es (NotObject name) same is = absurd is
value_refused writing word text es (NotMap told) same is = absurd is

pub path_refused : (writing : Writing) (word : Bor (List ℕ)) (path text : List ℕ) (v : Val) (es : Entries) → path ≡ path_in word.now → text ≡ value_text word.now → value_written writing text ≡ Some v → with_member (keys_of path) v es ≡ None → RefusesSetting writing word es (NotMap word)
path_refused writing word path text v es paths texts written none =
    (refl, v, ap (value_written writing) (sym texts) ∙ written, ap (λ path. with_member (keys_of path) v es) (sym paths) ∙ none)

-- ---- one more
rest_more : (writing : Writing) (ws : List (Bor (List ℕ))) (word : Bor (List ℕ)) (mid new : Entries) → ((es : Entries) → set_each writing ws es ≡ Some mid → set_each writing (ws ++ word ∷ []) es ≡ Some new) → (next : Option Entries)
    → option_and_then (set_each writing ws) next ≡ Some mid → option_and_then (set_each writing (ws ++ word ∷ [])) next ≡ Some new
rest_more writing ws word mid new more None is = absurd cc
rest_more writing ws word mid new more (Some es) is = more es is

sets_more : (writing : Writing) (words : List (Bor (List ℕ))) (word : Bor (List ℕ)) (old mid new : Entries) → set_each writing words old ≡ Some mid → set_one writing word.now mid ≡ Some new → set_each writing (words ++ word ∷ []) old ≡ Some new
sets_more writing [] word old mid new done sets =
    let same : old ≡ mid = cc done in
    ap (option_and_then (set_each writing [])) (ap (set_one writing word.now) same ∙ sets)
sets_more writing (w ∷ ws) word old mid new done sets =
    rest_more writing ws word mid new (λ es is. sets_more writing ws word es mid new is sets) (set_one writing w.now old) done

module _ (writing : Writing) (words : List (Bor (List ℕ))) (i : ℕ) (d : Bor (List ℕ)) (old mid : Entries) (inside : i < length words) (done : set_each writing (take i words) old ≡ Some mid) where
  pub set_more : (new : Entries) → set_one writing (get_or words i d).now mid ≡ Some new → set_each writing (take (i + 1) words) old ≡ Some new
  set_more new sets = ap (λ words. set_each writing words old) (take_more words i d inside) ∙ sets_more writing (take i words) (get_or words i d) old mid new done sets

  pub setting_refused : (fault : ContextFault) → RefusesSetting writing (get_or words i d) mid fault → RefusesSettings writing words old fault
  setting_refused fault refused = (take i words, get_or words i d, drop (i + 1) words, split_at words i d inside, mid, done, refused)
