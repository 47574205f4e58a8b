-- Words of which all is known, and what they ask for.
use Rattle.std.specs.Prelude.{◌≡◌, ◌||◌, ◌==◌, ℕ, List, [], Bool, not, Option, None, is_some, length, codes, unwrap_or}
use Rattle.upon_tool_io.specs.Asks.{color_of_word, escape_of_words}
use Rattle.upon_tool_io.specs.Said.{lent_text, lent_texts, Said}
use Rattle.upon_tool_io.specs.declared.arguments.RenderCall.{RenderCall}

-- What words say, by the names of their arguments.
pub record KnownWords : Type 0 where
  -- the text of an argument
  pub text : List ℕ → Option (List ℕ)
  -- the texts of an argument, in their order
  pub texts : List ℕ → List (List ℕ)
  -- whether an argument is there
  pub flag : List ℕ → Bool
  -- the number of an argument
  pub number : List ℕ → Option ℕ

-- the words say just this
abbrev pub exact_words : KnownWords → Said
exact_words words = record {
  text = λ name answer. answer ≡ words.text name;
  texts = λ name answer. answer ≡ words.texts name;
  flag = λ name answer. answer ≡ words.flag name;
  number = λ name answer. answer ≡ words.number name;
}

-- the words say that there are contexts: a schema, or data of samples
abbrev pub known_contexts : KnownWords → Bool
known_contexts words = is_some (words.text (codes "schema")) || words.flag (codes "env")
    || not (length (words.texts (codes "data")) == 0) || not (length (words.texts (codes "set-json")) == 0)
    || not (length (words.texts (codes "set")) == 0)

-- each part of a rendering is just what the words say
pub record IsRenderingOf (words : KnownWords) (call : RenderCall) : Type 0 where
  pub once : words.text (codes "each") ≡ None
  pub file : call.file.now ≡ unwrap_or (words.text (codes "FILE")) []
  pub env : call.data.env ≡ words.flag (codes "env")
  pub files : lent_texts call.data.files.items ≡ words.texts (codes "data")
  pub format : lent_text call.data.format ≡ words.text (codes "format")
  pub set_json : lent_texts call.data.set_json.items ≡ words.texts (codes "set-json")
  pub set : lent_texts call.data.set.items ≡ words.texts (codes "set")
  pub templates : lent_text call.templates ≡ words.text (codes "templates")
  pub follow : call.follow ≡ words.flag (codes "follow")
  pub escape : call.escape ≡ escape_of_words (words.text (codes "escape")) (words.flag (codes "html"))
  pub standard : call.standard ≡ words.flag (codes "std")
  pub out : lent_text call.out ≡ words.text (codes "out")
  pub max_steps : call.max_steps ≡ words.number (codes "max-steps")
  pub max_output : call.max_output ≡ words.number (codes "max-output")
  pub max_memory : call.max_memory ≡ words.number (codes "max-memory")
  pub color : call.color ≡ color_of_word (words.text (codes "color"))
