-- The words of the language, reported apart.
use Rattle.std.specs.Prelude.{ℕ, List, if◌then◌else◌, bytes_eq, codes}

-- a keyword, or none
pub data Key : Type 0 where
  key_if : Key
  key_not : Key
  key_else : Key
  key_endif : Key
  key_for : Key
  key_in : Key
  key_endfor : Key
  key_with : Key
  key_as : Key
  key_endwith : Key
  key_include : Key
  key_true : Key
  key_false : Key
  no_key : Key

-- the keyword that these bytes spell
abbrev pub keyword_of : List ℕ → Key
keyword_of w =
    if bytes_eq w (codes "if") then key_if else (
    if bytes_eq w (codes "not") then key_not else (
    if bytes_eq w (codes "else") then key_else else (
    if bytes_eq w (codes "endif") then key_endif else (
    if bytes_eq w (codes "for") then key_for else (
    if bytes_eq w (codes "in") then key_in else (
    if bytes_eq w (codes "endfor") then key_endfor else (
    if bytes_eq w (codes "with") then key_with else (
    if bytes_eq w (codes "as") then key_as else (
    if bytes_eq w (codes "endwith") then key_endwith else (
    if bytes_eq w (codes "include") then key_include else (
    if bytes_eq w (codes "true") then key_true else (
    if bytes_eq w (codes "false") then key_false else no_key))))))))))))

-- what the keyword spells
abbrev pub key_word : Key → List ℕ
key_word key_if = codes "if"
key_word key_not = codes "not"
key_word key_else = codes "else"
key_word key_endif = codes "endif"
key_word key_for = codes "for"
key_word key_in = codes "in"
key_word key_endfor = codes "endfor"
key_word key_with = codes "with"
key_word key_as = codes "as"
key_word key_endwith = codes "endwith"
key_word key_include = codes "include"
key_word key_true = codes "true"
key_word key_false = codes "false"
key_word no_key = codes ""
