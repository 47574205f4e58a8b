-- A compiler that is told of the pieces of a text has the program of the text's tree.
use Rattle.std.proofs.Common.{◌≡◌, ℕ, List, [], ◌∷◌, ◌++◌, false, Result, Ok, Err, refl, sym, ap, ◌∙◌}
use Rattle.std.specs.Result.{OnOk}
use Rattle.std.proofs.lemmas.List.{map-append}
use Rattle.upon_language_spec.specs.Blocks.{OpenBlock}
use Rattle.upon_language_spec.specs.Cut.{Lexeme}
use Rattle.upon_language_spec.specs.Lexing.{LexerState}
use Rattle.upon_language_spec.specs.Search.{DelimiterText}
use Rattle.upon_language_spec.specs.Shown.{shown_lexemes}
use Rattle.upon_language_spec.specs.Tokens.{significant}
use Rattle.upon_compiler.specs.Program.{program_view}
use Rattle.upon_compiler.specs.declared.types.program.Instr.{Instr as CodeInstr}
use Rattle.upon_compiler.specs.After.{after_all, after_event}
use Rattle.upon_compiler.specs.Compiler.{CompilerState, nothing}
use Rattle.upon_compiler.specs.Events.{Event, opening_event}
use Rattle.upon_machine_spec.specs.Instr.{Instr}
use Rattle.upon_tag_parser.specs.BlockTags.{BlockTag, opening_tag, tag_code}
use Rattle.upon_types.specs.BlockKinds.{Opening}
use Rattle.upon_types.specs.Expression.{Expression, expression_span}
use Rattle.upon_types.specs.declared.types.Span.{Span}
use Rattle.upon_compiler.proofs.Told.{told_tree}
use Rattle.upon_syntax.specs.Parsed.{IsParsedProgram}
use Rattle.upon_syntax.specs.declared.compile.parse.piece.Piece.{Piece as CodePiece}
use Rattle.upon_syntax.specs.PieceReading.{PiecesSoFar, PieceFound}
use Rattle.upon_syntax.specs.Pieces.{TemplatePiece, KeepsPiece, LeaveOpen, piece_code}
use Rattle.upon_syntax.specs.TagReading.{HasPieces}
use Rattle.upon_syntax.specs.Told.{event_of, events_of, tag_event}
use Rattle.upon_syntax.proofs.InPieces.{told_statements}
use Rattle.upon_syntax.proofs.PieceTrees.{tree_of_pieces}

-- a compiler was told of the pieces so far
abbrev pub HasTold : List DelimiterText → List ℕ → LexerState → List OpenBlock → CompilerState → Type 0
HasTold delimiters s left stack told = (found : List TemplatePiece) × PiecesSoFar delimiters s left stack found × (told ≡ after_all (events_of found) nothing)

-- a fact that holds anyway
pub holds_on_ok : {A E P : Type 0} (r : Result A E) → P → OnOk r P
holds_on_ok (Ok a) p = p
holds_on_ok (Err e) p = tt

-- no instruction is left where none is seen
pub none_left : (code : List CodeInstr) → program_view code ≡ [] → code ≡ []
none_left [] e = refl
none_left (i ∷ is) e = absurd cc

-- the event of a tag that opens a block, whose expression has these instructions and this span
pub opening_told : (told : BlockTag) (opening : Opening) (e : Expression) (span : Span) (code : List Instr) → told ≡ opening_tag opening e → span ≡ expression_span e → code ≡ tag_code told → opening_event opening span code ≡ tag_event told
opening_told told opening e span code is at all = let same = all ∙ ap tag_code is in (λ i. opening_event opening (at i) (same i)) ∙ ap tag_event (sym is)

-- told of some pieces, and then of others
after_all-append : (events more : List Event) (s : CompilerState) → after_all (events ++ more) s ≡ after_all more (after_all events s)
after_all-append [] more s = refl
after_all-append (event ∷ events) more s = after_all-append events more (after_event event s)

-- told of one more piece
pub told_more : (found : List TemplatePiece) (piece : TemplatePiece) (old new : CompilerState) → old ≡ after_all (events_of found) nothing → new ≡ after_event (event_of piece) old
    → new ≡ after_all (events_of (found ++ piece ∷ [])) nothing
told_more found piece old new before on =
    on ∙ ap (after_event (event_of piece)) before
    ∙ sym (after_all-append (events_of found) (event_of piece ∷ []) nothing)
    ∙ ap (λ es. after_all es nothing) (sym (map-append event_of found (piece ∷ [])))

-- told of the piece that was found, of whose expression nothing else is there: what is then left of the instructions
pub found_told : (delimiters : List DelimiterText) (s : List ℕ) (before after_it : LexerState) (stack : List OpenBlock) (found : List TemplatePiece) (tokens : List Lexeme) (none code left : List CodeInstr) (kept : CodePiece) (old new : CompilerState)
    → PieceFound delimiters s before after_it stack found tokens none code kept → none ≡ [] → old ≡ after_all (events_of found) nothing
    → ((piece : TemplatePiece) → KeepsPiece kept piece → program_view code ≡ piece_code piece → new ≡ after_event (event_of piece) old)
    → ((piece : TemplatePiece) → KeepsPiece kept piece → program_view code ≡ piece_code piece → left ≡ [])
    → (left ≡ []) × HasTold delimiters s after_it stack new
found_told delimiters s before after_it stack found tokens none code left kept old new x empty told state moved =
    let is : program_view code ≡ piece_code x.piece = x.code ∙ ap (λ (y : List CodeInstr). program_view y ++ piece_code x.piece) empty in
    (moved x.piece x.keeps is, (found ++ x.piece ∷ [], x.gone.so_far, told_more found x.piece old new told (state x.piece x.keeps is)))

-- told of all pieces of a text
pub program_of_pieces : (delimiters : List DelimiterText) (s : List ℕ) (pieces : List TemplatePiece) (code : List CodeInstr) (told : CompilerState)
    → HasPieces delimiters s pieces → LeaveOpen [] pieces [] → told ≡ after_all (events_of pieces) nothing → program_view code ≡ told.code
    → IsParsedProgram delimiters s code
program_of_pieces delimiters s pieces code told has closed all view =
    let (tree, are, in_order) = tree_of_pieces s pieces (significant (shown_lexemes s false has.lexemes)) has.reads closed in
    let of_tree = told_statements tree pieces [] in_order in
    record {
      tree = tree;
      has_tree = record { lexemes = has.lexemes; cut = has.cut; reads = are };
      program = view ∙ ap (λ (x : CompilerState). x.code) (all ∙ told_tree tree (events_of pieces) of_tree);
    }
