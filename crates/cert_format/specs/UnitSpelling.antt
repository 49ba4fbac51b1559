-- How summaries, loops, commands and certificates are spelled (docs/CERTIFICATES.md, "Certificates").
use Rattle.std.specs.Prelude.{ℕ, Bool, if◌then◌else◌, List, [], ◌∷◌, ◌++◌, map, codes, Option, Some}
use Rattle.std.specs.Fmt.{decimal}
use Rattle.std.specs.Option.{option_map_or}
use Rattle.bst_meaning.specs.declared.value.Target.{Target}
use Rattle.bst_meaning.specs.declared.value.Target.TheVariants.{Named, Block}
use Rattle.name_table.specs.Sound.{block_of}
use Rattle.name_table.specs.declared.names.Kind.{Kind}
use Rattle.name_table.specs.declared.names.NameId.{NameId}
use Rattle.name_table.specs.declared.style.Style.{Style}
use Rattle.sym_state.specs.declared.hint.Hint.{Hint}
use Rattle.sym_state.specs.declared.piece.Piece.{Piece}
use Rattle.cert_format.specs.HintSpelling.{hints_lines}
use Rattle.cert_format.specs.PieceSpelling.{piece_lines}
use Rattle.cert_format.specs.Spelling.{cond_items, name_text}
use Rattle.cert_format.specs.declared.cert.Cert.{Cert}
use Rattle.cert_format.specs.declared.cert.CommandPart.{CommandPart}
use Rattle.cert_format.specs.declared.cert.Loop.{Loop}
use Rattle.cert_format.specs.declared.cert.Summary.{Summary}

-- the number of a block
abbrev pub block_number : Option (Option ℕ) → ℕ
block_number (Some (Some number)) = number
block_number _ = 0

-- a body: the name of a function, or `#` and the number of a block
abbrev pub body_text : Style → Target → List ℕ
body_text style (Named id) = name_text style.names id
body_text style (Block body) = 35 ∷ decimal (block_number (block_of body style.bodies))

-- a line of one word, where it stands
abbrev pub word_lines : List ℕ → Bool → List (List (List ℕ))
word_lines word stands = if stands then (word ∷ []) ∷ [] else []

-- `writes` V
abbrev pub writes_items : List (List ℕ × Kind) → NameId → List (List ℕ)
writes_items names id = codes "writes" ∷ (name_text names id ∷ [])

-- the lines between the first line of a summary or loop and its pieces
abbrev pub head_lines : List (List ℕ × Kind) → Bool → Bool → List NameId → List (List (List ℕ))
head_lines names entry whole writes =
    word_lines (codes "entry") entry ++ (word_lines (codes "whole") whole ++ map (writes_items names) writes)

-- a piece behind the word that says what it is for
abbrev pub marked_lines : List ℕ → List (List ℕ × Kind) → Piece → List (List (List ℕ))
marked_lines word names piece = (word ∷ []) ∷ piece_lines names piece

-- the lines of each item of a list
abbrev pub each_lines : {A : Type 0} → (A → List (List (List ℕ))) → List A → List (List (List ℕ))
each_lines lines [] = []
each_lines lines (item ∷ items) = lines item ++ each_lines lines items

-- pieces, each behind such a word
abbrev pub all_marked : List ℕ → List (List ℕ × Kind) → List Piece → List (List (List ℕ))
all_marked word names pieces = each_lines (marked_lines word names) pieces

-- a piece that may be missing
abbrev pub maybe_marked : List ℕ → List (List ℕ × Kind) → Option Piece → List (List (List ℕ))
maybe_marked word names piece = option_map_or (marked_lines word names) piece []

-- the lines of a unit: the first one, what follows it in three parts, and the hints
abbrev pub unit_lines : List (List ℕ) → List (List (List ℕ)) → List (List (List ℕ)) → List (List (List ℕ)) → List Hint → List (List (List ℕ))
unit_lines first a b c hints = first ∷ (a ++ (b ++ (c ++ hints_lines hints)))

-- the lines of a summary
abbrev pub summary_lines : Style → Summary → List (List (List ℕ))
summary_lines style summary =
    unit_lines (codes "summary" ∷ (body_text style summary.body ∷ [])) (head_lines style.names summary.entry summary.whole summary.writes)
    (marked_lines (codes "pre") style.names summary.pre) (all_marked (codes "post") style.names summary.posts) summary.hints

-- the lines of a loop
abbrev pub loop_lines : Style → Loop → List (List (List ℕ))
loop_lines style loop =
    unit_lines (codes "loop" ∷ (body_text style loop.test ∷ (body_text style loop.body ∷ []))) (head_lines style.names loop.entry loop.whole loop.writes)
    (all_marked (codes "case") style.names loop.cases) (all_marked (codes "exit") style.names loop.exits) loop.hints

-- the lines of a command
abbrev pub command_lines : Style → CommandPart → List (List (List ℕ))
command_lines style command =
    unit_lines (codes "command" ∷ (decimal command.index ∷ [])) (maybe_marked (codes "after") style.names command.after)
    (maybe_marked (codes "visit") style.names command.visit) (maybe_marked (codes "keeps") style.names command.keeps) command.hints

-- the lines of a certificate
abbrev pub cert_lines : Style → Cert → List (List (List ℕ))
cert_lines style cert =
    (codes "bstcert" ∷ (decimal cert.list ∷ []))
    ∷ (cond_items style.names cert.cond
    ++ (each_lines (summary_lines style) cert.summaries
    ++ (each_lines (loop_lines style) cert.loops
    ++ (each_lines (command_lines style) cert.commands
    ++ (codes "done" ∷ []) ∷ []))))
