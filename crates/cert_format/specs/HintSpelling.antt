-- How hints are spelled (docs/CERTIFICATES.md, "Hints").
use Rattle.std.specs.Prelude.{ℕ, List, [], ◌∷◌, ◌++◌, map, codes}
use Rattle.std.specs.Fmt.{decimal}
use Rattle.sym_state.specs.declared.hint.Hint.{Hint}
use Rattle.sym_state.specs.declared.hint.Hint.TheVariants.{Apply, Walk, Loop, Case, Plain, Keep, Drop, Step}
use Rattle.sym_state.specs.declared.proof.Proof.{Proof}
use Rattle.sym_state.specs.declared.proof.Reference.{Reference}
use Rattle.sym_state.specs.declared.proof.Reference.TheVariants.{Row, ValueLow, ValueHigh, LengthLow, NamesLow, NamesHigh, ExactLow, ExactHigh, NonblankLength, NonblankNames, TextLow, TextHigh, PosLow, PosHigh, CountLow, CountHigh}
use Rattle.sym_state.specs.declared.proof.Use.{Use}
use Rattle.cert_format.specs.PieceSpelling.{sym_text}

-- a reference: a letter, and the number of a row or a symbol
abbrev pub reference_text : Reference → List ℕ
reference_text (ValueLow sym) = 118 ∷ sym_text sym
reference_text (ValueHigh sym) = 119 ∷ sym_text sym
reference_text (LengthLow sym) = 108 ∷ sym_text sym
reference_text (NamesLow sym) = 110 ∷ sym_text sym
reference_text (NamesHigh sym) = 109 ∷ sym_text sym
reference_text (ExactLow sym) = 101 ∷ sym_text sym
reference_text (ExactHigh sym) = 102 ∷ sym_text sym
reference_text (NonblankLength sym) = 98 ∷ sym_text sym
reference_text (NonblankNames sym) = 99 ∷ sym_text sym
reference_text (TextLow sym) = 116 ∷ sym_text sym
reference_text (TextHigh sym) = 117 ∷ sym_text sym
reference_text PosLow = codes "p"
reference_text PosHigh = codes "q"
reference_text CountLow = codes "o"
reference_text CountHigh = codes "z"
reference_text (Row number) = 114 ∷ decimal number

-- how often a row is taken, and the row
abbrev pub use_text : Use → List ℕ
use_text one = decimal one.times ++ 58 ∷ reference_text one.reference

-- a proof, after its word: the divisor, and what is added up
abbrev pub proof_items : Proof → List (List ℕ)
proof_items proof = decimal proof.divisor ∷ map use_text proof.uses

-- a hint
abbrev pub hint_items : Hint → List (List ℕ)
hint_items (Apply number) = codes "use" ∷ (decimal number ∷ [])
hint_items Walk = codes "walk" ∷ []
hint_items (Loop number) = codes "loop" ∷ (decimal number ∷ [])
hint_items (Case number) = codes "case" ∷ (decimal number ∷ [])
hint_items Plain = codes "plain" ∷ []
hint_items Keep = codes "keep" ∷ []
hint_items (Drop proof) = codes "drop" ∷ proof_items proof
hint_items (Step proof) = codes "step" ∷ proof_items proof

-- the lines of hints
abbrev pub hints_lines : List Hint → List (List (List ℕ))
hints_lines hints = (codes "hints" ∷ []) ∷ (map hint_items hints ++ (codes "end" ∷ []) ∷ [])
