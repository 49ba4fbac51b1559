-- What a text asks for is what the grammar has, both ways.
use Rattle.std.proofs.Common.{◌≡◌, ℕ, ◌+◌, List, [], ◌∷◌, Option, None, Some, Ok, refl, sym, ap, ◌∙◌}
use Rattle.std.specs.Option.{option_and_then}
use Rattle.bv_base.specs.Answers.{then_do}
use Rattle.aux_read.specs.declared.aux.Aux.{Aux}
use Rattle.aux_read.specs.Grammar.{Line, Spells}
use Rattle.aux_read.specs.Lines.{nothing, take_line}
use Rattle.aux_read.specs.Meaning.{AuxReads, and_line, and_lines, start_of}
use Rattle.aux_read.specs.Reading.{aux_of, reading}
use Rattle.aux_read.proofs.Lined.{Lined, as_lines, lines_are}
use Rattle.aux_read.proofs.LinesRead.{line_read, line_taken}
use Rattle.bv_base.proofs.ThenLemmas.{then_ok}

-- lines that are read: what they are, and what they ask for
record LinesRead (number : ℕ) (text : List ℕ) (aux next : Aux) : Type 0 where
  lines : List Line
  spelled : Spells lines text
  meant : and_lines number lines aux ≡ Some next

all_read : (number : ℕ) (texts : List (List ℕ)) (text : List ℕ) (aux next : Aux) → Lined texts text
    → reading (start_of number) texts aux ≡ Ok next → LinesRead number text aux next
all_read number [] text aux next lined e =
    record { lines = []; spelled = lined; meant = let same : aux ≡ next = cc in ap Some same }
all_read number (first ∷ texts) text aux next (rest, is, ends, lined) e =
    let begun = then_ok (take_line (start_of number) first aux) (reading (start_of (number + 1)) texts) next e in
    let line = line_read number first aux begun.0 begun.1 in
    let more = all_read (number + 1) texts rest begun.0 next lined begun.2 in
    record {
      lines = line.line ∷ more.lines;
      spelled = (first, rest, is, ends, line.spelled, more.spelled);
      meant = ap (option_and_then (and_lines (number + 1) more.lines)) line.meant ∙ more.meant;
    }

pub reads_of : (source : List ℕ) (aux : Aux) → aux_of source ≡ Ok aux → AuxReads source aux
reads_of source aux e =
    let cut = as_lines source in
    let same = ap (λ l. reading (start_of 1) l nothing) (lines_are cut.lines source cut.lined) in
    let read = all_read 1 cut.lines source nothing aux cut.lined (sym same ∙ e) in
    record { lines = read.lines; spelled = read.spelled; meant = read.meant }

-- a line and the lines after it
record Meant (number : ℕ) (line : Line) (lines : List Line) (aux next : Aux) : Type 0 where
  between : Aux
  first : and_line number line aux ≡ Some between
  rest : and_lines (number + 1) lines between ≡ Some next

meant_first : (number : ℕ) (line : Line) (lines : List Line) (aux next : Aux) → and_lines number (line ∷ lines) aux ≡ Some next
    → Meant number line lines aux next
meant_first number line lines aux next e = by (and_line number line aux) refl e
  where
    by : (o : Option Aux) → and_line number line aux ≡ o → option_and_then (and_lines (number + 1) lines) o ≡ Some next
        → Meant number line lines aux next
    by None is e = absurd (cc)
    by (Some between) is e = record { between = between; first = is; rest = e }

-- lines of the grammar are read as they are meant
record AllTaken (number : ℕ) (text : List ℕ) (aux next : Aux) : Type 0 where
  texts : List (List ℕ)
  lined : Lined texts text
  gives : reading (start_of number) texts aux ≡ Ok next

all_taken : (number : ℕ) (lines : List Line) (text : List ℕ) (aux next : Aux) → Spells lines text → and_lines number lines aux ≡ Some next
    → AllTaken number text aux next
all_taken number [] text aux next spelled e =
    record { texts = []; lined = spelled; gives = let same : aux ≡ next = cc in ap Ok same }
all_taken number (line ∷ lines) text aux next (first, rest, is, ends, one, spelled) e =
    let meant = meant_first number line lines aux next e in
    let more = all_taken (number + 1) lines rest meant.between next spelled meant.rest in
    record {
      texts = first ∷ more.texts;
      lined = (rest, is, ends, more.lined);
      gives =
          ap (λ r. then_do r (reading (start_of (number + 1)) more.texts)) (line_taken number line first aux meant.between one meant.first)
          ∙ more.gives;
    }

pub of_reads : (source : List ℕ) (aux : Aux) → AuxReads source aux → aux_of source ≡ Ok aux
of_reads source aux reads =
    let all = all_taken 1 reads.lines source nothing aux reads.spelled reads.meant in
    ap (λ l. reading (start_of 1) l nothing) (lines_are all.texts source all.lined) ∙ all.gives
