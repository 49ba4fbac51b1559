-- How the lines of a certificate are read (docs/CERTIFICATES.md, "Certificates").
use Rattle.std.specs.Prelude.{ℕ, Bool, true, false, ◌||◌, ◌&&◌, not, nat_eq, nat_lt, nat_le, if◌then◌else◌, List, [], ◌∷◌, ◌++◌, length, codes, Option, None, Some, Result, Ok, Err}
use Rattle.std.specs.Option.{option_map, option_map_or}
use Rattle.bv_base.specs.Answers.{then_do}
use Rattle.bv_base.specs.Runs.{number_from}
use Rattle.bst_meaning.specs.declared.value.Target.{Target}
use Rattle.bst_meaning.specs.declared.value.Target.TheVariants.{Named, Block}
use Rattle.name_table.specs.declared.style.Body.{Body}
use Rattle.name_table.specs.declared.style.BodyId.{BodyId}
use Rattle.name_table.specs.declared.style.Style.{Style}
use Rattle.sym_state.specs.declared.piece.Piece.{Piece}
use Rattle.cert_format.specs.Conditions.{no_lines, worded_line}
use Rattle.cert_format.specs.Items.{expected, has_leading_zero, is_numeral, is_word, last_of, name_in, positive}
use Rattle.cert_format.specs.Lines.{Item, Line, lines_of, next_item}
use Rattle.cert_format.specs.PieceItems.{after_in, block_number, body_of}
use Rattle.cert_format.specs.Pieces.{at_end}
use Rattle.cert_format.specs.Units.{is_done, no_unit, unit_line}
use Rattle.cert_format.specs.declared.cert.Cert.{Cert}
use Rattle.cert_format.specs.declared.cert.CommandPart.{CommandPart}
use Rattle.cert_format.specs.declared.cert.Loop.{Loop}
use Rattle.cert_format.specs.declared.cert.Summary.{Summary}
use Rattle.cert_format.specs.declared.cert_lines.CertSoFar.{CertSoFar}
use Rattle.cert_format.specs.declared.limits.TheConstants.{MOST, MOST_LIST, MOST_UNITS}
use Rattle.cert_format.specs.declared.stages.CertStage.{CertStage}
use Rattle.cert_format.specs.declared.stages.CertStage.TheVariants as stage
use Rattle.cert_format.specs.declared.stages.CondStage.{CondStage}
use Rattle.cert_format.specs.declared.stages.CondStage.TheVariants.{Done as CondDone}
use Rattle.cert_format.specs.declared.stages.UnitKind.{UnitKind}
use Rattle.cert_format.specs.declared.stages.UnitKind.TheVariants as unit
use Rattle.cert_format.specs.declared.stop.Stop.{Stop}
use Rattle.cert_format.specs.declared.stop.Stop.TheVariants.{Syntax, OutOfRange, NotCanonical, TooMany}
use Rattle.cert_format.specs.declared.unit_lines.UnitSoFar.{UnitSoFar}

-- before the first line
abbrev pub no_cert : CertSoFar
no_cert =
    record {
      stage = stage.Header;
      list = 0;
      cond = no_lines;
      unit = no_unit (unit.Command 0);
      summaries = [];
      loops = [];
      commands = [];
    }

-- `bstcert` and the number of a list
abbrev pub header_line : Item → Line → CertSoFar → Result CertSoFar Stop
header_line word line p =
    then_do (expected (codes "bstcert") word) (λ _.
    then_do (next_item line) (λ item.
    then_do (positive MOST_LIST item.0) (λ list. at_end item.1 (record p { stage = stage.Cond; list = list }))))

-- what comes after a line of the condition
abbrev pub after_cond : CondStage → CertStage
after_cond CondDone = stage.Units
after_cond _ = stage.Cond

-- a line of the condition
abbrev pub in_cond : Style → Item → Line → CertSoFar → Result CertSoFar Stop
in_cond style word line p =
    then_do (worded_line style.names p.cond.stage word line p.cond) (λ cond.
    Ok (record p { stage = after_cond cond.stage; cond = cond }))

-- the block of a number that is there
abbrev pub block_there : Option BodyId → ℕ → Result Target Stop
block_there (Some body) left = Ok (Block body)
block_there None left = Err (OutOfRange left)

-- a block after `#`
abbrev pub block_of_number : List Body → Item → Result Target Stop
block_of_number bodies item =
    then_do (block_number bodies item) (λ number. block_there (body_of number bodies) item.left)

-- a body by its name
abbrev pub named_body : Style → Item → Result Target Stop
named_body style item = then_do (name_in style.names item) (λ id. Ok (Named id))

-- a body: the name of a function, or `#` and the number of a block
abbrev pub body : Style → Item → Result Target Stop
body style item = option_map_or (block_of_number style.bodies) (after_in (codes "#") item) (named_body style item)

-- a unit begins
abbrev pub begun_unit : UnitKind → CertSoFar → CertSoFar
begun_unit kind p = record p { stage = stage.InUnit; unit = no_unit kind }

-- `summary` BODY, after its word
abbrev pub summary_line : Style → Item → Line → CertSoFar → Result CertSoFar Stop
summary_line style word line p =
    if nat_le MOST_UNITS (length p.summaries) then Err (TooMany word.left)
    else then_do (next_item line) (λ item.
    then_do (body style item.0) (λ entered. at_end item.1 (begun_unit (unit.Summary entered) p)))

-- `loop` BODY BODY, after its word
abbrev pub loop_line : Style → Item → Line → CertSoFar → Result CertSoFar Stop
loop_line style word line p =
    if nat_le MOST_UNITS (length p.loops) then Err (TooMany word.left)
    else then_do (next_item line) (λ first.
    then_do (body style first.0) (λ test.
    then_do (next_item first.1) (λ second.
    then_do (body style second.0) (λ repeated. at_end second.1 (begun_unit (unit.Loop test repeated) p)))))

-- the last command before this one
abbrev pub last_command : List CommandPart → Option ℕ
last_command commands = option_map (λ command. command.index) (last_of commands)

-- a command may stand behind the last one where it is above it
abbrev pub comes_after : Option ℕ → ℕ → Bool
comes_after None index = true
comes_after (Some last) index = nat_lt last index

-- the number of a command of the style above the last one
abbrev pub command_number : ℕ → Option ℕ → Item → Result ℕ Stop
command_number count last item =
    if not (is_numeral item.text) then Err (Syntax item.left)
    else if nat_lt MOST (number_from 0 item.text) || nat_le count (number_from 0 item.text) then Err (OutOfRange item.left)
    else if has_leading_zero item.text || not (comes_after last (number_from 0 item.text)) then Err (NotCanonical item.left)
    else Ok (number_from 0 item.text)

-- `command` N, after its word
abbrev pub command_line : Style → Line → CertSoFar → Result CertSoFar Stop
command_line style line p =
    then_do (next_item line) (λ item.
    then_do (command_number (length style.commands) (last_command p.commands) item.0) (λ index.
    at_end item.1 (begun_unit (unit.Command index) p)))

-- `done`
abbrev pub done_line : Item → Line → CertSoFar → Result CertSoFar Stop
done_line word line p = then_do (expected (codes "done") word) (λ _. at_end line (record p { stage = stage.Done }))

-- a list has no item
abbrev pub has_none : {A : Type 0} → List A → Bool
has_none list = nat_eq (length list) 0

-- a summary may come
abbrev pub is_before_loops : CertSoFar → Bool
is_before_loops p = has_none p.loops && has_none p.commands

-- the first line of a unit, or `done`: summaries, then loops, then commands
abbrev pub between_units : Style → Item → Line → CertSoFar → Result CertSoFar Stop
between_units style word line p =
    if is_word (codes "summary") word && is_before_loops p
    then summary_line style word line p
    else if is_word (codes "loop") word && has_none p.commands then loop_line style word line p
    else if is_word (codes "command") word then command_line style line p
    else done_line word line p

-- a piece that is there, and else one that says nothing
abbrev pub or_nothing : Option Piece → Piece
or_nothing piece = option_map_or (λ p. p) piece (record { stack = []; vars = []; fields = []; facts = []; rows = [] })

-- a unit as a summary
abbrev pub summary_of : Target → UnitSoFar → Summary
summary_of entered u =
    record {
      body = entered;
      entry = u.entry;
      whole = u.whole;
      writes = u.writes;
      pre = or_nothing u.pre;
      posts = u.later;
      hints = u.hints;
    }

-- a unit as a loop
abbrev pub loop_of : Target → Target → UnitSoFar → Loop
loop_of test repeated u =
    record { test = test; body = repeated; entry = u.entry; whole = u.whole; writes = u.writes; cases = u.cases; exits = u.later; hints = u.hints }

-- a unit as what belongs to a command
abbrev pub command_of : ℕ → UnitSoFar → CommandPart
command_of index u = record { index = index; after = u.after; visit = u.visit; keeps = u.keeps; hints = u.hints }

-- a unit that has been read, behind those before it
abbrev pub with_unit : UnitKind → UnitSoFar → CertSoFar → CertSoFar
with_unit (unit.Summary entered) u p = record p { summaries = p.summaries ++ summary_of entered u ∷ [] }
with_unit (unit.Loop test repeated) u p = record p { loops = p.loops ++ loop_of test repeated u ∷ [] }
with_unit (unit.Command index) u p = record p { commands = p.commands ++ command_of index u ∷ [] }

-- the open unit behind those before it, and none open
abbrev pub unit_finished : CertSoFar → CertSoFar
unit_finished p =
    with_unit p.unit.kind p.unit (record p { stage = stage.Units; unit = no_unit (unit.Command 0) })

-- what comes after a line of a unit: another one, or what stands behind the unit
abbrev pub after_unit : CertSoFar → CertSoFar
after_unit p = if is_done p.unit.stage then unit_finished p else p

-- a line of a unit
abbrev pub in_unit : Style → Item → Line → CertSoFar → Result CertSoFar Stop
in_unit style word line p = then_do (unit_line style word line p.unit) (λ u. Ok (after_unit (record p { unit = u })))

-- a line by what comes next
abbrev pub cert_staged : Style → CertStage → Item → Line → CertSoFar → Result CertSoFar Stop
cert_staged style stage.Header word line p = header_line word line p
cert_staged style stage.Cond word line p = in_cond style word line p
cert_staged style stage.Units word line p = between_units style word line p
cert_staged style stage.InUnit word line p = in_unit style word line p
cert_staged style stage.Done word line p = Err (Syntax word.left)

-- a line of a certificate, after those before it
abbrev pub cert_line : Style → Line → CertSoFar → Result CertSoFar Stop
cert_line style line p = then_do (next_item line) (λ item. cert_staged style p.stage item.0 item.1 p)

-- the lines of a certificate, one after the other; the first fault ends the reading
abbrev pub cert_lines : Style → List Line → CertSoFar → Result CertSoFar Stop
cert_lines style [] p = Ok p
cert_lines style (line ∷ lines) p = then_do (cert_line style line p) (cert_lines style lines)

-- what has been read
abbrev pub cert_so_far : CertSoFar → Cert
cert_so_far p =
    record { list = p.list; cond = p.cond.cond; summaries = p.summaries; loops = p.loops; commands = p.commands }

-- the certificate, where its last line has come; the text ends too early where it hasn't
abbrev pub cert_finished : CertSoFar → CertStage → Result Cert Stop
cert_finished p stage.Done = Ok (cert_so_far p)
cert_finished p _ = Err (Syntax 0)

-- the certificate that lines spell, or where and why the reading stops
abbrev pub cert_read : Style → List ℕ → Result Cert Stop
cert_read style source = then_do (cert_lines style (lines_of source) no_cert) (λ p. cert_finished p p.stage)
