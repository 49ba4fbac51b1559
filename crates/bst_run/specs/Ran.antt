-- What a run answers (docs/COMMANDS.md, "A run").
use Rattle.std.specs.Prelude.{ℕ, List, [], ◌∷◌, ◌++◌, codes, Option, None, Some, Result, Ok}
use Rattle.std.specs.List.{flat_map}
use Rattle.bv_base.specs.Outside.{Listing}
use Rattle.bv_base.specs.declared.status.Status.TheVariants as status
use Rattle.name_table.specs.declared.style.Style.{Style}
use Rattle.bst_meaning.specs.Config.{Config}
use Rattle.bst_meaning.specs.Lines.{lines_of}
use Rattle.bst_meaning.specs.Machine.{run}
use Rattle.bst_step.specs.declared.machine.Turn.{Turn}
use Rattle.bst_step.specs.declared.machine.Turn.TheVariants.{Went, Ended, Faulted}
use Rattle.bst_step.specs.Machine.{turn_of, key_at}
use Rattle.entry_list.specs.declared.joined.Joined.{Joined}
use Rattle.entry_list.specs.Joining.{joined}
use Rattle.bv_base.specs.Answers.{then_do}
use Rattle.bst_run.specs.declared.files.sources.Sources.{Sources}
use Rattle.bst_run.specs.declared.outcome.Outcome.{Outcome}
use Rattle.bst_run.specs.Report.{fault_line, budget_line}
use Rattle.bst_run.specs.Sources.{sources_of}

-- the key of the visited entry, and `-` where none is visited
abbrev pub key_text : Option ℕ → Config → List ℕ
key_text None c = codes "-"
key_text (Some position) c = key_at position c.entries

-- lines, each with its line end
abbrev pub ended_lines : List (List ℕ) → List ℕ
ended_lines lines = flat_map (λ line. line ++ 10 ∷ []) lines

-- what a configuration answers after so many steps: the finished lines, and this log with the last line behind it
abbrev pub answered : ℕ → List ℕ → Turn → Config → Outcome
answered steps log Ended c = record { status = status.Done; out = lines_of c; err = log }
answered steps log Went c = record { status = status.Budget; out = lines_of c; err = log ++ budget_line steps }
answered steps log (Faulted fault site) c =
    record { status = status.Fault; out = lines_of c; err = log ++ fault_line fault site.place (key_text site.entry c) }

-- the log has the warnings of the databases, those of the joining and then the lines that the run logged
abbrev pub log_at : List (List ℕ) → List (List ℕ) → Config → List ℕ
log_at reading joining c = ended_lines reading ++ (ended_lines joining ++ ended_lines c.log)

-- what a configuration answers after so many steps, with the whole log
abbrev pub answer_at : ℕ → List (List ℕ) → List (List ℕ) → Config → Outcome
answer_at steps reading joining c = answered steps (log_at reading joining c) (turn_of c) c

-- an outcome with this before its log
abbrev pub logged : List ℕ → Outcome → Outcome
logged text outcome = record { status = outcome.status; out = outcome.out; err = text ++ outcome.err }

-- the first steps of a style over the joined entries
abbrev pub run_joined : ℕ → Style → List (List ℕ) → Joined → Outcome
run_joined steps style reading found = answer_at steps reading found.warnings (run style found.list steps)

-- the first steps of a style over what was read
abbrev pub run_over : ℕ → Sources → Outcome
run_over steps sources =
    run_joined steps sources.style sources.database.warnings (joined sources.style sources.items sources.database)

-- the words `run AUX N`
abbrev pub run_outcome : Listing → List ℕ → ℕ → Result Outcome Outcome
run_outcome told aux steps = then_do (sources_of told aux) (λ sources. Ok (run_over steps sources))
