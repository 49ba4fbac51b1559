-- What a run under a certificate answers (docs/COMMANDS.md, "A run under a certificate").
use Rattle.std.specs.Prelude.{◌≡◌, ℕ, zero, suc, Bool, nat_eq, List, [], ◌∷◌, ◌++◌, codes, drop, take, Option, None, Some, Result, Ok}
use Rattle.bv_base.specs.Answers.{then_do}
use Rattle.bv_base.specs.Outside.{Listing}
use Rattle.bv_base.specs.Runs.{length_before}
use Rattle.bv_base.specs.declared.limits.TheConstants.{STYLE_BYTES}
use Rattle.bv_base.specs.declared.status.Status.TheVariants as status
use Rattle.name_table.specs.declared.style.Style.{Style}
use Rattle.bst_meaning.specs.declared.condition.Cond.{Cond}
use Rattle.bst_meaning.specs.EntryLists.{EntryList}
use Rattle.bst_step.specs.Machine.{key_of}
use Rattle.cert_format.specs.Spelling.{cond_items, text_of}
use Rattle.cert_format.specs.Texts.{cert_of}
use Rattle.command_flow.specs.Checks.{checked}
use Rattle.cond_eval.specs.Unmet.{first_unmet}
use Rattle.cond_eval.specs.declared.unmet.Unmet.{Unmet}
use Rattle.entry_list.specs.declared.joined.Joined.{Joined}
use Rattle.entry_list.specs.Joining.{joined}
use Rattle.bst_run.specs.declared.files.sources.Sources.{Sources}
use Rattle.bst_run.specs.declared.outcome.Outcome.{Outcome}
use Rattle.bst_run.specs.Files.{file_in}
use Rattle.bst_run.specs.Ran.{logged, run_joined}
use Rattle.bst_run.specs.Report.{holding}
use Rattle.bst_run.specs.Sources.{read_cert, sources_of}

-- a byte ends a line
abbrev pub ends_line : ℕ → Bool
ends_line b = nat_eq b 10

-- the first line of a text, without its end
abbrev pub first_line : List ℕ → List ℕ
first_line text = take (length_before ends_line text) text

-- what stands behind a line end, where it is there
abbrev pub behind_end : List ℕ → List ℕ
behind_end [] = []
behind_end (end ∷ rest) = rest

-- what stands behind the first line
abbrev pub after_line : List ℕ → List ℕ
after_line text = behind_end (drop (length_before ends_line text) text)

-- what stands behind so many lines
abbrev pub after_lines : ℕ → List ℕ → List ℕ
after_lines zero text = text
after_lines (suc n) text = after_line (after_lines n text)

-- the line of a text with this number, from 0
abbrev pub line_of : ℕ → List ℕ → List ℕ
line_of n text = first_line (after_lines n text)

-- the key of the entry at this position, and `-` for the whole list
abbrev pub entry_text : Option ℕ → EntryList → List ℕ
entry_text None list = codes "-"
entry_text (Some position) list = key_of position list

-- what is told of the first line of a condition that isn't kept: the entry, and the line as it is printed
abbrev pub unmet_text : Style → Cond → EntryList → Unmet → List ℕ
unmet_text style cond list unmet =
    codes "outside\nunmet "
    ++ (entry_text unmet.entry list ++ (codes " " ++ (line_of unmet.line (text_of (cond_items style.names cond)) ++ codes "\n")))

-- whether the list meets the condition
abbrev pub meeting_text : Style → Cond → EntryList → Option Unmet → List ℕ
meeting_text style cond list None = codes "inside\n"
meeting_text style cond list (Some unmet) = unmet_text style cond list unmet

-- the first steps of a style over the joined entries, behind what is told of the condition
abbrev pub joined_under : ℕ → Style → Cond → List (List ℕ) → Joined → Outcome
joined_under steps style cond reading found =
    logged (meeting_text style cond found.list (first_unmet style cond found.list)) (run_joined steps style reading found)

-- the same over what was read
abbrev pub run_under : ℕ → Cond → Sources → Outcome
run_under steps cond sources =
    joined_under steps sources.style cond sources.database.warnings (joined sources.style sources.items sources.database)

-- a certificate's text is read for the style and checked, and then the style is run
abbrev pub text_under : ℕ → Sources → List ℕ → Result Outcome Outcome
text_under steps sources text =
    then_do (read_cert (cert_of sources.style text)) (λ cert.
    then_do (holding (checked sources.style cert)) (λ held.
    Ok (run_under steps cert.cond sources)))

-- the words `run AUX N CERT`
abbrev pub under_outcome : Listing → List ℕ → ℕ → List ℕ → Result Outcome Outcome
under_outcome told aux steps cert =
    then_do (sources_of told aux) (λ sources. then_do (file_in told STYLE_BYTES cert) (text_under steps sources))

-- a text begins with another
abbrev pub IsBegunBy : List ℕ → List ℕ → Type 0
IsBegunBy front text = (rest : List ℕ) × (text ≡ front ++ rest)

-- an execution error comes over no list that meets the condition, so the log doesn't begin with `inside`
abbrev pub FaultsOutside : Outcome → Type 0
FaultsOutside outcome = outcome.status ≡ status.Fault → IsBegunBy (codes "outside\n") outcome.err
