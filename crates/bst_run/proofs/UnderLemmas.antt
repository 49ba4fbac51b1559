-- What a run under a certificate tells, and the lengths of conditions that were read.
use Rattle.std.proofs.Common.{◌≡◌, ℕ, suc, ◌+◌, ◌<◌, ◌≤◌, List, [], ◌∷◌, ◌++◌, length, length-append, map, Option, None, Some, refl, ◌∙◌, ap, arith}
use Rattle.std.proofs.lemmas.List.{length-map}
use Rattle.std.specs.Prelude.{codes}
use Rattle.name_table.specs.declared.names.Kind.{Kind}
use Rattle.name_table.specs.declared.style.CommandAt.{CommandAt}
use Rattle.name_table.specs.declared.style.Style.{Style}
use Rattle.bv_base.specs.declared.limits.TheConstants.{STYLE_BYTES}
use Rattle.bv_base.specs.declared.status.Status.TheVariants as status
use Rattle.bst_meaning.specs.Condition.{Meets}
use Rattle.bst_meaning.specs.Config.{Config, Stopped}
use Rattle.bst_meaning.specs.Entries.{Fits}
use Rattle.bst_meaning.specs.Machine.{run}
use Rattle.bst_meaning.specs.Safe.{Safe}
use Rattle.bst_meaning.specs.declared.condition.Cond.{Cond}
use Rattle.bst_step.specs.Machine.{turn_by, turn_of}
use Rattle.bst_step.specs.declared.machine.Turn.{Turn}
use Rattle.bst_step.specs.declared.machine.Turn.TheVariants.{Went, Ended, Faulted}
use Rattle.cert_format.specs.CertText.{CertText}
use Rattle.cert_format.specs.Spelling.{after_item, cond_end, cond_items, cond_lists, line_text, names_items, nonblank_items, text_of, type_items}
use Rattle.cert_format.specs.UnitSpelling.{cert_lines, command_lines, each_lines, loop_lines, summary_lines}
use Rattle.cert_format.specs.declared.cert.Cert.{Cert}
use Rattle.cond_eval.specs.Unmet.{first_unmet}
use Rattle.cond_eval.specs.declared.unmet.Unmet.{Unmet}
use Rattle.entry_list.specs.declared.joined.Joined.{Joined}
use Rattle.entry_list.specs.Joining.{joined}
use Rattle.bst_run.specs.declared.files.sources.Sources.{Sources}
use Rattle.bst_run.specs.Ran.{answered, logged, run_joined, run_over}
use Rattle.bst_run.specs.Stops.{IsDecided}
use Rattle.bst_run.specs.Under.{FaultsOutside, IsBegunBy, joined_under, meeting_text, run_under}

-- each line has a byte
line_byte : (line : List (List ℕ)) → 1 ≤ length (line_text line)
line_byte [] = omega arith
line_byte (item ∷ items) = omega (arith, length-append item (after_item items), end_byte items)
  where
    end_byte : (items : List (List ℕ)) → 1 ≤ length (after_item items)
    end_byte [] = omega arith
    end_byte (item ∷ items) = omega arith

lines_short : (lines : List (List (List ℕ))) → length lines ≤ length (text_of lines)
lines_short [] = omega arith
lines_short (line ∷ lines) = omega (arith, length-append (line_text line) (text_of lines), line_byte line, lines_short lines)

-- a condition has as many lines as its text, at least
lists_length : (names : List (List ℕ × Kind)) (cond : Cond)
    → length (cond_lists names cond) ≡ length cond.names + (length cond.nonblank + length cond.types)
lists_length names cond =
    let first = length-append (map (names_items names) cond.names) (map (nonblank_items names) cond.nonblank ++ map type_items cond.types) in
    let second = length-append (map (nonblank_items names) cond.nonblank) (map type_items cond.types) in
    omega (arith, first, second, length-map cond.names (names_items names), length-map cond.nonblank (nonblank_items names), length-map cond.types type_items)

lists_in : (names : List (List ℕ × Kind)) (cond : Cond) (rest : List (List (List ℕ)))
    → length (cond_lists names cond) ≤ length (cond_items names cond ++ rest)
lists_in names cond rest = omega (arith, length-append (cond_items names cond) rest, length-append (cond_lists names cond) (cond_end cond.other))

-- the lines of a certificate behind its condition
abbrev units_of : Style → Cert → List (List (List ℕ))
units_of style cert =
    each_lines (summary_lines style) cert.summaries
    ++ (each_lines (loop_lines style) cert.loops ++ (each_lines (command_lines style) cert.commands ++ (codes "done" ∷ []) ∷ []))

-- the lists are no longer than the text
bounded : (source text lines inner lists names nonblank types : ℕ) → source ≤ STYLE_BYTES → source ≡ text → lines ≤ text → lines ≡ suc inner
    → lists ≤ inner → lists ≡ names + (nonblank + types) → names + nonblank + types < 4294967291
bounded source text lines inner lists names nonblank types short same spelled more inside are = omega (arith, short, same, spelled, more, inside, are)

-- a certificate's condition has few lines, where its text is short
pub few_lines : (style : Style) (source : List ℕ) (cert : Cert) → length source ≤ STYLE_BYTES → CertText style source cert
    → length cert.cond.names + length cert.cond.nonblank + length cert.cond.types < 4294967291
few_lines style source cert short text =
    bounded (length source) (length (text_of (cert_lines style cert))) (length (cert_lines style cert))
    (length (cond_items style.names cert.cond ++ units_of style cert)) (length (cond_lists style.names cert.cond))
    (length cert.cond.names) (length cert.cond.nonblank) (length cert.cond.types)
    short (ap length text.spelled) (lines_short (cert_lines style cert)) refl
    (lists_in style.names cert.cond (units_of style cert)) (lists_length style.names cert.cond)

-- what is told where no execution error came
unstopped : (steps : ℕ) (log : List ℕ) (stopped : Option Stopped) (commands : List CommandAt) (c : Config) → stopped ≡ None
    → (answered steps log (turn_by stopped commands) c).status ≡ status.Fault → ⊥
unstopped steps log None [] c is fault = cc
unstopped steps log None (first ∷ commands) c is fault = cc
unstopped steps log (Some stopped) commands c is fault = absurd (cc)

-- an execution error of a safe style comes outside the condition, and the log tells so
pub fault_outside : (steps : ℕ) (style : Style) (cond : Cond) (reading : List (List ℕ)) (found : Joined) → Safe style cond → Fits style found.list
    → (first_unmet style cond found.list ≡ None → Meets style cond found.list) → FaultsOutside (joined_under steps style cond reading found)
fault_outside steps style cond reading found safe fits meets = λ fault. by (first_unmet style cond found.list) refl fault
  where
    by : (unmet : Option Unmet) → first_unmet style cond found.list ≡ unmet → (run_joined steps style reading found).status ≡ status.Fault
        → IsBegunBy (codes "outside\n") (meeting_text style cond found.list unmet ++ (run_joined steps style reading found).err)
    by None is fault =
        absurd (unstopped steps _ (run style found.list steps).stopped (run style found.list steps).commands (run style found.list steps)
        (safe found.list fits (meets is) steps).no_fault fault)
    by (Some unmet) is fault = (_, refl)

-- a run's answer is decided by the files
run_decided : (steps : ℕ) (log : List ℕ) (turn : Turn) (c : Config) → IsDecided (answered steps log turn c).status
run_decided steps log Ended c = tt
run_decided steps log Went c = tt
run_decided steps log (Faulted fault site) c = tt

pub over_decided : (steps : ℕ) (sources : Sources) → IsDecided (run_over steps sources).status
over_decided steps sources =
    let c : Config = run sources.style (joined sources.style sources.items sources.database).list steps in
    run_decided steps _ (turn_of c) c

pub under_decided : (steps : ℕ) (cond : Cond) (sources : Sources) → IsDecided (run_under steps cond sources).status
under_decided steps cond sources =
    let c : Config = run sources.style (joined sources.style sources.items sources.database).list steps in
    run_decided steps _ (turn_of c) c

-- what is told of the condition, and then the run's own log
pub told_front : (steps : ℕ) (style : Style) (cond : Cond) (reading : List (List ℕ)) (found : Joined) (front : List ℕ)
    → front ≡ meeting_text style cond found.list (first_unmet style cond found.list)
    → logged front (run_joined steps style reading found) ≡ joined_under steps style cond reading found
told_front steps style cond reading found front told = ap (λ (f : List ℕ). logged f (run_joined steps style reading found)) told

-- the joined entries are those of the sources
pub asked_under : (steps : ℕ) (cond : Cond) (sources : Sources) (style : Style) (reading : List (List ℕ)) (found : Joined) (front : List ℕ)
    → style ≡ sources.style → found ≡ joined sources.style sources.items sources.database → reading ≡ sources.database.warnings
    → front ≡ meeting_text style cond found.list (first_unmet style cond found.list)
    → logged front (run_joined steps style reading found) ≡ run_under steps cond sources
asked_under steps cond sources style reading found front own is warned told =
    told_front steps style cond reading found front told
    ∙ ap (λ (s : Style). joined_under steps s cond reading found) own
    ∙ ap (λ (r : List (List ℕ)). joined_under steps sources.style cond r found) warned
    ∙ ap (λ (j : Joined). joined_under steps sources.style cond sources.database.warnings j) is
