-- From what a run reads to what it answers.
use Rattle.std.proofs.Common.{◌≡◌, ℕ, List, [], refl, sym, ◌∙◌, ap}
use Rattle.name_table.specs.declared.style.Style.{Style}
use Rattle.bst_meaning.specs.Config.{Config, opening}
use Rattle.bst_meaning.specs.Lines.{lines_of}
use Rattle.bst_meaning.specs.Machine as machine
use Rattle.bst_step.specs.declared.machine.Turn.{Turn}
use Rattle.bst_step.specs.declared.machine.Turn.TheVariants.{Ended, Faulted, Went}
use Rattle.bst_step.specs.Machine.{turn_of}
use Rattle.entry_list.specs.declared.joined.Joined.{Joined}
use Rattle.entry_list.specs.Joining.{joined}
use Rattle.bst_run.specs.declared.answer.Run.{Run}
use Rattle.bst_run.specs.declared.files.sources.Sources.{Sources}
use Rattle.bst_run.specs.Answers.{ran, ran_to}
use Rattle.bst_run.specs.Ran.{logged, run_joined, run_over}

-- a run without a front of its log is that of the sources
pub asked_over : (steps : ℕ) (sources : Sources) (style : Style) (reading : List (List ℕ)) (found : Joined) (front : List ℕ)
    → style ≡ sources.style → found ≡ joined sources.style sources.items sources.database → reading ≡ sources.database.warnings → front ≡ []
    → logged front (run_joined steps style reading found) ≡ run_over steps sources
asked_over steps sources style reading found front own is warned none =
    ap (λ (f : List ℕ). logged f (run_joined steps style reading found)) none
    ∙ ap (λ (s : Style). run_joined steps s reading found) own
    ∙ ap (λ (r : List (List ℕ)). run_joined steps sources.style r found) warned
    ∙ ap (λ (j : Joined). run_joined steps sources.style sources.database.warnings j) is

-- where a machine stands that takes the steps of a run
pub stands_at : (run : Run) (style : Style) (begun : Config) → style ≡ run.style → begun ≡ opening run.style run.found.list
    → machine.steps style run.steps begun ≡ machine.run run.style run.found.list run.steps
stands_at run style begun own is =
    ap (λ (s : Style). machine.steps s run.steps begun) own ∙ ap (machine.steps run.style run.steps) is

-- whatever a run comes to, its text for standard output has its lines
its_lines : (run : Run) (turn : Turn) (c : Config) → (ran_to run turn c).out ≡ lines_of c
its_lines run Ended c = refl
its_lines run Went c = refl
its_lines run (Faulted fault site) c = refl

-- the lines of a run are its text for standard output
pub run_lines : (run : Run) (c : Config) → c ≡ machine.run run.style run.found.list run.steps → lines_of c ≡ (ran run).out
run_lines run c is =
    let whole : Config = machine.run run.style run.found.list run.steps in
    ap (λ (x : Config). lines_of x) is ∙ sym (its_lines run (turn_of whole) whole)
