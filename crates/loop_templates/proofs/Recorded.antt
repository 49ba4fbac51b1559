-- The facts that states record, added one after the other.
use Rattle.std.proofs.Common.{◌≡◌, ℕ, ◌+◌, ◌<◌, ap, sym, ◌∙◌, List, [], ◌++◌, length, drop, get_or, nat_eq, Option, append_assoc}
use Rattle.std.specs.List.{filter}
use Rattle.std.proofs.lemmas.List.{drop_more}
use Rattle.sym_state.specs.Facts.{subject}
use Rattle.sym_state.specs.State.{State}
use Rattle.sym_state.specs.declared.symbol.Bind.{Bind}
use Rattle.sym_state.specs.declared.symbol.Fact.{Fact}
use Rattle.sym_state.specs.declared.symbol.Sym.{Sym}
use Rattle.loop_templates.specs.Cases.{Frame, common_facts, facts_for, further_facts, given_facts, kept_facts, moved_to, numbered, skeleton_facts, stack_facts}
use Rattle.loop_templates.specs.Skeletons.{Skeleton}

-- the facts on one more symbol of a stack
pub stack_more : (state : State) (all old new : List Fact) (stack : List Sym) (k : ℕ) (d : Sym) (facts : List Fact) → k < length stack
    → facts ≡ state.facts → new ≡ old ++ moved_to (numbered k) (filter (λ fact. nat_eq (subject fact) (get_or stack k d).0) facts)
    → old ++ stack_facts state k (drop k stack) ≡ all → new ++ stack_facts state (k + 1) (drop (k + 1) stack) ≡ all
stack_more state all old new stack k d facts within of_state made before =
    let s = get_or stack k d in
    let on = λ (them : List Fact). moved_to (numbered k) (filter (λ fact. nat_eq (subject fact) s.0) them) in
    let rest = stack_facts state (k + 1) (drop (k + 1) stack) in
    ap (λ (front : List Fact). front ++ rest) (made ∙ ap (λ (them : List Fact). old ++ on them) of_state)
    ∙ append_assoc old (on state.facts) rest
    ∙ ap (λ (more : List Sym). old ++ stack_facts state k more) (sym (drop_more stack k d within))
    ∙ before

-- the facts of a case, by those that are added one after the other
pub facts_are : (frame : Frame) (bones : Skeleton) (places : List Bind) (common : List State) (further : Option State) (none given first second third : List Fact)
    → none ≡ [] → given ≡ none ++ given_facts frame.style frame.admits places → first ≡ [] ++ skeleton_facts 0 bones
    → second ≡ first ++ further_facts frame.writes places further → third ≡ second ++ common_facts frame.writes places common
    → kept_facts given third ≡ facts_for frame bones places common further
facts_are frame bones places common further none given first second third e g a b c =
    let skeleton = skeleton_facts 0 bones in
    let more = further_facts frame.writes places further in
    let rest = common_facts frame.writes places common in
    ap (λ (them : List Fact). kept_facts them third) (g ∙ ap (λ (front : List Fact). front ++ given_facts frame.style frame.admits places) e)
    ∙ ap (kept_facts (given_facts frame.style frame.admits places))
    (c ∙ ap (λ (front : List Fact). front ++ rest) (b ∙ ap (λ (front : List Fact). front ++ more) a) ∙ append_assoc skeleton more rest)
