-- The parts are those of the definition.
use Rattle.std.proofs.Common.{ap, subst, sym, ◌∙◌, List, ◌++◌, length, Result, Ok, Err, IfOk, arith}
use Rattle.std.specs.List.{All, filter, flat_map}
use Rattle.lin_facts.specs.declared.row.Row.{Row}
use Rattle.bst_meaning.specs.StyleParts.{kind_of}
use Rattle.sym_state.specs.declared.symbol.Fact.{Fact}
use Rattle.sym_state.specs.State.{State}
use Rattle.std.proofs.lemmas.List.Elements.{All-same}
use Rattle.std.proofs.lemmas.Result.{IfOk-weaker}
use Rattle.name_table.specs.declared.names.NameId.{NameId}
use Rattle.sym_state.specs.declared.symbol.Bind.{Bind}
use Rattle.sym_state.specs.Opening.{StandsOpen}
use Rattle.sym_state.specs.Starting.{all_symbols, has_kind, numbered_on, own_facts, own_rows}
use Rattle.sym_state.specs.WellMade.{IsBounded, WellMade, is_field, is_variable, takes_part}
use Rattle.sym_state.proofs.Making.{pieces_bounded, started_made}
use Rattle.sym_state.proofs.Opened.{opened}
use Rattle.sym_state.proofs.Started.{ids_from-length, seen_within, started_is}
use Rattle.sym_state.proofs.start.start.Goals as goal

-- two facts on what is given
both : {A E : Type 0} (r : Result A E) (P Q : A → Type 0) → IfOk r P → IfOk r Q → IfOk r (λ x. P x × Q x)
both (Ok x) P Q p q = (p, q)
both (Err e) P Q p q = tt

pub seats-requires : goal.seats-requires
seats-requires c =
    let few = ids_from-length (takes_part c.args.at_entry) 0 c.args.style.now.names in
    let names = ap (λ (ns : List NameId). length ns) (c.as_slice-2.ensures.value ∙ c.in_ok-names.ensures.names) in
    omega (arith, few, names, c.in_ok-from.ensures.next, c.requires.few)

pub add_own_facts-requires : goal.add_own_facts-requires
add_own_facts-requires c = seen_within _ _ _ _ _ c.as_slice-3.ensures.value c.in_ok-binds.ensures.names c.as_slice-2.ensures.value c.in_ok-names.ensures.within

pub add_own_rows-requires : goal.add_own_rows-requires
add_own_rows-requires c = seen_within _ _ _ _ _ c.as_slice-4.ensures.value c.in_ok-binds.ensures.names c.as_slice-2.ensures.value c.in_ok-names.ensures.within

pub parted-requires : goal.parted-requires
parted-requires c = seen_within _ _ _ _ _ c.as_slice-5.ensures.value c.in_ok-binds.ensures.names c.as_slice-2.ensures.value c.in_ok-names.ensures.within

pub returns-clause-started : goal.returns-clause-started
returns-clause-started c = IfOk-weaker c.from_parts.result _ _ (λ state is. is ∙ (
    started_is c.args.style.now c.args.cond.now c.args.pieces.now c.args.whole c.args.at_entry
    c.from_vec.result c.as_slice.result.now c.in_ok-binds.binds.items c.from_vec-2.result c.from_vec-3.result c.as_slice-2.result.now
    c.from_vec-4.result c.from_vec-5.result c.in_ok-from.from.next c.in_ok-binds.next
    (c.from_vec.ensures ∙ c.in_ok-from.ensures.stack)
    (c.as_slice.ensures.value ∙ c.in_ok-from.ensures.binds)
    c.in_ok-from.ensures.next
    (c.as_slice-2.ensures.value ∙ c.in_ok-names.ensures.names)
    c.in_ok-binds.ensures.seats
    c.in_ok-binds.ensures.next
    (c.from_vec-2.ensures ∙ c.in_ok-variables.ensures.variables ∙ ap (λ (bs : List Bind). filter (has_kind c.args.style.now (is_variable c.args.at_entry)) bs) c.as_slice-5.ensures.value)
    (c.from_vec-3.ensures ∙ c.in_ok-variables.ensures.fields ∙ ap (λ (bs : List Bind). filter (has_kind c.args.style.now (is_field c.args.at_entry)) bs) c.as_slice-5.ensures.value)
    (c.from_vec-4.ensures ∙ c.in_ok-add_own_facts.ensures
    ∙ ap (λ (fs : List Fact). fs ++ flat_map (λ bind. own_facts c.args.cond.now (kind_of c.args.style.now bind.name) bind) c.as_slice-3.result.now) c.in_ok-from.ensures.facts
    ∙ ap (λ (bs : List Bind). flat_map (λ piece. piece.facts) (numbered_on 0 c.args.pieces.now) ++ flat_map (λ bind. own_facts c.args.cond.now (kind_of c.args.style.now bind.name) bind) bs) c.as_slice-3.ensures.value)
    (c.from_vec-5.ensures ∙ c.in_ok-add_own_rows.ensures.added
    ∙ ap (λ (rs : List Row). rs ++ flat_map (λ bind. own_rows c.args.cond.now (kind_of c.args.style.now bind.name) bind) c.as_slice-4.result.now) c.in_ok-from.ensures.rows
    ∙ ap (λ (bs : List Bind). flat_map (λ piece. piece.rows) (numbered_on 0 c.args.pieces.now) ++ flat_map (λ bind. own_rows c.args.cond.now (kind_of c.args.style.now bind.name) bind) bs) c.as_slice-4.ensures.value)
    )) c.from_parts.ensures

pub returns-clause-made : goal.returns-clause-made
returns-clause-made c fit =
    let before : All IsBounded c.in_ok-from.from.rows.items =
    All-same IsBounded _ _ c.in_ok-from.ensures.rows (pieces_bounded c.args.style.now c.args.pieces.now fit) in
    let bounded : All IsBounded c.from_vec-5.result = All-same IsBounded _ _ c.from_vec-5.ensures (c.in_ok-add_own_rows.ensures.bounded before) in
    IfOk-weaker c.from_parts.result _ _
    (λ state is. subst (λ (s : State). WellMade c.args.style.now s) (sym is.1)
    (started_made c.args.style.now c.args.cond.now c.args.pieces.now c.args.whole c.args.at_entry c.requires.numbered fit
    (All-same IsBounded _ _ (ap (λ (s : State). s.rows) (sym is.1 ∙ is.0)) bounded)))
    (both c.from_parts.result _ _ c.from_parts.ensures (returns-clause-started c))

pub returns-clause-stands : goal.returns-clause-stands
returns-clause-stands c =
    IfOk-weaker c.from_parts.result _ _
    (λ state is list v config below can.
    subst (λ (s : State). StandsOpen c.args.style.now c.args.cond.now list v (all_symbols c.args.pieces.now) s config below) (sym is)
    (opened c.args.style.now c.args.cond.now list v c.args.pieces.now c.args.whole c.args.at_entry config below c.requires.numbered can))
    (returns-clause-started c)
