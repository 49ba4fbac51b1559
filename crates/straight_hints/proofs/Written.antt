-- The hints that are found can be written: their numbers have 32 bits.
use Rattle.std.proofs.Common.{◌≡◌, ℕ, zero, suc, ◌+◌, ◌≤◌, Bool, true, false, cond, List, [], ◌∷◌, ◌++◌, length, map, min, Option, None, Some, Result, Ok, Err, IfOk, refl, arith, sym, subst}
use Rattle.std.specs.Prelude.{pos, int_lt}
use Rattle.std.specs.Global.{Vec}
use Rattle.std.specs.List.{All, flat_map, range_with_len}
use Rattle.std.specs.Option.{IfSome, option_and_then, option_map, option_map_or}
use Rattle.std.proofs.lemmas.List.Elements.{All-head, All-tail, All-weaker}
use Rattle.lin_facts.specs.declared.row.Row.{Row}
use Rattle.lin_facts.specs.declared.row.Term.{Term}
use Rattle.name_table.specs.Sound.{Each}
use Rattle.name_table.specs.declared.builtin.Builtin.{Builtin}
use Rattle.name_table.specs.declared.style.Style.{Style}
use Rattle.bst_meaning.specs.declared.condition.Cond.{Cond}
use Rattle.cert_format.specs.CertText.{IsHint, IsProof, IsUse, reference_number}
use Rattle.cert_format.specs.declared.items.TheConstants.{MOST_NUMBER}
use Rattle.cert_format.proofs.Plain.{each_append}
use Rattle.sym_state.specs.Cases.{Cases, absurdity, split_of}
use Rattle.sym_state.specs.Effects.{rule_of}
use Rattle.sym_state.specs.Frames.{LeavesVariables}
use Rattle.sym_state.specs.State.{State}
use Rattle.sym_state.specs.declared.hint.Hint.{Hint}
use Rattle.sym_state.specs.declared.hint.Hint.TheVariants.{Drop, Keep, Step}
use Rattle.sym_state.specs.declared.proof.Proof.{Proof}
use Rattle.sym_state.specs.declared.proof.Reference.{Reference}
use Rattle.sym_state.specs.declared.proof.Reference.TheVariants as ref
use Rattle.sym_state.specs.declared.symbol.Sym.{Sym}
use Rattle.sym_state.specs.declared.test.Test.{Test}
use Rattle.sym_state.specs.declared.piece.Piece.{Piece}
use Rattle.sym_state.specs.Entailing.{match_of}
use Rattle.sym_state.specs.Renaming.{row_renamed}
use Rattle.refinements.proofs.Framing.{split_left}
use Rattle.straight_proofs.specs.Remainders.{lead}
use Rattle.straight_proofs.specs.Straight.{drop_list, ended, first_list, kinds, left_behind, list_within, on_symbols, once, proof_of, references, rows_named}
use Rattle.straight_proofs.specs.declared.straight.TheConstants.{MOST_REFERENCES}
use Rattle.straight_proofs.proofs.Lists.{at_end, none_left, one_more}
use Rattle.straight_hints.specs.declared.finding.Finding.{Finding}
use Rattle.straight_hints.specs.declared.finding.Finding.TheVariants.{Bare, Straight}
use Rattle.straight_hints.specs.Found.{case_hints, drop_found, no_proof, piece_hints, plain_hints, proof_found, step_found}
use Rattle.straight_hints.proofs.Every.{Has, cases_have, rule_has}
use Rattle.straight_hints.proofs.Short.{HasShort, drop_short, proof_short}

-- the number of a reference has 32 bits
abbrev IsSmall : Reference → Type 0
IsSmall r = reference_number r ≤ MOST_NUMBER

each_map : {A B : Type 0} (P : B → Type 0) (f : A → B) (xs : List A) → Each (λ x. P (f x)) xs → Each P (map f xs)
each_map P f [] all = tt
each_map P f (x ∷ xs) all = (all.0, each_map P f xs all.1)

each_of_all : {A : Type 0} (P : A → Type 0) (xs : List A) → All P xs → Each P xs
each_of_all P [] all = tt
each_of_all P (x ∷ xs) all = (All-head P x xs all, each_of_all P xs (All-tail P x xs all))

-- numbers in a row
numbers_small : (n m : ℕ) → n + m ≤ 4294967296 → Each (λ k. k ≤ MOST_NUMBER) (range_with_len n m)
numbers_small n zero few = tt
numbers_small n (suc m) few = (omega (arith, few), numbers_small (n + 1) m (omega (arith, few)))

-- a reference of each kind to each symbol
kinds_small : (state : State) → state.next ≤ 4294967296 → Each (λ kind. Each IsSmall (on_symbols state kind)) kinds
kinds_small state few =
    let small = numbers_small 0 state.next (omega (arith, few)) in
    let each = λ (kind : Sym → Reference) (h : Each (λ k. IsSmall (kind (record { 0 = k }))) (range_with_len 0 state.next)).
    each_map IsSmall (λ k. kind (record { 0 = k })) (range_with_len 0 state.next) h in (
      each ref.ValueLow small,
      (
        each ref.ValueHigh small,
        (
          each ref.LengthLow small,
          (
            each ref.NamesLow small,
            (
              each ref.NamesHigh small,
              (
                each ref.ExactLow small,
                (
                  each ref.ExactHigh small,
                  (
                    each ref.NonblankLength small,
                    (each ref.NonblankNames small, (each ref.TextLow small, (each ref.TextHigh small, tt))),
                  ),
                ),
              ),
            ),
          ),
        ),
      ),
    )

flat_small : (state : State) (some : List (Sym → Reference)) → Each (λ kind. Each IsSmall (on_symbols state kind)) some
    → Each IsSmall (flat_map (on_symbols state) some)
flat_small state [] small = tt
flat_small state (kind ∷ some) small =
    each_append IsSmall (on_symbols state kind) (flat_map (on_symbols state) some) small.0 (flat_small state some small.1)

rows_few : (rows : ℕ) → 0 + min rows 4294967296 ≤ 4294967296
rows_few rows = omega arith

-- all references to a state
references_small : (state : State) → state.next ≤ 4294967296 → Each IsSmall (references state)
references_small state few =
    each_append IsSmall (map ref.Row (range_with_len 0 (rows_named state))) (flat_map (on_symbols state) kinds ++ (ref.PosLow ∷ ref.PosHigh ∷ ref.CountLow ∷ ref.CountHigh ∷ []))
    (each_map IsSmall ref.Row (range_with_len 0 (rows_named state)) (numbers_small 0 (rows_named state) (rows_few (length state.rows))))
    (each_append IsSmall (flat_map (on_symbols state) kinds) (ref.PosLow ∷ ref.PosHigh ∷ ref.CountLow ∷ ref.CountHigh ∷ [])
    (flat_small state kinds (kinds_small state few)) (omega arith, (omega arith, (omega arith, (omega arith, tt)))))

-- a list that is found among references has numbers of 32 bits where they have
abbrev IsSmallList : Option (List Reference) → Type 0
IsSmallList found = IfSome found (Each IsSmall)

first_small : (behind : Reference → Option (List Reference)) (all : List Reference) → Each IsSmall all → ((r : Reference) → IsSmallList (behind r))
    → IsSmallList (first_list behind all)
first_small behind [] small more = tt
first_small behind (r ∷ all) small more =
    elim (behind r) as (λ (o : Option (List Reference)). IsSmallList o
    → IsSmallList (elim o as (λ _. Option (List Reference)) [ Some list ↦ Some (r ∷ list) | None ↦ first_list behind all ])) [
      | Some list ↦ λ h. (small.0, h)
      | None ↦ λ h. first_small behind all small.1 more
    ] (more r)

ended_small : (remainder : Row) → IsSmallList (ended remainder)
ended_small remainder = elim (int_lt remainder.constant (pos 0)) as (λ (t : Bool). IsSmallList (cond t None (Some []))) [ true ↦ tt | false ↦ tt ]

then_small : (next : Row → Option (List Reference)) (left : Option Row) → ((row : Row) → IsSmallList (next row)) → IsSmallList (option_and_then next left)
then_small next None small = tt
then_small next (Some row) small = small row

zero_small : (c : Cond) (state : State) (remainder : Row) (leads : Option Term) → lead remainder ≡ leads → IsSmallList (list_within zero c state remainder)
zero_small c state remainder None e = subst IsSmallList (sym (at_end zero c state remainder e)) (ended_small remainder)
zero_small c state remainder (Some term) e = subst IsSmallList (sym (none_left c state remainder term e)) tt

next_small : (n : ℕ) (c : Cond) (state : State) (remainder : Row) (leads : Option Term) → Each IsSmall (references state) → lead remainder ≡ leads
    → ((row : Row) → IsSmallList (list_within n c state row)) → IsSmallList (list_within (suc n) c state remainder)
next_small n c state remainder None small e deeper = subst IsSmallList (sym (at_end (suc n) c state remainder e)) (ended_small remainder)
next_small n c state remainder (Some term) small e deeper =
    subst IsSmallList (sym (one_more n c state remainder term e))
    (first_small (λ r. option_and_then (list_within n c state) (left_behind c state (Some term) remainder r)) (references state) small
    (λ r. then_small (list_within n c state) (left_behind c state (Some term) remainder r) deeper))

within_small : (n : ℕ) (c : Cond) (state : State) (remainder : Row) → Each IsSmall (references state) → IsSmallList (list_within n c state remainder)
within_small zero c state remainder small = zero_small c state remainder (lead remainder) refl
within_small (suc n) c state remainder small =
    next_small n c state remainder (lead remainder) small refl (λ row. within_small n c state row small)

drop_small : (c : Cond) (state : State) → Each IsSmall (references state) → IsSmallList (drop_list c state)
drop_small c state small =
    first_small (λ r. option_and_then (list_within 7 c state) (left_behind c state None absurdity r)) (references state) small
    (λ r. then_small (list_within 7 c state) (left_behind c state None absurdity r) (λ row. within_small 7 c state row small))

-- a proof by such a list
once_each : (list : List Reference) → Each IsSmall list → Each (λ r. IsUse (once r)) list
once_each [] small = tt
once_each (r ∷ list) small = (((omega arith, omega arith), small.0), once_each list small.1)

abbrev IsWritten : Option Proof → Type 0
IsWritten found = IfSome found IsProof

proof_written : (list : Option (List Reference)) → IsSmallList list → HasShort (option_map proof_of list) → IsWritten (option_map proof_of list)
proof_written None small short = tt
proof_written (Some list) small short = record {
  divisor = (omega arith, omega arith);
  uses = each_map IsUse once list (once_each list small);
  few = omega (arith, short);
}

found_written : (finding : Finding) (c : Cond) (state : State) (goal : Row) → Each IsSmall (references state) → IsWritten (proof_found finding c state goal)
found_written Bare c state goal small = tt
found_written Straight c state goal small =
    proof_written (list_within MOST_REFERENCES c state goal) (within_small 8 c state goal small) (proof_short Straight c state goal)

dropped_written : (finding : Finding) (c : Cond) (state : State) → Each IsSmall (references state) → IsWritten (drop_found finding c state)
dropped_written Bare c state small = tt
dropped_written Straight c state small = proof_written (drop_list c state) (drop_small c state small) (drop_short Straight c state)

step_by : (found : Option Proof) → IsWritten found → IsHint (Step (option_map_or (λ proof. proof) found no_proof))
step_by (Some proof) written = written
step_by None written = record { divisor = (omega arith, omega arith); uses = tt; few = omega arith }

case_by : (found : Option Proof) → IsWritten found → IsHint (option_map_or Drop found Keep)
case_by (Some proof) written = written
case_by None written = tt

every_written : (finding : Finding) (c : Cond) (state : State) → state.next ≤ 4294967296 → Has IsHint finding c state
every_written finding c state few =
    let small = references_small state few in
    record {
      step = λ goal. step_by (proof_found finding c state goal) (found_written finding c state goal small);
      chosen = λ goal. found_written finding c state goal small;
      case = case_by (drop_found finding c state) (dropped_written finding c state small);
    }

pub plain_written : (finding : Finding) (style : Style) (c : Cond) (state : State) (op : Builtin) → state.next ≤ 4294967296
    → Each IsHint (plain_hints finding style c state op)
plain_written finding style c state op few =
    each_of_all IsHint (plain_hints finding style c state op) (rule_has IsHint tt finding c state (every_written finding c state few) (rule_of style c state op))

cases_written : (finding : Finding) (c : Cond) (state : State) (states : List State) → suc state.next ≤ 4294967296 → All (LeavesVariables state) states
    → All (Has IsHint finding c) states
cases_written finding c state states few left =
    All-weaker (LeavesVariables state) (Has IsHint finding c)
    (λ case kept. every_written finding c case (let more = kept.extends.few in omega (arith, few, more))) states left

-- the hints for the cases of a test
pub split_written : (finding : Finding) (c : Cond) (state : State) (test : Test) (cases : Cases) (kept : List Hint) → suc state.next ≤ 4294967296
    → split_of c state test kept ≡ Ok cases → Each IsHint (case_hints finding c cases.states cases.hints)
split_written finding c state test cases kept few e =
    each_of_all IsHint (case_hints finding c cases.states cases.hints)
    (cases_have IsHint finding c cases.states cases.hints (λ none. cases_written finding c state cases.states few (split_left c state test kept cases e)))

-- those by which a state shows a piece
pub rows_written : (finding : Finding) (c : Cond) (state : State) (named : Row → Row) (rows : List Row) → state.next ≤ 4294967296
    → Each IsHint (map (λ row. step_found finding c state (named row)) rows)
rows_written finding c state named [] few = tt
rows_written finding c state named (row ∷ rows) few = ((every_written finding c state few).step (named row), rows_written finding c state named rows few)

pub piece_written : (finding : Finding) (c : Cond) (state : State) (piece : Piece) → state.next ≤ 4294967296 → Each IsHint (piece_hints finding c state piece)
piece_written finding c state piece few = rows_written finding c state (row_renamed (match_of state piece 0)) piece.rows few

-- what is found by a definition whose hints can be written can be
pub found_written_by : {E : Type 0} (wanted : List Hint) (result : Result (Vec Hint) E) → Each IsHint wanted → IfOk result (λ hints. hints.items ≡ wanted)
    → IfOk result (λ hints. Each IsHint hints.items)
found_written_by wanted (Ok hints) written is = subst (Each IsHint) (sym is) written
found_written_by wanted (Err fault) written is = tt
