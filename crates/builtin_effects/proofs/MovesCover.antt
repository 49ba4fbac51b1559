-- The effects that move symbols, and write or log something, cover the machine.
use Rattle.std.proofs.Common.{◌≡◌, ℕ, List, [], ◌∷◌, ◌++◌, map, reverse, Ok, refl, sym, ap, ◌∙◌}
use Rattle.std.proofs.lemmas.List.{reverse-append, reverse-reverse}
use Rattle.name_table.specs.declared.builtin.Builtin.TheVariants as op
use Rattle.bst_meaning.specs.declared.value.Value.{Value}
use Rattle.bst_meaning.specs.declared.value.Value.TheVariants.{Str as StrValue}
use Rattle.bst_meaning.specs.Builtins.{shown, warning, built_in}
use Rattle.bst_meaning.specs.Config.{EndedLine, Event, Wrote}
use Rattle.bst_meaning.specs.Effect.{left}
use Rattle.sym_state.specs.declared.symbol.Sym.{Sym}
use Rattle.sym_state.proofs.Pushing.{without}
use Rattle.sym_state.proofs.Spots.{Spot}
use Rattle.builtin_effects.proofs.Covering.{CoversAt, lower, machine_gives, shift, CoversOf, around, one_then}
use Rattle.builtin_effects.proofs.OperandValues.{text_met}
use Rattle.name_table.specs.declared.builtin.Builtin.{Builtin}

on_top : (rest : List Sym) (a : Sym) → reverse (reverse rest ++ a ∷ []) ≡ a ∷ rest
on_top rest a = reverse-append (reverse rest) (a ∷ []) ∙ ap (λ (l : List Sym). a ∷ l) (reverse-reverse rest)

pub duplicate_covers : (s : Spot) → CoversOf s op.Duplicate
duplicate_covers s = λ a rest tops met.
    shift s op.Duplicate (a ∷ (a ∷ rest)) (s.state.stack ++ a ∷ []) [] []
    (reverse-append s.state.stack (a ∷ []) ∙ ap (λ (l : List Sym). a ∷ l) tops)
    (machine_gives s op.Duplicate (a ∷ rest) (lower s (a ∷ rest)) (left (lower s (a ∷ (a ∷ rest)))) tops refl refl)

pub swap_covers : (s : Spot) → CoversOf s op.Swap
swap_covers s = λ a b rest tops lower_met upper_met.
    let under : List Sym = reverse rest ++ b ∷ [] in
    shift s op.Swap (a ∷ (b ∷ rest)) (under ++ a ∷ []) [] []
    (reverse-append under (a ∷ []) ∙ ap (λ (l : List Sym). a ∷ l) (on_top rest b))
    (machine_gives s op.Swap (b ∷ (a ∷ rest)) (lower s (b ∷ (a ∷ rest))) (left (lower s (a ∷ (b ∷ rest)))) tops refl refl)

-- an operand is dropped, and something is written or logged
dropped : (s : Spot) (o : Builtin) (a : Sym) (rest : List Sym) (wrote : List Event) (logged : List (List ℕ)) (x : Value)
    → reverse s.state.stack ≡ a ∷ rest → s.v.value a.0 ≡ x
    → built_in o (around s) (x ∷ lower s rest) ≡ Ok (record (left (lower s rest)) { wrote = wrote; logged = logged })
    → CoversAt s o (without rest s.state)
dropped s o a rest wrote logged x tops is machine =
    shift s o rest (reverse rest) wrote logged (reverse-reverse rest)
    (one_then s o a rest x (Ok (record (left (lower s rest)) { wrote = wrote; logged = logged })) tops is machine)

pub pop_covers : (s : Spot) → CoversOf s op.Pop
pop_covers s = λ a rest tops met. dropped s op.Pop a rest [] [] (s.v.value a.0) tops refl refl

pub top_covers : (s : Spot) → CoversOf s op.Top
top_covers s = λ a rest tops met. dropped s op.Top a rest [] (shown s.style (s.v.value a.0) ∷ []) (s.v.value a.0) tops refl refl

pub write_covers : (s : Spot) → CoversOf s op.Write
write_covers s = λ a rest tops met.
    let text = text_met s a met in dropped s op.Write a rest (Wrote text.bytes ∷ []) [] (StrValue text.bytes) tops text.is refl

pub warning_covers : (s : Spot) → CoversOf s op.Warning
warning_covers s = λ a rest tops met.
    let text = text_met s a met in dropped s op.Warning a rest [] (warning text.bytes ∷ []) (StrValue text.bytes) tops text.is refl

pub newline_covers : (s : Spot) → CoversOf s op.Newline
newline_covers s =
    let tops : List Sym = reverse s.state.stack in
    shift s op.Newline tops s.state.stack (EndedLine ∷ []) [] refl
    (machine_gives s op.Newline tops (lower s tops) (record (left (lower s tops)) { wrote = EndedLine ∷ [] }) refl refl refl)

pub skip_covers : (s : Spot) → CoversOf s op.Skip
skip_covers s =
    let tops : List Sym = reverse s.state.stack in
    shift s op.Skip tops s.state.stack [] [] refl (machine_gives s op.Skip tops (lower s tops) (left (lower s tops)) refl refl refl)

pub stack_covers : (s : Spot) → CoversOf s op.Stack
stack_covers s = λ whole.
    let logged : List (List ℕ) = map (shown s.style) s.c.stack in
    shift s op.Stack [] [] [] logged refl
    (ap (λ (l : List Value). Ok (record (left l) { logged = logged })) (sym (s.stands.whole whole)))
