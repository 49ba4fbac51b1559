-- The marks of what the machine assigns.
use Rattle.std.proofs.Common.{◌≡◌, ℕ, refl, sym, ap, ◌∙◌, cond, Bool, true, false, List, [], ◌∷◌, drop, slice_get, Option, None, Some, Result}
use Rattle.name_table.specs.declared.names.Kind.{Kind}
use Rattle.name_table.specs.declared.names.NameId.{NameId}
use Rattle.name_table.specs.declared.style.Style.{Style}
use Rattle.bst_meaning.specs.declared.fault.Fault.{Fault}
use Rattle.bst_meaning.specs.declared.value.Target.TheVariants.{Named}
use Rattle.bst_meaning.specs.declared.value.Value.{Value}
use Rattle.bst_meaning.specs.declared.value.Value.TheVariants.{Func}
use Rattle.bst_meaning.specs.Config.{EntryState}
use Rattle.bst_meaning.specs.Effect.{Effect}
use Rattle.bst_meaning.specs.Machine.{visited_index}
use Rattle.bst_meaning.specs.StyleParts.{kind_of}
use Rattle.bst_step.specs.declared.assign.Assignment.{Assignment}
use Rattle.bst_step.specs.declared.assign.Assignment.TheVariants.{Whole, Cut}
use Rattle.bst_step.specs.declared.state.State.{State}
use Rattle.bst_step.specs.Assignments as effect
use Rattle.bst_step.specs.MarkRules.{assigned, given, unless_fault}
use Rattle.bst_step.specs.Marks.{Mark, Marks, given_globally, given_in_entry, taken}
use Rattle.bst_step.specs.Moves.{is_of_entry}
use Rattle.bst_step.specs.Room.{cuts_nothing}
use Rattle.bst_step.specs.State.{config_of}
use Rattle.bst_step.specs.Values.{Holding}

-- the kind of the name says where the variable is
pub given_by_entry : (kind : Option Kind) (name : NameId) (at : Option ℕ) (m : Marks) → is_of_entry kind ≡ true
    → given_in_entry name at m.stack m ≡ given kind name at m
given_by_entry kind name at m is = sym (ap (λ (b : Bool). cond b (given_in_entry name at m.stack m) (given_globally name m.stack m)) is)

pub given_by_style : (kind : Option Kind) (name : NameId) (at : Option ℕ) (m : Marks) → is_of_entry kind ≡ false
    → given_globally name m.stack m ≡ given kind name at m
given_by_style kind name at m is = sym (ap (λ (b : Bool). cond b (given_in_entry name at m.stack m) (given_globally name m.stack m)) is)

-- where no entry is visited, no variable of one has another value
pub nothing_given_marks : (name : NameId) (stack : List Mark) (m : Marks) → m.stack ≡ stack → taken 1 m ≡ given_in_entry name None stack m
nothing_given_marks name [] m is =
    ap (λ (l : List Mark). let k : Marks = record m { stack = drop 1 l } in k) is ∙ ap (λ (l : List Mark). let k : Marks = record m { stack = l } in k) (sym is)
nothing_given_marks name (mark ∷ stack) m is = ap (λ (l : List Mark). let k : Marks = record m { stack = drop 1 l } in k) is

-- the visited entry is at the same place where the entries are the same
pub visited_same : (s : State) (v : Holding) → v.entries ≡ s.values.entries → visited_index (config_of (record s { values = v })) ≡ visited_index (config_of s)
visited_same s v is = ap (λ (es : List EntryState). visited_index (record (config_of s) { entries = es })) is

-- the top names the variable
pub assigned_marks : (style : Style) (stack : List Value) (name : NameId) (at : Option ℕ) (m : Marks) → slice_get stack 0 ≡ Some (Func (Named name))
    → given (kind_of style name) name at (taken 1 m) ≡ assigned style stack at m
assigned_marks style [] name at m is = absurd (cc)
assigned_marks style (top ∷ stack) name at m is =
    let same : top ≡ Func (Named name) = cc in ap (λ (v : Value). assigned style (v ∷ stack) at m) (sym same)

-- an assignment has no fault
no_fault_whole : (name : NameId) (o : Option Value) (rest : List Value) (after before : Marks)
    → unless_fault (effect.assigned name o rest) after before ≡ after
no_fault_whole name None rest after before = refl
no_fault_whole name (Some value) rest after before = refl

no_fault_cut : (name : NameId) (size : ℕ) (line : List ℕ) (o : Option Value) (rest : List Value) (after before : Marks)
    → unless_fault (effect.assigned_cut name size line o rest) after before ≡ after
no_fault_cut name size line None rest after before = refl
no_fault_cut name size line (Some value) rest after before = refl

no_fault : (a : Assignment) (stack : List Value) (after before : Marks) → unless_fault (effect.effect_of a stack) after before ≡ after
no_fault (Whole name) stack after before = no_fault_whole name (slice_get stack 1) (drop 2 stack) after before
no_fault (Cut name size line) stack after before = no_fault_cut name size line (slice_get stack 1) (drop 2 stack) after before

pub marks_assigned : (style : Style) (a : Assignment) (stack : List Value) (name : NameId) (at : Option ℕ) (wanted : Result Effect Fault) (m : Marks)
    → effect.effect_of a stack ≡ wanted → slice_get stack 0 ≡ Some (Func (Named name))
    → given (kind_of style name) name at (taken 1 m) ≡ unless_fault wanted (assigned style stack at m) m
marks_assigned style a stack name at wanted m is top =
    assigned_marks style stack name at m top
    ∙ sym (no_fault a stack (assigned style stack at m) m)
    ∙ ap (λ (w : Result Effect Fault). unless_fault w (assigned style stack at m) m) is

-- an assignment that cuts logs a line
cut_logs : (name : NameId) (size : ℕ) (line : List ℕ) (o : Option Value) (rest : List Value) → cuts_nothing (effect.assigned_cut name size line o rest) ≡ false
cut_logs name size line None rest = refl
cut_logs name size line (Some value) rest = refl

pub cut_cuts : (name : NameId) (size : ℕ) (line : List ℕ) (stack : List Value) (wanted : Result Effect Fault)
    → effect.effect_of (Cut name size line) stack ≡ wanted → cuts_nothing wanted ≡ true → ⊥
cut_cuts name size line stack wanted is nothing =
    let logs : cuts_nothing wanted ≡ false = ap (λ (w : Result Effect Fault). cuts_nothing w) (sym is) ∙ cut_logs name size line (slice_get stack 1) (drop 2 stack) in
    cc
