-- A text without braces and colons in another case.
use Rattle.std.proofs.Common.{◌≡◌, ◌∙◌, ℕ, List, [], ◌∷◌, refl, sym, ap, arith, Bool, true, false}
use Rattle.std.specs.Prelude.{◌&&◌}
use Rattle.std.specs.List.{list_all}
use Rattle.std.proofs.lemmas.Bool.{and_parts}
use Rattle.std.proofs.lemmas.Bool.Decides.{nat_tests}
use Rattle.bv_base.specs.Bytes.{is_white}
use Rattle.bv_base.specs.Levels.{begins_special, next_level, pieces_after}
use Rattle.text_ops.specs.ChangeCase.{begins_title, behind_colon, case_changed, changed_byte, changed_letters, changed_pieces, is_simple_byte, leaves, simply_changed}
use Rattle.text_ops.specs.declared.change_case.Case.{Case}
use Rattle.text_ops.specs.declared.change_case.Case.TheVariants.{Title, Lower, Upper}
use Rattle.text_ops.proofs.CaseSteps.{first_plain}

begins_none : (b : ℕ) (bs : List ℕ) → is_simple_byte b ≡ true → begins_special 0 (b ∷ bs) ≡ false
begins_none b [] simple = refl
begins_none b (c ∷ bs) simple = grind (arith, nat_tests)

stays : (b : ℕ) → is_simple_byte b ≡ true → next_level 0 b ≡ 0
stays b simple = grind (arith, nat_tests)

no_colon : (b : ℕ) (before : List ℕ) → is_simple_byte b ≡ true → behind_colon before ≡ false → behind_colon (b ∷ before) ≡ false
no_colon b before simple none =
    let M : Bool → Type 0 = λ v. is_white b ≡ v → behind_colon (b ∷ before) ≡ false in
    (elim (is_white b) as M [ true ↦ λ e. rw e none | false ↦ λ e. rw e (grind (arith, nat_tests)) ]) refl

no_title : (mode : Case) (b : ℕ) (before : List ℕ) → behind_colon before ≡ false → leaves mode (begins_title (b ∷ before)) ≡ false
no_title Title b before none =
    let M : Bool → Type 0 = λ v. is_white b ≡ v → (is_white b && behind_colon before) ≡ false in
    (elim (is_white b) as M [ true ↦ λ e. rw (e, none) refl | false ↦ λ e. rw e refl ]) refl
no_title Lower b before none = refl
no_title Upper b before none = refl

-- behind bytes after which no title begins
later_changed : (mode : Case) (before bs : List ℕ) → leaves mode (begins_title before) ≡ false → behind_colon before ≡ false
    → list_all is_simple_byte bs ≡ true → changed_pieces mode before (pieces_after 0 0 bs) ≡ changed_letters mode bs
later_changed mode before [] left none simple = refl
later_changed mode before (b ∷ bs) left none simple =
    let both = and_parts (is_simple_byte b) (list_all is_simple_byte bs) simple in
    rw (begins_none b bs both.0, stays b both.0) (first_plain mode before 0 b (pieces_after 0 0 bs)
    ∙ rw (left) (ap (λ rest. changed_byte mode b ∷ rest)
    (later_changed mode (b ∷ before) bs (no_title mode b before none) (no_colon b before both.0 none) both.1)))

pub simple_case : (mode : Case) (text : List ℕ) → list_all is_simple_byte text ≡ true → simply_changed mode text ≡ case_changed mode text
simple_case Title [] simple = refl
simple_case Title (b ∷ bs) simple =
    let both = and_parts (is_simple_byte b) (list_all is_simple_byte bs) simple in
    rw (begins_none b bs both.0, stays b both.0) (ap (λ rest. b ∷ rest)
    (sym (later_changed Title (b ∷ []) bs (no_title Title b [] refl) (no_colon b [] both.0 refl) both.1)))
simple_case Lower text simple = sym (later_changed Lower [] text refl refl simple)
simple_case Upper text simple = sym (later_changed Upper [] text refl refl simple)
