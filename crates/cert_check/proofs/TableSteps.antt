-- Tables that are filled from the last item on.
use Rattle.std.proofs.Common.{◌≡◌, ◌≢◌, ℕ, zero, suc, ◌-◌, ◌<◌, ◌≤◌, Bool, true, false, ◌||◌, cond, nat_eq, List, [], ◌∷◌, drop, length, get_or, slice_get, slice_set, Option, None, Some, IfSome, refl, sym, ap, subst, ◌∙◌, arith, drop-cons, inl, inr, ◌⊎◌}
use Rattle.std.specs.List.{All, list_any}
use Rattle.std.specs.Option.{option_map_or}
use Rattle.std.proofs.Math.Seq.{drop-length}
use Rattle.std.proofs.lemmas.Bool.Decides.{nat_tests}
use Rattle.name_table.specs.declared.names.NameId.{NameId}
use Rattle.name_table.specs.declared.style.Body.{Body}
use Rattle.name_table.specs.declared.style.BodyId.{BodyId}
use Rattle.bst_meaning.specs.declared.value.Target.{Target}
use Rattle.bst_meaning.specs.declared.value.Target.TheVariants.{Named, Block}
use Rattle.cert_format.specs.declared.cert.Summary.{Summary}
use Rattle.cert_check.specs.Tables.{AreBodies, AreMarks, block_of_id, name_of_id}
use Rattle.cert_check.specs.Walks.{block_body, is_target}
use Rattle.cert_check.proofs.Walked.{found_one}

-- what is at an index after an item was put at one
got_set : {X : Type 0} (xs : List X) (i k : ℕ) (y x : X) → slice_get (slice_set xs i y) k ≡ Some x
    → ((k ≡ i) × (x ≡ y)) ⊎ ((k ≢ i) × (slice_get xs k ≡ Some x))
got_set [] i k y x e = absurd (cc)
got_set (first ∷ xs) zero zero y x e = inl (refl, cc)
got_set (first ∷ xs) zero (suc k) y x e = inr (omega arith, e)
got_set (first ∷ xs) (suc i) zero y x e = inr (omega arith, e)
got_set (first ∷ xs) (suc i) (suc k) y x e = elim (got_set xs i k y x e) [
  | inl same ↦ inl (ap suc same.0, same.1)
  | inr other ↦ let differs = other.0 in inr (omega (arith, differs), other.1)
]

marks_set : (target : ℕ → Target) (marks : List Bool) (summary : Summary) (summaries : List Summary) (id : ℕ) → is_target summary.body (target id) ≡ true
    → ((k : ℕ) → k ≢ id → is_target summary.body (target k) ≡ false) → AreMarks target marks summaries
    → AreMarks target (slice_set marks id true) (summary ∷ summaries)
marks_set target marks summary summaries id here others before k mark e =
    elim (got_set marks id k true mark e) [
      | inl same ↦ same.1 ∙ sym (ap (λ (t : Bool). t || list_any (λ s. is_target s.body (target k)) summaries) (ap (λ (n : ℕ). is_target summary.body (target n)) same.0 ∙ here))
      | inr other ↦ before k mark other.1
          ∙ sym (ap (λ (t : Bool). t || list_any (λ s. is_target s.body (target k)) summaries) (others k other.0))
    ]

other_number : (a b : ℕ) → b ≢ a → nat_eq a b ≡ false
other_number a b differs = grind (arith, nat_tests)

one_number : (a : ℕ) → nat_eq a a ≡ true
one_number a = grind (arith, nat_tests)

target_marked : (target : ℕ → Target) (marks : List Bool) (summary : Summary) (summaries left : List Summary) (id : ℕ)
    → ((a b : ℕ) → is_target (target a) (target b) ≡ nat_eq a b) → summary.body ≡ target id → left ≡ summary ∷ summaries
    → AreMarks target marks summaries → AreMarks target (slice_set marks id true) left
target_marked target marks summary summaries left id apart is begins before =
    subst (AreMarks target (slice_set marks id true)) (sym begins)
    (marks_set target marks summary summaries id
    (ap (λ (t : Target). is_target t (target id)) is ∙ apart id id ∙ one_number id)
    (λ k differs. ap (λ (t : Target). is_target t (target k)) is ∙ apart id k ∙ other_number id k differs) before)

body_placed : (found : List (Option BodyId)) (id later : ℕ) (body : Body) (bodies left : List Body) (number : ℕ) → body.block ≡ Some number → left ≡ body ∷ bodies
    → later ≡ suc id → AreBodies later found bodies → AreBodies id (slice_set found number (Some (record { 0 = id }))) left
body_placed found id later body bodies left number is begins next before =
    subst (AreBodies id (slice_set found number (Some (record { 0 = id })))) (sym begins) each
  where
    each : AreBodies id (slice_set found number (Some (record { 0 = id }))) (body ∷ bodies)
    each k entry e = elim (got_set found number k (Some (record { 0 = id })) entry e) [
      | inl same ↦ same.1 ∙ sym (ap (λ (t : Bool). cond t (Some (record { 0 = id })) (block_body k (suc id) bodies))
          (ap (λ (b : Option ℕ). option_map_or (nat_eq k) b false) is ∙ ap (nat_eq k) (sym same.0) ∙ one_number k))
      | inr other ↦ let differs = other.0 in before k entry other.1 ∙ ap (λ (n : ℕ). block_body k n bodies) next
          ∙ sym (ap (λ (t : Bool). cond t (Some (record { 0 = id })) (block_body k (suc id) bodies))
          (ap (λ (b : Option ℕ). option_map_or (nat_eq k) b false) is ∙ other_number k number (λ same. differs (sym same))))
    ]

-- before the last item nothing is marked, and no block has a body
equal_at : {X : Type 0} (xs : List X) (k : ℕ) (y x : X) → All (λ one. one ≡ y) xs → slice_get xs k ≡ Some x → x ≡ y
equal_at {X} xs k y x all e = subst (λ (o : Option X). IfSome o (λ one. one ≡ y)) e (found_one (λ (one : X). one ≡ y) xs k all)

pub none_marked : (target : ℕ → Target) (marks : List Bool) (summaries : List Summary) → All (λ one. one ≡ false) marks
    → AreMarks target marks (drop (length summaries) summaries)
none_marked target marks summaries all =
    subst (AreMarks target marks) (sym (drop-length summaries)) (λ id mark e. equal_at marks id false mark all e)

pub none_placed : (from : ℕ) (found : List (Option BodyId)) (bodies : List Body) → All (λ one. one ≡ None) found
    → AreBodies from found (drop (length bodies) bodies)
none_placed from found bodies all =
    subst (AreBodies from found) (sym (drop-length bodies)) (λ number body e. equal_at found number None body all e)

-- the item before those that are left
item_before : {X : Type 0} (xs : List X) (k : ℕ) (d : X) → 0 < k → k ≤ length xs → drop (k - 1) xs ≡ get_or xs (k - 1) d ∷ drop k xs
item_before {X} xs k d some inside =
    let last : suc (k - 1) ≡ k = omega (arith, some) in
    drop-cons xs (k - 1) d (omega (arith, some, inside)) ∙ ap (λ (n : ℕ). get_or xs (k - 1) d ∷ drop n xs) last

-- a summary that is looked at marks its target, and a block's body is put at its number
target_next : (target : ℕ → Target) (marks next : List Bool) (summaries : List Summary) (k : ℕ) (d : Summary) (id : ℕ)
    → ((a b : ℕ) → is_target (target a) (target b) ≡ nat_eq a b) → 0 < k → k ≤ length summaries → (get_or summaries (k - 1) d).body ≡ target id
    → next ≡ slice_set marks id true → AreMarks target marks (drop k summaries) → AreMarks target next (drop (k - 1) summaries)
target_next target marks next summaries k d id apart some inside is put before =
    subst (λ (l : List Bool). AreMarks target l (drop (k - 1) summaries)) (sym put)
    (target_marked target marks (get_or summaries (k - 1) d) (drop k summaries) (drop (k - 1) summaries) id apart is (item_before summaries k d some inside)
    before)

pub name_next : (marks next : List Bool) (summaries : List Summary) (k : ℕ) (d : Summary) (name : NameId) → 0 < k → k ≤ length summaries
    → (get_or summaries (k - 1) d).body ≡ Named name → next ≡ slice_set marks name.0 true → AreMarks name_of_id marks (drop k summaries)
    → AreMarks name_of_id next (drop (k - 1) summaries)
name_next marks next summaries k d name = target_next name_of_id marks next summaries k d name.0 (λ a b. refl)

pub block_next : (marks next : List Bool) (summaries : List Summary) (k : ℕ) (d : Summary) (body : BodyId) → 0 < k → k ≤ length summaries
    → (get_or summaries (k - 1) d).body ≡ Block body → next ≡ slice_set marks body.0 true → AreMarks block_of_id marks (drop k summaries)
    → AreMarks block_of_id next (drop (k - 1) summaries)
block_next marks next summaries k d body = target_next block_of_id marks next summaries k d body.0 (λ a b. refl)

pub body_next : (found next : List (Option BodyId)) (bodies : List Body) (id : ℕ) (d : Body) (number : ℕ) → 0 < id → id ≤ length bodies
    → (get_or bodies (id - 1) d).block ≡ Some number → next ≡ slice_set found number (Some (record { 0 = id - 1 })) → AreBodies id found (drop id bodies)
    → AreBodies (id - 1) next (drop (id - 1) bodies)
body_next found next bodies id d number some inside is put before =
    subst (λ (l : List (Option BodyId)). AreBodies (id - 1) l (drop (id - 1) bodies)) (sym put)
    (body_placed found (id - 1) id (get_or bodies (id - 1) d) (drop id bodies) (drop (id - 1) bodies) number is (item_before bodies id d some inside)
    (omega (arith, some)) before)

-- a summary of another kind of target marks none of this one
target_passed : (target : ℕ → Target) (marks : List Bool) (summaries : List Summary) (k : ℕ) (d : Summary) → 0 < k → k ≤ length summaries
    → ((id : ℕ) → is_target (get_or summaries (k - 1) d).body (target id) ≡ false) → AreMarks target marks (drop k summaries)
    → AreMarks target marks (drop (k - 1) summaries)
target_passed target marks summaries k d some inside other before =
    subst (AreMarks target marks) (sym (item_before summaries k d some inside))
    (λ id mark e. before id mark e ∙ sym (ap (λ (t : Bool). t || list_any (λ s. is_target s.body (target id)) (drop k summaries)) (other id)))

pub name_passed : (marks : List Bool) (summaries : List Summary) (k : ℕ) (d : Summary) (name : NameId) → 0 < k → k ≤ length summaries
    → (get_or summaries (k - 1) d).body ≡ Named name → AreMarks block_of_id marks (drop k summaries) → AreMarks block_of_id marks (drop (k - 1) summaries)
name_passed marks summaries k d name some inside is =
    target_passed block_of_id marks summaries k d some inside (λ id. ap (λ (t : Target). is_target t (block_of_id id)) is)

pub block_passed : (marks : List Bool) (summaries : List Summary) (k : ℕ) (d : Summary) (body : BodyId) → 0 < k → k ≤ length summaries
    → (get_or summaries (k - 1) d).body ≡ Block body → AreMarks name_of_id marks (drop k summaries) → AreMarks name_of_id marks (drop (k - 1) summaries)
block_passed marks summaries k d body some inside is =
    target_passed name_of_id marks summaries k d some inside (λ id. ap (λ (t : Target). is_target t (name_of_id id)) is)
