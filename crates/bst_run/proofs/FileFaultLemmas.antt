-- What stops the reading of .aux files is a file that isn't there or too long, or a fault that stands in the text of the file that is named.
use Rattle.std.proofs.Common.{◌≡◌, ℕ, zero, suc, Bool, true, false, cond, nat_lt, List, [], ◌∷◌, length, Option, None, Some, Result, Ok, Err, refl, sym, subst, append-nil, arith}
use Rattle.std.specs.Prelude.{IfErr, IfSome}
use Rattle.std.specs.FinMap.{get}
use Rattle.std.proofs.lemmas.Bool.Decides.{nat_tests}
use Rattle.bv_base.specs.Answers.{then_do}
use Rattle.bv_base.specs.Outside.{Listing}
use Rattle.bv_base.specs.declared.limits.TheConstants.{DATA_BYTES}
use Rattle.bv_base.specs.Places.{after_bytes, first_place}
use Rattle.name_table.specs.Sound.{Each}
use Rattle.aux_read.proofs.FaultsStand.{fault_stands, stands_before}
use Rattle.aux_read.specs.Reading.{aux_of}
use Rattle.aux_read.specs.declared.aux.Aux.{Aux}
use Rattle.aux_read.specs.declared.aux.AuxItem.{AuxItem}
use Rattle.aux_read.specs.declared.aux.AuxItem.TheVariants.{All, Cite, Input}
use Rattle.aux_read.specs.declared.fault.AuxFault.{AuxFault}
use Rattle.bst_run.specs.AuxChain.{aux_file, aux_in, complete, complete_by, needs_after, needs_of, read_aux, take_aux, take_input, take_items, unless_faulty, with_item, with_names}
use Rattle.bst_run.specs.FileFaults.{IsFaultOf, IsFileFault, Missing, Long, Faulty}
use Rattle.bst_run.specs.Files.{file_in, whole_file}
use Rattle.bst_run.specs.Report.{too_long}
use Rattle.bst_run.specs.Requests.{fault_after, first_fault, first_input, nothing, second_databases, second_databases_by, second_style, second_style_by, too_deep}
use Rattle.bst_run.specs.DataFaults.{place_of}
use Rattle.bst_run.specs.declared.data_fault.DataFault.{DataFault}
use Rattle.bst_run.specs.declared.data_fault.DataFault.TheVariants.{Aux as AuxFile, NoStyle, NoData}
use Rattle.bst_run.specs.declared.files.requests.Needs.{Needs}
use Rattle.bst_run.specs.declared.files.requests.Requests.{Requests}
use Rattle.bst_run.specs.declared.outcome.Outcome.{Outcome}
use Rattle.bst_run.proofs.TreeLemmas.{file_read, text_read}
use Rattle.bst_run.proofs.AuxPlaces.{AuxStands, ItemStands, aux_stands}
use Rattle.bv_base.proofs.ThenLemmas.{then_faulty, then_ok}

-- the first or the second of two faults
first_stands : (text : List ℕ) (a b : Option DataFault) → IfSome a (IsFaultOf text) → IfSome b (IsFaultOf text) → IfSome (first_fault a b) (IsFaultOf text)
first_stands text None b first second = second
first_stands text (Some a) None first second = first
first_stands text (Some a) (Some b) first second = by (nat_lt (place_of b).line (place_of a).line)
  where
    by : (t : Bool) → IsFaultOf text (cond t b a)
    by true = second
    by false = first

style_stands : (text : List ℕ) (before found : Option (List ℕ)) (aux : Aux) → AuxStands text aux → IfSome (second_style_by before found aux) (IsFaultOf text)
style_stands text None found aux s = tt
style_stands text (Some b) None aux s = tt
style_stands text (Some b) (Some style) aux s = s.style

databases_stand : (text : List ℕ) (before found : List (List ℕ)) (aux : Aux) → AuxStands text aux
    → IfSome (second_databases_by before found aux) (IsFaultOf text)
databases_stand text [] found aux s = tt
databases_stand text (b ∷ _) [] aux s = tt
databases_stand text (b ∷ _) (database ∷ _) aux s = s.databases

input_stands : (text : List ℕ) (items : List AuxItem) → Each (ItemStands text) items → IfSome (first_input items) (IsFaultOf text)
input_stands text [] each = tt
input_stands text (Input name place ∷ items) each = each.0
input_stands text (Cite key ∷ items) each = input_stands text items each.1
input_stands text (All ∷ items) each = input_stands text items each.1

deep_stands : (text : List ℕ) (levels : ℕ) (items : List AuxItem) → Each (ItemStands text) items → IfSome (too_deep levels items) (IsFaultOf text)
deep_stands text zero items each = input_stands text items each
deep_stands text (suc levels) items each = tt

-- a fault of a file after those before it
after_stands : (text : List ℕ) (levels : ℕ) (before : Requests) (aux : Aux) → AuxStands text aux → IfSome (fault_after levels before aux) (IsFaultOf text)
after_stands text levels before aux s =
    first_stands text (first_fault (second_style before aux) (second_databases before aux)) (too_deep levels aux.items)
    (first_stands text (second_style before aux) (second_databases before aux) (style_stands text before.style aux.style aux s)
    (databases_stand text before.databases aux.databases aux s))
    (deep_stands text levels aux.items s.items)

module _ (told : Listing) where
  -- a file that can't be read
  file_faulty : (name : List ℕ) → IfErr (file_in told DATA_BYTES name) (IsFileFault told)
  file_faulty name = by (get told name) refl
    where
      sized : (bytes : List ℕ) → get told name ≡ Some bytes → (t : Bool) → nat_lt DATA_BYTES (length bytes) ≡ t
          → IfErr (cond t (Err (too_long name)) (Ok bytes)) (IsFileFault told)
      sized bytes is true long = Long name bytes is (grind (arith, nat_tests)) refl
      sized bytes is false short = tt

      by : (o : Option (List ℕ)) → get told name ≡ o → IfErr (whole_file DATA_BYTES name o) (IsFileFault told)
      by None is = Missing name is refl
      by (Some bytes) is = sized bytes is (nat_lt DATA_BYTES (length bytes)) refl

  -- a text that isn't read
  text_faulty : (name text : List ℕ) → get told name ≡ Some text → IfErr (aux_in name text) (IsFileFault told)
  text_faulty name text there = by (aux_of text) refl
    where
      by : (r : Result Aux AuxFault) → aux_of text ≡ r → IfErr (read_aux name r) (IsFileFault told)
      by (Ok aux) is = tt
      by (Err fault) is = Faulty name text (AuxFile fault) there (fault_stands text fault is) refl

  -- items, where no input is read but with such an outcome
  items_faulty : (input : List ℕ → Requests → Result Requests Outcome) (items : List AuxItem) (requests : Requests)
      → ((name : List ℕ) (before : Requests) → IfErr (input name before) (IsFileFault told)) → IfErr (take_items input items requests) (IsFileFault told)
  items_faulty input [] requests each = tt
  items_faulty input (Input name place ∷ items) requests each =
      then_faulty (IsFileFault told) (input name requests) (take_items input items) (each name requests) (λ after _. items_faulty input items after each)
  items_faulty input (Cite key ∷ items) requests each = items_faulty input items (with_item (Cite key) requests) each
  items_faulty input (All ∷ items) requests each = items_faulty input items (with_item All requests) each

  aux_faulty : (levels : ℕ) (input : List ℕ → Requests → Result Requests Outcome) (name text : List ℕ) (before : Requests) (aux : Aux)
      → get told name ≡ Some text → AuxStands text aux → ((n : List ℕ) (r : Requests) → IfErr (input n r) (IsFileFault told))
      → IfErr (take_aux levels input name before aux) (IsFileFault told)
  aux_faulty levels input name text before aux there s each =
      by (fault_after levels before aux) (after_stands text levels before aux s)
    where
      by : (o : Option DataFault) → IfSome o (IsFaultOf text)
          → IfErr (unless_faulty name o (take_items input aux.items (with_names aux before))) (IsFileFault told)
      by None stands = items_faulty input aux.items (with_names aux before) each
      by (Some fault) stands = Faulty name text fault there stands refl

  -- a file that is read by its name
  named_faulty : (levels : ℕ) (name : List ℕ) (before : Requests) (aux : Aux) → aux_file told name ≡ Ok aux
      → ((n : List ℕ) (r : Requests) → IfErr (take_input levels told n r) (IsFileFault told))
      → IfErr (take_aux levels (take_input levels told) name before aux) (IsFileFault told)
  named_faulty levels name before aux e each =
      let has = then_ok (file_in told DATA_BYTES name) (aux_in name) aux e in
      aux_faulty levels (take_input levels told) name has.0 before aux (file_read told name has.0 has.1).0
      (aux_stands has.0 aux (text_read name has.0 aux has.2)) each

  input_faulty : (levels : ℕ) (name : List ℕ) (before : Requests) → IfErr (take_input levels told name before) (IsFileFault told)
  input_faulty zero name before = tt
  input_faulty (suc levels) name before =
      then_faulty (IsFileFault told) (aux_file told name) (take_aux levels (take_input levels told) name before)
      (then_faulty (IsFileFault told) (file_in told DATA_BYTES name) (aux_in name) (file_faulty name)
      (λ text read. text_faulty name text (file_read told name text read).0))
      (λ aux read. named_faulty levels name before aux read (input_faulty levels))

  complete_faulty : (name text : List ℕ) (items : List AuxItem) (style : Option (List ℕ)) (databases : List (List ℕ)) → get told name ≡ Some text
      → IfErr (complete_by name text items style databases) (IsFileFault told)
  complete_faulty name text items None databases there = Faulty name text (NoStyle (after_bytes text first_place)) there (stands_before text text [] (sym (append-nil text))) refl
  complete_faulty name text items (Some style) [] there = Faulty name text (NoData (after_bytes text first_place)) there (stands_before text text [] (sym (append-nil text))) refl
  complete_faulty name text items (Some style) (first ∷ rest) there = tt

  after_faulty : (name text : List ℕ) → get told name ≡ Some text → IfErr (needs_after told name text) (IsFileFault told)
  unfolding needs_after
  after_faulty name text there =
      then_faulty (IsFileFault told) (aux_in name text) (λ aux. then_do (take_aux 16 (take_input 16 told) name nothing aux) (complete name text))
      (text_faulty name text there)
      (λ aux read. then_faulty (IsFileFault told) (take_aux 16 (take_input 16 told) name nothing aux) (complete name text)
      (aux_faulty 16 (take_input 16 told) name text nothing aux there (aux_stands text aux (text_read name text aux read)) (input_faulty 16))
      (λ requests _. complete_faulty name text requests.items requests.style requests.databases there))

  pub needs_faulty : (name : List ℕ) (outcome : Outcome) → needs_of told name ≡ Err outcome → IsFileFault told outcome
  needs_faulty name outcome e =
      let all = then_faulty (IsFileFault told) (file_in told DATA_BYTES name) (needs_after told name) (file_faulty name)
      (λ text read. after_faulty name text (file_read told name text read).0) in
      subst (λ (r : Result Needs Outcome). IfErr r (IsFileFault told)) e all
