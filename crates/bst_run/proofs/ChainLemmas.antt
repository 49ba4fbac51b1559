-- An .aux file and its inputs, one after the other.
use Rattle.std.proofs.Common.{◌≡◌, ℕ, suc, zero, ◌-◌, ◌<◌, List, [], ◌∷◌, Option, None, Some, Result, Ok, Err, refl, sym, ◌∙◌, ap, subst, arith, append-nil}
use Rattle.std.specs.Prelude.{IfSome, IfErr}
use Rattle.bv_base.specs.Outside.{Listing}
use Rattle.aux_read.specs.declared.aux.Aux.{Aux}
use Rattle.aux_read.specs.declared.aux.AuxItem.{AuxItem}
use Rattle.aux_read.specs.declared.aux.AuxItem.TheVariants.{Input}
use Rattle.bv_base.specs.declared.files.Begun.{Begun}
use Rattle.bv_base.specs.declared.place.Place.{Place}
use Rattle.bst_run.specs.declared.outcome.Outcome.{Outcome}
use Rattle.bv_base.specs.declared.files.Files.{Ghosts}
use Rattle.bst_run.specs.declared.data_fault.DataFault.{DataFault}
use Rattle.bst_run.specs.declared.files.requests.Needs.{Needs}
use Rattle.bst_run.specs.declared.files.requests.Requests.{Requests}
use Rattle.bst_run.specs.declared.stop.Stop.{Stop}
use Rattle.bst_run.specs.AuxChain.{aux_file, aux_in, take_items, take_aux, take_input, with_names, complete, needs_within}
use Rattle.bv_base.specs.Answers.{then_do}
use Rattle.bst_run.specs.Requests.{fault_after, first_databases, first_style, nothing}
use Rattle.bst_run.specs.FilesBegun.{Begins, aux_begun, file_begun, input_begun, inputs_within, is_decided, items_begun}
use Rattle.bst_run.specs.Reads.{Reads}
use Rattle.bst_run.specs.Stops.{Decides, Gives, IsInside}
use Rattle.bst_run.proofs.BegunLemmas.{AreSoFar, all_begun, begins_after, begins_next, begins_stopped, none_so_far, so_far_ended, so_far_next, so_far_stopped}
use Rattle.bst_run.proofs.ReadsLemmas.{reads_next, reads_stopped, reads_nothing}

-- what all items of a file ask for, after some of them
abbrev pub AreLeft : Option Listing → ℕ → Requests → Aux → List AuxItem → Requests → Type 0
AreLeft told levels before aux items requests =
    IfSome told (λ t. take_items (take_input levels t) items requests ≡ take_items (take_input levels t) aux.items (with_names aux before))

-- an input is read, and then taken
pub input_taken : {F : Type 0} (see : Ghosts F) (old mid new : F) (levels : ℕ) (name name' : List ℕ) (before : Requests) (aux : Aux) (result : Result Requests Stop)
    → 0 < levels → name' ≡ name → Reads {F = F} {A = Aux} see old mid (λ t. aux_file t name') (Ok aux)
    → Reads {F = F} {A = Requests} see mid new (λ t. take_aux (levels - 1) (take_input (levels - 1) t) name' before aux) result
    → Reads {F = F} {A = Requests} see old new (λ t. take_input levels t name before) result
input_taken see old mid new zero name name' before aux result pos names file taken = absurd (omega arith)
input_taken {F = F} see old mid new (suc n) name name' before aux result pos names file taken =
    let e : suc n - 1 ≡ n = omega arith in
    let below : Reads {F = F} {A = Requests} see mid new (λ t. take_aux n (take_input n t) name' before aux) result =
    subst (λ (m : ℕ). Reads {F = F} {A = Requests} see mid new (λ t. take_aux m (take_input m t) name' before aux) result) e taken in
    subst (λ (x : List ℕ). Reads {F = F} {A = Requests} see old new (λ t. take_input (suc n) t x before) result) names
    (reads_next see old mid new (λ t. aux_file t name') aux (λ t. take_aux n (take_input n t) name' before) result file below)

-- an input isn't read
pub input_unread : {F : Type 0} (see : Ghosts F) (old new : F) (levels : ℕ) (name name' : List ℕ) (before : Requests) (stop : Stop) (result : Result Requests Stop)
    → 0 < levels → name' ≡ name → Reads {F = F} {A = Aux} see old new (λ t. aux_file t name') (Err stop) → result ≡ Err stop
    → Reads {F = F} {A = Requests} see old new (λ t. take_input levels t name before) result
input_unread see old new zero name name' before stop result pos names file is = absurd (omega arith)
input_unread {F = F} see old new (suc n) name name' before stop result pos names file is =
    rw is (subst (λ (x : List ℕ). Reads {F = F} {A = Requests} see old new (λ t. take_input (suc n) t x before) (Err stop)) names
    (reads_stopped see old new (λ t. aux_file t name') (λ t. take_aux n (take_input n t) name' before) stop file))

-- a first file is no .aux file
pub first_unread : {F : Type 0} (see : Ghosts F) (files : F) (levels : ℕ) (name text : List ℕ) (stop : Stop) (result : Result Needs Stop)
    → Decides {A = Aux} (aux_in name text) (Err stop) → IsInside stop → result ≡ Err stop
    → Reads {F = F} {A = Needs} see files files (λ t. needs_within levels t name text) result
first_unread see files levels name text stop result read inside is =
    rw is (reads_stopped see files files (λ t. aux_in name text) (λ t aux. then_do (take_aux levels (take_input levels t) name nothing aux) (complete name text)) stop
    (reads_nothing see files (aux_in name text) (Err stop) read inside))

-- a first file or an input of it stops the reading
pub first_stopped : {F : Type 0} (see : Ghosts F) (old new : F) (levels : ℕ) (name text : List ℕ) (before : Requests) (aux : Aux) (stop : Stop) (result : Result Needs Stop)
    → before ≡ nothing → Decides {A = Aux} (aux_in name text) (Ok aux)
    → Reads {F = F} {A = Requests} see old new (λ t. take_aux levels (take_input levels t) name before aux) (Err stop) → result ≡ Err stop
    → Reads {F = F} {A = Needs} see old new (λ t. needs_within levels t name text) result
first_stopped {F = F} see old new levels name text before aux stop result first read taken is =
    rw is (reads_next see old old new (λ t. aux_in name text) aux (λ t aux. then_do (take_aux levels (take_input levels t) name nothing aux) (complete name text)) (Err stop)
    (reads_nothing see old (aux_in name text) (Ok aux) read tt)
    (reads_stopped see old new (λ t. take_aux levels (take_input levels t) name nothing aux) (λ t. complete name text) stop
    (subst (λ (r : Requests). Reads {F = F} {A = Requests} see old new (λ t. take_aux levels (take_input levels t) name r aux) (Err stop)) first taken)))

-- a first file and its inputs are taken
pub first_taken : {F : Type 0} (see : Ghosts F) (old new : F) (levels : ℕ) (name text : List ℕ) (before requests : Requests) (aux : Aux) (result : Result Needs Stop)
    → before ≡ nothing → Decides {A = Aux} (aux_in name text) (Ok aux)
    → Reads {F = F} {A = Requests} see old new (λ t. take_aux levels (take_input levels t) name before aux) (Ok requests)
    → Decides {A = Needs} (complete name text requests) result → IfErr result IsInside
    → Reads {F = F} {A = Needs} see old new (λ t. needs_within levels t name text) result
first_taken {F = F} see old new levels name text before requests aux result first read taken completed inside =
    reads_next see old old new (λ t. aux_in name text) aux (λ t aux. then_do (take_aux levels (take_input levels t) name nothing aux) (complete name text)) result
    (reads_nothing see old (aux_in name text) (Ok aux) read tt)
    (reads_next see old new new (λ t. take_aux levels (take_input levels t) name nothing aux) requests (λ t. complete name text) result
    (subst (λ (r : Requests). Reads {F = F} {A = Requests} see old new (λ t. take_aux levels (take_input levels t) name r aux) (Ok requests)) first taken)
    (reads_nothing see new (complete name text requests) result completed inside))

-- no item was taken
pub left_whole : (told : Option Listing) (levels : ℕ) (before : Requests) (aux : Aux) (items : List AuxItem) (style : Option (List ℕ)) (databases : List (List ℕ))
    → items ≡ aux.items → style ≡ first_style before.style aux.style → databases ≡ first_databases before.databases aux.databases
    → AreLeft told levels before aux items (record { items = before.items; style = style; databases = databases })
left_whole None levels before aux items style databases e f h = tt
left_whole (Some t) levels before aux items style databases e f h = rw (e, f, h) refl

-- no input was begun
pub begun_whole : (told : Option Listing) (levels : ℕ) (before : Requests) (aux : Aux) (items : List AuxItem) (style : Option (List ℕ)) (databases : List (List ℕ)) (begun : List Begun)
    → items ≡ aux.items → style ≡ first_style before.style aux.style → databases ≡ first_databases before.databases aux.databases
    → AreSoFar told (λ t. items_begun (take_input levels t) (input_begun levels t) aux.items (with_names aux before))
    (λ t. items_begun (take_input levels t) (input_begun levels t) items (record { items = before.items; style = style; databases = databases })) begun begun
begun_whole None levels before aux items style databases begun e f h = tt
begun_whole (Some t) levels before aux items style databases begun e f h =
    rw (e, f, h) (none_so_far (items_begun (take_input levels t) (input_begun levels t) aux.items (with_names aux before)) begun)

-- an input of the items that are left is taken
pub left_next : (told told' : Option Listing) (levels : ℕ) (before : Requests) (aux : Aux) (items rest : List AuxItem) (name : List ℕ) (place : Place) (requests requests' : Requests)
    → items ≡ Input name place ∷ rest → told' ≡ told → AreLeft told levels before aux items requests
    → Gives {A = Requests} told' (λ t. take_input levels t name requests) (Ok requests') → AreLeft told levels before aux rest requests'
left_next told told' levels before aux items rest name place requests requests' e same left gives =
    by told left (subst (λ (o : Option Listing). Gives {A = Requests} o (λ t. take_input levels t name requests) (Ok requests')) same gives)
  where
    by : (o : Option Listing) → AreLeft o levels before aux items requests → Gives {A = Requests} o (λ t. take_input levels t name requests) (Ok requests')
        → AreLeft o levels before aux rest requests'
    by None left gives = tt
    by (Some t) left gives =
        sym (ap (λ (r : Result Requests Outcome). then_do r (take_items (take_input levels t) rest)) gives)
        ∙ ap (λ (l : List AuxItem). take_items (take_input levels t) l requests) (sym e)
        ∙ left

-- the same of what is begun
pub begun_next : (told told' : Option Listing) (all : Listing → List Begun) (levels : ℕ) (items rest : List AuxItem) (name : List ℕ) (place : Place) (requests requests' : Requests) (old mid new : List Begun)
    → items ≡ Input name place ∷ rest → told' ≡ told
    → AreSoFar told all (λ t. items_begun (take_input levels t) (input_begun levels t) items requests) old mid
    → Gives {A = Requests} told' (λ t. take_input levels t name requests) (Ok requests') → Begins {A = Requests} told' (λ t. input_begun levels t name requests) mid new (Ok requests')
    → AreSoFar told all (λ t. items_begun (take_input levels t) (input_begun levels t) rest requests') old new
begun_next told told' all levels items rest name place requests requests' old mid new e same so_far gives h =
    so_far_next {A = Requests} told told' all (λ t. take_input levels t name requests) requests' (λ t. input_begun levels t name requests)
    (λ t. items_begun (take_input levels t) (input_begun levels t) rest) old mid new same
    (subst (λ (l : List AuxItem). AreSoFar told all (λ t. items_begun (take_input levels t) (input_begun levels t) l requests) old mid) e so_far) gives h

-- an input of the items that are left isn't taken
pub begun_stopped : (told told' : Option Listing) (all : Listing → List Begun) (levels : ℕ) (items rest : List AuxItem) (name : List ℕ) (place : Place) (requests : Requests) (old mid new : List Begun) (stop : Stop)
    → items ≡ Input name place ∷ rest → told' ≡ told
    → AreSoFar told all (λ t. items_begun (take_input levels t) (input_begun levels t) items requests) old mid
    → Gives {A = Requests} told' (λ t. take_input levels t name requests) (Err stop) → Begins {A = Requests} told' (λ t. input_begun levels t name requests) mid new (Err stop)
    → Begins {A = Requests} told all old new (Err stop)
begun_stopped told told' all levels items rest name place requests old mid new stop e same so_far gives h =
    so_far_stopped {A = Requests} Requests told told' all (λ t. take_input levels t name requests) (λ t. input_begun levels t name requests)
    (λ t. items_begun (take_input levels t) (input_begun levels t) rest) old mid new stop same
    (subst (λ (l : List AuxItem). AreSoFar told all (λ t. items_begun (take_input levels t) (input_begun levels t) l requests) old mid) e so_far) gives h

-- no item is left
pub begun_ended : (told : Option Listing) (all : Listing → List Begun) (levels : ℕ) (items : List AuxItem) (requests : Requests) (old new : List Begun) (result : Result Requests Stop)
    → items ≡ [] → AreSoFar told all (λ t. items_begun (take_input levels t) (input_begun levels t) items requests) old new
    → Begins {A = Requests} told all old new result
begun_ended told all levels items requests old new result e so_far =
    so_far_ended {B = Requests} told all old new result
    (subst (λ (l : List AuxItem). AreSoFar told all (λ t. items_begun (take_input levels t) (input_begun levels t) l requests) old new) e so_far)

-- what isn't some is none
pub none_of : {X : Type 0} (o : Option X) → ((x : X) → o ≡ Some x → ⊥) → o ≡ None
none_of None other = refl
none_of (Some x) other = absurd (other x refl)

-- a file at fault begins nothing more
pub faulty_begun : (told : Option Listing) (levels : ℕ) (before : Requests) (aux : Aux) (fault : DataFault) (begun : List Begun) (result : Result Requests Stop)
    → fault_after levels before aux ≡ Some fault
    → Begins {A = Requests} told (λ t. aux_begun levels (take_input levels t) (input_begun levels t) before aux) begun begun result
faulty_begun None levels before aux fault begun result is = tt
faulty_begun (Some t) levels before aux fault begun result is =
    rw is (all_begun (is_decided {A = Requests} result) [] begun begun (sym (append-nil begun)))

-- one that isn't begins its inputs
pub items_taken_begun : (told : Option Listing) (levels : ℕ) (before : Requests) (aux : Aux) (old new : List Begun) (result : Result Requests Stop)
    → fault_after levels before aux ≡ None
    → Begins {A = Requests} told (λ t. items_begun (take_input levels t) (input_begun levels t) aux.items (with_names aux before)) old new result
    → Begins {A = Requests} told (λ t. aux_begun levels (take_input levels t) (input_begun levels t) before aux) old new result
items_taken_begun None levels before aux old new result is h = tt
items_taken_begun (Some t) levels before aux old new result is h = rw is h

-- an input is begun, and then its own inputs
pub input_taken_begun : (told told' : Option Listing) (levels : ℕ) (name name' : List ℕ) (before : Requests) (aux : Aux) (old mid new : List Begun) (result : Result Requests Stop)
    → 0 < levels → name' ≡ name → told' ≡ told → Gives {A = Aux} told (λ t. aux_file t name') (Ok aux) → Begins {A = Aux} told (λ t. file_begun t name') old mid (Ok aux)
    → Begins {A = Requests} told' (λ t. aux_begun (levels - 1) (take_input (levels - 1) t) (input_begun (levels - 1) t) before aux) mid new result
    → Begins {A = Requests} told (λ t. input_begun levels t name before) old new result
input_taken_begun told told' zero name name' before aux old mid new result pos names same gives file taken = absurd (omega arith)
input_taken_begun told told' (suc n) name name' before aux old mid new result pos names same gives file taken =
    let e : suc n - 1 ≡ n = omega arith in
    let below : Begins {A = Requests} told' (λ t. aux_begun n (take_input n t) (input_begun n t) before aux) mid new result =
    subst (λ (m : ℕ). Begins {A = Requests} told' (λ t. aux_begun m (take_input m t) (input_begun m t) before aux) mid new result) e taken in
    subst (λ (x : List ℕ). Begins {A = Requests} told (λ t. input_begun (suc n) t x before) old new result) names
    (begins_next {A = Aux} {B = Requests} told told' (λ t. aux_file t name') aux aux (λ t. file_begun t name')
    (λ t. aux_begun n (take_input n t) (input_begun n t) before) old mid new result same refl gives file below)

-- an input isn't read
pub input_unread_begun : (told : Option Listing) (levels : ℕ) (name name' : List ℕ) (before : Requests) (old new : List Begun) (stop : Stop)
    → 0 < levels → name' ≡ name → Gives {A = Aux} told (λ t. aux_file t name') (Err stop) → Begins {A = Aux} told (λ t. file_begun t name') old new (Err stop)
    → Begins {A = Requests} told (λ t. input_begun levels t name before) old new (Err stop)
input_unread_begun told zero name name' before old new stop pos names gives file = absurd (omega arith)
input_unread_begun told (suc n) name name' before old new stop pos names gives file =
    subst (λ (x : List ℕ). Begins {A = Requests} told (λ t. input_begun (suc n) t x before) old new (Err stop)) names
    (begins_stopped {A = Aux} Requests told (λ t. aux_file t name') (λ t. file_begun t name')
    (λ t. aux_begun n (take_input n t) (input_begun n t) before) old new stop gives file)

-- the inputs of a first file
pub first_begun : (told : Option Listing) (levels : ℕ) (name text : List ℕ) (before : Requests) (aux : Aux) (old new : List Begun) (result : Result Needs Stop)
    → before ≡ nothing → Decides {A = Aux} (aux_in name text) (Ok aux)
    → Begins {A = Needs} told (λ t. aux_begun levels (take_input levels t) (input_begun levels t) before aux) old new result
    → Begins {A = Needs} told (λ t. inputs_within levels t name text) old new result
first_begun told levels name text before aux old new result first read h =
    begins_after {A = Aux} {B = Needs} told (aux_in name text) aux (λ t. aux_begun levels (take_input levels t) (input_begun levels t) nothing) old new result read
    (subst (λ (r : Requests). Begins {A = Needs} told (λ t. aux_begun levels (take_input levels t) (input_begun levels t) r aux) old new result) first h)
