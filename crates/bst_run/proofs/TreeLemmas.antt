-- What the files of a run ask for is what the tree of inputs has, both ways.
use Rattle.std.proofs.Common.{◌≡◌, ℕ, zero, suc, ◌≤◌, Bool, true, false, cond, nat_lt, List, [], ◌∷◌, ◌++◌, append_assoc, length, Option, None, Some, Result, Ok, Err, refl, sym, ap, subst, ◌∙◌}
use Rattle.std.specs.FinMap.{get}
use Rattle.std.proofs.lemmas.Bool.{le-ltb, ltb-false}
use Rattle.std.proofs.lemmas.List.{append-nil}
use Rattle.bv_base.specs.Answers.{then_do}
use Rattle.bv_base.specs.Outside.{Listing}
use Rattle.bv_base.specs.declared.place.Place.{Place}
use Rattle.bv_base.specs.declared.limits.TheConstants.{DATA_BYTES}
use Rattle.aux_read.proofs.BothWays.{of_reads, reads_of}
use Rattle.aux_read.specs.Meaning.{AuxReads}
use Rattle.aux_read.specs.Reading.{aux_of}
use Rattle.aux_read.specs.declared.aux.Aux.{Aux}
use Rattle.aux_read.specs.declared.aux.AuxItem.{AuxItem}
use Rattle.aux_read.specs.declared.aux.AuxItem.TheVariants.{All, Cite, Input}
use Rattle.aux_read.specs.declared.fault.AuxFault.{AuxFault}
use Rattle.bst_run.specs.AuxChain.{aux_file, aux_in, complete, complete_by, needs_after, read_aux, take_aux, take_input, take_items, unless_faulty, with_item, with_names}
use Rattle.bst_run.specs.Files.{file_in, whole_file}
use Rattle.bst_run.specs.InputTrees.{Asks, Joined, NeedsRead, all, databases, input, key, listed, named, none, styles}
use Rattle.bst_run.specs.Report.{too_long}
use Rattle.bst_run.specs.Requests.{fault_after, first_databases, first_fault, first_input, first_style, nothing, second_databases, second_databases_by, second_style, second_style_by, too_deep}
use Rattle.bst_run.specs.declared.data_fault.DataFault.{DataFault}
use Rattle.bst_run.specs.declared.files.requests.Needs.{Needs}
use Rattle.bst_run.specs.declared.files.requests.Requests.{Requests}
use Rattle.bst_run.specs.declared.outcome.Outcome.{Outcome}
use Rattle.bv_base.proofs.ThenLemmas.{then_ok}

-- a text that is read
pub text_read : (name text : List ℕ) (aux : Aux) → aux_in name text ≡ Ok aux → aux_of text ≡ Ok aux
text_read name text aux e = by (aux_of text) e
  where
    by : (r : Result Aux AuxFault) → read_aux name r ≡ Ok aux → r ≡ Ok aux
    by (Ok found) e = cc
    by (Err fault) e = absurd (cc)

text_in : (name text : List ℕ) (aux : Aux) → AuxReads text aux → aux_in name text ≡ Ok aux
text_in name text aux reads = ap (read_aux name) (of_reads text aux reads)

-- a file that is read is there, and short
pub file_read : (told : Listing) (name text : List ℕ) → file_in told DATA_BYTES name ≡ Ok text → (get told name ≡ Some text) × (length text ≤ DATA_BYTES)
file_read told name text e = by (get told name) e
  where
    sized : (bytes : List ℕ) (t : Bool) → nat_lt DATA_BYTES (length bytes) ≡ t → cond t (Err (too_long name)) (Ok bytes) ≡ Ok text
        → (Some bytes ≡ Some text) × (length text ≤ DATA_BYTES)
    sized bytes true long e = absurd (cc)
    sized bytes false long e =
        let same : bytes ≡ text = cc in
        (ap (λ (t : List ℕ). Some t) same, subst (λ (t : List ℕ). length t ≤ DATA_BYTES) same (ltb-false DATA_BYTES (length bytes) long))

    by : (o : Option (List ℕ)) → whole_file DATA_BYTES name o ≡ Ok text → (o ≡ Some text) × (length text ≤ DATA_BYTES)
    by None e = absurd (cc)
    by (Some bytes) e = sized bytes (nat_lt DATA_BYTES (length bytes)) refl e

asks_of : (told : Listing) (name : List ℕ) (aux : Aux) → aux_file told name ≡ Ok aux → Asks told name aux
asks_of told name aux e =
    let has = then_ok (file_in told DATA_BYTES name) (aux_in name) aux e in
    let read = file_read told name has.0 has.1 in
    record { text = has.0; there = read.0; short = read.1; reads = reads_of has.0 aux (text_read name has.0 aux has.2) }

file_asks : (told : Listing) (name : List ℕ) (aux : Aux) → Asks told name aux → aux_file told name ≡ Ok aux
file_asks told name aux asks =
    ap (λ (o : Option (List ℕ)). then_do (whole_file DATA_BYTES name o) (aux_in name)) asks.there
    ∙ ap (λ (t : Bool). then_do {A = List ℕ} {E = Outcome} (cond t (Err (too_long name)) (Ok asks.text)) (aux_in name)) (le-ltb DATA_BYTES (length asks.text) asks.short)
    ∙ text_in name asks.text aux asks.reads

-- no fault
record NoFault (levels : ℕ) (before : Requests) (aux : Aux) : Type 0 where
  style : second_style before aux ≡ None
  databases : second_databases before aux ≡ None
  deep : too_deep levels aux.items ≡ None

none_first : (a b : Option DataFault) → first_fault a b ≡ None → (a ≡ None) × (b ≡ None)
none_first None b e = (refl, e)
none_first (Some a) None e = absurd (cc)
none_first (Some a) (Some b) e = absurd (cc)

no_fault : (levels : ℕ) (before : Requests) (aux : Aux) → fault_after levels before aux ≡ None → NoFault levels before aux
no_fault levels before aux e =
    let deep = none_first (first_fault (second_style before aux) (second_databases before aux)) (too_deep levels aux.items) e in
    let names = none_first (second_style before aux) (second_databases before aux) deep.0 in
    record { style = names.0; databases = names.1; deep = deep.1 }

fault_none : (levels : ℕ) (before : Requests) (aux : Aux) → NoFault levels before aux → fault_after levels before aux ≡ None
fault_none levels before aux none_there =
    ap (λ (a : Option DataFault). first_fault (first_fault a (second_databases before aux)) (too_deep levels aux.items)) none_there.style
    ∙ ap (λ (b : Option DataFault). first_fault b (too_deep levels aux.items)) none_there.databases ∙ none_there.deep

style_added : (before found : Option (List ℕ)) (aux : Aux) → second_style_by before found aux ≡ None
    → named (first_style before found) ≡ named before ++ named found
style_added None found aux e = refl
style_added (Some style) None aux e = refl
style_added (Some style) (Some other) aux e = absurd (cc)

line_added : (before found : List (List ℕ)) (aux : Aux) → second_databases_by before found aux ≡ None
    → listed (first_databases before found) ≡ listed before ++ listed found
line_added [] found aux e = refl
line_added (first ∷ rest) [] aux e = refl
line_added (first ∷ rest) (other ∷ others) aux e = absurd (cc)

-- what items add to what was asked for before them, where the files in front of those that they name have it too
record Takes (told : Listing) (levels : ℕ) (items : List AuxItem) (front : List Aux) (before after : Requests) : Type 0 where
  files : List Aux
  joined : List AuxItem
  tree : Joined told levels items files joined
  items_are : after.items ≡ before.items ++ joined
  styles_are : named after.style ≡ named before.style ++ styles (front ++ files)
  lines_are : listed after.databases ≡ listed before.databases ++ databases (front ++ files)

-- what a file adds that an item names
record TakesFile (told : Listing) (levels : ℕ) (name : List ℕ) (before after : Requests) : Type 0 where
  aux : Aux
  asks : Asks told name aux
  adds : Takes told levels aux.items (aux ∷ []) before after

takes_none : (told : Listing) (levels : ℕ) (before after : Requests) → before ≡ after → Takes told levels [] [] before after
takes_none told levels before after same =
    record {
      files = [];
      joined = [];
      tree = none;
      items_are = ap (λ (r : Requests). r.items) (sym same) ∙ sym (append-nil before.items);
      styles_are = ap (λ (r : Requests). named r.style) (sym same) ∙ sym (append-nil (named before.style));
      lines_are = ap (λ (r : Requests). listed r.databases) (sym same) ∙ sym (append-nil (listed before.databases));
    }

takes_item : (told : Listing) (levels : ℕ) (item : AuxItem) (items : List AuxItem) (before after : Requests)
    → ((files : List Aux) (joined : List AuxItem) → Joined told levels items files joined → Joined told levels (item ∷ items) files (item ∷ joined))
    → Takes told levels items [] (with_item item before) after → Takes told levels (item ∷ items) [] before after
takes_item told levels item items before after one t =
    record {
      files = t.files;
      joined = item ∷ t.joined;
      tree = one t.files t.joined t.tree;
      items_are = t.items_are ∙ append_assoc before.items (item ∷ []) t.joined;
      styles_are = t.styles_are;
      lines_are = t.lines_are;
    }

styles_joined : (first second : List Aux) → styles (first ++ second) ≡ styles first ++ styles second
styles_joined [] second = refl
styles_joined (aux ∷ first) second =
    ap (λ l. named aux.style ++ l) (styles_joined first second) ∙ sym (append_assoc (named aux.style) (styles first) (styles second))

lines_joined : (first second : List Aux) → databases (first ++ second) ≡ databases first ++ databases second
lines_joined [] second = refl
lines_joined (aux ∷ first) second =
    ap (λ l. listed aux.databases ++ l) (lines_joined first second)
    ∙ sym (append_assoc (listed aux.databases) (databases first) (databases second))

takes_input : (told : Listing) (levels : ℕ) (name : List ℕ) (place : Place) (items : List AuxItem) (before middle after : Requests)
    → TakesFile told levels name before middle → Takes told (suc levels) items [] middle after
    → Takes told (suc levels) (Input name place ∷ items) [] before after
takes_input told levels name place items before middle after f t =
    record {
      files = f.aux ∷ (f.adds.files ++ t.files);
      joined = f.adds.joined ++ t.joined;
      tree = input f.asks f.adds.tree t.tree;
      items_are = t.items_are ∙ ap (λ l. l ++ t.joined) f.adds.items_are ∙ append_assoc before.items f.adds.joined t.joined;
      styles_are =
          t.styles_are ∙ ap (λ l. l ++ styles t.files) f.adds.styles_are
          ∙ append_assoc (named before.style) (styles (f.aux ∷ f.adds.files)) (styles t.files)
          ∙ ap (λ l. named before.style ++ l) (sym (styles_joined (f.aux ∷ f.adds.files) t.files));
      lines_are =
          t.lines_are ∙ ap (λ l. l ++ databases t.files) f.adds.lines_are
          ∙ append_assoc (listed before.databases) (databases (f.aux ∷ f.adds.files)) (databases t.files)
          ∙ ap (λ l. listed before.databases ++ l) (sym (lines_joined (f.aux ∷ f.adds.files) t.files));
    }

-- items below which no input may lie
flat_read : (told : Listing) (items : List AuxItem) (before after : Requests) → first_input items ≡ None
    → take_items (take_input zero told) items before ≡ Ok after → Takes told zero items [] before after
flat_read told [] before after flat e = takes_none told zero before after (let same : before ≡ after = cc in same)
flat_read told (Cite cited ∷ items) before after flat e =
    takes_item told zero (Cite cited) items before after (λ files joined t. key t) (flat_read told items (with_item (Cite cited) before) after flat e)
flat_read told (All ∷ items) before after flat e =
    takes_item told zero All items before after (λ files joined t. all t) (flat_read told items (with_item All before) after flat e)
flat_read told (Input name place ∷ items) before after flat e = absurd (cc)

-- items, by what is read of each file that they name
deep_read : (told : Listing) (levels : ℕ)
    → ((name : List ℕ) (before after : Requests) → take_input (suc levels) told name before ≡ Ok after → TakesFile told levels name before after)
    → (items : List AuxItem) (before after : Requests) → take_items (take_input (suc levels) told) items before ≡ Ok after
    → Takes told (suc levels) items [] before after
deep_read told levels file [] before after e = takes_none told (suc levels) before after (let same : before ≡ after = cc in same)
deep_read told levels file (Cite cited ∷ items) before after e =
    takes_item told (suc levels) (Cite cited) items before after (λ files joined t. key t) (deep_read told levels file items (with_item (Cite cited) before) after e)
deep_read told levels file (All ∷ items) before after e =
    takes_item told (suc levels) All items before after (λ files joined t. all t) (deep_read told levels file items (with_item All before) after e)
deep_read told levels file (Input name place ∷ items) before after e =
    let has = then_ok (take_input (suc levels) told name before) (take_items (take_input (suc levels) told) items) after e in
    takes_input told levels name place items before has.0 after (file name before has.0 has.1)
    (deep_read told levels file items has.0 after has.2)

-- a file, by what is read of its items
file_adds : (told : Listing) (levels : ℕ) (name : List ℕ) (before after : Requests) (aux : Aux)
    → ((middle : Requests) → too_deep levels aux.items ≡ None → take_items (take_input levels told) aux.items middle ≡ Ok after → Takes told levels aux.items [] middle after)
    → take_aux levels (take_input levels told) name before aux ≡ Ok after → Takes told levels aux.items (aux ∷ []) before after
file_adds told levels name before after aux items e = by (fault_after levels before aux) refl e
  where
    by : (o : Option DataFault) → fault_after levels before aux ≡ o
        → unless_faulty name o (take_items (take_input levels told) aux.items (with_names aux before)) ≡ Ok after
        → Takes told levels aux.items (aux ∷ []) before after
    by (Some fault) is e = absurd (cc)
    by None is e =
        let sound = no_fault levels before aux is in
        let t = items (with_names aux before) sound.deep e in
        record {
          files = t.files;
          joined = t.joined;
          tree = t.tree;
          items_are = t.items_are;
          styles_are =
              t.styles_are ∙ ap (λ l. l ++ styles t.files) (style_added before.style aux.style aux sound.style)
              ∙ append_assoc (named before.style) (named aux.style) (styles t.files);
          lines_are =
              t.lines_are ∙ ap (λ l. l ++ databases t.files) (line_added before.databases aux.databases aux sound.databases)
              ∙ append_assoc (listed before.databases) (listed aux.databases) (databases t.files);
        }

items_read : (told : Listing) (levels : ℕ) (items : List AuxItem) (before after : Requests) → too_deep levels items ≡ None
    → take_items (take_input levels told) items before ≡ Ok after → Takes told levels items [] before after
items_read told zero items before after flat e = flat_read told items before after flat e
items_read told (suc levels) items before after flat e =
    deep_read told levels
    (λ name old new given.
    let has = then_ok (aux_file told name) (take_aux levels (take_input levels told) name old) new given in
    record {
      aux = has.0;
      asks = asks_of told name has.0 has.1;
      adds =
          file_adds told levels name old new has.0 (λ middle deep got. items_read told levels (has.0).items middle new deep got)
          has.2;
    })
    items before after e

-- what a first text and its inputs ask for, as they are read
record Whole (text : List ℕ) (requests : Requests) (needs : Needs) : Type 0 where
  items : needs.items ≡ requests.items
  style : named requests.style ≡ needs.style ∷ []
  line : listed requests.databases ≡ needs.databases ∷ []

whole : (name text : List ℕ) (items : List AuxItem) (style : Option (List ℕ)) (line : List (List ℕ)) (needs : Needs)
    → complete_by name text items style line ≡ Ok needs → Whole text (record { items = items; style = style; databases = line }) needs
whole name text items None line needs e = absurd (cc)
whole name text items (Some style) [] needs e = absurd (cc)
whole name text items (Some style) (first ∷ rest) needs e =
    let same : record { items = items; style = style; databases = first ∷ rest } ≡ needs = cc in
    record {
      items = ap (λ (n : Needs). n.items) (sym same);
      style = ap (λ (n : Needs). n.style ∷ []) same;
      line = ap (λ (n : Needs). n.databases ∷ []) same;
    }

pub needs_read : (told : Listing) (name text : List ℕ) (needs : Needs) → needs_after told name text ≡ Ok needs → NeedsRead told text needs
unfolding needs_after
needs_read told name text needs e =
    let first = then_ok (aux_in name text) (λ aux. then_do (take_aux 16 (take_input 16 told) name nothing aux) (complete name text)) needs e in
    let all = then_ok (take_aux 16 (take_input 16 told) name nothing first.0) (complete name text) needs first.2 in
    by first.0 (reads_of text first.0 (text_read name text first.0 first.1)) all.0 all.1
    (whole name text (all.0).items (all.0).style (all.0).databases needs all.2)
  where
    by : (aux : Aux) → AuxReads text aux → (requests : Requests) → take_aux 16 (take_input 16 told) name nothing aux ≡ Ok requests
        → Whole text requests needs → NeedsRead told text needs
    by aux reads requests taken w =
        let adds = file_adds told 16 name nothing requests aux (λ middle deep got. items_read told 16 aux.items middle requests deep got) taken in
        record {
          first = aux;
          reads = reads;
          files = adds.files;
          joined = subst (λ (items : List AuxItem). Joined told 16 aux.items adds.files items) (sym (w.items ∙ adds.items_are)) adds.tree;
          one_style = sym adds.styles_are ∙ w.style;
          one_line = sym adds.lines_are ∙ w.line;
        }

-- a style and a line of databases are one at most
same_style : (a b : Option (List ℕ)) → named a ≡ named b → a ≡ b
same_style None None e = refl
same_style None (Some y) e = absurd (cc)
same_style (Some x) None e = absurd (cc)
same_style (Some x) (Some y) e = let same : x ≡ y = cc in ap (λ (n : List ℕ). Some n) same

same_line : (a b : List (List ℕ)) → listed a ≡ listed b → a ≡ b
same_line [] [] e = refl
same_line [] (y ∷ ys) e = absurd (cc)
same_line (x ∷ xs) [] e = absurd (cc)
same_line (x ∷ xs) (y ∷ ys) e = cc

record StyleOf (xs : List (List ℕ)) : Type 0 where
  style : Option (List ℕ)
  is : named style ≡ xs

front_style : (s : Option (List ℕ)) (xs ys : List (List ℕ)) → named s ≡ xs ++ ys → StyleOf xs
front_style s [] ys e = record { style = None; is = refl }
front_style s (x ∷ []) ys e = record { style = Some x; is = refl }
front_style None (x ∷ (y ∷ xs)) ys e = absurd (cc)
front_style (Some z) (x ∷ (y ∷ xs)) ys e = absurd (cc)

record LineOf (xs : List (List (List ℕ))) : Type 0 where
  line : List (List ℕ)
  is : listed line ≡ xs

front_line : (s : List (List ℕ)) (xs ys : List (List (List ℕ))) → listed s ≡ xs ++ ys → LineOf xs
front_line s [] ys e = record { line = []; is = refl }
front_line [] (x ∷ xs) ys e = absurd (cc)
front_line (z ∷ zs) (x ∷ []) ys e = let same : z ∷ zs ≡ x = cc in record { line = z ∷ zs; is = ap (λ l. l ∷ []) same }
front_line (z ∷ zs) (x ∷ (y ∷ xs)) ys e = absurd (cc)

no_second : (s before found : Option (List ℕ)) (more : List (List ℕ)) (aux : Aux) → named s ≡ (named before ++ named found) ++ more
    → second_style_by before found aux ≡ None
no_second s None found more aux e = refl
no_second s (Some x) None more aux e = refl
no_second None (Some x) (Some y) more aux e = absurd (cc)
no_second (Some z) (Some x) (Some y) more aux e = absurd (cc)

no_second_line : (s before found : List (List ℕ)) (more : List (List (List ℕ))) (aux : Aux)
    → listed s ≡ (listed before ++ listed found) ++ more → second_databases_by before found aux ≡ None
no_second_line s [] found more aux e = refl
no_second_line s (x ∷ xs) [] more aux e = refl
no_second_line [] (x ∷ xs) (y ∷ ys) more aux e = absurd (cc)
no_second_line (z ∷ zs) (x ∷ xs) (y ∷ ys) more aux e = absurd (cc)

same_requests : (a b : Requests) → a.items ≡ b.items → a.style ≡ b.style → a.databases ≡ b.databases → a ≡ b
same_requests a b e f g =
    ap (λ (i : List AuxItem). record { items = i; style = a.style; databases = a.databases }) e
    ∙ ap (λ (s : Option (List ℕ)). record { items = b.items; style = s; databases = a.databases }) f
    ∙ ap (λ (d : List (List ℕ)). record { items = b.items; style = b.style; databases = d }) g

-- inputs nest no deeper than they may
tree_deep : (told : Listing) {levels : ℕ} {items : List AuxItem} {files : List Aux} {joined : List AuxItem}
    → Joined told levels items files joined → too_deep levels items ≡ None
tree_deep told {levels = zero} none = refl
tree_deep told {levels = suc levels} none = refl
tree_deep told {levels = zero} (key t) = tree_deep told t
tree_deep told {levels = suc levels} (key t) = refl
tree_deep told {levels = zero} (all t) = tree_deep told t
tree_deep told {levels = suc levels} (all t) = refl
tree_deep told (input asks t u) = refl

-- a file is taken where its items are
file_taken : (told : Listing) (levels : ℕ) (name : List ℕ) (aux : Aux) (before after : Requests) (files : List Aux)
    → too_deep levels aux.items ≡ None → named after.style ≡ named before.style ++ styles (aux ∷ files)
    → listed after.databases ≡ listed before.databases ++ databases (aux ∷ files)
    → (named after.style ≡ named (with_names aux before).style ++ styles files
    → listed after.databases ≡ listed (with_names aux before).databases ++ databases files
    → take_items (take_input levels told) aux.items (with_names aux before) ≡ Ok after)
    → take_aux levels (take_input levels told) name before aux ≡ Ok after
file_taken told levels name aux before after files deep style_is line_is taken =
    let one = style_is ∙ sym (append_assoc (named before.style) (named aux.style) (styles files)) in
    let line = line_is ∙ sym (append_assoc (listed before.databases) (listed aux.databases) (databases files)) in
    let no_style = no_second after.style before.style aux.style (styles files) aux one in
    let no_line = no_second_line after.databases before.databases aux.databases (databases files) aux line in
    ap (λ (o : Option DataFault). unless_faulty name o (take_items (take_input levels told) aux.items (with_names aux before)))
    (fault_none levels before aux (record { style = no_style; databases = no_line; deep = deep }))
    ∙ taken
    (one ∙ ap (λ l. l ++ styles files) (sym (style_added before.style aux.style aux no_style)))
    (line ∙ ap (λ l. l ++ databases files) (sym (line_added before.databases aux.databases aux no_line)))

items_taken : (told : Listing) {levels : ℕ} {items : List AuxItem} {files : List Aux} {joined : List AuxItem}
    → Joined told levels items files joined → (before after : Requests) → after.items ≡ before.items ++ joined
    → named after.style ≡ named before.style ++ styles files → listed after.databases ≡ listed before.databases ++ databases files
    → take_items (take_input levels told) items before ≡ Ok after
items_taken told none before after i s l =
    ap (λ (r : Requests). Ok r)
    (sym (same_requests after before (i ∙ append-nil before.items) (same_style after.style before.style (s ∙ append-nil (named before.style)))
    (same_line after.databases before.databases (l ∙ append-nil (listed before.databases)))))
items_taken told (key {joined = joined} {cited = cited} t) before after i s l =
    items_taken told t (with_item (Cite cited) before) after (i ∙ sym (append_assoc before.items (Cite cited ∷ []) joined)) s l
items_taken told (all {joined = joined} t) before after i s l =
    items_taken told t (with_item All before) after (i ∙ sym (append_assoc before.items (All ∷ []) joined)) s l
items_taken told (input {levels = levels} {items = items} {below = below} {after = rest} {inner = inner} {outer = outer} {name = name} {aux = aux} asks t u) before after i s l =
    let style_is = s ∙ ap (λ x. named before.style ++ x) (styles_joined (aux ∷ below) rest)
    ∙ sym (append_assoc (named before.style) (styles (aux ∷ below)) (styles rest)) in
    let line_is = l ∙ ap (λ x. listed before.databases ++ x) (lines_joined (aux ∷ below) rest)
    ∙ sym (append_assoc (listed before.databases) (databases (aux ∷ below)) (databases rest)) in
    let style = front_style after.style (named before.style ++ styles (aux ∷ below)) (styles rest) style_is in
    let line = front_line after.databases (listed before.databases ++ databases (aux ∷ below)) (databases rest) line_is in
    let middle : Requests = record { items = before.items ++ inner; style = style.style; databases = line.line } in
    ap (λ (r : Result Requests Outcome). then_do r (take_items (take_input (suc levels) told) items))
    (ap (λ (r : Result Aux Outcome). then_do r (take_aux levels (take_input levels told) name before)) (file_asks told name aux asks)
    ∙ file_taken told levels name aux before middle below (tree_deep told t) style.is line.is
    (λ styles_are lines_are. items_taken told t (with_names aux before) middle refl styles_are lines_are))
    ∙ items_taken told u middle after (i ∙ sym (append_assoc before.items inner outer))
    (style_is ∙ ap (λ x. x ++ styles rest) (sym style.is)) (line_is ∙ ap (λ x. x ++ databases rest) (sym line.is))

-- where a style and a line of databases are named, all that a run needs is there
completed : (name text : List ℕ) (needs : Needs) → listed needs.databases ≡ needs.databases ∷ []
    → complete name text (record { items = needs.items; style = Some needs.style; databases = needs.databases }) ≡ Ok needs
completed name text needs e = by needs.databases refl e
  where
    by : (line : List (List ℕ)) → needs.databases ≡ line → listed line ≡ line ∷ []
        → complete_by name text needs.items (Some needs.style) line ≡ Ok needs
    by [] is e = absurd (cc)
    by (first ∷ rest) is e = ap (λ (d : List (List ℕ)). Ok (record { items = needs.items; style = needs.style; databases = d })) (sym is)

-- a line of databases that files have isn't empty
listed_line : (aux : List (List ℕ)) (more : List (List (List ℕ))) (line : List (List ℕ)) → (more ≡ line ∷ [] → listed line ≡ line ∷ [])
    → listed aux ++ more ≡ line ∷ [] → listed line ≡ line ∷ []
listed_line [] more line later e = later e
listed_line (first ∷ rest) more line later e =
    let same : first ∷ rest ≡ line = cc in subst (λ (l : List (List ℕ)). listed l ≡ l ∷ []) same refl

line_of_files : (files : List Aux) (line : List (List ℕ)) → databases files ≡ line ∷ [] → listed line ≡ line ∷ []
line_of_files [] line e = absurd (cc)
line_of_files (aux ∷ files) line e = listed_line aux.databases (databases files) line (line_of_files files line) e

pub needs_taken : (told : Listing) (name text : List ℕ) (needs : Needs) → NeedsRead told text needs → needs_after told name text ≡ Ok needs
unfolding needs_after
needs_taken told name text needs n =
    let line = line_of_files (n.first ∷ n.files) needs.databases n.one_line in
    let after : Requests = record { items = needs.items; style = Some needs.style; databases = needs.databases } in
    ap (λ (r : Result Aux Outcome). then_do r (λ aux. then_do (take_aux 16 (take_input 16 told) name nothing aux) (complete name text)))
    (text_in name text n.first n.reads)
    ∙ ap (λ (r : Result Requests Outcome). then_do r (complete name text))
    (file_taken told 16 name n.first nothing after n.files (tree_deep told n.joined) (sym n.one_style) (line ∙ sym n.one_line)
    (λ styles_are lines_are. items_taken told n.joined (with_names n.first nothing) after refl styles_are lines_are))
    ∙ completed name text needs line
