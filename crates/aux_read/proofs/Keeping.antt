-- What each line keeps of what was asked for, all lines keep.
use Rattle.std.proofs.Common.{◌≡◌, ℕ, suc, Bool, true, false, cond, not, ◌&&◌, nat_eq, List, [], ◌∷◌, ◌++◌, Option, None, Some, Result, Ok, take, drop, codes, refl, ap, ◌∙◌, subst}
use Rattle.std.specs.Prelude.{IfOk, IfSome, if◌then◌else◌}
use Rattle.std.specs.List.{AllByRecursion, list_all}
use Rattle.std.specs.Option.{option_and_then, option_map_or}
use Rattle.std.specs.Str.{is_utf8}
use Rattle.bstr.specs.Text.{lines_of}
use Rattle.bv_base.specs.declared.place.Place.{Place}
use Rattle.bv_base.specs.Bytes.{is_white}
use Rattle.bv_base.specs.Keys.{IsKey}
use Rattle.bv_base.specs.Runs.{is_black, length_before}
use Rattle.bv_base.proofs.ThenLemmas.{then_holds}
use Rattle.aux_read.specs.declared.aux.Aux.{Aux}
use Rattle.aux_read.specs.declared.aux.AuxItem.TheVariants.{Input}
use Rattle.aux_read.specs.declared.fault.AuxFault.{AuxFault}
use Rattle.aux_read.specs.FileNames.{AreFileNames, IsFileName}
use Rattle.aux_read.specs.Items.{after_front, begun_item, file_name_of, inside_of, is_blank, item_of, stretches}
use Rattle.aux_read.specs.Lines.{add_citations, add_names, citation, file_name, file_names, nothing, take_line, with_databases, with_item, with_part, with_style}
use Rattle.aux_read.specs.Reading.{aux_of, next_line, reading}

all_black : (bytes : List ℕ) → list_all (λ c. not (is_white c)) (take (length_before is_white bytes) bytes) ≡ true
all_black [] = refl
all_black (b ∷ bytes) = by (is_white b) refl (all_black bytes)
  where
    by : (v : Bool) → is_white b ≡ v → list_all (λ c. not (is_white c)) (take (length_before is_white bytes) bytes) ≡ true
        → list_all (λ c. not (is_white c)) (take (cond v 0 (suc (length_before is_white bytes))) (b ∷ bytes)) ≡ true
    by true is rest = refl
    by false is rest = ap (λ v. not v && list_all (λ c. not (is_white c)) (take (length_before is_white bytes) bytes)) is ∙ rest

-- the bytes before the first white space are a key, where there are any
front_key : (bytes : List ℕ) → nat_eq (length_before is_white bytes) 0 ≡ false → IsKey (take (length_before is_white bytes) bytes)
front_key [] some = absurd cc
front_key (b ∷ bytes) some = by (is_white b) refl some
  where
    by : (v : Bool) → is_white b ≡ v → nat_eq (cond v 0 (suc (length_before is_white bytes))) 0 ≡ false
        → IsKey (take (cond v 0 (suc (length_before is_white bytes))) (b ∷ bytes))
    by true is some = absurd cc
    by false is some =
        ap (λ v. not v && list_all (λ c. not (is_white c)) (take (length_before is_white bytes) bytes)) is ∙ all_black bytes

pub begun_key : (bytes : List ℕ) → IfSome (begun_item bytes) IsKey
begun_key bytes = by (nat_eq (length_before is_white bytes) 0) (is_blank (drop (length_before is_white bytes) bytes)) refl
  where
    by : (none blank : Bool) → nat_eq (length_before is_white bytes) 0 ≡ none
        → IfSome (cond (not none && blank) (Some (take (length_before is_white bytes) bytes)) None) IsKey
    by true blank e = tt
    by false false e = tt
    by false true e = front_key bytes e

-- the name that a stretch is, is UTF-8
named : (bytes : List ℕ) → IfSome (file_name_of bytes) IsFileName
named bytes = by (item_of bytes)
  where
    tested : (item : List ℕ) (b : Bool) → is_utf8 item ≡ b → IfSome (cond b (Some item) None) IsFileName
    tested item true e = e
    tested item false e = tt

    by : (o : Option (List ℕ)) → IfSome (option_and_then (λ item. if is_utf8 item then Some item else None) o) IsFileName
    by (Some item) = tested item (is_utf8 item) refl
    by None = tt

pub push_all : {A : Type 0} (P : A → Type 0) (xs : List A) (x : A) → AllByRecursion P xs → P x → AllByRecursion P (xs ++ x ∷ [])
push_all P [] x all is = (is, tt)
push_all P (first ∷ xs) x all is = (all.0, push_all P xs x all.1 is)

-- what holds of each value that may come next holds of what is wanted
part_all : {A B : Type 0} (P : A → Type 0) (Q : B → Type 0) (place : Place) (o : Option A) (next : A → Result B AuxFault) → IfSome o P
    → ((value : A) → P value → IfOk (next value) Q) → IfOk (with_part place o next) Q
part_all P Q place (Some value) next is each = each value is
part_all P Q place None next is each = tt

part_any : {A B : Type 0} (Q : B → Type 0) (place : Place) (o : Option A) (next : A → Result B AuxFault)
    → ((value : A) → IfOk (next value) Q) → IfOk (with_part place o next) Q
part_any Q place (Some value) next each = each value
part_any Q place None next each = tt

pub or_each : {A B : Type 0} (P : B → Type 0) (f : A → B) (o : Option A) (other : B) → ((x : A) → P (f x)) → P other
    → P (option_map_or f o other)
or_each P f (Some x) other each is = each x
or_each P f None other each is = is

names_added : (place : Place) (list names : List (List ℕ)) → AreFileNames names → IfOk (add_names place list names) AreFileNames
names_added place [] names all = all
names_added place (stretch ∷ list) names all =
    part_all IsFileName AreFileNames place (file_name_of stretch) _ (named stretch)
    (λ name is. names_added place list (names ++ name ∷ []) (push_all IsFileName names name all is))

one_named : (place : Place) (rest : List ℕ) → IfOk (file_name place rest) IsFileName
one_named place rest =
    part_any IsFileName place (inside_of rest) _
    (λ inside. part_all IsFileName IsFileName place (file_name_of inside) Ok (named inside) (λ name is. is))

-- what what is asked for has, each part of a line that starts at a place keeps
pub record Keeps (I : Aux → Type 0) (place : Place) : Type 0 where
  pub cites : (item : List ℕ) (aux : Aux) → IsKey item → I aux → I (with_item (citation item) aux)
  pub databases : (names : List (List ℕ)) (aux : Aux) → AreFileNames names → I aux → I (record aux { databases = names; data_place = place })
  pub style : (name : List ℕ) (aux : Aux) → IsFileName name → I aux → I (record aux { style = Some name; style_place = place })
  pub inputs : (name : List ℕ) (aux : Aux) → IsFileName name → I aux → I (with_item (Input name place) aux)

module _ (I : Aux → Type 0) (place : Place) (keeps : Keeps I place) where
  citations_keep : (list : List (List ℕ)) (aux : Aux) → I aux → IfOk (add_citations place list aux) I
  citations_keep [] aux holds = holds
  citations_keep (stretch ∷ list) aux holds =
      part_all IsKey I place (item_of stretch) _ (begun_key (drop (length_before is_black stretch) stretch))
      (λ item is. citations_keep list (with_item (citation item) aux) (keeps.cites item aux is holds))

  databases_keep : (names there : List (List ℕ)) (aux : Aux) → AreFileNames names → I aux → IfOk (with_databases place names there aux) I
  databases_keep names [] aux all holds = keeps.databases names aux all holds
  databases_keep names (_ ∷ _) aux all holds = tt

  style_keeps : (name : List ℕ) (there : Option (List ℕ)) (aux : Aux) → IsFileName name → I aux → IfOk (with_style place name there aux) I
  style_keeps name None aux is holds = keeps.style name aux is holds
  style_keeps name (Some _) aux is holds = tt

  pub line_keeps : (line : List ℕ) (aux : Aux) → I aux → IfOk (take_line place line aux) I
  line_keeps line aux holds =
      let Q : Result Aux AuxFault → Type 0 = λ r. IfOk r I in
      or_each Q _ (after_front (codes "\\citation{") line) _
      (λ rest. part_any I place (inside_of rest) _ (λ inside. citations_keep (stretches inside) aux holds))
      (or_each Q _ (after_front (codes "\\bibdata{") line) _
      (λ rest. part_any I place (inside_of rest) _
      (λ inside. then_holds AreFileNames I (file_names place inside) _ (names_added place (stretches inside) [] tt)
      (λ names all. databases_keep names aux.databases aux all holds)))
      (or_each Q _ (after_front (codes "\\bibstyle{") line) _
      (λ rest. then_holds IsFileName I (file_name place rest) _ (one_named place rest)
      (λ name is. style_keeps name aux.style aux is holds))
      (or_each Q _ (after_front (codes "\\@input{") line) _
      (λ rest. then_holds IsFileName I (file_name place rest) _ (one_named place rest)
      (λ name is. keeps.inputs name aux is holds))
      holds)))

lines_keep : (I : Aux → Type 0) → ((place : Place) → Keeps I place) → (place : Place) (lines : List (List ℕ)) (aux : Aux) → I aux
    → IfOk (reading place lines aux) I
lines_keep I keeps place [] aux holds = holds
lines_keep I keeps place (line ∷ lines) aux holds =
    then_holds I I (take_line place line aux) (reading (next_line place) lines) (line_keeps I place (keeps place) line aux holds)
    (λ next more. lines_keep I keeps (next_line place) lines next more)

-- what each line keeps holds of what is read
pub aux_keeps : (I : Aux → Type 0) → ((place : Place) → Keeps I place) → I nothing → (source : List ℕ) (aux : Aux)
    → aux_of source ≡ Ok aux → I aux
aux_keeps I keeps holds source aux is =
    subst (λ (r : Result Aux AuxFault). IfOk r I) is (lines_keep I keeps (record { line = 1; column = 1 }) (lines_of source) nothing holds)
