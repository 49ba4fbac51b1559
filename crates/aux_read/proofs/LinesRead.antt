-- What a line asks for is what the grammar has, both ways.
use Rattle.std.proofs.Common.{◌≡◌, ℕ, suc, false, cond, nat_eq, List, [], ◌∷◌, ◌++◌, map, append_assoc, Option, None, Some, Result, Ok, codes, length, is_some, refl, sym, ap, subst, ◌∙◌, arith}
use Rattle.std.specs.Option.{option_map_or}
use Rattle.std.proofs.lemmas.Bool.{ne_eqb}
use Rattle.std.proofs.lemmas.List.{append-nil}
use Rattle.bv_base.specs.declared.place.Place.{Place}
use Rattle.bv_base.specs.Answers.{then_do}
use Rattle.aux_read.specs.declared.aux.Aux.{Aux}
use Rattle.aux_read.specs.declared.aux.AuxItem.TheVariants.{Input as InputItem}
use Rattle.aux_read.specs.declared.fault.AuxFault.{AuxFault}
use Rattle.aux_read.specs.Grammar.{AreItems, Citations, Databases, Holds, Input, IsItem, IsLine, IsName, Line, Other, Style}
use Rattle.aux_read.specs.Items.{after_front, file_name_of, inside_of, item_of, stretches}
use Rattle.aux_read.specs.Lines.{add_citations, add_names, citation, file_name, file_names, take_citations, take_databases, take_input, take_line, take_style, with_databases, with_item, with_part, with_style}
use Rattle.aux_read.specs.Meaning.{and_line, start_of}
use Rattle.aux_read.proofs.Itemized.{front_missed, front_missing, front_read, front_taken, Inside, inside_read, inside_taken, item_read, item_taken, name_read, name_taken}
use Rattle.aux_read.proofs.Stretched.{Stretched, as_stretches, stretches_are}
use Rattle.bv_base.proofs.ThenLemmas.{then_ok}

-- each of the items is that of the stretch in its place
abbrev pub Paired : (List ℕ → List ℕ → Type 0) → List (List ℕ) → List (List ℕ) → Type 0
Paired IsOne [] [] = Unit {0}
Paired IsOne (item ∷ items) (stretch ∷ list) = IsOne item stretch × Paired IsOne items list
Paired IsOne _ _ = ⊥

-- items with a comma between them are those of the stretches
items_read : (IsOne : List ℕ → List ℕ → Type 0) (items list : List (List ℕ)) (text : List ℕ) → Stretched list text
    → Paired IsOne items list → AreItems IsOne items text
items_read IsOne items [] text stretched paired = absurd stretched
items_read IsOne [] (stretch ∷ list) text stretched paired = absurd paired
items_read IsOne (item ∷ []) (stretch ∷ []) text stretched paired =
    (stretched.0, subst (IsOne item) (sym stretched.1) paired.0)
items_read IsOne (item ∷ (next ∷ items)) (stretch ∷ []) text stretched paired = absurd paired.1
items_read IsOne (item ∷ []) (stretch ∷ (more ∷ list)) text stretched paired = absurd paired.1
items_read IsOne (item ∷ (next ∷ items)) (stretch ∷ (more ∷ list)) text (rest, is, without, stretched) paired =
    (stretch, rest, is, without, paired.0, items_read IsOne (next ∷ items) (more ∷ list) rest stretched paired.1)

-- stretches that a text has, with the items that they are
record Itemized (IsOne : List ℕ → List ℕ → Type 0) (items : List (List ℕ)) (text : List ℕ) : Type 0 where
  list : List (List ℕ)
  stretched : Stretched list text
  paired : Paired IsOne items list

itemized : (IsOne : List ℕ → List ℕ → Type 0) (items : List (List ℕ)) (text : List ℕ) → AreItems IsOne items text
    → Itemized IsOne items text
itemized IsOne [] text are = absurd are
itemized IsOne (item ∷ []) text are = record { list = text ∷ []; stretched = (are.0, refl); paired = (are.1, tt) }
itemized IsOne (item ∷ (next ∷ items)) text (first, rest, is, without, one, are) =
    by (itemized IsOne (next ∷ items) rest are)
  where
    by : Itemized IsOne (next ∷ items) rest → Itemized IsOne (item ∷ (next ∷ items)) text
    by more = joined more.list more.stretched more.paired
      where
        joined : (list : List (List ℕ)) → Stretched list rest → Paired IsOne (next ∷ items) list
            → Itemized IsOne (item ∷ (next ∷ items)) text
        joined [] stretched paired = absurd stretched
        joined (stretch ∷ list) stretched paired =
            record { list = first ∷ (stretch ∷ list); stretched = (rest, is, without, stretched); paired = (one, paired) }

-- inversions: what was there where a part of the reading gave something
record HasPart {A B : Type 0} (o : Option A) (next : A → Result B AuxFault) (b : B) : Type 0 where
  value : A
  is : o ≡ Some value
  gives : next value ≡ Ok b

part_ok : {A B : Type 0} (place : Place) (o : Option A) (next : A → Result B AuxFault) (b : B) → with_part place o next ≡ Ok b
    → HasPart o next b
part_ok place None next b e = absurd (cc)
part_ok place (Some value) next b e = record { value = value; is = refl; gives = e }

or_case : {A B : Type 0} (R : Type 0) (f : A → B) (o : Option A) (other b : B) → option_map_or f o other ≡ b
    → ((x : A) → o ≡ Some x → f x ≡ b → R) → (o ≡ None → other ≡ b → R) → R
or_case R f None other b e some none = none refl e
or_case R f (Some x) other b e some none = some x refl e

or_some : {A B : Type 0} (f : A → B) (o : Option A) (x : A) (other : B) → o ≡ Some x → option_map_or f o other ≡ f x
or_some f o x other is = ap (λ p. option_map_or f p other) is

or_none : {A B : Type 0} (f : A → B) (o : Option A) (other : B) → o ≡ None → option_map_or f o other ≡ other
or_none f o other is = ap (λ p. option_map_or f p other) is

-- what citations add
abbrev and_citations : List (List ℕ) → Aux → Aux
and_citations items aux = record aux { items = aux.items ++ map citation items }

cited_more : (item : List ℕ) (items : List (List ℕ)) (aux : Aux)
    → and_citations items (with_item (citation item) aux) ≡ and_citations (item ∷ items) aux
cited_more item items aux = ap (λ l. record aux { items = l }) (append_assoc aux.items (citation item ∷ []) (map citation items))

cited_none : (aux : Aux) → and_citations [] aux ≡ aux
cited_none aux = ap (λ l. record aux { items = l }) (append-nil aux.items)

-- the citations that some stretches list, as they are read
record CitedIn (list : List (List ℕ)) (aux next : Aux) : Type 0 where
  items : List (List ℕ)
  paired : Paired IsItem items list
  adds : and_citations items aux ≡ next

cited_read : (place : Place) (list : List (List ℕ)) (aux next : Aux) → add_citations place list aux ≡ Ok next → CitedIn list aux next
cited_read place [] aux next e = record { items = []; paired = tt; adds = let same : aux ≡ next = cc in cited_none aux ∙ same }
cited_read place (stretch ∷ list) aux next e =
    let part = part_ok place (item_of stretch) (λ item. add_citations place list (with_item (citation item) aux)) next e in
    let more = cited_read place list (with_item (citation part.value) aux) next part.gives in
    record {
      items = part.value ∷ more.items;
      paired = (item_read stretch part.value part.is, more.paired);
      adds = sym (cited_more part.value more.items aux) ∙ more.adds;
    }

cited_taken : (place : Place) (items list : List (List ℕ)) (aux : Aux) → Paired IsItem items list
    → add_citations place list aux ≡ Ok (and_citations items aux)
cited_taken place [] [] aux paired = ap Ok (sym (cited_none aux))
cited_taken place [] (stretch ∷ list) aux paired = absurd paired
cited_taken place (item ∷ items) [] aux paired = absurd paired
cited_taken place (item ∷ items) (stretch ∷ list) aux paired =
    ap (λ o. with_part place o (λ item. add_citations place list (with_item (citation item) aux)))
    (item_taken stretch item paired.0)
    ∙ cited_taken place items list (with_item (citation item) aux) paired.1
    ∙ ap Ok (cited_more item items aux)

-- the names that some stretches list, as they are read
record NamedIn (list names all : List (List ℕ)) : Type 0 where
  items : List (List ℕ)
  paired : Paired IsName items list
  adds : names ++ items ≡ all

named_read : (place : Place) (list names all : List (List ℕ)) → add_names place list names ≡ Ok all → NamedIn list names all
named_read place [] names all e = record { items = []; paired = tt; adds = let same : names ≡ all = cc in append-nil names ∙ same }
named_read place (stretch ∷ list) names all e =
    let part = part_ok place (file_name_of stretch) (λ name. add_names place list (names ++ name ∷ [])) all e in
    let more = named_read place list (names ++ part.value ∷ []) all part.gives in
    record {
      items = part.value ∷ more.items;
      paired = (name_read stretch part.value part.is, more.paired);
      adds = sym (append_assoc names (part.value ∷ []) more.items) ∙ more.adds;
    }

named_taken : (place : Place) (items list names : List (List ℕ)) → Paired IsName items list
    → add_names place list names ≡ Ok (names ++ items)
named_taken place [] [] names paired = ap Ok (sym (append-nil names))
named_taken place [] (stretch ∷ list) names paired = absurd paired
named_taken place (item ∷ items) [] names paired = absurd paired
named_taken place (item ∷ items) (stretch ∷ list) names paired =
    ap (λ o. with_part place o (λ name. add_names place list (names ++ name ∷ []))) (name_taken stretch item paired.0)
    ∙ named_taken place items list (names ++ item ∷ []) paired.1
    ∙ ap Ok (append_assoc names (item ∷ []) items)

-- one name up to the first `}`
one_taken : (place : Place) (rest text name : List ℕ) → Inside text rest → IsName name text → file_name place rest ≡ Ok name
one_taken place rest text name inside is =
    ap (λ o. with_part place o (λ inside. with_part place (file_name_of inside) Ok)) (inside_taken rest text inside)
    ∙ ap (λ o. with_part place o Ok) (name_taken text name is)

record OneName (rest name : List ℕ) : Type 0 where
  text : List ℕ
  inside : Inside text rest
  is : IsName name text

one_read : (place : Place) (rest name : List ℕ) → file_name place rest ≡ Ok name → OneName rest name
one_read place rest name e =
    let part = part_ok place (inside_of rest) (λ inside. with_part place (file_name_of inside) Ok) name e in
    let found = part_ok place (file_name_of part.value) Ok name part.gives in
    let same : found.value ≡ name = cc in
    record {
      text = part.value;
      inside = inside_read rest part.value part.is;
      is = name_read part.value name (found.is ∙ ap Some same);
    }

-- what a second line of databases or of a style meets
databases_some : (number : ℕ) (names there : List (List ℕ)) (aux next : Aux) → with_databases (start_of number) names there aux ≡ Ok next
    → cond (nat_eq (length there) 0) (Some (record aux { databases = names; data_place = start_of number })) None ≡ Some next
databases_some number names [] aux next e =
    let same : record aux { databases = names; data_place = start_of number } ≡ next = cc in ap Some same
databases_some number names (_ ∷ _) aux next e = absurd (cc)

databases_ok : (number : ℕ) (names there : List (List ℕ)) (aux next : Aux)
    → cond (nat_eq (length there) 0) (Some (record aux { databases = names; data_place = start_of number })) None ≡ Some next
    → with_databases (start_of number) names there aux ≡ Ok next
databases_ok number names [] aux next e =
    let same : record aux { databases = names; data_place = start_of number } ≡ next = cc in ap Ok same
databases_ok number names (_ ∷ there) aux next e =
    let none : nat_eq (suc (length there)) 0 ≡ false = ne_eqb (suc (length there)) 0 (λ is. omega arith) in
    let other = ap (λ t. cond t (Some (record aux { databases = names; data_place = start_of number })) None) none in
    absurd (cc)

style_some : (number : ℕ) (name : List ℕ) (there : Option (List ℕ)) (aux next : Aux)
    → with_style (start_of number) name there aux ≡ Ok next
    → cond (is_some there) None (Some (record aux { style = Some name; style_place = start_of number })) ≡ Some next
style_some number name None aux next e =
    let same : record aux { style = Some name; style_place = start_of number } ≡ next = cc in ap Some same
style_some number name (Some _) aux next e = absurd (cc)

style_ok : (number : ℕ) (name : List ℕ) (there : Option (List ℕ)) (aux next : Aux)
    → cond (is_some there) None (Some (record aux { style = Some name; style_place = start_of number })) ≡ Some next
    → with_style (start_of number) name there aux ≡ Ok next
style_ok number name None aux next e =
    let same : record aux { style = Some name; style_place = start_of number } ≡ next = cc in ap Ok same
style_ok number name (Some _) aux next e = absurd (cc)

-- a line that is read: what it is, and what it asks for
pub record LineRead (number : ℕ) (text : List ℕ) (aux next : Aux) : Type 0 where
  pub line : Line
  pub spelled : IsLine line text
  pub meant : and_line number line aux ≡ Some next

held : (front text rest line : List ℕ) → line ≡ front ++ rest → Inside text rest → Holds front text line
held front text rest line is (more, inside, without) = (more, is ∙ ap (λ l. front ++ l) inside, without)

citations_read : (number : ℕ) (line rest : List ℕ) (aux next : Aux) → line ≡ codes "\\citation{" ++ rest
    → take_citations (start_of number) rest aux ≡ Ok next → LineRead number line aux next
citations_read number line rest aux next is e =
    let place = start_of number in
    let part = part_ok place (inside_of rest) (λ inside. add_citations place (stretches inside) aux) next e in
    let cut = as_stretches part.value in
    let list = ap (λ l. add_citations place l aux) (stretches_are cut.list part.value cut.stretched) in
    let cited = cited_read place cut.list aux next (sym list ∙ part.gives) in
    record {
      line = Citations cited.items;
      spelled = (
        part.value,
        held (codes "\\citation{") part.value rest line is (inside_read rest part.value part.is),
        items_read IsItem cited.items cut.list part.value cut.stretched cited.paired,
      );
      meant = ap Some cited.adds;
    }

databases_read : (number : ℕ) (line rest : List ℕ) (aux next : Aux) → line ≡ codes "\\bibdata{" ++ rest
    → take_databases (start_of number) rest aux ≡ Ok next → LineRead number line aux next
databases_read number line rest aux next is e =
    let place = start_of number in
    let part = part_ok place (inside_of rest)
    (λ inside. then_do (file_names place inside) (λ names. with_databases place names aux.databases aux)) next e in
    let named = then_ok (file_names place part.value) (λ names. with_databases place names aux.databases aux) next part.gives in
    let cut = as_stretches part.value in
    let list = ap (λ l. add_names place l []) (stretches_are cut.list part.value cut.stretched) in
    let found = named_read place cut.list [] named.0 (sym list ∙ named.1) in
    record {
      line = Databases named.0;
      spelled = (
        part.value,
        held (codes "\\bibdata{") part.value rest line is (inside_read rest part.value part.is),
        items_read IsName named.0 cut.list part.value cut.stretched
            (subst (λ (items : List (List ℕ)). Paired IsName items cut.list) found.adds found.paired),
      );
      meant = databases_some number named.0 aux.databases aux next named.2;
    }

style_read : (number : ℕ) (line rest : List ℕ) (aux next : Aux) → line ≡ codes "\\bibstyle{" ++ rest
    → take_style (start_of number) rest aux ≡ Ok next → LineRead number line aux next
style_read number line rest aux next is e =
    let place = start_of number in
    let named = then_ok (file_name place rest) (λ name. with_style place name aux.style aux) next e in
    let one = one_read place rest named.0 named.1 in
    record {
      line = Style named.0;
      spelled = (one.text, held (codes "\\bibstyle{") one.text rest line is one.inside, one.is);
      meant = style_some number named.0 aux.style aux next named.2;
    }

input_read : (number : ℕ) (line rest : List ℕ) (aux next : Aux) → line ≡ codes "\\@input{" ++ rest
    → take_input (start_of number) rest aux ≡ Ok next → LineRead number line aux next
input_read number line rest aux next is e =
    let place = start_of number in
    let named = then_ok (file_name place rest) (λ name. Ok (with_item (InputItem name place) aux)) next e in
    let one = one_read place rest named.0 named.1 in
    let same : with_item (InputItem named.0 place) aux ≡ next = cc in
    record {
      line = Input named.0;
      spelled = (one.text, held (codes "\\@input{") one.text rest line is one.inside, one.is);
      meant = ap Some same;
    }

-- a line that is read is one of the grammar's
pub line_read : (number : ℕ) (line : List ℕ) (aux next : Aux) → take_line (start_of number) line aux ≡ Ok next
    → LineRead number line aux next
line_read number line aux next e =
    let place = start_of number in
    by_front (codes "\\citation{") (λ rest. take_citations place rest aux) _ e
    (λ rest is gives. citations_read number line rest aux next is gives) (λ no_citation gives.
    by_front (codes "\\bibdata{") (λ rest. take_databases place rest aux) _ gives
    (λ rest is gives. databases_read number line rest aux next is gives) (λ no_databases gives.
    by_front (codes "\\bibstyle{") (λ rest. take_style place rest aux) _ gives
    (λ rest is gives. style_read number line rest aux next is gives) (λ no_style gives.
    by_front (codes "\\@input{") (λ rest. take_input place rest aux) _ gives
    (λ rest is gives. input_read number line rest aux next is gives) (λ no_input gives.
    let same : aux ≡ next = cc in
    record {
      line = Other;
      spelled = (
        front_missing (codes "\\citation{") line no_citation,
        (
          front_missing (codes "\\bibdata{") line no_databases,
          (front_missing (codes "\\bibstyle{") line no_style, (front_missing (codes "\\@input{") line no_input, tt)),
        ),
      );
      meant = ap Some same;
    }))))
  where
    by_front : (word : List ℕ) (take : List ℕ → Result Aux AuxFault) (other : Result Aux AuxFault)
        → option_map_or take (after_front word line) other ≡ Ok next
        → ((rest : List ℕ) → line ≡ word ++ rest → take rest ≡ Ok next → LineRead number line aux next)
        → (after_front word line ≡ None → other ≡ Ok next → LineRead number line aux next) → LineRead number line aux next
    by_front word take other is read missed =
        or_case (LineRead number line aux next) take (after_front word line) other (Ok next) is
        (λ rest found gives. read rest (front_read word line rest found) gives) missed

-- what each of the five looks for, in their order
abbrev after_databases : Place → Aux → List ℕ → Result Aux AuxFault
after_databases place aux line =
    option_map_or (λ rest. take_style place rest aux) (after_front (codes "\\bibstyle{") line)
    (option_map_or (λ rest. take_input place rest aux) (after_front (codes "\\@input{") line) (Ok aux))

abbrev after_citations : Place → Aux → List ℕ → Result Aux AuxFault
after_citations place aux line =
    option_map_or (λ rest. take_databases place rest aux) (after_front (codes "\\bibdata{") line) (after_databases place aux line)

-- where a line begins with a word, what follows it is taken
citation_first : (place : Place) (rest : List ℕ) (aux : Aux) → take_line place (codes "\\citation{" ++ rest) aux ≡ take_citations place rest aux
citation_first place rest aux =
    or_some (λ rest. take_citations place rest aux) (after_front (codes "\\citation{") (codes "\\citation{" ++ rest)) rest
    (after_citations place aux (codes "\\citation{" ++ rest)) (front_taken (codes "\\citation{") rest)

databases_first : (place : Place) (rest : List ℕ) (aux : Aux) → take_line place (codes "\\bibdata{" ++ rest) aux ≡ take_databases place rest aux
databases_first place rest aux =
    or_some (λ rest. take_databases place rest aux) (after_front (codes "\\bibdata{") (codes "\\bibdata{" ++ rest)) rest
    (after_databases place aux (codes "\\bibdata{" ++ rest)) (front_taken (codes "\\bibdata{") rest)

style_first : (place : Place) (rest : List ℕ) (aux : Aux) → take_line place (codes "\\bibstyle{" ++ rest) aux ≡ take_style place rest aux
style_first place rest aux =
    or_some (λ rest. take_style place rest aux) (after_front (codes "\\bibstyle{") (codes "\\bibstyle{" ++ rest)) rest
    (option_map_or (λ rest. take_input place rest aux) (after_front (codes "\\@input{") (codes "\\bibstyle{" ++ rest)) (Ok aux))
    (front_taken (codes "\\bibstyle{") rest)

input_first : (place : Place) (rest : List ℕ) (aux : Aux) → take_line place (codes "\\@input{" ++ rest) aux ≡ take_input place rest aux
input_first place rest aux =
    or_some (λ rest. take_input place rest aux) (after_front (codes "\\@input{") (codes "\\@input{" ++ rest)) rest (Ok aux)
    (front_taken (codes "\\@input{") rest)

none_first : (place : Place) (line : List ℕ) (aux : Aux) → IsLine Other line → take_line place line aux ≡ Ok aux
none_first place line aux misses =
    or_none (λ rest. take_citations place rest aux) (after_front (codes "\\citation{") line) (after_citations place aux line)
    (front_missed (codes "\\citation{") line misses.0)
    ∙ or_none (λ rest. take_databases place rest aux) (after_front (codes "\\bibdata{") line) (after_databases place aux line)
    (front_missed (codes "\\bibdata{") line misses.1.0)
    ∙ or_none (λ rest. take_style place rest aux) (after_front (codes "\\bibstyle{") line)
    (option_map_or (λ rest. take_input place rest aux) (after_front (codes "\\@input{") line) (Ok aux))
    (front_missed (codes "\\bibstyle{") line misses.1.1.0)
    ∙ or_none (λ rest. take_input place rest aux) (after_front (codes "\\@input{") line) (Ok aux)
    (front_missed (codes "\\@input{") line misses.1.1.1.0)

-- a line of the grammar is read as it is meant
pub line_taken : (number : ℕ) (line : Line) (text : List ℕ) (aux next : Aux) → IsLine line text → and_line number line aux ≡ Some next
    → take_line (start_of number) text aux ≡ Ok next
line_taken number (Citations items) text aux next (inside, (rest, is, without), are) e =
    let place = start_of number in
    let after = inside ++ 125 ∷ rest in
    let more = itemized IsItem items inside are in
    let same : and_citations items aux ≡ next = cc in
    ap (λ l. take_line place l aux) is ∙ citation_first place after aux
    ∙ ap (λ o. with_part place o (λ inside. add_citations place (stretches inside) aux))
    (inside_taken after inside (rest, refl, without))
    ∙ ap (λ l. add_citations place l aux) (stretches_are more.list inside more.stretched)
    ∙ cited_taken place items more.list aux more.paired ∙ ap Ok same
line_taken number (Databases names) text aux next (inside, (rest, is, without), are) e =
    let place = start_of number in
    let after = inside ++ 125 ∷ rest in
    let more = itemized IsName names inside are in
    let then : List (List ℕ) → Result Aux AuxFault = λ names. with_databases place names aux.databases aux in
    ap (λ l. take_line place l aux) is ∙ databases_first place after aux
    ∙ ap (λ o. with_part place o (λ inside. then_do (file_names place inside) then)) (inside_taken after inside (rest, refl, without))
    ∙ ap (λ l. then_do (add_names place l []) then) (stretches_are more.list inside more.stretched)
    ∙ ap (λ r. then_do r then) (named_taken place names more.list [] more.paired)
    ∙ databases_ok number names aux.databases aux next e
line_taken number (Style name) text aux next (inside, (rest, is, without), named) e =
    let place = start_of number in
    let after = inside ++ 125 ∷ rest in
    ap (λ l. take_line place l aux) is ∙ style_first place after aux
    ∙ ap (λ r. then_do r (λ name. with_style place name aux.style aux)) (one_taken place after inside name (rest, refl, without) named)
    ∙ style_ok number name aux.style aux next e
line_taken number (Input name) text aux next (inside, (rest, is, without), named) e =
    let place = start_of number in
    let after = inside ++ 125 ∷ rest in
    let same : with_item (InputItem name place) aux ≡ next = cc in
    ap (λ l. take_line place l aux) is ∙ input_first place after aux
    ∙ ap (λ r. then_do r (λ name. Ok (with_item (InputItem name place) aux))) (one_taken place after inside name (rest, refl, without) named)
    ∙ ap Ok same
line_taken number Other text aux next misses e =
    let same : aux ≡ next = cc in none_first (start_of number) text aux misses ∙ ap Ok same
