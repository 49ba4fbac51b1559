-- Bodies by their names or numbers, and the numbers of lists and commands: what is read is spelled so, and what is spelled is read.
use Rattle.std.proofs.Common.{◌≡◌, ℕ, zero, suc, ◌+◌, ◌<◌, ◌≤◌, Bool, true, false, ◌&&◌, ◌||◌, not, cond, nat_eq, nat_lt, nat_le, List, [], ◌∷◌, map, Option, Some, None, is_some, Ok, codes, refl, sym, ap, subst, ◌∙◌, arith}
use Rattle.std.specs.Fmt.{decimal}
use Rattle.std.specs.List.{list_all}
use Rattle.std.specs.Option.{option_map, option_map_or}
use Rattle.std.specs.Prelude.{slice_get}
use Rattle.std.proofs.lemmas.Bool.{and_parts, or_parts}
use Rattle.std.proofs.lemmas.Bool.Decides.{nat_tests}
use Rattle.bst_meaning.specs.declared.value.Target.{Target}
use Rattle.bst_meaning.specs.declared.value.Target.TheVariants.{Named, Block}
use Rattle.bv_base.specs.Bytes.{is_name_byte}
use Rattle.bv_base.specs.Runs.{number_from}
use Rattle.bv_base.proofs.ThenLemmas.{ok_is, then_ok, unless_ok}
use Rattle.name_table.specs.Names.{is_definable, kind_at}
use Rattle.name_table.specs.Opening.{opening_names}
use Rattle.name_table.specs.Sound.{AreNumbered, Each, IsDeclared, IsSound, block_of}
use Rattle.name_table.specs.declared.names.Kind.{Kind}
use Rattle.name_table.specs.declared.style.Body.{Body as BodyOf}
use Rattle.name_table.specs.declared.style.BodyId.{BodyId}
use Rattle.name_table.specs.declared.style.Style.{Style}
use Rattle.cert_format.specs.CertText.{IsNameable}
use Rattle.cert_format.specs.Certs as certs
use Rattle.cert_format.specs.CondText.{ArePlain}
use Rattle.cert_format.specs.Items.{has_leading_zero, is_numeral, name_in}
use Rattle.cert_format.specs.Lines.{Item}
use Rattle.cert_format.specs.PieceItems as items
use Rattle.cert_format.specs.Spelling.{name_text}
use Rattle.cert_format.specs.UnitSpelling.{block_number, body_text}
use Rattle.cert_format.proofs.CertItems.{block_read, block_taken}
use Rattle.cert_format.proofs.CertNames.{known_name, name_taken}
use Rattle.cert_format.proofs.CertWords.{after_read}
use Rattle.cert_format.proofs.CondTaken.{then_go}
use Rattle.cert_format.proofs.Numerals.{Numeral, numeral_of, numeral_text}
use Rattle.cert_format.proofs.Plain.{each_append, each_of}

some_of : {A : Type 0} (x y : A) → Some x ≡ Some y → y ≡ x
some_of x y e = cc

-- a body that has been found by its number
record Found (id number : ℕ) (bodies : List BodyOf) (body : BodyId) : Type 0 where
  pub place : ℕ
  pub at : body.0 ≡ id + place
  pub is : option_map (λ b. b.block) (slice_get bodies place) ≡ Some (Some number)

same_block : (number : ℕ) (b : Option ℕ) → items.is_block number b ≡ true → b ≡ Some number
same_block number None e = absurd (cc)
same_block number (Some n) e = let same : n ≡ number = grind (arith, nat_tests) in ap Some same

found_block : (bodies : List BodyOf) (id number : ℕ) (body : BodyId) → items.body_from id number bodies ≡ Some body → Found id number bodies body
found_block [] id number body e = absurd (cc)
found_block (first ∷ bodies) id number body e = by_test (items.is_block number first.block) refl (items.body_from (suc id) number bodies) (found_block bodies (suc id) number body) e
  where
    later : (place id n : ℕ) → n ≡ suc id + place → n ≡ id + suc place
    later place id n e = omega (arith, e)

    by_test : (t : Bool) → items.is_block number first.block ≡ t → (r : Option BodyId) → (r ≡ Some body → Found (suc id) number bodies body)
        → cond t (Some (record { 0 = id })) r ≡ Some body → Found id number (first ∷ bodies) body
    by_test true is r more f =
        let here : BodyId = record { 0 = id } in
        let same : body.0 ≡ id = ap (λ (b : BodyId). b.0) (some_of here body f) in
        record { place = 0; at = omega (arith, same); is = ap Some (same_block number first.block is) }
    by_test false is r more f =
        let rest = more f in
        record { place = suc rest.place; at = later rest.place id body.0 rest.at; is = rest.is }

pub block_found : (bodies : List BodyOf) (number : ℕ) (body : BodyId) → items.body_of number bodies ≡ Some body → block_of body bodies ≡ Some (Some number)
block_found bodies number body e =
    let f = found_block bodies 0 number body e in
    let same : body.0 ≡ f.place = omega (arith, f.at) in
    ap (λ (n : ℕ). option_map (λ b. b.block) (slice_get bodies n)) same ∙ f.is

-- the block at a place
abbrev BlockAt : List BodyOf → ℕ → ℕ → Type 0
BlockAt bodies place number = option_map (λ b. b.block) (slice_get bodies place) ≡ Some (Some number)

-- the blocks of bodies
abbrev blocks : List BodyOf → List (Option ℕ)
blocks bodies = map (λ body. body.block) bodies

same_some : (a b : ℕ) → Some (Some a) ≡ Some (Some b) → a ≡ b
same_some a b e = cc

-- numbers of blocks rise
numbers_above : (bodies : List BodyOf) (n place number : ℕ) → AreNumbered n (blocks bodies) → BlockAt bodies place number → n ≤ number
numbers_above [] n place number numbered e = absurd (cc)
numbers_above (first ∷ bodies) n zero number numbered e = by_block first.block numbered e
  where
    by_block : (b : Option ℕ) → AreNumbered n (b ∷ blocks bodies) → Some b ≡ Some (Some number) → n ≤ number
    by_block None more f = absurd (cc)
    by_block (Some m) more f = let same = same_some m number f in omega (arith, same, more.0)
numbers_above (first ∷ bodies) n (suc place) number numbered e =
    by_block first.block numbered (λ m more. numbers_above bodies m place number more e)
  where
    by_block : (b : Option ℕ) → AreNumbered n (b ∷ blocks bodies) → ((m : ℕ) → AreNumbered m (blocks bodies) → m ≤ number) → n ≤ number
    by_block None more rest = rest n more
    by_block (Some m) more rest = let above = rest (suc n) more.1 in omega (arith, above)

itself : (n : ℕ) → nat_eq n n ≡ true
itself n = grind (arith, nat_tests)

differs : (m n number : ℕ) → m ≡ n → suc n ≤ number → nat_eq m number ≡ false
differs m n number same above = grind (arith, nat_tests)

-- the block of a number is found
block_there : (bodies : List BodyOf) (id n place number : ℕ) → AreNumbered n (blocks bodies) → BlockAt bodies place number
    → items.body_from id number bodies ≡ Some (record { 0 = id + place })
block_there [] id n place number numbered e = absurd (cc)
block_there (first ∷ bodies) id n zero number numbered e = by_block first.block e
  where
    place : id ≡ id + 0
    place = omega arith

    by_block : (b : Option ℕ) → Some b ≡ Some (Some number)
        → cond (items.is_block number b) (Some (record { 0 = id })) (items.body_from (suc id) number bodies) ≡ Some (record { 0 = id + 0 })
    by_block None f = absurd (cc)
    by_block (Some m) f =
        ap (λ (k : ℕ). cond (nat_eq k number) (Some (of_number id)) (items.body_from (suc id) number bodies)) (same_some m number f)
        ∙ ap (λ (t : Bool). cond t (Some (of_number id)) (items.body_from (suc id) number bodies)) (itself number)
        ∙ ap (λ (k : ℕ). Some (of_number k)) place
      where
        of_number : ℕ → BodyId
        of_number k = record { 0 = k }
block_there (first ∷ bodies) id n (suc place) number numbered e =
    by_block first.block numbered (λ m more. block_there bodies (suc id) m place number more e) (λ m more. numbers_above bodies m place number more e)
  where
    next : suc id + place ≡ id + suc place
    next = omega arith

    moved : (r : Option BodyId) → r ≡ Some (record { 0 = suc id + place }) → r ≡ Some (record { 0 = id + suc place })
    moved r f = f ∙ ap (λ (k : ℕ). let b : BodyId = record { 0 = k } in Some b) next

    by_block : (b : Option ℕ) → AreNumbered n (b ∷ blocks bodies)
        → ((m : ℕ) → AreNumbered m (blocks bodies) → items.body_from (suc id) number bodies ≡ Some (record { 0 = suc id + place }))
        → ((m : ℕ) → AreNumbered m (blocks bodies) → m ≤ number)
        → cond (items.is_block number b) (Some (record { 0 = id })) (items.body_from (suc id) number bodies) ≡ Some (record { 0 = id + suc place })
    by_block None more rest above = moved (items.body_from (suc id) number bodies) (rest n more)
    by_block (Some m) more rest above =
        rw (differs m n number more.0 (above (suc n) more.1)) (moved (items.body_from (suc id) number bodies) (rest (suc n) more.1))

pub block_number_found : (bodies : List BodyOf) (body : BodyId) (number : ℕ) → AreNumbered 0 (blocks bodies) → block_of body bodies ≡ Some (Some number)
    → items.body_of number bodies ≡ Some body
block_number_found bodies body number numbered e =
    let place : 0 + body.0 ≡ body.0 = omega arith in
    block_there bodies 0 0 body.0 number numbered e ∙ ap (λ (k : ℕ). let b : BodyId = record { 0 = k } in Some b) place

-- no name begins with `#`
abbrev pub NoSigns : List (List ℕ × Kind) → Type 0
NoSigns names = Each (λ entry. items.after (codes "#") entry.0 ≡ None) names

no_sign : (b : ℕ) (rest : List ℕ) → is_name_byte b ≡ true → items.after (codes "#") (b ∷ rest) ≡ None
no_sign b rest e = by_byte (nat_eq b 35) refl
  where
    never : b ≡ 35 → ⊥
    never same = wrong (sym (ap is_name_byte same) ∙ e)
      where
        wrong : false ≡ true → ⊥
        wrong f = absurd (cc)

    sign : nat_eq b 35 ≡ true → b ≡ 35
    sign f = grind (arith, nat_tests)

    by_byte : (t : Bool) → nat_eq b 35 ≡ t → cond (t && true) (Some rest) None ≡ None
    by_byte true is = absurd (never (sign is))
    by_byte false is = refl

declared_sign : (name : List ℕ) → is_definable name ≡ true → items.after (codes "#") name ≡ None
declared_sign [] e = absurd (cc)
declared_sign (first ∷ rest) e =
    let both = and_parts (not (is_first_digit first)) (list_all is_name_byte (first ∷ rest)) e in
    no_sign first rest (and_parts (is_name_byte first) (list_all is_name_byte rest) both.1).0
  where
    is_first_digit : ℕ → Bool
    is_first_digit b = nat_le 48 b && nat_le b 57

all_declared : (declared : List (List ℕ × Kind)) → Each (λ entry. IsDeclared entry.0) declared → NoSigns declared
all_declared [] each = tt
all_declared (entry ∷ declared) each = (declared_sign entry.0 each.0.definable, all_declared declared each.1)

-- nothing follows `#`
abbrev is_none_at : List ℕ → Bool
is_none_at name = not (is_some (items.after (codes "#") name))

none_is : {A : Type 0} (o : Option A) → not (is_some o) ≡ true → o ≡ None
none_is (Some x) e = absurd (cc)
none_is None e = refl

no_after : (names : List (List ℕ × Kind)) → Each (λ entry. is_none_at entry.0 ≡ true) names → NoSigns names
no_after [] each = tt
no_after (entry ∷ names) each = (none_is (items.after (codes "#") entry.0) each.0, no_after names each.1)

pub plain_signs : (style : Style) → IsSound style → NoSigns style.names
plain_signs style sound =
    subst NoSigns (sym sound.names)
    (each_append (λ entry. items.after (codes "#") entry.0 ≡ None) opening_names sound.declared
    (no_after opening_names (each_of (λ entry. is_none_at entry.0) opening_names refl)) (all_declared sound.declared sound.spelled))

sign_at : (names : List (List ℕ × Kind)) (k : ℕ) → NoSigns names → is_some (kind_at (record { 0 = k }) names) ≡ true
    → items.after (codes "#") (name_text names (record { 0 = k })) ≡ None
sign_at [] k each is = absurd (cc)
sign_at (name ∷ names) zero each is = each.0
sign_at (name ∷ names) (suc k) each is = sign_at names k each.1 is

-- a body by its name or its number: its spelling, and that it can be named
abbrev Spelled : Style → List ℕ → Target → Type 0
Spelled style text target = (text ≡ body_text style target) × IsNameable style target

block_target : (style : Style) (item : Item) (rest : List ℕ) (target : Target) → item.text ≡ 35 ∷ rest
    → certs.block_of_number style.bodies (items.part_of item rest) ≡ Ok target → Spelled style item.text target
block_target style item rest target said e =
    let a = then_ok (items.block_number style.bodies (items.part_of item rest)) _ _ e in
    let r = block_read style.bodies (items.part_of item rest) a.0 a.1 in
    by_body item.left (items.body_of a.0 style.bodies) a.0 refl r.0 r.1 a.2
  where
    by_body : (left : ℕ) (o : Option BodyId) (number : ℕ) → items.body_of number style.bodies ≡ o → rest ≡ decimal number → number ≤ 1073741824
        → certs.block_there o left ≡ Ok target → Spelled style item.text target
    by_body left (Some body) number is digits small f =
        let there = block_found style.bodies number body is in
        subst (Spelled style item.text) (sym (ok_is (Block body) target f))
        (said ∙ ap (λ (t : List ℕ). 35 ∷ t) (digits ∙ ap (λ o. decimal (block_number o)) (sym there)), (number, there, small))
    by_body left None number is digits small f = absurd (cc)

named_target : (style : Style) (item : Item) (target : Target) → certs.named_body style item ≡ Ok target → Spelled style item.text target
named_target style item target e =
    let a = then_ok (name_in style.names item) _ _ e in
    let r = known_name style.names item a.0 a.1 in
    subst (Spelled style item.text) (sym (ok_is (Named a.0) target a.2)) (r.0, r.1)

pub target_read : (style : Style) (item : Item) (target : Target) → certs.body style item ≡ Ok target → Spelled style item.text target
target_read style item target e = by_rest (items.after (codes "#") item.text) refl e
  where
    by_rest : (o : Option (List ℕ)) → items.after (codes "#") item.text ≡ o
        → option_map_or (certs.block_of_number style.bodies) (option_map (items.part_of item) o) (certs.named_body style item) ≡ Ok target
        → Spelled style item.text target
    by_rest (Some rest) is f = block_target style item rest target (after_read (codes "#") item.text rest is) f
    by_rest None is f = named_target style item target f

there_is : (o : Option BodyId) (body : BodyId) → o ≡ Some body → is_some o ≡ true
there_is o body e = ap is_some e

target_by : (style : Style) (left : ℕ) (target : Target) → ArePlain style.names → NoSigns style.names → AreNumbered 0 (blocks style.bodies)
    → IsNameable style target → certs.body style (record { text = body_text style target; left = left }) ≡ Ok target
target_by style left (Named id) plain signs numbered is =
    ap (λ o. option_map_or (certs.block_of_number style.bodies) (option_map (items.part_of (record { text = name_text style.names id; left = left })) o)
    (certs.named_body style (record { text = name_text style.names id; left = left }))) (sign_at style.names id.0 signs is)
    ∙ then_go (name_in style.names (record { text = name_text style.names id; left = left })) id _ _
    (name_taken style.names (record { text = name_text style.names id; left = left }) id plain is refl) refl
target_by style left (Block body) plain signs numbered is =
    let number = is.0 in
    let found = block_number_found style.bodies body number numbered is.1 in
    ap (λ o. certs.block_of_number style.bodies (record { text = decimal (block_number o); left = left })) is.1
    ∙ then_go (items.block_number style.bodies (record { text = decimal number; left = left })) number _ _
    (block_taken style.bodies (record { text = decimal number; left = left }) number is.2 (there_is (items.body_of number style.bodies) body found) refl)
    (ap (λ o. certs.block_there o left) found)

pub target_taken : (style : Style) (item : Item) (target : Target) → ArePlain style.names → NoSigns style.names → AreNumbered 0 (blocks style.bodies)
    → IsNameable style target → item.text ≡ body_text style target → certs.body style item ≡ Ok target
target_taken style item target plain signs numbered is said =
    ap (λ (t : List ℕ). certs.body style (record { text = t; left = item.left })) said ∙ target_by style item.left target plain signs numbered is

not_over : (most n : ℕ) → nat_lt most n ≡ false → n ≤ most
not_over most n over = grind (arith, nat_tests)

over_not : (most n : ℕ) → n ≤ most → nat_lt most n ≡ false
over_not most n small = grind (arith, nat_tests)

-- what the number of a command is
pub record CommandNumber (count : ℕ) (last : Option ℕ) (text : List ℕ) (n : ℕ) : Type 0 where
  pub said : text ≡ decimal n
  pub there : n < count
  pub small : n ≤ 1073741824
  pub behind : certs.comes_after last n ≡ true

below_is : (count n : ℕ) → nat_le count n ≡ false → n < count
below_is count n e = grind (arith, nat_tests)

is_below : (count n : ℕ) → n < count → nat_le count n ≡ false
is_below count n e = grind (arith, nat_tests)

not_not : (b : Bool) → not b ≡ false → b ≡ true
not_not true e = refl
not_not false e = absurd (cc)

pub command_read : (count : ℕ) (last : Option ℕ) (item : Item) (n : ℕ) → certs.command_number count last item ≡ Ok n → CommandNumber count last item.text n
command_read count last item n e =
    let value = number_from 0 item.text in
    let a = unless_ok (not (is_numeral item.text)) _ _ _ e in
    let b = unless_ok (nat_lt 1073741824 (number_from 0 item.text) || nat_le count (number_from 0 item.text)) _ _ _ a.1 in
    let c = or_parts (nat_lt 1073741824 (number_from 0 item.text)) (nat_le count (number_from 0 item.text)) b.0 in
    let d = unless_ok (has_leading_zero item.text || not (certs.comes_after last (number_from 0 item.text))) _ _ _ b.1 in
    let f = or_parts (has_leading_zero item.text) (not (certs.comes_after last (number_from 0 item.text))) d.0 in
    let is : n ≡ number_from 0 item.text = ok_is (number_from 0 item.text) n d.1 in
    let small = not_over 1073741824 (number_from 0 item.text) c.0 in
    let under = below_is count (number_from 0 item.text) c.1 in
    record {
      said = numeral_text item.text n a.0 f.0 is (omega (arith, small));
      there = omega (arith, under, is);
      small = omega (arith, small, is);
      behind = ap (certs.comes_after last) is ∙ not_not (certs.comes_after last (number_from 0 item.text)) f.1;
    }

command_by : (count : ℕ) (last : Option ℕ) (left n : ℕ) (text : List ℕ) → Numeral text n → nat_lt 1073741824 n ≡ false → nat_le count n ≡ false
    → certs.comes_after last n ≡ true → certs.command_number count last (record { text = text; left = left }) ≡ Ok n
command_by count last left n text is over under behind = rw is.digits (rw is.value (rw over (rw under (rw is.plain (rw behind refl)))))

pub command_taken : (count : ℕ) (last : Option ℕ) (item : Item) (n : ℕ) → n < count → n ≤ 1073741824 → certs.comes_after last n ≡ true
    → item.text ≡ decimal n → certs.command_number count last item ≡ Ok n
command_taken count last item n there small behind said =
    ap (λ (t : List ℕ). certs.command_number count last (record { text = t; left = item.left })) said
    ∙ command_by count last item.left n (decimal n) (numeral_of n (omega (arith, small))) (over_not 1073741824 n small) (is_below count n there) behind
