-- What holds of what has been read, after each lexeme.
use Rattle.std.proofs.Common.{◌≡◌, ℕ, suc, ◌+◌, ◌<◌, ◌≤◌, Bool, true, false, cond, List, [], ◌∷◌, ◌++◌, Option, None, Some, length, length-append, append_assoc, map, drop, slice_get, refl, sym, ap, subst, ◌∙◌, inl, inr, ◌⊎◌, arith}
use Rattle.std.specs.Option.{option_map}
use Rattle.std.proofs.lemmas.Bool.{cases_lt}
use Rattle.bv_base.specs.declared.place.Place.{Place}
use Rattle.name_table.specs.declared.style.TheConstants.{MOST_BODIES}
use Rattle.name_table.specs.declared.names.TheConstants.{MOST_NAMES}
use Rattle.name_table.specs.declared.names.Kind.{Kind}
use Rattle.name_table.specs.declared.names.Kind.TheVariants.{Builtin, Wizard, Field, IntEntry, StrEntry, IntGlobal, StrGlobal}
use Rattle.name_table.specs.declared.names.NameId.{NameId}
use Rattle.name_table.specs.declared.style.Body.{Body}
use Rattle.name_table.specs.declared.style.BodyId.{BodyId}
use Rattle.name_table.specs.declared.style.Command.{Command}
use Rattle.name_table.specs.declared.style.Command.TheVariants.{Entry, Execute, Function, Integers, Iterate, Macro, Read, Reverse, Sort, Strings}
use Rattle.name_table.specs.declared.style.CommandAt.{CommandAt}
use Rattle.name_table.specs.declared.style.Token.{Token}
use Rattle.name_table.specs.declared.style.Token.TheVariants.{Int, Str, Quote, Block, Call}
use Rattle.name_table.specs.declared.style.TokenAt.{TokenAt}
use Rattle.name_table.specs.Names.{id_of, same_name, kind_at, later}
use Rattle.name_table.specs.Numbers.{IsByteList}
use Rattle.name_table.specs.Opening.{opening_names}
use Rattle.name_table.specs.Sound.{Each, IsDeclared, AreApart, block_of, IsTokenSound, IsCommandSound, is_callable, AreNumbered}
use Rattle.bst_parse.specs.declared.grammar.Part.{Part}
use Rattle.bst_parse.specs.declared.grammar.Part.TheVariants.{Names, FunctionName, Body as BodyPart}
use Rattle.bst_parse.specs.Bodies.{next_body, token_added, block_count, counted, function_begun, block_begun}
use Rattle.name_table.proofs.Within.{callable_within}
use Rattle.bst_parse.proofs.Lexed.{TextFine}
use Rattle.bst_parse.proofs.Counted.{length-changed_at, block_count-token_added}
use Rattle.bst_parse.proofs.Lists.{each_push, each_more, each_changed, get-front, get-last, mapped_within, get-changed, map-changed}

-- how many bodies of functions are owed by the parts to come
abbrev pub coming : List Part → ℕ
coming [] = 0
coming (BodyPart ∷ rest) = suc (coming rest)
coming (_ ∷ rest) = coming rest

-- the body of a function is there and is no block, or is owed
abbrev pub IsKindSoFar : List Body → ℕ → Kind → Type 0
IsKindSoFar bodies owed (Wizard id) = (id.0 < length bodies + owed) × (id.0 < length bodies → block_of id bodies ≡ Some None)
IsKindSoFar bodies owed _ = Unit {0}

-- a body is the last part, one comes after a function's name, and lists name no functions
abbrev pub PartsFine : List Part → Type 0
PartsFine [] = Unit {0}
PartsFine (FunctionName ∷ rest) = (coming rest ≡ 1) × PartsFine rest
PartsFine (BodyPart ∷ rest) = rest ≡ []
PartsFine (Names kind ∷ rest) = ((bodies : List Body) (owed : ℕ) → IsKindSoFar bodies owed kind) × PartsFine rest
PartsFine (_ ∷ rest) = PartsFine rest

-- within a body no part is to come
abbrev pub IsBusy : List BodyId → List Part → Type 0
IsBusy [] parts = Unit {0}
IsBusy (_ ∷ _) parts = parts ≡ []

abbrev pub TokensFine : List (List ℕ × Kind) → List Body → List (List ℕ) → List Body → Type 0
TokensFine names bodies texts list =
    Each (λ (body : Body). Each (λ (at : TokenAt). IsTokenSound names bodies texts at.token) body.tokens) list

pub record NamesFine (names : List (List ℕ × Kind)) : Type 0 where
  pub declared : List (List ℕ × Kind)
  pub are : names ≡ opening_names ++ declared
  pub spelled : Each (λ entry. IsDeclared entry.0) declared
  pub apart : AreApart names
  pub few : length names ≤ MOST_NAMES
  pub bytes : Each (λ entry. IsByteList entry.0) names

pub record SoFar (n : ℕ) (ns : List (List ℕ × Kind)) (cs : List CommandAt) (bs : List Body) (ts : List (List ℕ))
    (ps : List Part) (os : List BodyId) : Type 0 where
  pub names : NamesFine ns
  pub kinds : Each (λ entry. IsKindSoFar bs (coming ps) entry.1) ns
  pub tokens : TokensFine ns bs ts bs
  pub commands : Each (λ at. IsCommandSound ns at.command) cs
  pub few_commands : length cs ≤ n
  pub numbered : AreNumbered 0 (map (λ body. body.block) bs)
  pub few_bodies : length bs ≤ MOST_BODIES
  pub texts : Each TextFine ts
  pub parts : PartsFine ps
  pub busy : IsBusy os ps

-- what has been read so far, by its parts
so_far : {n : ℕ} {ns : List (List ℕ × Kind)} {cs : List CommandAt} {bs : List Body} {ts : List (List ℕ)} {ps : List Part} {os : List BodyId}
    → NamesFine ns → Each (λ entry. IsKindSoFar bs (coming ps) entry.1) ns → TokensFine ns bs ts bs → Each (λ at. IsCommandSound ns at.command) cs
    → length cs ≤ n → AreNumbered 0 (map (λ body. body.block) bs) → length bs ≤ MOST_BODIES → Each TextFine ts → PartsFine ps → IsBusy os ps
    → SoFar n ns cs bs ts ps os
so_far names kinds tokens commands few_commands numbered few_bodies texts parts busy =
    record {
      names = names;
      kinds = kinds;
      tokens = tokens;
      commands = commands;
      few_commands = few_commands;
      numbered = numbered;
      few_bodies = few_bodies;
      texts = texts;
      parts = parts;
      busy = busy;
    }

-- tokens stay sound where names, bodies and texts grow
token_more : (names more : List (List ℕ × Kind)) (bodies grown : List Body) (texts longer : List (List ℕ))
    → length names ≤ length more → length texts ≤ length longer
    → ((id : BodyId) (number : ℕ) → block_of id bodies ≡ Some (Some number) → block_of id grown ≡ Some (Some number))
    → (t : Token) → IsTokenSound names bodies texts t → IsTokenSound more grown longer t
token_more names more bodies grown texts longer n x b (Int value) h = h
token_more names more bodies grown texts longer n x b (Block id) h = (h.0, b id h.0 h.1)
token_more names more bodies grown texts longer n x b _ h = omega arith

tokens_more : (names more : List (List ℕ × Kind)) (bodies grown : List Body) (texts longer : List (List ℕ))
    → length names ≤ length more → length texts ≤ length longer
    → ((id : BodyId) (number : ℕ) → block_of id bodies ≡ Some (Some number) → block_of id grown ≡ Some (Some number))
    → (list : List Body) → TokensFine names bodies texts list → TokensFine more grown longer list
tokens_more names more bodies grown texts longer n x b list =
    each_more
    (λ (body : Body). Each (λ (at : TokenAt). IsTokenSound names bodies texts at.token) body.tokens)
    (λ (body : Body). Each (λ (at : TokenAt). IsTokenSound more grown longer at.token) body.tokens)
    (λ (body : Body). each_more
    (λ (at : TokenAt). IsTokenSound names bodies texts at.token)
    (λ (at : TokenAt). IsTokenSound more grown longer at.token)
    (λ (at : TokenAt). token_more names more bodies grown texts longer n x b at.token)
    body.tokens)
    list

-- a new name is apart from the others
apart_push : (name : List ℕ) (kind : Kind) (names : List (List ℕ × Kind)) → AreApart names → id_of name names ≡ None
    → AreApart (names ++ (name, kind) ∷ [])
apart_push name kind [] h none = (tt, tt)
apart_push name kind (first ∷ rest) h none =
    by (same_name name first.0) (id_of name rest) refl refl none (apart_push name kind rest h.1)
  where
    by : (b : Bool) (r : Option NameId) → same_name name first.0 ≡ b → id_of name rest ≡ r
        → cond b (Some (record { 0 = 0 })) (option_map later r) ≡ None
        → (id_of name rest ≡ None → AreApart (rest ++ (name, kind) ∷ []))
        → AreApart ((first ∷ rest) ++ (name, kind) ∷ [])
    by true r e f none more = absurd (cc)
    by false (Some x) e f none more = absurd (cc)
    by false None e f none more = (each_push _ rest (name, kind) h.0 e, more f)

-- the kind of a name stays where names are added
kind-front : (names : List (List ℕ × Kind)) (entry : List ℕ × Kind) (id : NameId) → id.0 < length names
    → kind_at id (names ++ entry ∷ []) ≡ kind_at id names
kind-front names entry id h = ap (option_map (λ e. e.1)) (get-front names entry id.0 h)

callable-front : (names : List (List ℕ × Kind)) (entry : List ℕ × Kind) (id : NameId) → is_callable (kind_at id names) ≡ true
    → is_callable (kind_at id (names ++ entry ∷ [])) ≡ true
callable-front names entry id h = ap is_callable (kind-front names entry id (callable_within names id.0 h)) ∙ h

command_more : (names : List (List ℕ × Kind)) (entry : List ℕ × Kind) (c : Command) → IsCommandSound names c
    → IsCommandSound (names ++ entry ∷ []) c
command_more names entry (Execute id) h = callable-front names entry id h
command_more names entry (Iterate id) h = callable-front names entry id h
command_more names entry (Reverse id) h = callable-front names entry id h
command_more names entry (Function id) h =
    (h.0, kind-front names entry id (mapped_within (λ e. e.1) names id.0 _ h.1) ∙ h.1)
command_more names entry _ h = tt

-- the innermost body is closed
less_busy : (opened : List BodyId) (parts : List Part) → IsBusy opened parts → IsBusy (drop 1 opened) parts
less_busy [] parts h = tt
less_busy (x ∷ []) parts h = tt
less_busy (x ∷ y ∷ rest) parts h = h

all_busy : (opened : List BodyId) (parts : List Part) → parts ≡ [] → IsBusy opened parts
all_busy [] parts h = tt
all_busy (x ∷ rest) parts h = h

-- bodies after a token is added
block_same : (bodies : List Body) (inside : BodyId) (at : TokenAt) (id : BodyId)
    → block_of id (token_added inside at bodies) ≡ block_of id bodies
block_same bodies inside at id = get-changed (λ (body : Body). body.block) _ (λ body. refl) inside.0 bodies id.0

block_added : (bodies : List Body) (inside : BodyId) (at : TokenAt) (id : BodyId) (number : ℕ)
    → block_of id bodies ≡ Some (Some number) → block_of id (token_added inside at bodies) ≡ Some (Some number)
block_added bodies inside at id number h = block_same bodies inside at id ∙ h

kind_added : (bodies : List Body) (inside : BodyId) (at : TokenAt) (owed : ℕ) (kind : Kind) → IsKindSoFar bodies owed kind
    → IsKindSoFar (token_added inside at bodies) owed kind
kind_added bodies inside at owed (Wizard id) h =
    let long = length-changed_at inside.0 (λ (body : Body). record body { tokens = body.tokens ++ at ∷ [] }) bodies in
    (omega (arith, long, h.0), λ within. block_same bodies inside at id ∙ h.1 (omega (arith, long)))
kind_added bodies inside at owed _ h = tt

tokens_added : (names : List (List ℕ × Kind)) (bodies grown : List Body) (texts : List (List ℕ)) (inside : BodyId) (at : TokenAt) (list : List Body)
    → ((id : BodyId) (number : ℕ) → block_of id bodies ≡ Some (Some number) → block_of id grown ≡ Some (Some number))
    → IsTokenSound names bodies texts at.token → TokensFine names bodies texts list
    → TokensFine names grown texts (token_added inside at list)
tokens_added names bodies grown texts inside at list blocks fine h =
    each_changed
    (λ (body : Body). Each (λ (at : TokenAt). IsTokenSound names grown texts at.token) body.tokens)
    (λ (body : Body). record body { tokens = body.tokens ++ at ∷ [] })
    (λ (body : Body) each. each_push _ body.tokens at each (token_more names names bodies grown texts texts (omega arith) (omega arith) blocks at.token fine))
    inside.0 list
    (tokens_more names names bodies grown texts texts (omega arith) (omega arith) blocks list h)

below_or_last : (a b : ℕ) → a < suc b → (a < b) ⊎ (a ≡ b)
below_or_last a b h = by (cases_lt a b) h
  where
    by : (a < b) ⊎ (b ≤ a) → a < suc b → (a < b) ⊎ (a ≡ b)
    by (inl lt) h = inl lt
    by (inr ge) h = inr (omega arith)

-- bodies after one more
block_last : (bodies : List Body) (body : Body) → block_of (next_body bodies) (bodies ++ body ∷ []) ≡ Some body.block
block_last bodies body = ap (option_map (λ (b : Body). b.block)) (get-last bodies body)

block_stays : (bodies : List Body) (body : Body) (id : BodyId) → id.0 < length bodies
    → block_of id (bodies ++ body ∷ []) ≡ block_of id bodies
block_stays bodies body id h = ap (option_map (λ (b : Body). b.block)) (get-front bodies body id.0 h)

block_front : (bodies : List Body) (body : Body) (id : BodyId) (number : ℕ) → block_of id bodies ≡ Some (Some number)
    → block_of id (bodies ++ body ∷ []) ≡ Some (Some number)
block_front bodies body id number h =
    block_stays bodies body id (mapped_within (λ (b : Body). b.block) bodies id.0 (Some number) h) ∙ h

-- the last body that is owed is that of a function
owed_block : (bodies : List Body) (body : Body) (id : BodyId) → body.block ≡ None → (id.0 < length bodies → block_of id bodies ≡ Some None)
    → (id.0 < length bodies) ⊎ (id.0 ≡ length bodies) → block_of id (bodies ++ body ∷ []) ≡ Some None
owed_block bodies body id none known (inl h) = block_stays bodies body id h ∙ known h
owed_block bodies body id none known (inr h) =
    ap (λ (k : ℕ). option_map (λ (b : Body). b.block) (slice_get (bodies ++ body ∷ []) k)) h
    ∙ ap (option_map (λ (b : Body). b.block)) (get-last bodies body)
    ∙ ap (λ (b : Option ℕ). Some b) none

kind_begun : (bodies : List Body) (place : Place) (owed : ℕ) (kind : Kind) → IsKindSoFar bodies (suc owed) kind
    → IsKindSoFar (function_begun place bodies) owed kind
kind_begun bodies place owed (Wizard id) h = (
  omega (arith, h.0, length-append {A = Body}),
  λ within. owed_block bodies (record { tokens = []; block = None; place = place }) id refl h.1 (below_or_last id.0 (length bodies) (omega (arith, within, length-append {A = Body}))),
)
kind_begun bodies place owed _ h = tt

-- where no body is owed, a block takes no function's place
kind_blocked : (bodies : List Body) (inside : BodyId) (at : TokenAt) (block : Body) (kind : Kind) → IsKindSoFar bodies 0 kind
    → IsKindSoFar (token_added inside at bodies ++ block ∷ []) 0 kind
kind_blocked bodies inside at block (Wizard id) h =
    let long = length-changed_at inside.0 (λ (body : Body). record body { tokens = body.tokens ++ at ∷ [] }) bodies in
    let there : id.0 < length (token_added inside at bodies) = omega (arith, long, h.0) in (
      omega (arith, there, length-append {A = Body}),
      λ within. block_stays (token_added inside at bodies) block id there ∙ block_same bodies inside at id ∙ h.1 (omega (arith, h.0)),
    )
kind_blocked bodies inside at block _ h = tt

kind_owed : (bodies : List Body) (owed : ℕ) (kind : Kind) → IsKindSoFar bodies 0 kind → IsKindSoFar bodies owed kind
kind_owed bodies owed (Wizard id) h = (omega (arith, h.0), h.1)
kind_owed bodies owed _ h = tt

-- the numbers of blocks
numbered_function : (n : ℕ) (bodies : List Body) (body : Body) → body.block ≡ None → AreNumbered n (map (λ (b : Body). b.block) bodies)
    → AreNumbered n (map (λ (b : Body). b.block) (bodies ++ body ∷ []))
numbered_function n [] body none h = subst (λ (o : Option ℕ). AreNumbered n (o ∷ [])) (sym none) tt
numbered_function n (first ∷ bodies) body none h = by first.block h (λ m. numbered_function m bodies body none)
  where
    by : (o : Option ℕ) → AreNumbered n (o ∷ map (λ (b : Body). b.block) bodies)
        → ((m : ℕ) → AreNumbered m (map (λ (b : Body). b.block) bodies) → AreNumbered m (map (λ (b : Body). b.block) (bodies ++ body ∷ [])))
        → AreNumbered n (o ∷ map (λ (b : Body). b.block) (bodies ++ body ∷ []))
    by None h more = more n h
    by (Some k) h more = (h.0, more (suc n) h.1)

numbered_block : (n : ℕ) (bodies : List Body) (body : Body) (number : ℕ) → body.block ≡ Some number → number ≡ n + block_count bodies
    → AreNumbered n (map (λ (b : Body). b.block) bodies)
    → AreNumbered n (map (λ (b : Body). b.block) (bodies ++ body ∷ []))
numbered_block n [] body number some is h = subst (λ (o : Option ℕ). AreNumbered n (o ∷ [])) (sym some) (omega arith, tt)
numbered_block n (first ∷ bodies) body number some is h =
    by first.block h is (λ m. numbered_block m bodies body number some)
  where
    by : (o : Option ℕ) → AreNumbered n (o ∷ map (λ (b : Body). b.block) bodies) → number ≡ n + (counted o + block_count bodies)
        → ((m : ℕ) → number ≡ m + block_count bodies → AreNumbered m (map (λ (b : Body). b.block) bodies) → AreNumbered m (map (λ (b : Body). b.block) (bodies ++ body ∷ [])))
        → AreNumbered n (o ∷ map (λ (b : Body). b.block) (bodies ++ body ∷ []))
    by None h is more = more n (omega arith) h
    by (Some k) h is more = (h.0, more (suc n) (omega arith) h.1)

module _ (n : ℕ) (names : List (List ℕ × Kind)) (commands : List CommandAt) (bodies : List Body) (texts : List (List ℕ))
    (parts : List Part) (opened : List BodyId) (s : SoFar n names commands bodies texts parts opened) where
  -- a name is defined
  pub named : (name : List ℕ) (kind : Kind) → IsDeclared name → IsByteList name → id_of name names ≡ None → length names < MOST_NAMES
      → IsKindSoFar bodies (coming parts) kind → SoFar n (names ++ (name, kind) ∷ []) commands bodies texts parts opened
  named name kind declared bytes none room fine =
      record {
        names = record {
          declared = s.names.declared ++ (name, kind) ∷ [];
          are = ap (λ l. l ++ (name, kind) ∷ []) s.names.are ∙ append_assoc opening_names s.names.declared ((name, kind) ∷ []);
          spelled = each_push _ s.names.declared (name, kind) s.names.spelled declared;
          apart = apart_push name kind names s.names.apart none;
          few = omega (arith, length-append {A = List ℕ × Kind});
          bytes = each_push _ names (name, kind) s.names.bytes bytes;
        };
        kinds = each_push _ names (name, kind) s.kinds fine;
        tokens = tokens_more names (names ++ (name, kind) ∷ []) bodies bodies texts texts (omega (arith, length-append {A = List ℕ × Kind})) (omega arith) (λ id number h. h) bodies s.tokens;
        commands = each_more _ _ (λ (at : CommandAt). command_more names (name, kind) at.command) commands s.commands;
        few_commands = s.few_commands;
        numbered = s.numbered;
        few_bodies = s.few_bodies;
        texts = s.texts;
        parts = s.parts;
        busy = s.busy;
      }

  -- a command is read
  pub commanded : (c : Command) (place : Place) → IsCommandSound names c
      → SoFar (suc n) names (commands ++ record { command = c; place = place } ∷ []) bodies texts parts opened
  commanded c place fine =
      so_far s.names s.kinds s.tokens (each_push _ commands (record { command = c; place = place }) s.commands fine) (omega (arith, s.few_commands, length-append {A = CommandAt})) s.numbered s.few_bodies s.texts s.parts s.busy

  -- more lexemes are read
  pub later_on : SoFar (suc n) names commands bodies texts parts opened
  later_on =
      so_far s.names s.kinds s.tokens s.commands (omega (arith, s.few_commands)) s.numbered s.few_bodies s.texts s.parts s.busy

  -- a text is read
  pub worded : (text : List ℕ) → TextFine text → SoFar n names commands bodies (texts ++ text ∷ []) parts opened
  worded text fine =
      so_far s.names s.kinds (tokens_more names names bodies bodies texts (texts ++ text ∷ []) (omega arith) (omega (arith, length-append {A = List ℕ})) (λ id number h. h) bodies s.tokens) s.commands s.few_commands s.numbered s.few_bodies (each_push _ texts text s.texts fine) s.parts s.busy

  -- a body is closed
  pub left : SoFar n names commands bodies texts parts (drop 1 opened)
  left =
      so_far s.names s.kinds s.tokens s.commands s.few_commands s.numbered s.few_bodies s.texts s.parts (less_busy opened parts s.busy)

  -- a token is added
  pub token_put : (inside : BodyId) (token : Token) (place : Place) → IsTokenSound names bodies texts token
      → SoFar n names commands (token_added inside (record { token = token; place = place }) bodies) texts parts opened
  token_put inside token place fine =
      record {
        names = s.names;
        kinds = each_more _ _ (λ (entry : List ℕ × Kind). kind_added bodies inside (record { token = token; place = place }) (coming parts) entry.1) names s.kinds;
        tokens = tokens_added names bodies (token_added inside (record { token = token; place = place }) bodies) texts inside (record { token = token; place = place }) bodies (block_added bodies inside (record { token = token; place = place })) fine s.tokens;
        commands = s.commands;
        few_commands = s.few_commands;
        numbered = subst (AreNumbered 0) (sym (map-changed (λ (body : Body). body.block) _ (λ body. refl) inside.0 bodies)) s.numbered;
        few_bodies = omega (arith, s.few_bodies, length-changed_at inside.0 (λ (body : Body). record body { tokens = body.tokens ++ record { token = token; place = place } ∷ [] }) bodies);
        texts = s.texts;
        parts = s.parts;
        busy = s.busy;
      }

  -- the body of a function begins, which is the last part
  pub function_put : (rest : List Part) (place : Place) (next : List BodyId) → parts ≡ BodyPart ∷ rest → length bodies < MOST_BODIES
      → SoFar n names commands (function_begun place bodies) texts rest next
  function_put rest place next is room =
      let fine = subst PartsFine is s.parts in
      record {
        names = s.names;
        kinds = each_more _ _ (λ (entry : List ℕ × Kind). kind_begun bodies place (coming rest) entry.1) names (subst (λ (l : List Part). Each (λ (entry : List ℕ × Kind). IsKindSoFar bodies (coming l) entry.1) names) is s.kinds);
        tokens = each_push _ bodies (record { tokens = []; block = None; place = place }) (tokens_more names names bodies (function_begun place bodies) texts texts (omega arith) (omega arith) (block_front bodies (record { tokens = []; block = None; place = place })) bodies s.tokens) tt;
        commands = s.commands;
        few_commands = s.few_commands;
        numbered = numbered_function 0 bodies (record { tokens = []; block = None; place = place }) refl s.numbered;
        few_bodies = omega (arith, length-append {A = Body});
        texts = s.texts;
        parts = subst PartsFine (sym fine) tt;
        busy = all_busy next rest fine;
      }

  -- a block begins
  pub block_put : (inside : BodyId) (place : Place) (next : List BodyId) → parts ≡ [] → length bodies < MOST_BODIES
      → SoFar n names commands (block_begun inside place bodies) texts parts next
  block_put inside place next idle room =
      let at : TokenAt = record { token = Block (next_body bodies); place = place } in
      let put : List Body = token_added inside at bodies in
      let block : Body = record { tokens = []; block = Some (block_count bodies); place = place } in
      let long : length put ≡ length bodies = length-changed_at inside.0 (λ (body : Body). record body { tokens = body.tokens ++ at ∷ [] }) bodies in
      record {
        names = s.names;
        kinds =
            subst (λ (l : List Part). Each (λ (entry : List ℕ × Kind). IsKindSoFar (put ++ block ∷ []) (coming l) entry.1) names) (sym idle)
            (each_more _ _ (λ (entry : List ℕ × Kind). kind_blocked bodies inside at block entry.1) names (subst (λ (l : List Part). Each (λ (entry : List ℕ × Kind). IsKindSoFar bodies (coming l) entry.1) names) idle s.kinds));
        tokens =
            each_push _ put block
            (each_changed
            (λ (body : Body). Each (λ (at : TokenAt). IsTokenSound names (put ++ block ∷ []) texts at.token) body.tokens)
            (λ (body : Body). record body { tokens = body.tokens ++ at ∷ [] })
            (λ (body : Body) each. each_push _ body.tokens at each (block_count bodies, ap (λ (k : ℕ). block_of (record { 0 = k }) (put ++ block ∷ [])) (sym long) ∙ block_last put block))
            inside.0 bodies
            (tokens_more names names bodies (put ++ block ∷ []) texts texts (omega arith) (omega arith) (λ id number h. block_front put block id number (block_added bodies inside at id number h)) bodies s.tokens))
            tt;
        commands = s.commands;
        few_commands = s.few_commands;
        numbered =
            numbered_block 0 put block (block_count bodies) refl (omega (arith, block_count-token_added inside.0 at bodies))
            (subst (AreNumbered 0) (sym (map-changed (λ (body : Body). body.block) _ (λ body. refl) inside.0 bodies)) s.numbered);
        few_bodies = omega (arith, long, length-append {A = Body});
        texts = s.texts;
        parts = s.parts;
        busy = all_busy next parts idle;
      }

  -- a part is done that is no body
  pub passed : (part : Part) (rest : List Part) → parts ≡ part ∷ rest → coming (part ∷ rest) ≡ coming rest
      → (PartsFine (part ∷ rest) → PartsFine rest) → opened ≡ [] → SoFar n names commands bodies texts rest opened
  passed part rest is same fine idle =
      so_far s.names (subst (λ (owed : ℕ). Each (λ (entry : List ℕ × Kind). IsKindSoFar bodies owed entry.1) names) (ap coming is ∙ same) s.kinds) s.tokens s.commands s.few_commands s.numbered s.few_bodies s.texts (fine (subst PartsFine is s.parts)) (subst (λ (o : List BodyId). IsBusy o rest) (sym idle) tt)

  -- a command begins where no part is to come
  pub started : (next : List Part) → parts ≡ [] → opened ≡ [] → PartsFine next
      → SoFar n names commands bodies texts next opened
  started next none idle fine =
      so_far s.names (each_more _ _ (λ (entry : List ℕ × Kind). kind_owed bodies (coming next) entry.1) names (subst (λ (l : List Part). Each (λ (entry : List ℕ × Kind). IsKindSoFar bodies (coming l) entry.1) names) none s.kinds)) s.tokens s.commands s.few_commands s.numbered s.few_bodies s.texts fine (subst (λ (o : List BodyId). IsBusy o next) (sym idle) tt)
