-- The table of macros stands for their list.
use Rattle.std.proofs.Common.{◌≡◌, ℕ, ◌+◌, Bool, true, false, cond, nat_eq, List, [], ◌∷◌, ◌++◌, Option, Some, map, take, refl, ap, ◌∙◌}
use Rattle.std.proofs.lemmas.List.{take_more}
use Rattle.std.proofs.lemmas.Option.{get_or_from_slice_get, slice_get-map, slice_get_within}
use Rattle.std.specs.Global.{Vec}
use Rattle.std.specs.Prelude.{slice_get}
use Rattle.std.specs.Option.{option_map}
use Rattle.std.specs.Cmp.Lexicographic.{pointwise}
use Rattle.std.specs.Map.{lookup}
use Rattle.indexmap.specs.IndexMap.{insert_entry}
use Rattle.name_table.specs.Names.{same_name}
use Rattle.name_table.specs.declared.style.Macro.{Macro}
use Rattle.bib_read.specs.Names.{defined, value_of}
use Rattle.bib_read.specs.Tables.{macro_of}

-- a macro of a name and a value
abbrev pub one : List ℕ → List ℕ → Macro
one name value = record { name = name; value = value }

found_first : (b : Bool) (value : Vec ℕ) (o : Option (Vec ℕ)) (rest : Option (List ℕ)) → option_map (λ v. v.items) o ≡ rest
    → option_map (λ v. v.items) (cond b (Some value) o) ≡ cond b (Some value.items) rest
found_first true value o rest e = refl
found_first false value o rest e = e

pub value_of_lookup : (name : List ℕ) (es : List (Vec ℕ × Vec ℕ))
    → option_map (λ v. v.items) (lookup (λ k. pointwise nat_eq name k.items) es) ≡ value_of name (map macro_of es)
value_of_lookup name [] = refl
value_of_lookup name (e ∷ es) =
    found_first (same_name name e.0.items) e.1 (lookup (λ (k : Vec ℕ). pointwise nat_eq name k.items) es)
    (value_of name (map macro_of es)) (value_of_lookup name es)

pub defined_inserted : (name value : Vec ℕ) (es : List (Vec ℕ × Vec ℕ))
    → map macro_of (insert_entry (λ a b. pointwise nat_eq a.items b.items) es name value)
    ≡ defined name.items value.items (map macro_of es)
defined_inserted name value [] = refl
defined_inserted name value (e ∷ es) = by (pointwise nat_eq name.items e.0.items) (defined_inserted name value es)
  where
    by : (b : Bool)
        → map macro_of (insert_entry (λ a b. pointwise nat_eq a.items b.items) es name value)
        ≡ defined name.items value.items (map macro_of es)
        → map macro_of (cond b ((e.0, value) ∷ es) (e ∷ insert_entry (λ a b. pointwise nat_eq a.items b.items) es name value))
        ≡ cond b (record { name = e.0.items; value = value.items } ∷ map macro_of es)
        (macro_of e ∷ defined name.items value.items (map macro_of es))
    by true rest = refl
    by false rest = ap (λ l. macro_of e ∷ l) rest

-- one item more of a list
pub one_more : {X : Type 0} (xs : List X) (i : ℕ) (x : X) → slice_get xs i ≡ Some x → take (i + 1) xs ≡ take i xs ++ x ∷ []
one_more xs i x here =
    take_more xs i x (slice_get_within xs i x here) ∙ ap (λ y. take i xs ++ y ∷ []) (get_or_from_slice_get xs i x x here)

pub take_next : (es : List (Vec ℕ × Vec ℕ)) (i : ℕ) (e : Vec ℕ × Vec ℕ) → slice_get es i ≡ Some e
    → take (i + 1) (map macro_of es) ≡ take i (map macro_of es) ++ macro_of e ∷ []
take_next es i e found = one_more (map macro_of es) i (macro_of e) (slice_get-map macro_of es i ∙ ap (option_map macro_of) found)
